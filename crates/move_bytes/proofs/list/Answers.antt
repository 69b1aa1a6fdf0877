-- By the answer: the entries are written where they fit, and else no byte. Assumes nothing.
use Prim.Native.Nat.{ℕ}
use Rattle.std.specs.Prelude.{◌≡◌, Ok, Option, None, Some}
use mathlib.Core.List.{List}
use mathlib.Core.Path.{◌∙◌, ap, subst, sym}
use native.Mathlib.Omega.{arith}
use Rattle.move_list.specs.Promise.{Listed}
use Rattle.move_bytes.specs.MoveBytes.{BytesDone}
use Rattle.move_bytes.proofs.ByteLists.{few, fit-done, none_done, refused-done, short-done}
use Rattle.move_bytes.proofs.list.Goals as goal

-- what was answered, by the two tests of it
answered : {a : Listed} {o p : Option ℕ} → a ≡ Ok o → o ≡ p → a ≡ Ok p
answered e f = e ∙ ap (λ (x : Option ℕ). Ok x) f

pub returns-in_err-listed : goal.returns-in_err-listed
returns-in_err-listed c =
    refused-done c.args.image.now c.all-found.result.listed _ c.all-found.ensures c.args.bytes.now _ _ (c.in_err-listed.was) c.from_residual.ensures

pub returns-then-bytes-n : goal.returns-then-bytes-n
returns-then-bytes-n c =
    let e : c.all-found.result.listed ≡ Ok (Some c.in-Some.count) = answered (c.in_ok-listed.was) c.in-Some.is in
    short-done c.args.image.now c.all-found.result.listed _ c.all-found.ensures c.args.bytes.now c.in-Some.count e c.if-bytes-n.true

pub put_entries-requires : goal.put_entries-requires
put_entries-requires c =
    let e : c.all-found.result.listed ≡ Ok (Some c.in-Some.count) = answered (c.in_ok-listed.was) c.in-Some.is in
    (few c.args.image.now c.all-found.result.listed _ c.all-found.ensures c.args.bytes.now c.in-Some.count e, omega arith)

pub returns-else-bytes-n : goal.returns-else-bytes-n
returns-else-bytes-n c =
    let e : c.all-found.result.listed ≡ Ok (Some c.in-Some.count) = answered (c.in_ok-listed.was) c.in-Some.is in
    subst (λ (b : List ℕ). BytesDone c.args.image.now c.args.bytes.now (Ok (Some c.in-Some.count)) b) (sym c.put_entries.ensures)
    (fit-done c.args.image.now c.all-found.result.listed _ c.all-found.ensures c.args.bytes.now c.in-Some.count e c.if-bytes-n.false)

pub returns-in-None : goal.returns-in-None
returns-in-None c =
    let e : c.all-found.result.listed ≡ Ok None = answered (c.in_ok-listed.was) c.in-None.is in
    none_done c.args.image.now c.all-found.result.listed _ c.all-found.ensures c.args.bytes.now e
