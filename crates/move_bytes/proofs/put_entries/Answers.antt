-- The bytes of the entries before i stand at the front, one entry more at each turn. Assumes nothing.
use Prim.Native.Nat.{◌*◌, ℕ}
use borrow.Author.Rules.{rules}
use lib.ListN.{get_or, length}
use mathlib.Core.List.{List}
use mathlib.Core.Path.{◌∙◌, ◌≡◌, ap}
use native.Mathlib.Omega.{arith}
use Rattle.lists.specs.Segments.{splice}
use Rattle.move_list.specs.Promise.{blank_move, most_moves}
use Rattle.move_bytes.specs.MoveBytes.{bytes_of, entry_size, first_bytes}
use Rattle.move_bytes.proofs.EntryBytes.{entry_more, none-put, put-length}
use Rattle.move_bytes.proofs.put_entries.Goals as goal

pub loop-i-init : goal.loop-i-init
loop-i-init c = none-put c.args.bytes.now c.args.moves.now

pub overflow_mul-i : goal.overflow_mul-i
overflow_mul-i c = omega (arith, c.requires.0)

pub offset_bounds-moves-i : goal.offset_bounds-moves-i
offset_bounds-moves-i c = omega (arith, c.requires.0)

pub bounds-moves-i : goal.bounds-moves-i
bounds-moves-i c = omega (arith, c.requires.0)

pub put_entry-requires : goal.put_entry-requires
put_entry-requires c =
    let long : length c.args.moves.now ≡ most_moves = search rules in
    let e = ap length c.loop-i.invariant ∙ put-length c.args.bytes.now c.args.moves.now c.loop-i.i (omega (arith, long, c.requires.0)) (omega (arith, c.requires.1)) in
    omega (arith, e, c.requires.1)

pub loop-i-preserved : goal.loop-i-preserved
loop-i-preserved c =
    let long : length c.args.moves.now ≡ most_moves = search rules in
    c.put_entry.ensures ∙ ap (λ (b : List ℕ). splice b (c.loop-i.i * entry_size) (bytes_of (get_or c.args.moves.now c.loop-i.i blank_move))) c.loop-i.invariant
    ∙ entry_more c.args.bytes.now c.args.moves.now c.loop-i.i (omega (arith, long, c.requires.0)) (omega (arith, c.requires.1))

pub shape_of-bytes : goal.shape_of-bytes
shape_of-bytes c =
    let long : length c.args.moves.now ≡ most_moves = search rules in
    ap length c.loop-i.invariant ∙ put-length c.args.bytes.now c.args.moves.now c.loop-i.i (omega (arith, long, c.requires.0)) (omega (arith, c.requires.1))

pub returns : goal.returns
returns c =
    let e : c.loop-i.i ≡ c.args.n = omega arith in
    c.loop-i.invariant ∙ ap (λ (k : ℕ). splice c.args.bytes.now 0 (first_bytes c.args.moves.now k)) e
