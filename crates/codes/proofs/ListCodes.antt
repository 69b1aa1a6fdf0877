-- Each answer of the move list has a code of its own; and the law that finishes its function's proof. Assumes nothing.
use Prim.Native.Nat.{ℕ}
use mathlib.Core.List.{List}
use mathlib.Core.Path.{◌∙◌, ◌≡◌, ap, refl}
use native.Mathlib.Omega.{arith}
use Rattle.method.specs.MoveList.{ListAnswer, listed, no_list, not_listed}
use Rattle.cabinet_rules.specs.Images.{Image}
use Rattle.move_list.specs.Promise.{Listed, shown_list}
use Rattle.move_bytes.specs.MoveBytes.{BytesDone}
use Rattle.codes.specs.ListCodes.{CodedList, OneListCodeEach, list_code, list_kind, list_number}

-- two answers of one kind and one number are one
same : (a b : ListAnswer) → list_kind a ≡ list_kind b → list_number a ≡ list_number b → a ≡ b
unfolding list_kind list_number
same (listed n) (listed m) k e = ap (λ (x : ℕ). listed x) e
same (listed n) no_list k e = absurd (omega (arith, k))
same (listed n) (not_listed m) k e = absurd (omega (arith, k))
same no_list (listed m) k e = absurd (omega (arith, k))
same no_list no_list k e = refl
same no_list (not_listed m) k e = absurd (omega (arith, k))
same (not_listed n) (listed m) k e = absurd (omega (arith, k))
same (not_listed n) no_list k e = absurd (omega (arith, k))
same (not_listed n) (not_listed m) k e = ap (λ (x : ℕ). not_listed x) e

pub one-list-code-each : OneListCodeEach
one-list-code-each a b h k e = same a b (omega (arith, e, h, k)) (omega (arith, e, h, k))

pub coded-list : {g : Image} {lent filled : List ℕ} {a : Listed} {n : ℕ} → BytesDone g lent a filled → n ≡ list_code (shown_list a) → CodedList g lent n filled
coded-list d e = record { answers = e ∙ ap list_code d.answers; fills = d.fills }
