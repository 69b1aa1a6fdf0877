-- An open byte has its highest bit, so its upper four bits are the field's bound and the home. Assumes nothing.
use mathlib.Core.Path.{◌≡◌}
use mathlib.Core.Logic.{⊎_elim}
use Prim.Native.Nat.{ℕ, ◌+◌, ◌/◌, ◌%◌, ◌≤◌, ◌<◌}
use native.Mathlib.Omega.{arith}
use lib.Dec.{eqb}
use borrow.Author.Rules.{rules}
use borrow.Author.Tests.{le-leb, lt-leb, ne_eqb}
use Rattle.lists.proofs.Cases.{lt-or-ge}
use Rattle.lists.proofs.Counts.{eqb_same}
use Rattle.method.specs.ControlPart.{is_card}
use Rattle.control.specs.ControlBytes.{field, field_bound, home_in, open_bit}
use Rattle.control.proofs.codec.is_home.Goals as goal

home_by : (b c : ℕ) → b < 256 → eqb (b / field) (field_bound + c) ≡ is_card (home_in b) c
home_by b c h = ⊎_elim closed opened (lt-or-ge b open_bit)
  where
    closed : b < open_bit → eqb (b / field) (field_bound + c) ≡ is_card (home_in b) c
    closed p = rw (lt-leb open_bit b p) (ne_eqb (b / field) (field_bound + c) (λ e. omega arith))

    opened : open_bit ≤ b → eqb (b / field) (field_bound + c) ≡ is_card (home_in b) c
    opened p = rw (le-leb open_bit b p) (eqb_same (b / field) (field_bound + c) (b / field % field_bound) c (λ e. omega arith) (λ e. omega arith))

pub returns : goal.returns
returns c = home_by c.args.b c.args.card.0 (search rules)
