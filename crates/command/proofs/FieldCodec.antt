-- The fields of a command: the cases of what is shown and of what is written, and that each form yields the other. Assumes nothing.
use mathlib.Core.Path.{◌∙◌, ◌≡◌, ap, refl, sym}
use mathlib.Core.Bool.{Bool, cond, false, true}
use mathlib.Core.List.{List}
use Prim.Native.Nat.{ℕ}
use lib.Dec.{eqb}
use lib.ListN.{length}
use borrow.Author.Tests.{eq-eqb, eqb-true}
use Rattle.std.specs.Prelude.{Err, Ok, Result, ⊤}
use Rattle.lists.specs.Tests.{all_in}
use Rattle.lists.proofs.Bools.{and_l, and_r}
use Rattle.command.specs.declared.Fields.{Fields}
use Rattle.command.specs.declared.Malformed.{Malformed}
use Rattle.command.specs.Commands.{command_size, encoded, fields_fit, fields_in, fields_leave, formed, is_byte}
use Rattle.command.specs.Commands.{no_command, or_malformed, shown_fields, well_formed, write_fields}
use Rattle.command.specs.RoundTrips.{ShownWrites, WrittenShows}
use Rattle.command.proofs.Answers.{answered, goes-past, refused}
use Rattle.command.proofs.Bytes.{by-five}
use Rattle.command.proofs.Forms.{formed_wide}
use Rattle.command.proofs.RoundTrip.{encoded-fields, fields-encoded}

-- ---- what is shown
shown_by : (l : List ℕ) (b : Bool) → b ≡ well_formed l → or_malformed b (fields_in l) ≡ shown_fields l
unfolding shown_fields
shown_by l b e = ap (λ (t : Bool). or_malformed t (fields_in l)) e

pub shown-form : (l : List ℕ) (b : Bool) → length l ≡ command_size → formed (fields_in l) ≡ b → or_malformed b (fields_in l) ≡ shown_fields l
unfolding well_formed
shown-form l b e h = shown_by l b (goes-past _ _ _ (eq-eqb _ _ e) (sym h))

pub shown-has : (l : List ℕ) (f : Fields) → shown_fields l ≡ Ok f → (well_formed l ≡ true) × (fields_in l ≡ f)
unfolding shown_fields
shown-has l f e = answered (well_formed l) (fields_in l) f e

pub shown-formed : (l : List ℕ) (f : Fields) → shown_fields l ≡ Ok f → formed f ≡ true
unfolding well_formed
shown-formed l f e = let h = shown-has l f e in sym (ap formed h.1) ∙ and_r (eqb (length l) command_size) _ h.0

pub shown-malformed : (l : List ℕ) → shown_fields l ≡ Err no_command → well_formed l ≡ false
unfolding shown_fields
shown-malformed l e = refused (well_formed l) (fields_in l) e

-- ---- what is written
abbrev pub FieldsLeft : Result ⊤ Malformed → List ℕ → Fields → List ℕ → Type 0
FieldsLeft w l f m = (w ≡ write_fields l f) × (m ≡ fields_leave l f)

fields-by : (l : List ℕ) (f : Fields) (b : Bool) → b ≡ fields_fit l f → FieldsLeft (or_malformed b tt) l f (cond b (encoded f) l)
unfolding write_fields fields_leave
fields-by l f b e = (ap (λ (t : Bool). or_malformed t tt) e, ap (λ (t : Bool). cond t (encoded f) l) e)

pub fields_fit_lem : (l : List ℕ) (f : Fields) (b : Bool) → length l ≡ command_size → formed f ≡ b → FieldsLeft (or_malformed b tt) l f (cond b (encoded f) l)
fields_fit_lem l f b e h = fields-by l f b (goes-past _ _ _ (eq-eqb _ _ e) (sym h))

-- ---- each form yields the other
pub written-shows : WrittenShows
unfolding write_fields fields_leave
written-shows lent f e =
    let w : fields_fit lent f ≡ true = (answered (fields_fit lent f) tt tt e).0 in
    let k : formed f ≡ true = and_r (eqb (length lent) command_size) _ w in
    let back : fields_in (encoded f) ≡ f = fields-encoded f (formed_wide f k) in
    ap (λ (t : Bool). shown_fields (cond t (encoded f) lent)) w
    ∙ sym (shown-form (encoded f) true refl (ap formed back ∙ k)) ∙ ap (λ (x : Fields). Ok x) back

pub shown-writes : ShownWrites
unfolding well_formed fields_in
shown-writes bytes lent f small size e =
    let h = shown-has bytes f e in
    let long : length bytes ≡ command_size = eqb-true _ _ (and_l (eqb (length bytes) command_size) _ h.0) in
    let w = fields_fit_lem lent f true size (shown-formed bytes f e) in
    record {
      says = sym w.0;
      leaves = sym w.1 ∙ sym (ap encoded h.1) ∙ by-five (λ m. all_in is_byte m ≡ true → encoded (fields_in m) ≡ m) encoded-fields bytes long small;
    }
