-- begin, commit and rollback on an image that was read: refused by a row from 3 on, or done. Assumes nothing.
use Prim.Native.Nat.{ℕ}
use Rattle.std.specs.Prelude.{Result, Ok}
use Rattle.refusals.specs.Refusals.{number}
use Rattle.refusals.proofs.HandedOn.{HandsOn}
use Rattle.refusals.specs.declared.Refusal.{Refusal}
use lib.Dec.{eqb}
use mathlib.Core.Bool.{Bool}
use mathlib.Core.Path.{◌∙◌, ◌≡◌, ap, refl}
use Rattle.slot.specs.Blocks.{in_set}
use Rattle.method.specs.ControlPart.{closed, opened}
use Rattle.method.specs.Rules.{View, begin, end_held, look, refusal}
use Rattle.control.specs.ControlBytes.{Part, front_part}
use Rattle.control_form.specs.ControlForm.{form_refusal}
use Rattle.control.specs.Meaning.{meaning, put_control}
use Rattle.control.specs.declared.Control.{Control}
use Rattle.cabinet_rules.specs.Cabinet.{cabinet}
use Rattle.cabinet_rules.specs.Images.{Image, control_in, state_in}
use Rattle.promise.specs.Promise.{Done}
use Rattle.promise.specs.declared.Answer.{Answer as AnswerValue}
use Rattle.promise.specs.declared.Answer.TheVariants.{Accepted}
use Rattle.promise.specs.Given.{Given, rows_on}
use Rattle.promise.specs.Rows.{tran_rows}
use Rattle.promise.proofs.Finish.{by_both, by-control, by-rules, form-good}
use Rattle.promise.proofs.Laid.{same-tail}
use Rattle.promise.specs.Laid.{laid}
use Rattle.tables.specs.Tables.{end_writes, set_of}
use Rattle.tables.proofs.Ends.{ends_set}
use Rattle.transactions.specs.Transactions.{begin_rows, end_call}
use Rattle.transactions.proofs.Rows.{begin-plan, begin-rows, end-late, end-plan, end-rows}

module _ {g : Image} {read : Control} (given : Given read g) where
  -- what was read is the control part of the image, without its pairs
  abbrev k : Part
  k = meaning read

  clear : form_refusal g ≡ 0
  clear = given.formed

  means : k ≡ front_part (control_in g)
  means = given.is.means

  abbrev seen : View cabinet
  seen = look cabinet (state_in g)

  -- ---- begin
  module _ (t h : ℕ) where
    begin-on : begin_rows k t h ≡ rows_on (begin t h) g
    unfolding begin_rows refusal
    begin-on = ap (λ (p : Part). begin_rows p t h) means ∙ begin-rows (control_in g) seen t h

    pub begin-refused : (r : Refusal) (a : Result AnswerValue Refusal) → number r ≡ begin_rows k t h → HandsOn r a → Done (begin t h) g a g
    begin-refused r a e = by-rules (begin t h) refl g clear r a (e ∙ begin-on)

    pub begin-done : (behind : Image) → 0 ≡ begin_rows k t h → behind ≡ put_control g (opened k t h) → Done (begin t h) g (Ok Accepted) behind
    begin-done behind e l = by-control (begin t h) refl g clear Accepted (opened (control_in g) t h) behind (e ∙ begin-on)
        (begin-plan (control_in g) seen t h) (same-tail g (form-good g clear))
        (l ∙ ap (λ (p : Part). put_control g (opened p t h)) means)

  -- ---- commit, rollback
  module _ (take : Bool) (t : ℕ) where
    end_on : tran_rows k t ≡ rows_on (end_call take t) g
    unfolding tran_rows
    end_on = ap (λ (p : Part). tran_rows p t) means ∙ end-rows (control_in g) seen t take

    pub end_refused : (r : Refusal) (a : Result AnswerValue Refusal) → number r ≡ tran_rows k t → HandsOn r a → Done (end_call take t) g a g
    end_refused r a e = by-rules (end_call take t) (end-late take t) g clear r a (e ∙ end_on)

    -- the transaction has ended in the blocks and is closed
    abbrev pub ended : Part → Image
    ended p = put_control (laid (end_writes p.working take (in_set (set_of (λ x. eqb x t))) g) g) (closed p (λ x. eqb x t))

    pub end-done : (behind : Image) → 0 ≡ tran_rows k t → behind ≡ ended k → Done (end_call take t) g (Ok Accepted) behind
    end-done behind e l = by_both (end_call take t) (end-late take t) g clear Accepted (closed (control_in g) (λ x. eqb x t)) (end_held cabinet take (λ x. eqb x t) seen) behind
        (e ∙ end_on)
        (end-plan (control_in g) seen t take) (same-tail g (form-good g clear))
        (l ∙ ap ended means ∙ ap (λ (i : Image). put_control i (front_part (closed (control_in g) (λ x. eqb x t)))) (ends_set g (λ x. eqb x t) take))
