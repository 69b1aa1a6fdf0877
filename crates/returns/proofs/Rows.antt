-- The rows of a return from the tests of the code: each test is one of the image's control part or of the card's stamp, and the rows are a table over
-- their results. Assumes nothing.
use Prim.Native.Nat.{◌+◌, ◌<◌, ◌≤◌, ℕ}
use borrow.Author.Tests.{le-ltb, lt-ltb, ltb-true}
use lib.Dec.{ltb}
use lib.ListN.{get_or}
use mathlib.Core.Bool.{Bool, ◌&&◌, ◌||◌, cond, false, not, true}
use mathlib.Core.Path.{◌∙◌, ◌≡◌, ap, refl, sym}
use Rattle.image.specs.Layout.{card_count, end_start}
use Rattle.mask.specs.Masks.{Byte, byte, has_card}
use Rattle.method.specs.Returning.{is_stale, return_refusal}
use Rattle.method.specs.Rules.{row}
use Rattle.method.proofs.Returning.{taken-shows}
use Rattle.control.specs.ControlBytes.{Part}
use Rattle.control.specs.Meaning.{meaning, newest_mask}
use Rattle.control.specs.Stamps.{Stamp, no_stamp, same_stamp, stamp_in, stamp_of}
use Rattle.control.specs.declared.Control.{Control as Struct}
use Rattle.control.proofs.Struct.{newest-mask-is}
use Rattle.cabinet_rules.specs.Cabinet.{cabinet}
use Rattle.cabinet_rules.specs.Images.{Image, control_in, state_by, state_in}
use Rattle.promise.specs.Given.{Given}
use Rattle.promise.proofs.SharedRows.{stopped-is}
use Rattle.returns.specs.Rejoining.{return_rows_on}

-- the table over the results of its tests
abbrev rows_by : Bool → Bool → Bool → Bool → Bool → ℕ
rows_by a s f u n = row 3 (not a) (row 8 (not s || not f) (row 19 (not (u && n)) 0))

rows_of : (g : Image) (c : ℕ) {a s f u n : Bool} → ltb c card_count ≡ a → (control_in g).stopped ≡ s → has_card (control_in g).failed c ≡ f
    → same_stamp ((state_in g).stamp c) (stamp_of (control_in g)) ≡ u → has_card (control_in g).newest.mask c ≡ n → rows_by a s f u n ≡ return_rows_on c g
unfolding return_rows_on return_refusal is_stale
rows_of g c p q r t w = same p q r t w
  where
    same : {a s f u n a' s' f' u' n' : Bool} → a' ≡ a → s' ≡ s → f' ≡ f → u' ≡ u → n' ≡ n → rows_by a s f u n ≡ rows_by a' s' f' u' n'
    same p q r t w = rw (p, q, r, t, w)

-- one that no row refuses is of a card of the cabinet
pub in-range : (g : Image) (c : ℕ) → return_rows_on c g ≡ 0 → c < card_count
unfolding return_rows_on
in-range g c e = ltb-true c card_count (taken-shows cabinet (control_in g) (state_in g).stamp c e).is-card

-- ---- what the first tests have shown
pub record FailedCard (g : Image) (c : ℕ) : Type 0 where
  pub ranged : c < card_count
  pub rests : (control_in g).stopped ≡ true
  pub failed : has_card (control_in g).failed c ≡ true

-- ---- before the card's stamp is looked at
module _ {k : Struct} {g : Image} (is : Given k g) (c : ℕ) where
  pub out_of_range_lem : card_count ≤ c → 3 ≡ return_rows_on c g
  out_of_range_lem h = rows_of g c (le-ltb c card_count h) refl refl refl refl

  module _ (ranged : c < card_count) where
    rests-as : {b : Bool} → k.stopped ≡ b → (control_in g).stopped ≡ b
    rests-as e = sym (stopped-is k g is) ∙ e

    failed-as : {f b : Bool} → f ≡ has_card (byte k.failed) c → f ≡ b → has_card (control_in g).failed c ≡ b
    unfolding meaning
    failed-as h e = sym (h ∙ ap (λ (p : Part). has_card p.failed c) is.is.means) ∙ e

    pub runs : k.stopped ≡ false → 8 ≡ return_rows_on c g
    runs e = rows_of g c (lt-ltb c card_count ranged) (rests-as e) refl refl refl

    pub not-failed : {f : Bool} → k.stopped ≡ true → f ≡ has_card (byte k.failed) c → f ≡ false → 8 ≡ return_rows_on c g
    not-failed s h e = rows_of g c (lt-ltb c card_count ranged) (rests-as s) (failed-as h e) refl refl

    -- the card has failed in a stopped store
    pub failed-card : {f : Bool} → k.stopped ≡ true → f ≡ has_card (byte k.failed) c → f ≡ true → FailedCard g c
    failed-card s h e = record { ranged = ranged; rests = rests-as s; failed = failed-as h e }

-- ---- the stamp
-- Whether the card in the image has this one.
abbrev pub is_current : Image → ℕ → Stamp → Bool
is_current g c s = same_stamp (stamp_in (λ j. get_or g (end_start c + j) 0)) s

module _ {k : Struct} {g : Image} {c : ℕ} (is : Given k g) (f : FailedCard g c) {s : Stamp} (shown : s ≡ stamp_of (meaning k)) where
  stamp-as : {u b : Bool} → u ≡ is_current g c s → u ≡ b → same_stamp ((state_in g).stamp c) (stamp_of (control_in g)) ≡ b
  unfolding state_by
  stamp-as h e =
      let found : Stamp = stamp_in (λ j. get_or g (end_start c + j) 0) in
      ap (λ (t : Bool). same_stamp (cond t found no_stamp) (stamp_of (control_in g))) (lt-ltb c card_count f.ranged)
      ∙ sym (h ∙ ap (same_stamp found) (shown ∙ ap stamp_of is.is.means)) ∙ e

  pub other-stamp : {u : Bool} → u ≡ is_current g c s → u ≡ false → 19 ≡ return_rows_on c g
  other-stamp h e = rows_of g c (lt-ltb c card_count f.ranged) f.rests f.failed (stamp-as h e) refl

  -- it is current, and the newest placement names the card or does not
  pub same-stamp : {u x b : Bool} {n : ℕ} → u ≡ is_current g c s → u ≡ true → n ≡ newest_mask k → x ≡ has_card (byte n) c → x ≡ b
      → row 19 (not b) 0 ≡ return_rows_on c g
  same-stamp {n = n} h e newest m y = rows_of g c (lt-ltb c card_count f.ranged) f.rests f.failed (stamp-as h e)
      (sym (m ∙ ap (λ (z : Byte). has_card z c) (newest-mask-is k n newest ∙ ap (λ (p : Part). p.newest.mask) is.is.means)) ∙ y)
