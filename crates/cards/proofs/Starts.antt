-- The promise of start, which reads nothing of the image but its length: row 1, row 9, and done. An image of zeros has empty blocks and no stamps, and
-- nothing behind its tables. Assumes nothing.
use Prim.Native.Nat.{◌+◌, ◌<◌, ◌≤◌, ℕ}
use borrow.Author.Tests.{eq-eqb, le-ltb, lt-ltb, ne_eqb}
use lib.ListN.{length}
use mathlib.Core.List.{[]}
use mathlib.Core.Logic.{◌⊎◌, inl, inr}
use mathlib.Core.Option.{some}
use mathlib.Core.Bool.{false, true}
use mathlib.Core.Path.{◌∙◌, ◌≡◌, ap, ap₂, refl, sym}
use native.Mathlib.Omega.{arith}
use Rattle.lists.proofs.Bools.{split}
use Rattle.image.specs.Layout.{block_address, block_count, block_size, card_count, control_size, end_start_of, image_size, layout, least_members, tail_start}
use Rattle.image.specs.Parts.{Whole, block_at, zeros}
use Rattle.image.proofs.Zeros.{length-zeros, zeros-at, zeros-segment}
use Rattle.mask.specs.Masks.{Byte, byte, has_card, no_cards, size}
use Rattle.mask.specs.Placements.{from_mask}
use Rattle.slot.specs.Blocks.{empty_block}
use Rattle.slot.proofs.Blocks.{zeros-empty}
use Rattle.method.specs.Changes.{started_by}
use Rattle.method.specs.ControlPart.{started}
use Rattle.method.specs.Rules.{act, refusal, stamp_all, stamped, start, updated}
use Rattle.control.specs.ControlBytes.{Part, control_byte, tail_byte, tail_of}
use Rattle.control.specs.Meaning.{Is, meaning, put_control}
use Rattle.control.specs.Serials.{first_serial}
use Rattle.control.specs.Stamps.{Stamp, no_stamp, put_stamps, stamp_of}
use Rattle.control.specs.declared.Control.{Control as Struct}
use Rattle.control.proofs.StampLaws.{stamps-block, stamps-control, stamps-in, stamps-kept, stamps-tail, whole-stamps}
use Rattle.control.proofs.Tail.{tail_more}
use Rattle.control_form.proofs.Put.{length-put, put-after, put-blocks, put_in}
use Rattle.cabinet_rules.specs.Cabinet.{cabinet, start_row}
use Rattle.cabinet_rules.specs.Delivery.{current}
use Rattle.cabinet_rules.specs.Images.{Ends, Image, after, answer_by, end_in, end_of, next_by, refusal_by}
use Rattle.cabinet_rules.proofs.After.{after-ext}
use Rattle.promise.specs.Promise.{Done}
use Rattle.std.specs.Prelude.{Ok, Err}
use Rattle.refusals.specs.declared.Refusal.TheVariants.{Length, Placement}
use Rattle.promise.specs.declared.Answer.TheVariants.{Accepted}
use Rattle.promise.proofs.Laid.{is_block}
use Rattle.promise.proofs.Stamping.{stamped-as}
use Rattle.cards.proofs.Tables.{none-byte}

-- ---- an image of zeros with a first control part, and its stamp on its cards
module _ (m : Byte) (g : Image) where
  abbrev k : Part
  k = started_by cabinet m

  fits : control_size ≤ length (zeros image_size)
  fits = omega (arith, length-zeros image_size)

  -- before the stamps, and with them
  abbrev first : Image
  first = put_control (zeros image_size) k

  abbrev out : Image
  out = put_stamps first k.working (stamp_of k) card_count

  whole-first : Whole first
  whole-first = length-put (zeros image_size) k fits ∙ length-zeros image_size

  long : Whole out
  long = whole-stamps first whole-first k.working (stamp_of k) card_count (omega arith)

  nothing-behind : (n : ℕ) → tail_byte k n ≡ 0
  unfolding tail_of
  nothing-behind n = tail_more [] (from_mask m) n refl

  block-empty : (c b : ℕ) → c < card_count → b < block_count → block_at first c b ≡ empty_block.0
  unfolding block_at
  block-empty c b hc hb = put-blocks (zeros image_size) k fits (length-zeros image_size) c hc b hb
      ∙ zeros-segment image_size (block_address c b) block_size (omega arith) ∙ zeros-empty

  abbrev ends : Ends
  ends c = end_of current (some (stamped cabinet k (λ c. no_stamp) c))

  end_is : (c j : ℕ) → c < card_count → j < layout.table_tail → (has_card m c ≡ true) ⊎ (has_card m c ≡ false) → end_in out c j ≡ updated (ends c) (end_in g c) j
  unfolding stamped stamp_all
  end_is c j hc hj (inl e) = stamps-in first whole-first k.working (stamp_of k) card_count (omega arith) c hc e j hj ∙ rw e
  end_is c j hc hj (inr e) = stamps-kept first whole-first k.working (stamp_of k) c hc e j hj
      ∙ put-after (zeros image_size) k fits (end_start_of layout c + j) (omega arith) ∙ zeros-at image_size (end_start_of layout c + j) (omega arith) ∙ rw e (sym (none-byte j))

  pub zeros-started : out ≡ after (control_byte k) (tail_byte k) (λ c b. some empty_block) ends g
  zeros-started = after-ext layout (control_byte k) (tail_byte k) (λ c b. some empty_block) ends g out long
      (λ n h. stamps-control first whole-first k.working (stamp_of k) n h ∙ put_in (zeros image_size) k fits n h)
      (λ n h. stamps-tail first whole-first k.working (stamp_of k) n ∙ put-after (zeros image_size) k fits (tail_start + n) (omega arith)
      ∙ zeros-at image_size (tail_start + n) (omega arith) ∙ sym (nothing-behind n))
      (λ c b hc hb. is_block out long c b hc hb empty_block (stamps-block first whole-first k.working (stamp_of k) card_count (omega arith) c hc b hb ∙ block-empty c b hc hb))
      (λ c j hc hj. end_is c j hc hj (split (has_card m c)))

-- ---- the promise
module _ (g : Image) (mask : ℕ) where
  abbrev m : Byte
  m = byte mask

  pub start-1 : (length g ≡ image_size → ⊥) → Done (start m) g (Err Length) g
  unfolding answer_by next_by refusal_by
  start-1 n = record { answers = rw (ne_eqb (length g) image_size n); leaves = rw (ne_eqb (length g) image_size n) }

  module _ (w : Whole g) {n : ℕ} (e : n ≡ size m) where
    pub start-9 : n < least_members → Done (start m) g (Err Placement) g
    unfolding answer_by next_by refusal_by refusal start_row
    start-9 z =
        let few = lt-ltb (size m) least_members (omega (arith, e)) in
        record { answers = rw (eq-eqb (length g) image_size w, few); leaves = rw (eq-eqb (length g) image_size w, few) }

    pub start-done : least_members ≤ n → (x : Struct) (out first behind : Image) {s : Stamp} → Is x (started (from_mask m) m no_cards tt first_serial) → out ≡ zeros (length g)
        → first ≡ put_control out (meaning x) → s ≡ stamp_of (meaning x) → behind ≡ put_stamps first (byte x.working) s card_count → Done (start m) g (Ok Accepted) behind
    unfolding answer_by next_by refusal_by refusal start_row act
    start-done z x out first behind ix o f t l =
        let some-members = le-ltb (size m) least_members (omega (arith, e)) in
        let p : Part = started_by cabinet m in
        record {
          answers = rw (eq-eqb (length g) image_size w, some-members);
          leaves = l ∙ stamped-as x p ix.means t first
              ∙ ap (λ (i : Image). put_stamps i p.working (stamp_of p) card_count) (f ∙ ap₂ put_control (o ∙ ap zeros w) ix.means)
              ∙ rw (eq-eqb (length g) image_size w, some-members) (zeros-started m g);
        }

-- there is room for the control part, and the image keeps its length
pub long-zeros : (g out : Image) → Whole g → out ≡ zeros (length g) → control_size ≤ length out
long-zeros g out w e = omega (arith, w, ap length e, length-zeros (length g))

pub whole-zeros : (g out first : Image) (x : Struct) → Whole g → out ≡ zeros (length g) → first ≡ put_control out (meaning x) → Whole first
whole-zeros g out first x w e f =
    let z : length out ≡ image_size = ap length e ∙ length-zeros (length g) ∙ w in
    ap length f ∙ length-put out (meaning x) (omega arith) ∙ z
