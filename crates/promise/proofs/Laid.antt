-- What block work leaves of an image: the blocks that were written, all else as found. Assumes nothing.
use Prim.Native.Nat.{◌+◌, ◌<◌, ◌≤◌, ℕ}
use borrow.Author.Tests.{ne_eqb}
use borrow.Rule.Slice.PartMut.{mid_of}
use lib.Dec.{eqb}
use lib.ListN.{get_or, length}
use lib.Seq.{ext_get_or}
use mathlib.Core.Bool.{Bool, ◌&&◌, and-false, cond, false, true}
use mathlib.Core.List.{List}
use mathlib.Core.Logic.{◌≢◌, ◌⊎◌, inl, inr, ⊎_elim}
use mathlib.Core.Option.{Option, none, some}
use mathlib.Core.Path.{◌∙◌, ◌≡◌, ap, refl, sym}
use native.Mathlib.Omega.{arith}
use Rattle.lists.proofs.Bools.{eqb-self, split}
use Rattle.lists.proofs.Cases.{by-pair, lt-or-ge}
use Rattle.lists.proofs.Segments.{get_or-after, get_or-before}
use Rattle.image.specs.Layout.{block_address, block_count, block_size, card_count}
use Rattle.image.specs.Parts.{Whole, block_at}
use Rattle.image.specs.Layout.{control_size, end_start_of, image_size, layout, tail_start_of}
use Rattle.image.specs.Parts.{put_block}
use Rattle.image.proofs.Blocks.{put_same, byte-of-block, byte-of-control, control-put, length-block, put_other, whole-put}
use Rattle.image.proofs.Parts.{part-block}
use Rattle.slot.specs.Blocks.{BlockBytes, of_list}
use Rattle.slot.proofs.Blocks.{block-path, byte-in, of-list}
use Rattle.mask.specs.Masks.{has_card}
use Rattle.mask.specs.Placements.{Placement, is_by_table}
use Rattle.method.specs.ControlPart.{active, added}
use Rattle.method.specs.Rules.{stamp_all, updated}
use Rattle.control.specs.ControlBytes.{Part, control_byte, front_part, tail_byte, tail_of}
use Rattle.control_form.specs.ControlForm.{control_form}
use Rattle.control.specs.Meaning.{put_control}
use Rattle.control.specs.Stamps.{put_stamps, stamp_of}
use Rattle.control.proofs.StampLaws.{stamps-block, stamps-control, stamps-in, stamps-kept, stamps-tail, whole-stamps}
use Rattle.control_form.proofs.Put.{length-put, put-after, put-blocks, put_in}
use Rattle.control.proofs.Front.{front-put}
use Rattle.control.proofs.Tail.{tail_more}
use Rattle.control_form.proofs.RoundTrip.{control-back, tail-back}
use Rattle.cabinet_rules.specs.Cabinet.{cabinet}
use Rattle.cabinet_rules.specs.Delivery.{current}
use Rattle.cabinet_rules.specs.Images.{Ends, Image, Writes, after, block_in, control_in, end_in, end_of, tail_in}
use Rattle.promise.specs.Laid.{laid}
use Rattle.cabinet_rules.proofs.After.{after_block, after-control, after-end, after-ext, after_tail, length-after}

-- ---- the blocks of an image as lists and as the rules have them
pub block-is : (g : Image) → Whole g → (c b : ℕ) → c < card_count → b < block_count → (block_in g c b).0 ≡ block_at g c b
block-is g w c b hc hb = ext_get_or 0 (block_in g c b).0 (block_at g c b) ((block_in g c b).1 ∙ sym (length-block g w c hc b hb)) (λ j h.
    let l : j < block_size = omega (arith, (block_in g c b).1) in byte-in (λ i. get_or g (block_address c b + i) 0) j l ∙ sym (byte-of-block g w c hc b hb j l))

pub is_block : (g : Image) → Whole g → (c b : ℕ) → c < card_count → b < block_count → (x : BlockBytes) → block_at g c b ≡ x.0 → block_in g c b ≡ x
is_block g w c b hc hb x e = block-path (block_in g c b) x (block-is g w c b hc hb ∙ e)

-- the block that code has read
pub of-block : (g : Image) → Whole g → (c b : ℕ) → c < card_count → b < block_count → of_list (block_at g c b) ≡ block_in g c b
of-block g w c b hc hb = ap of_list (sym (block-is g w c b hc hb)) ∙ of-list (block_in g c b)

-- the block that code was lent
pub of_part : (g : Image) → Whole g → (c b : ℕ) → c < card_count → b < block_count → (a k : ℕ) → a ≡ block_address c b → k ≡ block_size
    → of_list (mid_of a k g) ≡ block_in g c b
of_part g w c b hc hb a k ea ek = ap of_list (part-block g c b a k ea ek) ∙ of-block g w c b hc hb

-- ---- the image with the blocks w
-- one block more
abbrev pub put_one : Writes → ℕ → ℕ → BlockBytes → Writes
put_one w c b x d e = cond (eqb d c && eqb e b) (some x) (w d e)

-- another card or block is not the one put
pub put-elsewhere : (w : Writes) (c b : ℕ) (x : BlockBytes) (d e : ℕ) → (d ≢ c) ⊎ (e ≢ b) → put_one w c b x d e ≡ w d e
put-elsewhere w c b x d e (inl n) = rw (ne_eqb d c n)
put-elsewhere w c b x d e (inr n) = ap (λ (t : Bool). cond t (some x) (w d e)) (ap (λ (t : Bool). eqb d c && t) (ne_eqb e b n) ∙ and-false (eqb d c))

-- what lies behind the blocks of a table and behind the tables is not written by a put
module _ (g : Image) (w : Whole g) (c b : ℕ) (hc : c < card_count) (hb : b < block_count) (xs : List ℕ) (e : length xs ≡ block_size) where
  put-tail : (n : ℕ) → n < layout.image_tail → tail_in (put_block g c b xs) n ≡ tail_in g n
  unfolding put_block
  put-tail n h = get_or-after g (block_address c b) xs (tail_start_of layout + n) (omega arith) (omega arith)

  put-end : (d j : ℕ) → d < card_count → j < layout.table_tail → end_in (put_block g c b xs) d j ≡ end_in g d j
  unfolding put_block
  put-end d j hd hj = ⊎_elim
      (λ (p : d < c). get_or-before g (block_address c b) xs (end_start_of layout d + j) (omega arith) (omega arith))
      (λ (p : c ≤ d). get_or-after g (block_address c b) xs (end_start_of layout d + j) (omega arith) (omega arith))
      (lt-or-ge d c)

module _ (w : Writes) (g : Image) where
  abbrev low : ℕ → ℕ
  low n = get_or g n 0

  pub whole-laid : Whole (laid w g)
  unfolding laid
  whole-laid = length-after layout low (tail_in g) w (λ c. none) g

  pub laid_in : (c b : ℕ) → c < card_count → b < block_count → block_in (laid w g) c b ≡ updated (w c b) (block_in g c b)
  unfolding laid
  laid_in = after_block layout low (tail_in g) w (λ c. none) g

  pub laid-block : (c b : ℕ) → c < card_count → b < block_count → block_at (laid w g) c b ≡ (updated (w c b) (block_in g c b)).0
  laid-block c b hc hb = sym (block-is (laid w g) whole-laid c b hc hb) ∙ ap (λ (x : BlockBytes). x.0) (laid_in c b hc hb)

  pub laid-control : (n : ℕ) → n < control_size → get_or (laid w g) n 0 ≡ get_or g n 0
  unfolding laid
  laid-control = after-control layout low (tail_in g) w (λ c. none) g

  pub laid-tail : (n : ℕ) → n < layout.image_tail → tail_in (laid w g) n ≡ tail_in g n
  unfolding laid
  laid-tail = after_tail layout low (tail_in g) w (λ c. none) g

  pub laid_end : (c j : ℕ) → c < card_count → j < layout.table_tail → end_in (laid w g) c j ≡ end_in g c j
  unfolding laid
  laid_end = after-end layout low (tail_in g) w (λ c. none) g

  -- an image that agrees with g outside the blocks and has these blocks
  pub laid-ext : (out : Image) → Whole out → ((n : ℕ) → n < control_size → get_or out n 0 ≡ get_or g n 0)
      → ((n : ℕ) → n < layout.image_tail → tail_in out n ≡ tail_in g n)
      → ((c b : ℕ) → c < card_count → b < block_count → block_at out c b ≡ (updated (w c b) (block_in g c b)).0)
      → ((c j : ℕ) → c < card_count → j < layout.table_tail → end_in out c j ≡ end_in g c j) → out ≡ laid w g
  unfolding laid
  laid-ext out long front behind blk ends = after-ext layout low (tail_in g) w (λ c. none) g out long front behind
      (λ c b hc hb. is_block out long c b hc hb (updated (w c b) (block_in g c b)) (blk c b hc hb)) ends

  -- nothing is written
  pub laid_none : Whole g → ((c b : ℕ) → c < card_count → b < block_count → w c b ≡ none) → g ≡ laid w g
  laid_none long nil = laid-ext g long (λ n h. refl) (λ n h. refl) (λ c b hc hb. rw (nil c b hc hb) (sym (block-is g long c b hc hb))) (λ c j hc hj. refl)

module _ (w : Writes) (g : Image) where
  -- the same is written
  pub laid_same : (v : Writes) → ((c b : ℕ) → c < card_count → b < block_count → updated (w c b) (block_in g c b) ≡ updated (v c b) (block_in g c b)) → laid w g ≡ laid v g
  laid_same v e = sym (laid-ext w g (laid v g) (whole-laid v g) (laid-control v g) (laid-tail v g)
      (λ c b hc hb. laid-block v g c b hc hb ∙ ap (λ (x : BlockBytes). x.0) (sym (e c b hc hb))) (laid_end v g))

  -- a block is put
  pub laid-put : (c b : ℕ) → c < card_count → b < block_count → (x : BlockBytes) → put_block (laid w g) c b x.0 ≡ laid (put_one w c b x) g
  laid-put c b hc hb x = laid-ext (put_one w c b x) g (put_block (laid w g) c b x.0) (whole-put (laid w g) (whole-laid w g) c hc b hb x.0 x.1)
      (λ n h. sym (byte-of-control (put_block (laid w g) c b x.0) n h) ∙ ap (λ (l : Image). get_or l n 0) (control-put (laid w g) (whole-laid w g) c hc b hb x.0 x.1)
      ∙ byte-of-control (laid w g) n h ∙ laid-control w g n h)
      (λ n h. put-tail (laid w g) (whole-laid w g) c b hc hb x.0 x.1 n h ∙ laid-tail w g n h)
      there
      (λ d j hd hj. put-end (laid w g) (whole-laid w g) c b hc hb x.0 x.1 d j hd hj ∙ laid_end w g d j hd hj)
    where
      there : (d e : ℕ) → d < card_count → e < block_count → block_at (put_block (laid w g) c b x.0) d e ≡ (updated (put_one w c b x d e) (block_in g d e)).0
      there d e hd he = by-pair (block_at (put_block (laid w g) c b x.0) d e ≡ (updated (put_one w c b x d e) (block_in g d e)).0) d c e b
          (λ p q. rw (p, q, eqb-self c, eqb-self b) (put_same (laid w g) (whole-laid w g) c hc b hb x.0 x.1))
          (λ n. put_other (laid w g) (whole-laid w g) c hc b hb x.0 x.1 d hd e he n ∙ laid-block w g d e hd he
          ∙ ap (λ (o : Option BlockBytes). (updated o (block_in g d e)).0) (sym (put-elsewhere w c b x d e n)))

-- ---- the control part is written over the blocks
-- its bytes behind the tables are the ones that are there
abbrev pub KeepsTail : Part → Image → Type 0
KeepsTail k g = (n : ℕ) → n < layout.image_tail → tail_byte k n ≡ tail_in g n

-- bytes before the tables that are written of a control part tell nothing of its pairs
pub over-control : (w : Writes) (e : Ends) (g : Image) (k : Part) → KeepsTail k g
    → put_control (after (λ n. get_or g n 0) (tail_in g) w e g) (front_part k) ≡ after (control_byte k) (tail_byte k) w e g
over-control w e g k keeps = front-put out k ∙ after-ext layout (control_byte k) (tail_byte k) w e g (put_control out k) long
    (λ n h. put_in out k fits n h)
    (λ n h. put-after out k fits (tail_start_of layout + n) (omega arith) ∙ after_tail layout low (tail_in g) w e g n h ∙ sym (keeps n h))
    (λ c b hc hb. is_block (put_control out k) long c b hc hb (updated (w c b) (block_in g c b)) (put-blocks out k fits whole c hc b hb
    ∙ sym (block-is out whole c b hc hb) ∙ ap (λ (x : BlockBytes). x.0) (after_block layout low (tail_in g) w e g c b hc hb)))
    (λ c j hc hj. put-after out k fits (end_start_of layout c + j) (omega arith) ∙ after-end layout low (tail_in g) w e g c j hc hj)
  where
    low : ℕ → ℕ
    low n = get_or g n 0

    out : Image
    out = after low (tail_in g) w e g

    whole : Whole out
    whole = length-after layout low (tail_in g) w e g

    fits : control_size ≤ length out
    fits = omega (arith, whole)

    long : length (put_control out k) ≡ image_size
    long = length-put out k fits ∙ whole

pub write-control : (w : Writes) (g : Image) (k : Part) → KeepsTail k g → put_control (laid w g) (front_part k) ≡ after (control_byte k) (tail_byte k) w (λ c. none) g
unfolding laid
write-control w g k keeps = over-control w (λ c. none) g k keeps

-- stamps are written over that: every working card gets the newest placement's
pub write-stamps : (w : Writes) (g : Image) (k : Part)
    → put_stamps (after (control_byte k) (tail_byte k) w (λ c. none) g) k.working (stamp_of k) card_count
    ≡ after (control_byte k) (tail_byte k) w (λ c. end_of current (stamp_all cabinet k c)) g
unfolding stamp_all
write-stamps w g k = after-ext layout (control_byte k) (tail_byte k) w (λ c. end_of current (stamp_all cabinet k c)) g (put_stamps out k.working (stamp_of k) card_count)
    (whole-stamps out whole k.working (stamp_of k) card_count (omega arith))
    (λ n h. stamps-control out whole k.working (stamp_of k) n h ∙ after-control layout (control_byte k) (tail_byte k) w (λ c. none) g n h)
    (λ n h. stamps-tail out whole k.working (stamp_of k) n ∙ after_tail layout (control_byte k) (tail_byte k) w (λ c. none) g n h)
    (λ c b hc hb. is_block _ (whole-stamps out whole k.working (stamp_of k) card_count (omega arith)) c b hc hb (updated (w c b) (block_in g c b))
    (stamps-block out whole k.working (stamp_of k) card_count (omega arith) c hc b hb ∙ sym (block-is out whole c b hc hb)
    ∙ ap (λ (x : BlockBytes). x.0) (after_block layout (control_byte k) (tail_byte k) w (λ c. none) g c b hc hb)))
    (λ c j hc hj. ends c j hc hj (split (has_card k.working c)))
  where
    out : Image
    out = after (control_byte k) (tail_byte k) w (λ c. none) g

    whole : Whole out
    whole = length-after layout (control_byte k) (tail_byte k) w (λ c. none) g

    ends : (c j : ℕ) → c < card_count → j < layout.table_tail → (has_card k.working c ≡ true) ⊎ (has_card k.working c ≡ false)
        → end_in (put_stamps out k.working (stamp_of k) card_count) c j ≡ updated (end_of current (cond (has_card k.working c) (some (stamp_of k)) none)) (end_in g c) j
    ends c j hc hj (inl e) = stamps-in out whole k.working (stamp_of k) card_count (omega arith) c hc e j hj ∙ rw e
    ends c j hc hj (inr e) = stamps-kept out whole k.working (stamp_of k) c hc e j hj ∙ after-end layout (control_byte k) (tail_byte k) w (λ c. none) g c j hc hj ∙ rw e

-- ---- a control part that stays
pub same-tail : (g : Image) → control_form g ≡ true → KeepsTail (control_in g) g
same-tail g form = tail-back (λ n. get_or g n 0) (tail_in g) form

-- written as it was read
pub kept-control : (w : Writes) (g : Image) → control_form g ≡ true → after (control_byte (control_in g)) (tail_byte (control_in g)) w (λ c. none) g ≡ laid w g
unfolding laid
kept-control w g form = after-ext layout (λ n. get_or g n 0) (tail_in g) w (λ c. none) g (after (control_byte (control_in g)) (tail_byte (control_in g)) w (λ c. none) g)
    (length-after layout (control_byte (control_in g)) (tail_byte (control_in g)) w (λ c. none) g)
    (λ n h. after-control layout (control_byte (control_in g)) (tail_byte (control_in g)) w (λ c. none) g n h ∙ control-back (λ n. get_or g n 0) (tail_in g) form n h)
    (λ n h. after_tail layout (control_byte (control_in g)) (tail_byte (control_in g)) w (λ c. none) g n h ∙ same-tail g form n h)
    (after_block layout (control_byte (control_in g)) (tail_byte (control_in g)) w (λ c. none) g)
    (after-end layout (control_byte (control_in g)) (tail_byte (control_in g)) w (λ c. none) g)

-- one placement more that is not by table
pub more-tail : (g : Image) (k : Part) (p : Placement) → control_form g ≡ true → active k ≡ active (control_in g) → is_by_table p.choice ≡ false
    → (ν : ℕ) → KeepsTail (added k p ν) g
more-tail g k p form same bare ν n h = tail_more (active k) p n bare ∙ ap (λ (l : List Placement). tail_of l n) same ∙ same-tail g form n h
