-- Laws of the image after a call, by any layout: its length, its control bytes in front and behind the tables, its blocks and what lies
-- behind them; and these are all. Assumes nothing.
use Prim.Native.Nat.{◌%◌, ◌*◌, ◌+◌, ◌-◌, ◌/◌, ◌<◌, ◌≤◌, ℕ}
use borrow.Author.Tests.{le-ltb, lt-ltb, ltb-false, ltb-true}
use lib.Dec.{ltb}
use lib.ListN.{get_or, length}
use lib.Seq.{ext_get_or}
use mathlib.Core.Bool.{false, true}
use mathlib.Core.Logic.{◌⊎◌, inl, inr}
use mathlib.Core.Path.{◌∙◌, ◌≡◌, ap, ap₂, sym}
use native.Mathlib.Nat.{div-add-mod', div-eq_of_lt, div-lt_iff_lt-mul, le-div_iff_mul-le, mod-lt, mul-add-div_right, mod-eq-sub-div-mul}
use native.Mathlib.Omega.{arith}
use Rattle.lists.proofs.Bools.{split}
use Rattle.lists.proofs.Tabulate.{at-tabulate, length-tabulate}
use Rattle.image.specs.Layout.{Layout, block_address_of, block_count, block_size, block_start, blocks_size, card_count, control_size}
use Rattle.image.specs.Layout.{image_size_of, table_size_of, table_start_of, tail_start_of}
use Rattle.slot.specs.Blocks.{BlockBytes, byte_in}
use Rattle.slot.proofs.Blocks.{block-ext, byte-in}
use Rattle.method.specs.Rules.{updated}
use Rattle.cabinet_rules.specs.Images.{Ends, Image, Writes, after_by, after_byte, block_by, card_by, end_by, place_by, table_byte, tail_by}

-- ---- a place in a row of tables of one size
module _ (size : ℕ) (some : 0 < size) where
  pub quotient : (c j : ℕ) → j < size → (c * size + j) / size ≡ c
  quotient c j h = mul-add-div_right some c j ∙ ap (λ (x : ℕ). c + x) (div-eq_of_lt h) ∙ plus_none c
    where
      plus_none : (c : ℕ) → c + 0 ≡ c
      plus_none c = omega arith

  pub remainder : (c j : ℕ) → j < size → (c * size + j) % size ≡ j
  remainder c j h = mod-eq-sub-div-mul (c * size + j) size ∙ ap (λ (x : ℕ). c * size + j - x * size) (quotient c j h) ∙ less (c * size) j
    where
      less : (a j : ℕ) → a + j - a ≡ j
      less a j = omega arith

module _ (y : Layout) where
  abbrev S : ℕ
  S = table_size_of y

  size-some : 0 < S
  size-some = omega arith

  -- ---- where a byte lies
  -- byte j of card c's table
  module _ (c j : ℕ) (h : j < S) where
    in-front : (a : ℕ) → control_size + a + j - control_size ≡ a + j
    in-front a = omega arith

    pub card-of : card_by y (table_start_of y c + j) ≡ c
    card-of = ap (λ (x : ℕ). x / S) (in-front (c * S)) ∙ quotient S size-some c j h

    pub place_of : place_by y (table_start_of y c + j) ≡ j
    place_of = ap (λ (x : ℕ). x % S) (in-front (c * S)) ∙ remainder S size-some c j h

  -- it lies before the control bytes behind the tables
  before-by : (c j m s : ℕ) → c < m → j < s → c * s + j < m * s
  before-by c j m s hc hj = go m hc
    where
      step : (a b s : ℕ) → a + s ≤ b + s → a ≤ b
      step a b s h = omega arith

      go : (m : ℕ) → c < m → c * s + j < m * s
      go m hc = (div-lt_iff_lt-mul (zero-lt hj)).0 (lower (quotient s (zero-lt hj) c j hj))
        where
          zero-lt : j < s → 0 < s
          zero-lt h = omega arith

          lower : (c * s + j) / s ≡ c → (c * s + j) / s < m
          lower e = omega arith

  pub in_tables : (c j : ℕ) → c < card_count → j < S → table_start_of y c + j < tail_start_of y
  in_tables c j hc hj = let h : c * S + j < card_count * S = before-by c j card_count S hc hj in shift (c * S) j (card_count * S) h
    where
      shift : (a j b : ℕ) → a + j < b → control_size + a + j < control_size + b
      shift a j b h = omega arith

  -- a control byte behind the tables is no card's
  pub behind-tables : (n : ℕ) → card_count ≤ card_by y (tail_start_of y + n)
  behind-tables n = (le-div_iff_mul-le size-some).1 (more (card_count * S) n)
    where
      more : (b n : ℕ) → b ≤ control_size + b + n - control_size
      more b n = omega arith

  -- byte n of the tables is at its card's place
  module _ (n : ℕ) (l : control_size ≤ n) (h : n < tail_start_of y) where
    pub there : table_start_of y (card_by y n) + place_by y n ≡ n
    there = shift ((n - control_size) / S * S) ((n - control_size) % S) (div-add-mod' (n - control_size) S)
      where
        shift : (a r : ℕ) → a + r ≡ n - control_size → control_size + a + r ≡ n
        shift a r e = omega arith

    pub card-in : card_by y n < card_count
    card-in = (div-lt_iff_lt-mul size-some).1 (less (card_count * S) h)
      where
        less : (b : ℕ) → n < control_size + b → n - control_size < b
        less b e = omega arith

    pub place_in : place_by y n < S
    place_in = mod-lt (n - control_size) size-some

  module _ (head tail : ℕ → ℕ) (w : Writes) (e : Ends) (g : Image) where
    abbrev out : Image
    out = after_by y head tail w e g

    pub length-after : length out ≡ image_size_of y
    unfolding after_by
    length-after = length-tabulate (image_size_of y) (after_byte y head tail w e g)

    at_after : (n : ℕ) → n < image_size_of y → get_or out n 0 ≡ after_byte y head tail w e g n
    unfolding after_by
    at_after n h = at-tabulate (image_size_of y) (after_byte y head tail w e g) n h

    pub after-control : (n : ℕ) → n < control_size → get_or out n 0 ≡ head n
    unfolding after_byte
    after-control n h = at_after n (omega arith) ∙ rw (lt-ltb n control_size h)

    pub after_tail : (n : ℕ) → n < y.image_tail → tail_by y out n ≡ tail n
    unfolding after_byte
    after_tail n h = at_after (tail_start_of y + n) (omega arith)
        ∙ rw (le-ltb (tail_start_of y + n) control_size (omega arith), le-ltb (tail_start_of y + n) (tail_start_of y) (omega arith)) (ap tail (less (tail_start_of y) n))
      where
        less : (a n : ℕ) → a + n - a ≡ n
        less a n = omega arith

    -- byte j of card c's table
    table-byte : (c j : ℕ) → c < card_count → j < S → get_or out (table_start_of y c + j) 0 ≡ table_byte y w e g c j
    unfolding after_byte
    table-byte c j hc hj =
        let h : table_start_of y c + j < tail_start_of y = in_tables c j hc hj in
        at_after (table_start_of y c + j) (omega arith)
        ∙ rw (le-ltb (table_start_of y c + j) control_size (omega arith), lt-ltb (table_start_of y c + j) (tail_start_of y) h)
        (ap₂ (table_byte y w e g) (card-of c j hj) (place_of c j hj))

    pub after_block : (c b : ℕ) → c < card_count → b < block_count → block_by y out c b ≡ updated (w c b) (block_by y g c b)
    unfolding table_byte
    after_block c b hc hb = block-ext (block_by y out c b) (updated (w c b) (block_by y g c b)) (λ j h.
        byte-in (λ i. get_or out (block_address_of y c b + i) 0) j h ∙ ap (λ (n : ℕ). get_or out n 0) (flat (table_start_of y c) j)
        ∙ table-byte c (block_start b + j) hc (omega arith) ∙ rw (lt-ltb (block_start b + j) blocks_size (omega arith))
        (ap₂ (λ (x i : ℕ). byte_in (updated (w c x) (block_by y g c x)) i) (number j h) (place j h)))
      where
        flat : (a j : ℕ) → a + block_start b + j ≡ a + (block_start b + j)
        flat a j = omega arith

        number : (j : ℕ) → j < block_size → (block_start b + j) / block_size ≡ b
        number j h = omega arith

        place : (j : ℕ) → j < block_size → (block_start b + j) % block_size ≡ j
        place j h = omega arith

    pub after-end : (c j : ℕ) → c < card_count → j < y.table_tail → end_by y out c j ≡ updated (e c) (end_by y g c) j
    unfolding table_byte
    after-end c j hc hj = ap (λ (n : ℕ). get_or out n 0) (flat (table_start_of y c) j) ∙ table-byte c (blocks_size + j) hc (omega arith)
        ∙ rw (le-ltb (blocks_size + j) blocks_size (omega arith)) (ap (updated (e c) (end_by y g c)) (less j))
      where
        flat : (a j : ℕ) → a + blocks_size + j ≡ a + (blocks_size + j)
        flat a j = omega arith

        less : (j : ℕ) → blocks_size + j - blocks_size ≡ j
        less j = omega arith

    -- an image with these parts is the image after the call
    module _ (o : Image) (long : length o ≡ image_size_of y) (low : (n : ℕ) → n < control_size → get_or o n 0 ≡ head n)
        (high : (n : ℕ) → n < y.image_tail → tail_by y o n ≡ tail n)
        (blk : (c b : ℕ) → c < card_count → b < block_count → block_by y o c b ≡ updated (w c b) (block_by y g c b))
        (ends : (c j : ℕ) → c < card_count → j < y.table_tail → end_by y o c j ≡ updated (e c) (end_by y g c) j) where
      -- byte j of card c's table
      same_byte : (c j : ℕ) → c < card_count → j < S → get_or o (table_start_of y c + j) 0 ≡ get_or out (table_start_of y c + j) 0
      same_byte c j hc hj = go (split (ltb j blocks_size))
        where
          go : (ltb j blocks_size ≡ true) ⊎ (ltb j blocks_size ≡ false) → get_or o (table_start_of y c + j) 0 ≡ get_or out (table_start_of y c + j) 0
          go (inl t) =
              let b : ℕ = j / block_size in
              let i : ℕ = j % block_size in
              let hj : j < blocks_size = ltb-true j blocks_size t in
              let hb : b < block_count = omega arith in
              let hi : i < block_size = omega arith in
              let at : (a : ℕ) → a + j ≡ a + block_start b + i = λ a. omega arith in
              ap (λ (n : ℕ). get_or o n 0) (at (table_start_of y c)) ∙ sym (byte-in (λ k. get_or o (block_address_of y c b + k) 0) i hi)
              ∙ ap (λ (x : BlockBytes). byte_in x i) (blk c b hc hb ∙ sym (after_block c b hc hb))
              ∙ byte-in (λ k. get_or out (block_address_of y c b + k) 0) i hi ∙ sym (ap (λ (n : ℕ). get_or out n 0) (at (table_start_of y c)))
          go (inr t) =
              let l : blocks_size ≤ j = ltb-false j blocks_size t in
              let at : (a : ℕ) → a + j ≡ a + blocks_size + (j - blocks_size) = λ a. omega arith in
              let hi : j - blocks_size < y.table_tail = omega arith in
              ap (λ (n : ℕ). get_or o n 0) (at (table_start_of y c)) ∙ ends c (j - blocks_size) hc hi ∙ sym (after-end c (j - blocks_size) hc hi)
              ∙ sym (ap (λ (n : ℕ). get_or out n 0) (at (table_start_of y c)))

      pub after-ext : o ≡ out
      after-ext = ext_get_or 0 o out (long ∙ sym length-after) (λ n h. each n (omega arith) (split (ltb n control_size)) (split (ltb n (tail_start_of y))))
        where
          each : (n : ℕ) → n < image_size_of y → (ltb n control_size ≡ true) ⊎ (ltb n control_size ≡ false)
              → (ltb n (tail_start_of y) ≡ true) ⊎ (ltb n (tail_start_of y) ≡ false) → get_or o n 0 ≡ get_or out n 0
          each n h (inl t) x = low n (ltb-true n control_size t) ∙ sym (after-control n (ltb-true n control_size t))
          each n h (inr t) (inl x) =
              let l : control_size ≤ n = ltb-false n control_size t in
              let r : n < tail_start_of y = ltb-true n (tail_start_of y) x in
              ap (λ (m : ℕ). get_or o m 0) (sym (there n l r)) ∙ same_byte (card_by y n) (place_by y n) (card-in n l r) (place_in n l r)
              ∙ ap (λ (m : ℕ). get_or out m 0) (there n l r)
          each n h (inr t) (inr x) =
              let l : tail_start_of y ≤ n = ltb-false n (tail_start_of y) x in
              let at : tail_start_of y + (n - tail_start_of y) ≡ n = omega arith in
              let hi : n - tail_start_of y < y.image_tail = omega arith in
              ap (λ (m : ℕ). get_or o m 0) (sym at) ∙ high (n - tail_start_of y) hi ∙ sym (after_tail (n - tail_start_of y) hi)
              ∙ ap (λ (m : ℕ). get_or out m 0) at
