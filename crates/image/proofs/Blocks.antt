-- Laws of the blocks and the control bytes of an image. Assumes nothing.
use mathlib.Core.Path.{◌≡◌, sym, ap, ◌∙◌}
use mathlib.Core.Logic.{◌⊎◌, ⊎_elim, ◌≢◌}
use mathlib.Core.List.{List}
use Prim.Native.Nat.{ℕ, ◌+◌, ◌≤◌, ◌<◌}
use native.Mathlib.Nat.{zero-add}
use native.Mathlib.Omega.{arith}
use lib.ListN.{length, get_or}
use Rattle.lists.specs.Segments.{segment, splice}
use Rattle.lists.proofs.Cases.{lt-or-ge, lt-eq-gt}
use Rattle.lists.proofs.Segments.{length-segment, get_or-segment, length-splice, get-put, get-put-before, get-put-after, get-get}
use Rattle.image.specs.Layout.{card_count, block_count, block_size, control_size, table_size, image_size, table_start, block_start, block_address}
use Rattle.image.specs.Parts.{Whole, control_bytes, put_table, block_at, put_block}

-- Block b of card c: its length and its bytes.
module _ (g : List ℕ) (w : Whole g) (c : ℕ) (hc : c < card_count) (b : ℕ) (hb : b < block_count) where
  pub length-block : length (block_at g c b) ≡ block_size
  unfolding block_at
  length-block = length-segment g (block_address c b) block_size (omega arith)

  pub byte-of-block : (j : ℕ) → j < block_size → get_or (block_at g c b) j 0 ≡ get_or g (block_address c b + j) 0
  unfolding block_at
  byte-of-block j h = get_or-segment g (block_address c b) block_size j h

  -- After a block is put: the length, the block, every other block, the control bytes.
  module _ (xs : List ℕ) (e : length xs ≡ block_size) where
    pub whole-put : Whole (put_block g c b xs)
    unfolding put_block
    whole-put = length-splice g (block_address c b) xs (omega arith) ∙ w

    pub put_same : block_at (put_block g c b xs) c b ≡ xs
    unfolding block_at put_block
    put_same = get-put g (block_address c b) block_size xs e (omega arith)

    pub put_other : (d : ℕ) → d < card_count → (k : ℕ) → k < block_count → (d ≢ c) ⊎ (k ≢ b) → block_at (put_block g c b xs) d k ≡ block_at g d k
    unfolding block_at put_block
    put_other d hd k hk ne =
        let s : ℕ = block_address c b in
        let t : ℕ = block_address d k in
        let low : (t + block_size ≤ s) → segment (splice g s xs) t block_size ≡ segment g t block_size = λ h. get-put-before g s xs t block_size (omega arith) h in
        let high : (s + block_size ≤ t) → segment (splice g s xs) t block_size ≡ segment g t block_size = λ h. get-put-after g s xs t block_size (omega arith) (omega arith) (omega arith) in
        ⊎_elim
        (λ (p : d < c). low (omega arith))
        (λ q. ⊎_elim
        (λ (p : d ≡ c). ⊎_elim
        (λ (r : k < b). low (omega arith))
        (λ r. ⊎_elim (λ (o : k ≡ b). absurd (⊎_elim (λ n. n p) (λ n. n o) ne)) (λ (o : b < k). high (omega arith)) r)
        (lt-eq-gt k b))
        (λ (p : c < d). high (omega arith))
        q)
        (lt-eq-gt d c)

    pub control-put : control_bytes (put_block g c b xs) ≡ control_bytes g
    unfolding put_block
    control-put = get-put-before g (block_address c b) xs 0 control_size (omega arith) (omega arith)

-- After a table is put: the length, the card's blocks, every other card's blocks, the control bytes.
module _ (g : List ℕ) (w : Whole g) (c : ℕ) (hc : c < card_count) (xs : List ℕ) (e : length xs ≡ table_size) where
  pub whole-put-table : Whole (put_table g c xs)
  unfolding put_table
  whole-put-table = length-splice g (table_start c) xs (omega arith) ∙ w

  pub put-table-same : (b : ℕ) → b < block_count → block_at (put_table g c xs) c b ≡ segment xs (block_start b) block_size
  unfolding block_at put_table
  put-table-same b hb =
      let n : length (splice g (table_start c) xs) ≡ image_size = length-splice g (table_start c) xs (omega arith) ∙ w in
      sym (get-get (splice g (table_start c) xs) (table_start c) table_size (block_start b) block_size (omega arith) (omega arith))
      ∙ ap (λ (l : List ℕ). segment l (block_start b) block_size) (get-put g (table_start c) table_size xs e (omega arith))

  pub put-table-other : (d : ℕ) → d < card_count → d ≢ c → (b : ℕ) → b < block_count → block_at (put_table g c xs) d b ≡ block_at g d b
  unfolding block_at put_table
  put-table-other d hd ne b hb =
      ⊎_elim
      (λ (p : d < c). get-put-before g (table_start c) xs (block_address d b) block_size (omega arith) (omega arith))
      (λ (p : c ≤ d). get-put-after g (table_start c) xs (block_address d b) block_size (omega arith) (omega arith) (omega arith))
      (lt-or-ge d c)

  pub control-put-table : control_bytes (put_table g c xs) ≡ control_bytes g
  unfolding put_table
  control-put-table = get-put-before g (table_start c) xs 0 control_size (omega arith) (omega arith)

-- A control byte is a byte of the image.
pub byte-of-control : (g : List ℕ) (j : ℕ) → j < control_size → get_or (control_bytes g) j 0 ≡ get_or g j 0
byte-of-control g j h = get_or-segment g 0 control_size j h ∙ ap (λ (k : ℕ). get_or g k 0) (zero-add j)
