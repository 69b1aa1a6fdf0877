-- Laws of the bytes behind the blocks of a card: an image with other ones there has them there and is else as it was, byte for byte, and so its blocks
-- and its control bytes are the same. A block that is put leaves every card's as they were, and a table that is put has its own. Assumes nothing.
use mathlib.Core.Path.{◌≡◌, ap, ◌∙◌}
use mathlib.Core.Logic.{◌≢◌, ◌⊎◌, ⊎_elim}
use mathlib.Core.List.{List}
use Prim.Native.Nat.{ℕ, ◌+◌, ◌-◌, ◌≤◌, ◌<◌}
use native.Mathlib.Omega.{arith}
use lib.ListN.{length, get_or}
use Rattle.lists.proofs.Cases.{lt-or-ge}
use Rattle.lists.proofs.Segments.{length-splice, get_or-after, get_or-before, get_or-in, get-put-after, get-put-before}
use Rattle.image.specs.Layout.{block_address, block_count, block_size, blocks_size, card_count, control_size, end_start, stamp_size, table_size, table_start}
use Rattle.image.specs.Parts.{Whole, block_at, control_bytes, put_block, put_end, put_table}

module _ (g : List ℕ) (w : Whole g) (c : ℕ) (hc : c < card_count) (xs : List ℕ) (e : length xs ≡ stamp_size) where
  pub whole-put-end : Whole (put_end g c xs)
  unfolding put_end
  whole-put-end = length-splice g (end_start c) xs (omega arith) ∙ w

  pub put-end-in : (j : ℕ) → j < stamp_size → get_or (put_end g c xs) (end_start c + j) 0 ≡ get_or xs j 0
  unfolding put_end
  put-end-in j h =
      let s : end_start c + j - end_start c ≡ j = omega arith in
      get_or-in g (end_start c) xs (end_start c + j) (omega arith) (omega arith) (omega arith) ∙ ap (λ (i : ℕ). get_or xs i 0) s

  pub put-end-out : (n : ℕ) → (n < end_start c) ⊎ (end_start c + stamp_size ≤ n) → get_or (put_end g c xs) n 0 ≡ get_or g n 0
  unfolding put_end
  put-end-out n o = ⊎_elim
      (λ (h : n < end_start c). get_or-before g (end_start c) xs n (omega arith) h)
      (λ (h : end_start c + stamp_size ≤ n). get_or-after g (end_start c) xs n (omega arith) (omega arith)) o

  pub put-end-block : (d : ℕ) → d < card_count → (b : ℕ) → b < block_count → block_at (put_end g c xs) d b ≡ block_at g d b
  unfolding block_at put_end
  put-end-block d hd b hb = ⊎_elim
      (λ (p : c < d). get-put-after g (end_start c) xs (block_address d b) block_size (omega arith) (omega arith) (omega arith))
      (λ (p : d ≤ c). get-put-before g (end_start c) xs (block_address d b) block_size (omega arith) (omega arith))
      (lt-or-ge c d)

  pub control-put-end : control_bytes (put_end g c xs) ≡ control_bytes g
  unfolding put_end
  control-put-end = get-put-before g (end_start c) xs 0 control_size (omega arith) (omega arith)

-- ---- after a block was put
pub end-put-block : (g : List ℕ) → Whole g → (c : ℕ) → c < card_count → (b : ℕ) → b < block_count → (xs : List ℕ) → length xs ≡ block_size
    → (d : ℕ) → d < card_count → (j : ℕ) → j < stamp_size → get_or (put_block g c b xs) (end_start d + j) 0 ≡ get_or g (end_start d + j) 0
unfolding put_block
end-put-block g w c hc b hb xs e d hd j h = ⊎_elim
    (λ (p : d < c). get_or-before g (block_address c b) xs (end_start d + j) (omega arith) (omega arith))
    (λ (p : c ≤ d). get_or-after g (block_address c b) xs (end_start d + j) (omega arith) (omega arith))
    (lt-or-ge d c)

-- ---- after a table was put
module _ (g : List ℕ) (w : Whole g) (c : ℕ) (hc : c < card_count) (xs : List ℕ) (e : length xs ≡ table_size) where
  pub end-put-table : (j : ℕ) → j < stamp_size → get_or (put_table g c xs) (end_start c + j) 0 ≡ get_or xs (blocks_size + j) 0
  unfolding put_table
  end-put-table j h =
      let s : end_start c + j - table_start c ≡ blocks_size + j = omega arith in
      get_or-in g (table_start c) xs (end_start c + j) (omega arith) (omega arith) (omega arith) ∙ ap (λ (i : ℕ). get_or xs i 0) s

  pub end-put-other : (d : ℕ) → d < card_count → d ≢ c → (j : ℕ) → j < stamp_size → get_or (put_table g c xs) (end_start d + j) 0 ≡ get_or g (end_start d + j) 0
  unfolding put_table
  end-put-other d hd ne j h = ⊎_elim
      (λ (p : d < c). get_or-before g (table_start c) xs (end_start d + j) (omega arith) (omega arith))
      (λ (p : c ≤ d). get_or-after g (table_start c) xs (end_start d + j) (omega arith) (omega arith))
      (lt-or-ge d c)
