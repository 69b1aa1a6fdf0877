-- What a callee that was lent a part `&mut s[a..e]` says of the part, said of the whole. Assumes nothing.
use mathlib.Core.Path.{◌≡◌, sym, ap, ◌∙◌}
use mathlib.Core.List.{List, ◌++◌}
use Prim.Native.Nat.{ℕ, ◌+◌, ◌≤◌}
use native.Mathlib.Omega.{arith}
use lib.ListN.{length, take, drop}
use lib.Seq.{drop-drop}
use borrow.Rule.Slice.PartMut.{mid_of, put_mid}
use Rattle.lists.specs.Segments.{Keeps, segment, splice, within}
use Rattle.lists.proofs.Segments.{length-segment, length-splice, put-put}
use Rattle.image.specs.Layout.{block_address, block_size}
use Rattle.image.specs.Parts.{block_at}

-- A part that was lent is a segment, and comes back as a splice.
pub part-is : (a k : ℕ) (l : List ℕ) (n : ℕ) → k ≡ n → mid_of a k l ≡ segment l a n
unfolding segment
part-is a k l n e = ap (λ (j : ℕ). take j (drop a l)) e

pub part-back : (a k : ℕ) (l ys : List ℕ) → length ys ≡ k → put_mid a k l ys ≡ splice l a ys
unfolding splice
part-back a k l ys e = ap (λ (r : List ℕ). take a l ++ (ys ++ r)) (drop-drop k a l ∙ ap (λ (j : ℕ). drop (a + j) l) (sym e))

-- A part of n elements from a, in which the callee put xs at b.
pub part-put : (a k : ℕ) (l : List ℕ) (n b : ℕ) (xs ys : List ℕ) → ys ≡ splice (mid_of a k l) b xs
    → k ≡ n → a + n ≤ length l → b + length xs ≤ n → put_mid a k l ys ≡ splice l (a + b) xs
part-put a k l n b xs ys w e h j =
    let v : ys ≡ splice (segment l a n) b xs = w ∙ ap (λ (m : List ℕ). splice m b xs) (part-is a k l n e) in
    let s : length (segment l a n) ≡ n = length-segment l a n h in
    let t : length (splice (segment l a n) b xs) ≡ n = length-splice (segment l a n) b xs (omega arith) ∙ s in
    part-back a k l ys (ap length v ∙ t ∙ sym e) ∙ ap (splice l a) v ∙ put-put l a n b xs h j

-- A part that the callee left as xs.
pub part_left : (a k : ℕ) (l : List ℕ) (xs ys : List ℕ) → ys ≡ xs → k ≡ length xs → put_mid a k l ys ≡ splice l a xs
part_left a k l xs ys w e = part-back a k l ys (ap length w ∙ sym e) ∙ ap (splice l a) w

pub length_part : (a k : ℕ) (l : List ℕ) (n : ℕ) → k ≡ n → a + n ≤ length l → length (mid_of a k l) ≡ n
length_part a k l n e h = ap length (part-is a k l n e) ∙ length-segment l a n h

-- A part that the callee left as f has it.
pub part-within : (f : List ℕ → List ℕ) (n : ℕ) → Keeps n f → (a k : ℕ) (l ys : List ℕ) → ys ≡ f (mid_of a k l) → k ≡ n → a + n ≤ length l
    → put_mid a k l ys ≡ within l a n f
unfolding within
part-within f n keeps a k l ys w e h =
    let v : ys ≡ f (segment l a n) = w ∙ ap f (part-is a k l n e) in
    part_left a k l (f (segment l a n)) ys v (e ∙ sym (keeps (segment l a n) (length-segment l a n h)))

-- A block of a card is a part of the image.
pub part-block : (g : List ℕ) (c b a k : ℕ) → a ≡ block_address c b → k ≡ block_size → mid_of a k g ≡ block_at g c b
unfolding block_at
part-block g c b a k ea ek = part-is a k g block_size ek ∙ ap (λ (m : ℕ). segment g m block_size) ea
