-- A segment of a list, a list with a segment replaced, and a function applied to each of a row of segments. Assumes
-- nothing.
use Rattle.std.specs.Prelude.{◌≡◌, List, ◌++◌, ℕ, zero, suc, ◌+◌, ◌*◌, length, take, drop}

-- the n elements of l from index a
unfoldable pub segment : List ℕ → ℕ → ℕ → List ℕ
segment l a n = take n (drop a l)

-- l with the elements from index a replaced by xs
unfoldable pub splice : List ℕ → ℕ → List ℕ → List ℕ
splice l a xs = take a l ++ (xs ++ drop (a + length xs) l)

-- l with f applied to its n elements from a
unfoldable pub within : List ℕ → ℕ → ℕ → (List ℕ → List ℕ) → List ℕ
within l a n f = splice l a (f (segment l a n))

-- f i applied to segment i, for the first k of the segments of n elements that start at s
unfoldable pub each : (ℕ → List ℕ → List ℕ) → ℕ → ℕ → ℕ → List ℕ → List ℕ
each f s n zero l = l
each f s n (suc k) l = within (each f s n k l) (s + k * n) n (f k)

-- f takes a list of n elements to one of n elements
abbrev pub Keeps : ℕ → (List ℕ → List ℕ) → Type 0
Keeps n f = (l : List ℕ) → length l ≡ n → length (f l) ≡ n
