-- Numbers in bytes: what is done to such a number byte by byte. An operation on bits works on each byte by itself; a sum,
-- a product and a quotient do where nothing is carried from a byte to the next. Assumes nothing.
use mathlib.Core.Path.{◌≡◌, refl, sym, ap, ap₂, ◌∙◌}
use Prim.Native.Nat.{ℕ, zero, suc, ◌+◌, ◌-◌, ◌*◌, ◌/◌, ◌^◌, ◌≤◌, ◌<◌}
use native.Mathlib.Omega.{arith}
use native.Mathlib.Nat.{add_assoc, add-mul, add-zero, mul_right_comm, zero-mul}
use lib.Bits.{bit_and, bit_xor, and_block, xor_block}
use lib.Dec.{eqb}
use lib.ListN.{get_or}
use mathlib.Core.List.{List}
use borrow.Author.Tests.{eq-eqb, eqb-true}
use Rattle.lists.specs.Bytes.{of_bytes}
use Rattle.lists.specs.Tests.{all_below}
use Rattle.lists.proofs.Bools.{same_test}
use Rattle.lists.proofs.Counts.{all-below, below_all}

-- The functions whose values are bytes.
abbrev pub AreBytes : (ℕ → ℕ) → Type 0
AreBytes f = (i : ℕ) → f i < 2 ^ 8

-- ---- one byte after the other
pub bytes-and : (f g : ℕ → ℕ) → AreBytes f → AreBytes g → (k : ℕ) → bit_and (of_bytes f k) (of_bytes g k) ≡ of_bytes (λ i. bit_and (f i) (g i)) k
unfolding of_bytes
bytes-and f g p q zero = refl
bytes-and f g p q (suc k) =
    and_block 8 (of_bytes (λ i. f (suc i)) k) (of_bytes (λ i. g (suc i)) k) (f 0) (g 0) (p 0) (q 0)
    ∙ ap (λ (n : ℕ). n * 2 ^ 8 + bit_and (f 0) (g 0)) (bytes-and (λ i. f (suc i)) (λ i. g (suc i)) (λ i. p (suc i)) (λ i. q (suc i)) k)

pub bytes-xor : (f g : ℕ → ℕ) → AreBytes f → AreBytes g → (k : ℕ) → bit_xor (of_bytes f k) (of_bytes g k) ≡ of_bytes (λ i. bit_xor (f i) (g i)) k
unfolding of_bytes
bytes-xor f g p q zero = refl
bytes-xor f g p q (suc k) =
    xor_block 8 (of_bytes (λ i. f (suc i)) k) (of_bytes (λ i. g (suc i)) k) (f 0) (g 0) (p 0) (q 0)
    ∙ ap (λ (n : ℕ). n * 2 ^ 8 + bit_xor (f 0) (g 0)) (bytes-xor (λ i. f (suc i)) (λ i. g (suc i)) (λ i. p (suc i)) (λ i. q (suc i)) k)

pub bytes-add : (f g : ℕ → ℕ) (k : ℕ) → of_bytes f k + of_bytes g k ≡ of_bytes (λ i. f i + g i) k
unfolding of_bytes
bytes-add f g zero = refl
bytes-add f g (suc k) =
    let e : of_bytes (λ i. f (suc i)) k + of_bytes (λ i. g (suc i)) k ≡ of_bytes (λ i. f (suc i) + g (suc i)) k = bytes-add (λ i. f (suc i)) (λ i. g (suc i)) k in
    omega arith

pub bytes-mul : (f : ℕ → ℕ) (m k : ℕ) → of_bytes f k * m ≡ of_bytes (λ i. f i * m) k
unfolding of_bytes
bytes-mul f m zero = zero-mul m
bytes-mul f m (suc k) =
    add-mul (of_bytes (λ i. f (suc i)) k * 2 ^ 8) (f 0) m
    ∙ ap (λ (n : ℕ). n + f 0 * m) (mul_right_comm (of_bytes (λ i. f (suc i)) k) (2 ^ 8) m ∙ ap (λ (n : ℕ). n * 2 ^ 8) (bytes-mul (λ i. f (suc i)) m k))

pub bytes-zero : (k : ℕ) → of_bytes (λ i. 0) k ≡ 0
unfolding of_bytes
bytes-zero zero = refl
bytes-zero (suc k) = let e : of_bytes (λ i. 0) k ≡ 0 = bytes-zero k in omega arith

-- ---- a number is its bytes
pub bytes_same : (f g : ℕ → ℕ) → AreBytes f → AreBytes g → (k : ℕ) → of_bytes f k ≡ of_bytes g k → (i : ℕ) → i < k → f i ≡ g i
unfolding of_bytes
bytes_same f g p q zero e i h = absurd (omega arith)
bytes_same f g p q (suc k) e zero h = let a : f 0 < 2 ^ 8 = p 0 in let b : g 0 < 2 ^ 8 = q 0 in omega arith
bytes_same f g p q (suc k) e (suc i) h =
    let a : f 0 < 2 ^ 8 = p 0 in
    let b : g 0 < 2 ^ 8 = q 0 in
    bytes_same (λ i. f (suc i)) (λ i. g (suc i)) (λ i. p (suc i)) (λ i. q (suc i)) k (omega arith) i (omega arith)

pub bytes-ext : (f g : ℕ → ℕ) (k : ℕ) → ((i : ℕ) → i < k → f i ≡ g i) → of_bytes f k ≡ of_bytes g k
unfolding of_bytes
bytes-ext f g zero h = refl
bytes-ext f g (suc k) h = ap₂ (λ (m n : ℕ). m * 2 ^ 8 + n) (bytes-ext (λ i. f (suc i)) (λ i. g (suc i)) k (λ i p. h (suc i) (omega arith))) (h 0 (omega arith))

-- A test of two numbers is a test of their bytes.
pub bytes-test : (f g : ℕ → ℕ) → AreBytes f → AreBytes g → (k : ℕ) → eqb (of_bytes f k) (of_bytes g k) ≡ all_below k (λ i. eqb (f i) (g i))
bytes-test f g p q k = same_test (eqb (of_bytes f k) (of_bytes g k)) (all_below k (λ i. eqb (f i) (g i)))
    (λ t. all-below k (λ i. eqb (f i) (g i)) (λ i h. eq-eqb (f i) (g i) (bytes_same f g p q k (eqb-true (of_bytes f k) (of_bytes g k) t) i h)))
    (λ t. eq-eqb (of_bytes f k) (of_bytes g k) (bytes-ext f g k (λ i h. eqb-true (f i) (g i) (below_all k (λ i. eqb (f i) (g i)) i t h))))

pub zero_test : (f : ℕ → ℕ) → AreBytes f → (k : ℕ) → eqb (of_bytes f k) 0 ≡ all_below k (λ i. eqb (f i) 0)
zero_test f p k = ap (eqb (of_bytes f k)) (sym (bytes-zero k)) ∙ bytes-test f (λ i. 0) p (λ i. omega arith) k

-- ---- the bytes of a list from an index on
pub four_bytes : (l : List ℕ) (at a b c d : ℕ) → a ≡ get_or l at 0 → b ≡ get_or l (at + 1) 0 → c ≡ get_or l (at + 2) 0 → d ≡ get_or l (at + 3) 0
    → a + b * 256 + c * 65536 + d * 16777216 ≡ of_bytes (λ i. get_or l (at + i) 0) 4
unfolding of_bytes
four_bytes l at a b c d p q r s =
    let z : a ≡ get_or l (at + 0) 0 = p ∙ ap (λ (n : ℕ). get_or l n 0) (sym (add-zero at)) in
    omega arith

join : (f : ℕ → ℕ) (a b : ℕ) → a ≡ of_bytes f 4 → b ≡ of_bytes (λ i. f (4 + i)) 4 → a + b * 4294967296 ≡ of_bytes f 8
unfolding of_bytes
join f a b p q = omega arith

pub eight-bytes : (l : List ℕ) (at a b : ℕ) → a ≡ of_bytes (λ i. get_or l (at + i) 0) 4 → b ≡ of_bytes (λ i. get_or l (at + 4 + i) 0) 4
    → a + b * 4294967296 ≡ of_bytes (λ i. get_or l (at + i) 0) 8
eight-bytes l at a b p q = join (λ i. get_or l (at + i) 0) a b p
    (q ∙ bytes-ext (λ i. get_or l (at + 4 + i) 0) (λ i. get_or l (at + (4 + i)) 0) 4 (λ i h. ap (λ (n : ℕ). get_or l n 0) (add_assoc at 4 i)))

-- Of four bytes those from one on.
pub bytes-behind : (f : ℕ → ℕ) → AreBytes f → (c : ℕ) → 1 ≤ c → c ≤ 4 → of_bytes f 4 / 2 ^ (c * 8) ≡ of_bytes (λ i. f (c + i)) (4 - c)
unfolding of_bytes
bytes-behind f p zero lo hi = absurd (omega arith)
bytes-behind f p (suc zero) lo hi = let a : f 0 < 2 ^ 8 = p 0 in omega arith
bytes-behind f p (suc (suc zero)) lo hi = let a : f 0 < 2 ^ 8 = p 0 in let b : f 1 < 2 ^ 8 = p 1 in omega arith
bytes-behind f p (suc (suc (suc zero))) lo hi =
    let a : f 0 < 2 ^ 8 = p 0 in
    let b : f 1 < 2 ^ 8 = p 1 in
    let c : f 2 < 2 ^ 8 = p 2 in
    omega arith
bytes-behind f p (suc (suc (suc (suc zero)))) lo hi =
    let a : f 0 < 2 ^ 8 = p 0 in
    let b : f 1 < 2 ^ 8 = p 1 in
    let c : f 2 < 2 ^ 8 = p 2 in
    let d : f 3 < 2 ^ 8 = p 3 in
    omega arith
bytes-behind f p (suc (suc (suc (suc (suc c))))) lo hi = absurd (omega arith)
