-- Laws of numbers as text: how a decimal number is made digit by digit, and how long it can be. Assumes nothing.
use mathlib.Core.Path.{◌∙◌, ◌≡◌, ap, refl, sym}
use mathlib.Core.Logic.{⊎_elim}
use mathlib.Core.Bool.{Bool, cond}
use mathlib.Core.List.{List, ◌++◌, ◌∷◌, [], append_assoc}
use Prim.Native.Nat.{◌%◌, ◌*◌, ◌+◌, ◌/◌, ◌<◌, ◌≤◌, ℕ, suc, zero}
use native.Mathlib.Omega.{arith}
use lib.ListN.{get_or, length, length-append, take}
use lib.Seq.{length-take-le, take-suc}
use native.Mathlib.Numerals.{add-one}
use borrow.Author.Tests.{le-ltb, lt-ltb}
use Rattle.lists.proofs.Cases.{by-eq, lt-or-ge}
use Rattle.lines.specs.Text.{decimal, decimal_within, glyph, hex_byte, hex_bytes}

-- ---- hexadecimal
pub hex-more : (l : List ℕ) (b : ℕ) → hex_bytes (l ++ (b ∷ [])) ≡ hex_bytes l ++ hex_byte b
unfolding hex_bytes
hex-more [] b = refl
hex-more (a ∷ l) b = ap (λ (t : List ℕ). hex_byte a ++ t) (hex-more l b) ∙ sym (append_assoc (hex_byte a) (hex_bytes l) (hex_byte b))

pub hex_length : (l : List ℕ) → length (hex_bytes l) ≡ 2 * length l
unfolding hex_bytes
hex_length [] = refl
hex_length (a ∷ l) = omega (arith, hex_length l)

-- the first i bytes, and one more
pub hex_turn : (l : List ℕ) (i : ℕ) → i < length l → hex_bytes (take i l) ++ hex_byte (get_or l i 0) ≡ hex_bytes (take (i + 1) l)
hex_turn l i h = sym (hex-more (take i l) (get_or l i 0)) ∙ ap hex_bytes (sym (take-suc l i 0 h) ∙ ap (λ (n : ℕ). take n l) (sym (add-one i)))

pub hex_taken : (l : List ℕ) (i : ℕ) → i ≤ length l → length (hex_bytes (take i l)) ≡ 2 * i
hex_taken l i h = hex_length (take i l) ∙ ap (λ (n : ℕ). 2 * n) (length-take-le i l h)

-- ---- decimal
-- a number below ten is one digit; another has those of its tenth, and one more
split-ten : (n k : ℕ) → 10 ≤ n → decimal_within (suc k) n ≡ decimal_within k (n / 10) ++ (glyph (n % 10) ∷ [])
unfolding decimal_within
split-ten n k h =
    ap (λ (t : Bool). cond t (glyph n ∷ []) (decimal_within k (n / 10) ++ (glyph (n % 10) ∷ []))) (le-ltb n 10 h)

one-digit : (n k : ℕ) → n < 10 → decimal_within k n ≡ glyph n ∷ []
unfolding decimal_within
one-digit n zero h = refl
one-digit n (suc k) h =
    ap (λ (t : Bool). cond t (glyph n ∷ []) (decimal_within k (n / 10) ++ (glyph (n % 10) ∷ []))) (lt-ltb n 10 h)

-- the bound on the recursion does not matter where it is at least the number
bound-more : (k n : ℕ) → n ≤ k → decimal_within k n ≡ decimal_within (suc k) n
bound-more zero n h = one-digit n zero (omega arith) ∙ sym (one-digit n 1 (omega arith))
bound-more (suc k) n h =
    ⊎_elim (λ (p : n < 10). one-digit n (suc k) p ∙ sym (one-digit n (suc (suc k)) p))
    (λ (p : 10 ≤ n).
    split-ten n k p ∙ ap (λ (t : List ℕ). t ++ (glyph (n % 10) ∷ [])) (bound-more k (n / 10) (omega arith))
    ∙ sym (split-ten n (suc k) p))
    (lt-or-ge n 10)

bound-any : (k n : ℕ) → n ≤ k → decimal_within k n ≡ decimal n
unfolding decimal
bound-any zero n h = ap (λ (m : ℕ). decimal_within m n) (omega arith)
bound-any (suc k) n h =
    by-eq _ n (suc k) (λ e. ap (λ (m : ℕ). decimal_within m n) (sym e))
    (λ d. sym (bound-more k n (omega arith)) ∙ bound-any k n (omega arith))

pub decimal_small : (n : ℕ) → n < 10 → decimal n ≡ glyph n ∷ []
unfolding decimal
decimal_small n h = one-digit n n h

pub decimal_more : (n : ℕ) → 10 ≤ n → decimal n ≡ decimal (n / 10) ++ (glyph (n % 10) ∷ [])
decimal_more n h =
    sym (bound-any (suc n) n (omega arith)) ∙ split-ten n n h
    ∙ ap (λ (t : List ℕ). t ++ (glyph (n % 10) ∷ [])) (bound-any n (n / 10) (omega arith))

-- ---- how many digits
pub length_small : (n : ℕ) → n < 10 → length (decimal n) ≡ 1
length_small n h = ap length (decimal_small n h)

pub length_more : (n : ℕ) → 10 ≤ n → length (decimal n) ≡ length (decimal (n / 10)) + 1
length_more n h = ap length (decimal_more n h) ∙ length-append (decimal (n / 10)) (glyph (n % 10) ∷ [])

tens : ℕ → ℕ
tens zero = 10
tens (suc k) = 10 * tens k

decimal-length : (k n : ℕ) → n < tens k → length (decimal n) ≤ suc k
unfolding tens
decimal-length zero n h = omega (arith, length_small n h)
decimal-length (suc k) n h =
    ⊎_elim (λ (p : n < 10). omega (arith, length_small n p))
    (λ (p : 10 ≤ n). omega (arith, length_more n p, decimal-length k (n / 10) (omega arith)))
    (lt-or-ge n 10)

-- a number of 64 bits has at most 20 digits, one of 16 bits at most five, one of 8 bits at most three
pub length_64 : (n : ℕ) → n < 18446744073709551616 → length (decimal n) ≤ 20
unfolding tens
length_64 n h = decimal-length 19 n (omega arith)

pub length_16 : (n : ℕ) → n < 65536 → length (decimal n) ≤ 5
unfolding tens
length_16 n h = decimal-length 4 n (omega arith)

pub length_8 : (n : ℕ) → n < 256 → length (decimal n) ≤ 3
unfolding tens
length_8 n h = decimal-length 2 n (omega arith)
