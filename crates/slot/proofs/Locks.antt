-- The locks of a block's slots. One byte shows whether a set of transactions has a slot's lock. The eight locks joined
-- bit by bit show more: they are 0 where nothing is locked; and a lock that the set has also has the bits that all numbers
-- of the set share, and so have the locks joined. Assumes nothing.
use mathlib.Core.Path.{◌≡◌, ap, ap₂, refl, sym, ◌∙◌}
use mathlib.Core.Logic.{◌⊎◌, ◌≢◌, inl, inr, ⊎_elim}
use mathlib.Core.Bool.{Bool, true, false, not, ◌&&◌, ◌||◌, cond}
use mathlib.Core.List.{List}
use Prim.Native.Nat.{ℕ, zero, suc, ◌+◌, ◌*◌, ◌-◌, ◌/◌, ◌%◌, ◌^◌, ◌≤◌, ◌<◌, min}
use native.Mathlib.Nat.{div-add-mod', div-div-eq-div-mul, div-eq_of_lt, mul-add-div, mul_assoc, two-pow-succ, zero-min}
use native.Mathlib.Omega.{arith}
use lib.Arith.{bin_ind}
use lib.Bits.{and_comm, and_mod, and_self, and_shr, and_step, and_zero_r, bit_and, bit_or, or_comm, or_mod, or_shr}
use lib.Dec.{eqb}
use lib.ListN.{get_or}
use lib.Pow.{pow-add, pow_pos}
use borrow.Author.Tests.{eq-eqb, eqb-false, eqb-true, ne_eqb}
use Rattle.lists.specs.Tests.{all_below}
use Rattle.lists.proofs.Bools.{and_in, and_l, and_r, imp, imp-out, is-not, never_true, not_is, not-not-is, split}
use Rattle.lists.proofs.Cases.{lt-or-ge}
use Rattle.lists.proofs.Counts.{any-below-out, below_all, below_none, none_below}
use Rattle.image.specs.Layout.{slot_count, slot_size}
use Rattle.slot.specs.Blocks.{BlockBytes, some_locked, any_picked, in_set, is_locked, is_picked, joined, joined_locks, lacking, of_list, shared_bit, shared_bits, slot_at, word_at}
use Rattle.slot.proofs.Steps.{lock-of-list}
use Rattle.slot.proofs.Words.{slot-in-range}

-- ---- a set of 16 bits that stands in both halves of 32
even : (z s : ℕ) → (2 * z + s) % 2 ≡ s % 2
even z s = omega arith

low_half : (set q : ℕ) → q < 16 → set * 65537 / 2 ^ q % 2 ≡ set / 2 ^ q % 2
low_half set q h =
    ap (λ (m : ℕ). m / 2 ^ q % 2) (halves ∙ ap (λ (m : ℕ). m + set) (ap (λ (m : ℕ). m * set) split ∙ mul_assoc (2 ^ q) (2 * x) set))
    ∙ ap (λ (m : ℕ). m % 2) (mul-add-div (pow_pos q) (2 * x * set) set)
    ∙ ap (λ (m : ℕ). (m + set / 2 ^ q) % 2) (mul_assoc 2 x set)
    ∙ even (x * set) (set / 2 ^ q)
  where
    x : ℕ
    x = 2 ^ (16 - q - 1)

    halves : set * 65537 ≡ 2 ^ 16 * set + set
    halves = omega arith

    parts : 16 ≡ q + (1 + (16 - q - 1))
    parts = omega arith

    split : 2 ^ 16 ≡ 2 ^ q * (2 * x)
    split = ap (λ (m : ℕ). 2 ^ m) parts ∙ pow-add 2 q (1 + (16 - q - 1)) ∙ ap (λ (m : ℕ). 2 ^ q * m) (pow-add 2 1 (16 - q - 1))

high_half : (set l : ℕ) → set < 2 ^ 16 → set * 65537 / 2 ^ (16 + l) ≡ set / 2 ^ l
high_half set l h =
    let one : set * 65537 / 2 ^ 16 ≡ set = omega arith in
    ap (λ (m : ℕ). set * 65537 / m) (pow-add 2 16 l) ∙ sym (div-div-eq-div-mul (set * 65537) (2 ^ 16) (2 ^ l)) ∙ ap (λ (m : ℕ). m / 2 ^ l) one

twice-bit : (set q : ℕ) → set < 2 ^ 16 → q < 32 → eqb (set * 65537 / 2 ^ q % 2) 1 ≡ in_set set (q % 16)
unfolding in_set
twice-bit set q hs hq = ap (λ (m : ℕ). eqb m 1) (⊎_elim
    (λ (p : q < 16).
    let e : q ≡ q % 16 = omega arith in
    low_half set q p ∙ ap (λ (n : ℕ). set / 2 ^ n % 2) e)
    (λ (p : 16 ≤ q).
    let e : q ≡ 16 + q % 16 = omega arith in
    ap (λ (n : ℕ). set * 65537 / 2 ^ n % 2) e ∙ ap (λ (m : ℕ). m % 2) (high_half set (q % 16) hs))
    (lt-or-ge q 16))

pub picked-of-list : (l : List ℕ) (i set : ℕ) → i < slot_count → set < 2 ^ 16 → get_or l (3 + i * slot_size) 0 < 256
    → eqb (set * 65537 / 2 ^ (get_or l (3 + i * slot_size) 0 / 8) % 2) 1 ≡ is_picked (in_set set) (of_list l) i
picked-of-list l i set hi hs hb =
    twice-bit set (get_or l (3 + i * slot_size) 0 / 8) hs (omega arith) ∙ ap (in_set set) (lock-of-list l i hi hb)

-- ---- all bits of a number are bits of another: digit by digit
abbrev Within : ℕ → ℕ → Type 0
Within a b = bit_and a b ≡ a

digits-is : {a b c d : ℕ} → a ≡ b → c ≡ d → a * 2 + c ≡ b * 2 + d
digits-is p q = ap₂ (λ (x y : ℕ). x * 2 + y) p q

or-digit : (x y : ℕ) → x < 2 → y < 2 → min x (bit_or x y) ≡ x
or-digit zero y hx hy = zero-min y
or-digit (suc zero) zero hx hy = refl
or-digit (suc zero) (suc zero) hx hy = refl
or-digit (suc zero) (suc (suc y)) hx hy = absurd (omega arith)
or-digit (suc (suc x)) y hx hy = absurd (omega arith)

within-or-l : (a b : ℕ) → Within a (bit_or a b)
within-or-l a = bin_ind (λ (n : ℕ). (b : ℕ) → Within n (bit_or n b)) (λ b. refl) (λ n ih b.
    and_step n (bit_or n b)
    ∙ digits-is (ap (bit_and (n / 2)) (or_shr n b 1) ∙ ih (b / 2)) (ap (min (n % 2)) (or_mod n b 1) ∙ or-digit (n % 2) (b % 2) (omega arith) (omega arith))
    ∙ div-add-mod' n 2) a

within-or-r : (a b : ℕ) → Within b (bit_or a b)
within-or-r a b = ap (bit_and b) (or_comm a b) ∙ within-or-l b a

chain-digit : (x y z : ℕ) → x < 2 → y < 2 → z < 2 → Within x y → Within y z → min x z ≡ x
chain-digit zero y z hx hy hz p q = zero-min z
chain-digit (suc zero) zero z hx hy hz p q = absurd (omega arith)
chain-digit (suc zero) (suc zero) zero hx hy hz p q = absurd (omega arith)
chain-digit (suc zero) (suc zero) (suc zero) hx hy hz p q = refl
chain-digit (suc zero) (suc zero) (suc (suc z)) hx hy hz p q = absurd (omega arith)
chain-digit (suc zero) (suc (suc y)) z hx hy hz p q = absurd (omega arith)
chain-digit (suc (suc x)) y z hx hy hz p q = absurd (omega arith)

within-half : (a b : ℕ) → Within a b → Within (a / 2) (b / 2)
within-half a b p = sym (and_shr a b 1) ∙ ap (λ (m : ℕ). m / 2) p

within-odd : (a b : ℕ) → Within a b → Within (a % 2) (b % 2)
within-odd a b p = sym (and_mod a b 1) ∙ ap (λ (m : ℕ). m % 2) p

within-chain : (a b c : ℕ) → Within a b → Within b c → Within a c
within-chain a = bin_ind (λ (n : ℕ). (b c : ℕ) → Within n b → Within b c → Within n c) (λ b c p q. refl) (λ n ih b c p q.
    and_step n c
    ∙ digits-is (ih (b / 2) (c / 2) (within-half n b p) (within-half b c q))
    (chain-digit (n % 2) (b % 2) (c % 2) (omega arith) (omega arith) (omega arith) (within-odd n b p) (within-odd b c q))
    ∙ div-add-mod' n 2) a

-- ---- numbers joined
-- The field of a byte that has the lock: the fields joined are the field of the bytes joined.
or-field : (a b : ℕ) → bit_or a b / 8 % 16 ≡ bit_or (a / 8 % 16) (b / 8 % 16)
or-field a b = ap (λ (m : ℕ). m % 16) (or_shr a b 3) ∙ or_mod (a / 8) (b / 8) 4

pub joined-field : (n : ℕ) (f g : ℕ → ℕ) → ((i : ℕ) → i < 2 ^ n → f i / 8 % 16 ≡ g i) → joined n f / 8 % 16 ≡ joined n g
unfolding joined
joined-field zero f g h = h 0 (omega arith)
joined-field (suc n) f g h = or-field (joined n f) (joined n (λ i. f (2 ^ n + i)))
    ∙ ap₂ bit_or (joined-field n f g (λ i p. h i (omega (arith, two-pow-succ n))))
    (joined-field n (λ i. f (2 ^ n + i)) (λ i. g (2 ^ n + i)) (λ i p. h (2 ^ n + i) (omega (arith, two-pow-succ n))))

joined-none : (n : ℕ) (f : ℕ → ℕ) → ((i : ℕ) → i < 2 ^ n → f i ≡ 0) → joined n f ≡ 0
unfolding joined
joined-none zero f h = h 0 (omega arith)
joined-none (suc n) f h = ap₂ bit_or (joined-none n f (λ i p. h i (omega (arith, two-pow-succ n))))
    (joined-none n (λ i. f (2 ^ n + i)) (λ i p. h (2 ^ n + i) (omega (arith, two-pow-succ n))))

joined-has : (n : ℕ) (f : ℕ → ℕ) (i : ℕ) → i < 2 ^ n → Within (f i) (joined n f)
unfolding joined
joined-has zero f i h =
    let z : i ≡ 0 = omega arith in
    rw z (and_self (f 0))
joined-has (suc n) f i h = ⊎_elim
    (λ (p : i < 2 ^ n). within-chain (f i) low (bit_or low high) (joined-has n f i p) (within-or-l low high))
    (λ (p : 2 ^ n ≤ i).
    let e : 2 ^ n + (i - 2 ^ n) ≡ i = omega arith in
    let k : ℕ = i - 2 ^ n in
    rw e at (within-chain (f (2 ^ n + k)) high (bit_or low high) (joined-has n (λ j. f (2 ^ n + j)) k (omega (arith, two-pow-succ n))) (within-or-r low high)))
    (lt-or-ge i (2 ^ n))
  where
    low : ℕ
    low = joined n f

    high : ℕ
    high = joined n (λ j. f (2 ^ n + j))

-- ---- the locks of a block, joined
module _ (x : BlockBytes) where
  abbrev lock : ℕ → ℕ
  lock i = (slot_at x i).lock

  -- the lock of each slot is within them
  lock-within : (i : ℕ) → i < slot_count → Within (lock i) (joined_locks x)
  unfolding joined_locks
  lock-within i h = joined-has 3 lock i h

  -- they are 0 where no slot is locked, and nowhere else
  pub no-lock : joined_locks x ≡ 0 → (i : ℕ) → i < slot_count → lock i ≡ 0
  no-lock e i h = sym (lock-within i h) ∙ ap (bit_and (lock i)) e ∙ and_zero_r (lock i)

  pub locked-joined : not (eqb (joined_locks x) 0) ≡ some_locked x
  unfolding some_locked joined_locks
  locked-joined = go (split (some_locked x))
    where
      go : (some_locked x ≡ true) ⊎ (some_locked x ≡ false) → not (eqb (joined_locks x) 0) ≡ some_locked x
      go (inl p) =
          let s = any-below-out slot_count (is_locked x) p in
          rw p (is-not (eqb (joined_locks x) 0) (ne_eqb (joined_locks x) 0 (λ e. eqb-false (lock s.0) 0 (not_is (eqb (lock s.0) 0) s.2) (no-lock e s.0 s.1))))
      go (inr p) = rw p (ap not (eq-eqb (joined_locks x) 0 (joined-none 3 lock (λ i h. eqb-true (lock i) 0 (not-not-is (eqb (lock i) 0) (below_none slot_count (is_locked x) i p h))))))

-- ---- the bits that every number of a set has
one-and : (y : ℕ) → y < 2 → bit_and 1 y ≡ 0 → y ≡ 0
one-and zero h e = refl
one-and (suc zero) h e = absurd (omega arith)
one-and (suc (suc y)) h e = absurd (omega arith)

-- Two sets that share no number: one that is in the first is not in the second.
apart : (set m t : ℕ) → bit_and set m ≡ 0 → in_set set t ≡ true → m / 2 ^ t % 2 ≡ 0
unfolding in_set
apart set m t z h = one-and (m / 2 ^ t % 2) (omega arith)
    (ap (λ (n : ℕ). bit_and n (m / 2 ^ t % 2)) (sym (eqb-true (set / 2 ^ t % 2) 1 h))
    ∙ sym (ap (λ (n : ℕ). n % 2) (and_shr set m t) ∙ and_mod (set / 2 ^ t) (m / 2 ^ t) 1)
    ∙ ap (λ (n : ℕ). n / 2 ^ t % 2) z ∙ ap (λ (n : ℕ). n % 2) (div-eq_of_lt (pow_pos t)))

abbrev all_bools : (Bool → Bool) → Bool
all_bools f = f true && f false

bools-all : (f : Bool → Bool) (p : Bool) → all_bools f ≡ true → f p ≡ true
bools-all f true h = and_l (f true) (f false) h
bools-all f false h = and_r (f true) (f false) h

-- The bit is not asked for, or t does not lack it.
abbrev bit_in : ℕ → ℕ → Bool → Bool
bit_in t bit p = not p || eqb (lacking bit / 2 ^ t % 2) 0

abbrev bits : Bool → Bool → Bool → Bool → ℕ
bits p q r s = cond p 1 0 + cond q 2 0 + cond r 4 0 + cond s 8 0

abbrev bits_in : ℕ → Bool → Bool → Bool → Bool → Bool
bits_in t p q r s = (bit_in t 1 p && bit_in t 2 q) && (bit_in t 4 r && bit_in t 8 s)

-- Numbers below 16 that lack none of the bits asked for have them all: a test over the number, and over each bit.
abbrev bits-test : ℕ → Bool → Bool → Bool → Bool → Bool
bits-test t p q r s = not (bits_in t p q r s) || eqb (bit_and (bits p q r s) t) (bits p q r s)

abbrev test-8 : ℕ → Bool → Bool → Bool → Bool
test-8 t p q r = all_bools (bits-test t p q r)

abbrev test-4 : ℕ → Bool → Bool → Bool
test-4 t p q = all_bools (test-8 t p q)

abbrev test-2 : ℕ → Bool → Bool
test-2 t p = all_bools (test-4 t p)

bits-tests : all_below 16 (λ t. all_bools (test-2 t)) ≡ true
bits-tests = refl

bits-within : (t : ℕ) → t < 16 → (p q r s : Bool) → bits_in t p q r s ≡ true → Within (bits p q r s) t
bits-within t h p q r s e =
    let one : test-2 t p ≡ true = bools-all (test-2 t) p (below_all 16 (λ t. all_bools (test-2 t)) t bits-tests h) in
    let all : bits-test t p q r s ≡ true = bools-all (bits-test t p q r) s (bools-all (test-8 t p q) r (bools-all (test-4 t p) q one)) in
    eqb-true (bit_and (bits p q r s) t) (bits p q r s) (imp-out (bits_in t p q r s) (eqb (bit_and (bits p q r s) t) (bits p q r s)) all e)

-- Every number of a set has the bits that the set shares.
shared-within : (set t : ℕ) → t < 16 → in_set set t ≡ true → Within (shared_bits set) t
unfolding shared_bits
shared-within set t ht h = bits-within t ht (no 1) (no 2) (no 4) (no 8)
    (and_in (has 1 && has 2) (has 4 && has 8) (and_in (has 1) (has 2) (is 1) (is 2)) (and_in (has 4) (has 8) (is 4) (is 8)))
  where
    no : ℕ → Bool
    no bit = eqb (bit_and set (lacking bit)) 0

    has : ℕ → Bool
    has bit = bit_in t bit (no bit)

    is : (bit : ℕ) → has bit ≡ true
    is bit = imp (no bit) (eqb (lacking bit / 2 ^ t % 2) 0)
        (λ e. eq-eqb (lacking bit / 2 ^ t % 2) 0 (apart set (lacking bit) t (eqb-true (bit_and set (lacking bit)) 0 e) h))

-- A bit that no number of the set lacks, and one that some number lacks.
pub shared-on : (set bit r : ℕ) → bit_and set (lacking bit) ≡ 0 → r ≡ bit → r ≡ shared_bit set bit
shared-on set bit r e q = q ∙ sym (rw (eq-eqb (bit_and set (lacking bit)) 0 e))

pub shared-off : (set bit r : ℕ) → bit_and set (lacking bit) ≢ 0 → r ≡ 0 → r ≡ shared_bit set bit
shared-off set bit r d q = q ∙ sym (rw (ne_eqb (bit_and set (lacking bit)) 0 d))

-- The four bits, found one by one.
pub shared-sum : (set a b c d : ℕ) → a ≡ shared_bit set 1 → b ≡ shared_bit set 2 → c ≡ shared_bit set 4 → d ≡ shared_bit set 8 → a + b + c + d ≡ shared_bits set
unfolding shared_bits
shared-sum set a b c d p q r s = λ i. p i + q i + r i + s i

-- ---- what one look at all locks shows: no transaction of the set locks a slot
pub none-picked : (set : ℕ) (x : BlockBytes) → set % 2 ≡ 0 → ((i : ℕ) → i < slot_count → (slot_at x i).lock ≡ 0) → any_picked (in_set set) x ≡ false
unfolding any_picked in_set
none-picked set x e h =
    let z : set / 2 ^ 0 % 2 ≡ 0 = omega arith in
    none_below slot_count (is_picked (in_set set) x) (λ i p. ap (in_set set) (h i p) ∙ ap (λ (m : ℕ). eqb m 1) z)

pub bits-missing : (set : ℕ) (x : BlockBytes) → eqb (bit_and (joined_locks x) (shared_bits set)) (shared_bits set) ≡ false → any_picked (in_set set) x ≡ false
unfolding any_picked
bits-missing set x d = none_below slot_count (is_picked (in_set set) x) (λ i h. never_true (in_set set (lock x i)) (λ p.
    eqb-false (bit_and (joined_locks x) (shared_bits set)) (shared_bits set) d
    (and_comm (joined_locks x) (shared_bits set)
    ∙ within-chain (shared_bits set) (lock x i) (joined_locks x) (shared-within set (lock x i) (slot-in-range (word_at x i)).lock-fits p) (lock-within x i h))))
