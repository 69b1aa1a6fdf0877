-- Laws of stamps. A stamp is told by its bytes (`stamp-back`) and by the test (`same-stamp`). An image with a stamp, or with those of the cards that a
-- mask names, has the stamp's bytes at their ends and is else as it was (`stamps-in`, `stamps-out`): a card's end lies in no other card's table, so each
-- card added leaves the ends before it alone. Assumes nothing.
use mathlib.Core.Path.{◌≡◌, refl, sym, ap, ap₂, ◌∙◌}
use mathlib.Core.Logic.{◌⊎◌, inl, inr, ⊎_elim}
use mathlib.Core.Bool.{Bool, true, false, ◌&&◌, cond}
use mathlib.Core.List.{List, [], ◌∷◌}
use Prim.Native.Nat.{ℕ, zero, suc, ◌+◌, ◌≤◌, ◌<◌}
use native.Mathlib.Omega.{arith}
use lib.Dec.{eqb}
use lib.ListN.{get_or, length}
use borrow.Author.Tests.{eq-eqb, eqb-true, lt-ltb, le-ltb}
use Rattle.lists.specs.Tabulate.{tabulate}
use Rattle.lists.proofs.Bools.{and_in, and_l, and_r, eqb-self, split, tf}
use Rattle.lists.proofs.Cases.{lt-eq-gt, lt-or-ge}
use Rattle.lists.proofs.Tabulate.{at-tabulate, length-tabulate}
use Rattle.image.specs.Layout.{block_count, card_count, control_size, end_start, stamp_size, tail_start}
use Rattle.image.specs.Parts.{Whole, block_at, control_bytes}
use Rattle.image.proofs.Ends.{control-put-end, put-end-block, put-end-in, put-end-out, whole-put-end}
use Rattle.mask.specs.Masks.{Byte, has_card}
use Rattle.control.specs.ControlBytes.{serial_size, tail_at}
use Rattle.control.specs.Serials.{serial_bound, serial_byte, serial_in}
use Rattle.control.specs.Stamps.{Stamp, no_stamp, put_stamp, put_stamps, same_stamp, stamp_byte, stamp_in}
use Rattle.control.proofs.SerialLaws.{serial-back, serial-byte-small, serial-same}

-- ---- bytes
pub stamp-byte-small : (m : Stamp) → m.mask < 256 → (j : ℕ) → stamp_byte m j < 256
unfolding stamp_byte
stamp-byte-small m h j = go (lt-or-ge j serial_size)
  where
    go : (j < serial_size) ⊎ (serial_size ≤ j) → stamp_byte m j < 256
    go (inl p) = rw (lt-ltb j serial_size p) (serial-byte-small m.serial j)
    go (inr p) = rw (le-ltb j serial_size p) h

pub stamp-back : (m : Stamp) → m.serial < serial_bound → stamp_in (stamp_byte m) ≡ m
unfolding stamp_byte
stamp-back m h = ap (λ (ν : ℕ). record { serial = ν; mask = m.mask }) (serial-back m.serial h)

-- Four bytes tell the stamp; zero bytes are that of a card that was fitted.
pub stamp-same : (e f : ℕ → ℕ) → ((j : ℕ) → j < stamp_size → e j ≡ f j) → stamp_in e ≡ stamp_in f
stamp-same e f same = λ i. record { serial = serial-same e f (λ j h. same j (omega arith)) i; mask = same serial_size (omega arith) i }

pub stamp-zero : (e : ℕ → ℕ) → ((j : ℕ) → j < stamp_size → e j ≡ 0) → stamp_in e ≡ no_stamp
stamp-zero e zeros = stamp-same e (λ j. 0) zeros

-- The bytes as the code writes them: those of the serial, and the mask.
pub stamp-row : (first : List ℕ) (m : Stamp) → first ≡ tabulate serial_size (serial_byte m.serial)
    → (get_or first 0 0 ∷ get_or first 1 0 ∷ get_or first 2 0 ∷ m.mask ∷ []) ≡ tabulate stamp_size (stamp_byte m)
unfolding tabulate stamp_byte
stamp-row first m e = ap (λ (l : List ℕ). get_or l 0 0 ∷ get_or l 1 0 ∷ get_or l 2 0 ∷ m.mask ∷ []) e

-- ---- the test
pub same_refl : (m : Stamp) → same_stamp m m ≡ true
unfolding same_stamp
same_refl m = and_in (eqb m.serial m.serial) (eqb m.mask m.mask) (eqb-self m.serial) (eqb-self m.mask)

pub same-stamp : (m n : Stamp) → same_stamp m n ≡ true → m ≡ n
unfolding same_stamp
same-stamp m n e = λ i. record {
  serial = eqb-true m.serial n.serial (and_l (eqb m.serial n.serial) (eqb m.mask n.mask) e) i;
  mask = eqb-true m.mask n.mask (and_r (eqb m.serial n.serial) (eqb m.mask n.mask) e) i;
}

-- As the code tests it: the serial, and the mask.
pub stamp-test : (e : ℕ → ℕ) (ν b : ℕ) (m : Stamp) → ν ≡ serial_in e → b ≡ e serial_size → (eqb ν m.serial && eqb b m.mask) ≡ same_stamp (stamp_in e) m
unfolding same_stamp
stamp-test e ν b m is its = ap₂ (λ (x y : ℕ). eqb x m.serial && eqb y m.mask) is its

-- With the same serial the mask decides.
pub by_mask_lem : (e : ℕ → ℕ) (ν b : ℕ) (m : Stamp) → ν ≡ serial_in e → ν ≡ m.serial → b ≡ e serial_size → eqb b m.mask ≡ same_stamp (stamp_in e) m
unfolding same_stamp
by_mask_lem e ν b m is same its = rw (eq-eqb (serial_in e) m.serial (sym is ∙ same), its)

-- ---- the stamp of one card
module _ (g : List ℕ) (w : Whole g) (c : ℕ) (hc : c < card_count) (m : Stamp) where
  abbrev bytes : List ℕ
  bytes = tabulate stamp_size (stamp_byte m)

  long : length bytes ≡ stamp_size
  long = length-tabulate stamp_size (stamp_byte m)

  pub whole-stamp : Whole (put_stamp g c m)
  unfolding put_stamp
  whole-stamp = whole-put-end g w c hc bytes long

  pub stamp-in : (j : ℕ) → j < stamp_size → get_or (put_stamp g c m) (end_start c + j) 0 ≡ stamp_byte m j
  unfolding put_stamp
  stamp-in j h = put-end-in g w c hc bytes long j h ∙ at-tabulate stamp_size (stamp_byte m) j h

  pub stamp-out : (n : ℕ) → (n < end_start c) ⊎ (end_start c + stamp_size ≤ n) → get_or (put_stamp g c m) n 0 ≡ get_or g n 0
  unfolding put_stamp
  stamp-out n o = put-end-out g w c hc bytes long n o

  pub stamp-block : (d : ℕ) → d < card_count → (b : ℕ) → b < block_count → block_at (put_stamp g c m) d b ≡ block_at g d b
  unfolding put_stamp
  stamp-block d hd b hb = put-end-block g w c hc bytes long d hd b hb

  pub stamp-control : control_bytes (put_stamp g c m) ≡ control_bytes g
  unfolding put_stamp
  stamp-control = control-put-end g w c hc bytes long

-- ---- the stamps of the cards that a mask names
module _ (g : List ℕ) (w : Whole g) (cards : Byte) (m : Stamp) where
  -- one card more, by whether it is named
  more : (n : ℕ) (q : List ℕ → Type 0) → (has_card cards n ≡ true → q (put_stamp (put_stamps g cards m n) n m))
      → (has_card cards n ≡ false → q (put_stamps g cards m n)) → q (put_stamps g cards m (suc n))
  unfolding put_stamps
  more n q named other = go (has_card cards n) named other
    where
      go : (b : Bool) → (b ≡ true → q (put_stamp (put_stamps g cards m n) n m)) → (b ≡ false → q (put_stamps g cards m n))
          → q (cond b (put_stamp (put_stamps g cards m n) n m) (put_stamps g cards m n))
      go true y z = y refl
      go false y z = z refl

  pub whole-stamps : (n : ℕ) → n ≤ card_count → Whole (put_stamps g cards m n)
  unfolding put_stamps
  whole-stamps zero h = w
  whole-stamps (suc n) h =
      let v = whole-stamps n (omega arith) in
      more n Whole (λ e. whole-stamp (put_stamps g cards m n) v n (omega arith) m) (λ e. v)

  -- A byte that is in no end of a named card is as it was.
  pub stamps-out : (n : ℕ) → n ≤ card_count → (x : ℕ) → ((c : ℕ) → c < n → has_card cards c ≡ true → (x < end_start c) ⊎ (end_start c + stamp_size ≤ x))
      → get_or (put_stamps g cards m n) x 0 ≡ get_or g x 0
  unfolding put_stamps
  stamps-out zero h x out = refl
  stamps-out (suc n) h x out =
      let v = whole-stamps n (omega arith) in
      let before = stamps-out n (omega arith) x (λ c k e. out c (omega arith) e) in
      more n (λ (l : List ℕ). get_or l x 0 ≡ get_or g x 0)
      (λ e. stamp-out (put_stamps g cards m n) v n (omega arith) m x (out n (omega arith) e) ∙ before) (λ e. before)

  -- At the end of a named card is the stamp.
  pub stamps-in : (n : ℕ) → n ≤ card_count → (c : ℕ) → c < n → has_card cards c ≡ true → (j : ℕ) → j < stamp_size
      → get_or (put_stamps g cards m n) (end_start c + j) 0 ≡ stamp_byte m j
  stamps-in zero h c k e j b = absurd (omega arith)
  stamps-in (suc n) h c k e j b = ⊎_elim (λ p. old p (stamps-in n (omega arith) c p e j b)) new (lt-or-ge c n)
    where
      v : Whole (put_stamps g cards m n)
      v = whole-stamps n (omega arith)

      old : c < n → get_or (put_stamps g cards m n) (end_start c + j) 0 ≡ stamp_byte m j → get_or (put_stamps g cards m (suc n)) (end_start c + j) 0 ≡ stamp_byte m j
      old p before = more n (λ (l : List ℕ). get_or l (end_start c + j) 0 ≡ stamp_byte m j)
          (λ f. stamp-out (put_stamps g cards m n) v n (omega arith) m (end_start c + j) (inl (omega arith)) ∙ before) (λ f. before)

      new : n ≤ c → get_or (put_stamps g cards m (suc n)) (end_start c + j) 0 ≡ stamp_byte m j
      new p =
          let s : n ≡ c = omega arith in
          more n (λ (l : List ℕ). get_or l (end_start c + j) 0 ≡ stamp_byte m j)
          (λ f. ap (λ (d : ℕ). get_or (put_stamp (put_stamps g cards m n) n m) (end_start d + j) 0) (sym s) ∙ stamp-in (put_stamps g cards m n) v n (omega arith) m j b)
          (λ f. tf (has_card cards n) (ap (has_card cards) s ∙ e) f)

  -- At the end of another card are its bytes as they were.
  pub stamps-kept : (c : ℕ) → c < card_count → has_card cards c ≡ false → (j : ℕ) → j < stamp_size
      → get_or (put_stamps g cards m card_count) (end_start c + j) 0 ≡ get_or g (end_start c + j) 0
  stamps-kept c k e j b = stamps-out card_count (omega arith) (end_start c + j) (λ d h f. apart d h f (lt-eq-gt c d))
    where
      apart : (d : ℕ) → d < card_count → has_card cards d ≡ true → (c < d) ⊎ ((c ≡ d) ⊎ (d < c)) → (end_start c + j < end_start d) ⊎ (end_start d + stamp_size ≤ end_start c + j)
      apart d h f (inl p) = inl (omega arith)
      apart d h f (inr (inl p)) = tf (has_card cards c) (ap (has_card cards) p ∙ f) e
      apart d h f (inr (inr p)) = inr (omega arith)

  -- The stamp that a card shows.
  pub stamps-shown : m.serial < serial_bound → (c : ℕ) → c < card_count
      → stamp_in (λ j. get_or (put_stamps g cards m card_count) (end_start c + j) 0) ≡ cond (has_card cards c) m (stamp_in (λ j. get_or g (end_start c + j) 0))
  stamps-shown small c k = go (split (has_card cards c))
    where
      go : (has_card cards c ≡ true) ⊎ (has_card cards c ≡ false)
          → stamp_in (λ j. get_or (put_stamps g cards m card_count) (end_start c + j) 0) ≡ cond (has_card cards c) m (stamp_in (λ j. get_or g (end_start c + j) 0))
      go (inl e) = stamp-same (λ j. get_or (put_stamps g cards m card_count) (end_start c + j) 0) (stamp_byte m) (stamps-in card_count (omega arith) c k e)
          ∙ stamp-back m small ∙ sym (ap (λ (b : Bool). cond b m (stamp_in (λ j. get_or g (end_start c + j) 0))) e)
      go (inr e) = stamp-same (λ j. get_or (put_stamps g cards m card_count) (end_start c + j) 0) (λ j. get_or g (end_start c + j) 0) (stamps-kept c k e)
          ∙ sym (ap (λ (b : Bool). cond b m (stamp_in (λ j. get_or g (end_start c + j) 0))) e)

  -- Blocks, the control bytes and the bytes behind the tables are as they were.
  pub stamps-block : (n : ℕ) → n ≤ card_count → (d : ℕ) → d < card_count → (b : ℕ) → b < block_count → block_at (put_stamps g cards m n) d b ≡ block_at g d b
  unfolding put_stamps
  stamps-block zero h d hd b hb = refl
  stamps-block (suc n) h d hd b hb =
      let v = whole-stamps n (omega arith) in
      let before = stamps-block n (omega arith) d hd b hb in
      more n (λ (l : List ℕ). block_at l d b ≡ block_at g d b)
      (λ e. stamp-block (put_stamps g cards m n) v n (omega arith) m d hd b hb ∙ before) (λ e. before)

  pub stamps-control : (x : ℕ) → x < control_size → get_or (put_stamps g cards m card_count) x 0 ≡ get_or g x 0
  stamps-control x h = stamps-out card_count (omega arith) x (λ c k e. inl (omega arith))

  pub stamps-tail : (x : ℕ) → tail_at (put_stamps g cards m card_count) x ≡ tail_at g x
  stamps-tail x = stamps-out card_count (omega arith) (tail_start + x) (λ c k e. inr (omega arith))

-- As the code writes them, card after card.
pub stamps-start : (g : List ℕ) (cards : Byte) (m : Stamp) → g ≡ put_stamps g cards m 0
unfolding put_stamps
stamps-start g cards m = refl

pub stamps-turn : (g : List ℕ) (cards : Byte) (m : Stamp) (n : ℕ) (l r : List ℕ) → l ≡ put_stamps g cards m n → r ≡ cond (has_card cards n) (put_stamp l n m) l
    → r ≡ put_stamps g cards m (n + 1)
unfolding put_stamps
stamps-turn g cards m n l r e t =
    let s : suc n ≡ n + 1 = omega arith in
    t ∙ ap (λ (x : List ℕ). cond (has_card cards n) (put_stamp x n m) x) e ∙ ap (put_stamps g cards m) s
