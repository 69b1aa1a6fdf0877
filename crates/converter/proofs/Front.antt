-- The bytes before the tables of an image from before A.7, with the serial that they get: they are the bytes, but for the three of the serial. Assumes
-- nothing.
use mathlib.Core.Path.{◌≡◌, ap, sym, ◌∙◌}
use mathlib.Core.Bool.{Bool, ◌&&◌, false, true}
use mathlib.Core.List.{List}
use Prim.Native.Nat.{ℕ, ◌+◌, ◌-◌, ◌<◌, ◌≤◌}
use native.Mathlib.Omega.{arith}
use lib.Dec.{leb, ltb}
use lib.ListN.{get_or, length}
use lib.Seq.{ext_get_or}
use borrow.Author.Tests.{le-leb, le-ltb, lt-leb, lt-ltb}
use Rattle.lists.specs.Segments.{segment, splice}
use Rattle.lists.specs.Tabulate.{tabulate}
use Rattle.lists.proofs.Cases.{by_place}
use Rattle.lists.proofs.Segments.{get_or-after, get_or-before, get_or-in, get_or-segment, length-segment, length-splice}
use Rattle.lists.proofs.Tabulate.{at-tabulate, length-tabulate}
use Rattle.image.specs.Layout.{control_size}
use Rattle.control.specs.ControlBytes.{serial_at, serial_end, serial_size}
use Rattle.control.specs.Serials.{serial_byte}
use Rattle.control.proofs.SerialLaws.{serial-byte-small}
use Rattle.cabinet_rules.specs.Retired.{converted_serial}
use Rattle.converter.specs.Steps.{shown_front}

-- Whether byte n is the serial's.
abbrev pub is_serials : ℕ → Bool
is_serials n = leb serial_at n && ltb n serial_end

before-serial : (n : ℕ) → n < serial_at → is_serials n ≡ false
before-serial n h = rw (lt-leb serial_at n h)

pub in-serial : (n : ℕ) → serial_at ≤ n → n < serial_end → is_serials n ≡ true
in-serial n l h = rw (le-leb serial_at n l, lt-ltb n serial_end h)

behind-serial : (n : ℕ) → serial_end ≤ n → is_serials n ≡ false
behind-serial n h = rw (le-leb serial_at n (omega arith), le-ltb n serial_end h)

-- What holds of a byte that is the serial's, and of one that is not, holds of every byte.
pub by-serial : (q : ℕ → Type 0) (n : ℕ) → (is_serials n ≡ true → serial_at ≤ n → n < serial_end → q n) → (is_serials n ≡ false → q n) → q n
by-serial q n own other = by_place (q n) n serial_at serial_size (λ h. other (before-serial n h)) (λ l h. own (in-serial n l h) l h) (λ h. other (behind-serial n h))

module _ (g : ℕ → ℕ) where
  shown-own : (n : ℕ) → is_serials n ≡ true → shown_front g n ≡ serial_byte converted_serial (n - serial_at)
  shown-own n e = rw e

  shown-other : (n : ℕ) → is_serials n ≡ false → shown_front g n ≡ g n
  shown-other n e = rw e

  pub shown-before : (n : ℕ) → n < serial_at → shown_front g n ≡ g n
  shown-before n h = shown-other n (before-serial n h)

  pub shown-small : ((n : ℕ) → g n < 256) → (n : ℕ) → shown_front g n < 256
  shown-small bytes n = by-serial (λ n. shown_front g n < 256) n (λ i a b. rw (shown-own n i) (serial-byte-small converted_serial (n - serial_at)))
      (λ i. rw (shown-other n i) (bytes n))

-- As the code writes them: the bytes of the image, and the serial's over them.
module _ (l z xs : List ℕ) (long : control_size ≤ length l) (room : length z ≡ control_size) (is : xs ≡ tabulate serial_size (serial_byte converted_serial)) where
  abbrev g : ℕ → ℕ
  g n = get_or l n 0

  abbrev front : List ℕ
  front = segment l 0 control_size

  abbrev copied : List ℕ
  copied = splice z 0 front

  length_front : length front ≡ control_size
  length_front = length-segment l 0 control_size long

  length-copied : length copied ≡ control_size
  length-copied = length-splice z 0 front (omega (arith, length_front, room)) ∙ room

  at-copied : (n : ℕ) → n < control_size → get_or copied n 0 ≡ g n
  at-copied n h =
      let e : 0 + (n - 0) ≡ n = omega arith in
      get_or-in z 0 front n (omega (arith, length_front, room)) (omega arith) (omega (arith, length_front))
      ∙ get_or-segment l 0 control_size (n - 0) (omega arith) ∙ ap g e

  length-serial : length xs ≡ serial_size
  length-serial = ap length is ∙ length-tabulate serial_size (serial_byte converted_serial)

  fits : serial_at + length xs ≤ length copied
  fits = omega (arith, length-serial, length-copied)

  pub numbered_is : splice copied serial_at xs ≡ tabulate control_size (shown_front g)
  numbered_is = ext_get_or 0 (splice copied serial_at xs) (tabulate control_size (shown_front g)) (all ∙ sym (length-tabulate control_size (shown_front g)))
      (λ n h. each n (omega (arith, all)) ∙ sym (at-tabulate control_size (shown_front g) n (omega (arith, all))))
    where
      all : length (splice copied serial_at xs) ≡ control_size
      all = length-splice copied serial_at xs fits ∙ length-copied

      each : (n : ℕ) → n < control_size → get_or (splice copied serial_at xs) n 0 ≡ shown_front g n
      each n h = by_place (get_or (splice copied serial_at xs) n 0 ≡ shown_front g n) n serial_at serial_size
          (λ p. get_or-before copied serial_at xs n fits p ∙ at-copied n h ∙ sym (shown-before g n p))
          (λ p q. get_or-in copied serial_at xs n fits p (omega (arith, length-serial)) ∙ ap (λ (x : List ℕ). get_or x (n - serial_at) 0) is
          ∙ at-tabulate serial_size (serial_byte converted_serial) (n - serial_at) (omega arith) ∙ sym (shown-own g n (in-serial n p q)))
          (λ p. get_or-after copied serial_at xs n fits (omega (arith, length-serial)) ∙ at-copied n h ∙ sym (shown-other g n (behind-serial n p)))
