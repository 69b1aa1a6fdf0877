-- Laws of serials: a serial is the number that its three bytes show, and three bytes are those of the serial that they show. Assumes nothing.
use mathlib.Core.Path.{◌≡◌, sym, ap, ◌∙◌}
use mathlib.Core.List.{List}
use Prim.Native.Nat.{ℕ, zero, suc, ◌+◌, ◌*◌, ◌/◌, ◌<◌}
use native.Mathlib.Nat.{add-zero}
use native.Mathlib.Omega.{arith}
use lib.ListN.{get_or}
use Rattle.control.specs.ControlBytes.{serial_size}
use Rattle.control.specs.Serials.{serial_bound, serial_byte, serial_in}

pub serial-byte-small : (ν j : ℕ) → serial_byte ν j < 256
serial-byte-small ν zero = omega arith
serial-byte-small ν (suc zero) = omega arith
serial-byte-small ν (suc (suc j)) = omega arith

pub serial-back : (ν : ℕ) → ν < serial_bound → serial_in (serial_byte ν) ≡ ν
serial-back ν h =
    let d : ν / 65536 ≡ ν / 256 / 256 = omega arith in
    omega arith

-- Three bytes tell the serial.
pub serial-same : (e f : ℕ → ℕ) → ((j : ℕ) → j < serial_size → e j ≡ f j) → serial_in e ≡ serial_in f
serial-same e f same = rw (same 0 (omega arith), same 1 (omega arith), same 2 (omega arith))

module _ (f : ℕ → ℕ) (small : (j : ℕ) → f j < 256) where
  pub serial-small : serial_in f < serial_bound
  serial-small = omega (arith, small 0, small 1, small 2)

  pub serial-byte-back : (j : ℕ) → j < serial_size → serial_byte (serial_in f) j ≡ f j
  serial-byte-back zero h = omega (arith, small 0, small 1, small 2)
  serial-byte-back (suc zero) h = omega (arith, small 0, small 1, small 2)
  serial-byte-back (suc (suc zero)) h = omega (arith, small 0, small 1, small 2)
  serial-byte-back (suc (suc (suc j))) h = absurd (omega arith)

-- The bytes of a list from an index on, each with its weight.
pub three-bytes : (l : List ℕ) (at a b c : ℕ) → a ≡ get_or l at 0 → b ≡ get_or l (at + 1) 0 → c ≡ get_or l (at + 2) 0
    → a * 65536 + b * 256 + c ≡ serial_in (λ j. get_or l (at + j) 0)
three-bytes l at a b c p q r =
    let z : a ≡ get_or l (at + 0) 0 = p ∙ ap (λ (n : ℕ). get_or l n 0) (sym (add-zero at)) in
    omega arith
