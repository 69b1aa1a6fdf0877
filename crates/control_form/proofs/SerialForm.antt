-- The clause on the serial: what it says of a control part, and how the code comes to it. Up to the limit the newest placement's members need not be
-- counted, because they are no more than the cards. Assumes nothing.
use mathlib.Core.Path.{◌≡◌, sym, ap₂, ◌∙◌}
use mathlib.Core.Bool.{true, false}
use mathlib.Core.List.{List}
use Prim.Native.Nat.{ℕ, suc, ◌+◌, ◌≤◌, ◌<◌}
use native.Mathlib.Omega.{arith}
use lib.Dec.{leb}
use lib.ListN.{get_or, length}
use borrow.Author.Tests.{le-leb, leb-true, lt-leb}
use Rattle.lists.proofs.Bools.{and_in, and_l, and_r}
use Rattle.mask.specs.Masks.{byte, size}
use Rattle.mask.proofs.MaskSites.{size-le}
use Rattle.control.specs.ControlBytes.{Part, control_of, count_in, last_mask_at}
use Rattle.control.specs.Serials.{serial_bound, serial_limit, serial_most}
use Rattle.control_form.specs.ControlForm.{form_ok, serial_ok}
use Rattle.control_form.specs.Reading.{serial_of, serials_in}
use Rattle.control_form.proofs.RoundTrip.{form-part, part-clauses}

-- ---- of a control part
pub serial-in : (k : Part) → suc (length k.older) ≤ k.serial → k.serial + size k.newest.mask ≤ serial_most → serial_ok k ≡ true
unfolding serial_ok
serial-in k lo hi = and_in (leb (suc (length k.older)) k.serial) (leb (k.serial + size k.newest.mask) serial_most)
    (le-leb (suc (length k.older)) k.serial lo) (le-leb (k.serial + size k.newest.mask) serial_most hi)

module _ (k : Part) (ok : serial_ok k ≡ true) where
  pub serial-counts : suc (length k.older) ≤ k.serial
  unfolding serial_ok
  serial-counts = leb-true (suc (length k.older)) k.serial
      (and_l (leb (suc (length k.older)) k.serial) (leb (k.serial + size k.newest.mask) serial_most) ok)

  pub serial-fits : k.serial + size k.newest.mask ≤ serial_most
  unfolding serial_ok
  serial-fits = leb-true (k.serial + size k.newest.mask) serial_most
      (and_r (leb (suc (length k.older)) k.serial) (leb (k.serial + size k.newest.mask) serial_most) ok)

  -- It has three bytes, and so has the next.
  pub serial-bounded : k.serial < serial_bound
  serial-bounded = omega (arith, serial-fits)

  pub serial-next-bounded : suc k.serial < serial_bound
  serial-next-bounded = omega (arith, serial-fits)

-- It holds where the control form does.
pub form-serial : (g t : ℕ → ℕ) → form_ok g t ≡ true → serial_ok (control_of g t) ≡ true
form-serial g t form = (part-clauses (control_of g t) (form-part g t form)).serials

-- ---- of the bytes, as the code goes
module _ (l : List ℕ) (ν : ℕ) (is : ν ≡ serial_of l) where
  abbrev n : ℕ
  n = count_in (get_or l 0 0)

  abbrev members : ℕ
  members = size (byte (get_or l (last_mask_at n) 0))

  pub below-count : ν < n → false ≡ serials_in l
  unfolding serials_in
  below-count h = rw (lt-leb n (serial_of l) (omega (arith, is)))

  pub up-to-limit : n ≤ ν → ν ≤ serial_limit → true ≡ serials_in l
  unfolding serials_in
  up-to-limit lo hi = sym (and_in (leb n (serial_of l)) (leb (serial_of l + members) serial_most) (le-leb n (serial_of l) (omega (arith, is)))
      (le-leb (serial_of l + members) serial_most (omega (arith, is, size-le (byte (get_or l (last_mask_at n) 0))))))

  pub by_members : (m : ℕ) → n ≤ ν → m ≡ members → leb (ν + m) serial_most ≡ serials_in l
  unfolding serials_in
  by_members m lo e = ap₂ (λ (x y : ℕ). leb (x + y) serial_most) is e ∙ sym (rw (le-leb n (serial_of l) (omega (arith, is))))
