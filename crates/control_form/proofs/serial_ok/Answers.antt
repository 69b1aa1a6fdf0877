-- By whether the serial is below the count, up to the limit, or behind it, where the members are counted. Assumes nothing.
use native.Mathlib.Omega.{arith}
use lib.ListN.{get_or}
use Rattle.mask.specs.Masks.{byte}
use Rattle.mask.proofs.MaskSites.{size-le}
use Rattle.control.specs.ControlBytes.{count_in, last_mask_at}
use Rattle.control_form.proofs.SerialForm.{below-count, by_members, up-to-limit}
use Rattle.control_form.proofs.serial_ok.Goals as goal

pub returns-then-serial-count : goal.returns-then-serial-count
returns-then-serial-count c =
    below-count c.args.s.now c.read-serial.result c.read-serial.ensures.0 c.if-serial-count.true

pub returns-then-serial-le-LIMIT : goal.returns-then-serial-le-LIMIT
returns-then-serial-le-LIMIT c =
    up-to-limit c.args.s.now c.read-serial.result c.read-serial.ensures.0 c.if-serial-count.false c.if-serial-le-LIMIT.true

pub overflow_add-result : goal.overflow_add-result
overflow_add-result c =
    let l = c.args.s.now in
    omega (arith, c.read-serial.ensures.1, c.members.ensures, size-le (byte (get_or l (last_mask_at (count_in (get_or l 0 0))) 0)))

pub returns : goal.returns
returns c =
    by_members c.args.s.now c.read-serial.result c.read-serial.ensures.0 c.members.result c.if-serial-count.false c.members.ensures
