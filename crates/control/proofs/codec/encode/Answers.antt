-- The bytes are written from the front, field by field, each as the rules give it. Assumes nothing.
use mathlib.Core.Path.{◌≡◌, ap, subst, ◌∙◌}
use Prim.Native.Nat.{ℕ, ◌+◌, ◌*◌}
use native.Mathlib.Omega.{arith}
use mir.Syntax.{w8}
use mir.Val.{Fits}
use borrow.Author.Rules.{rules}
use Rattle.control.specs.ControlBytes.{control_byte, failed_at, field, homes_at, marks_at, masks_at, serial_at, serial_end, working_at}
use Rattle.control.specs.Meaning.{mask_in, meaning}
use Rattle.control.proofs.Struct.{byte-first, byte-mask-at, byte-working, byte-failed, byte-marks, byte-home}
use Rattle.control.proofs.Struct.{byte-rest, written-serial}
use Rattle.control.proofs.Written.{Written, none_written, one_written, all-written}
use Rattle.control.proofs.codec.encode.Goals as goal

pub loop-i-init : goal.loop-i-init
loop-i-init c =
    let first = ap (λ (x : ℕ). x + c.args.k.count * field) c.stopped_bit.ensures ∙ byte-first c.args.k c.requires in
    one_written _ 0 masks_at _ _ (none_written _) (omega arith) (omega arith) first

pub loop-i-preserved : goal.loop-i-preserved
loop-i-preserved c =
    let l = c.loop-i in
    let f : Fits w8 (mask_in c.args.k l.i) = search rules in
    let mask = c.mask_byte.ensures ∙ byte-mask-at c.args.k c.requires l.i (omega arith) f.fits in
    one_written _ (masks_at + l.i) (masks_at + (l.i + 1)) l.bytes _ l.invariant (omega arith) (omega arith) mask

pub loop-t-init : goal.loop-t-init
loop-t-init c =
    let l = c.loop-i in
    let all : masks_at + l.i ≡ working_at = omega arith in
    let masks = subst (λ (m : ℕ). Written (control_byte (meaning c.args.k)) m l.bytes) all l.invariant in
    let working = one_written _ working_at failed_at l.bytes _ masks (omega arith) (omega arith) (byte-working c.args.k c.requires (search rules)) in
    let failed = one_written _ failed_at marks_at _ _ working (omega arith) (omega arith) (byte-failed c.args.k c.requires (search rules)) in
    let marks = c.clean_marks.ensures ∙ byte-marks c.args.k c.requires (search rules) in
    one_written _ marks_at homes_at _ _ failed (omega arith) (omega arith) marks

pub loop-t-preserved : goal.loop-t-preserved
loop-t-preserved c =
    let l = c.loop-t in
    let home = c.home_byte.ensures ∙ byte-home c.args.k c.requires l.t (omega arith) in
    one_written _ (homes_at + l.t) (homes_at + (l.t + 1)) l.bytes _ l.invariant (omega arith) (omega arith) home

pub returns : goal.returns
returns c =
    let l = c.loop-t in
    let k = c.args.k in
    let all : homes_at + l.t ≡ serial_at = omega arith in
    let homes = subst (λ (m : ℕ). Written (control_byte (meaning k)) m l.bytes) all l.invariant in
    let serial = written-serial k c.requires c.bytes-serial.result c.bytes-serial.ensures in
    let first = one_written _ serial_at (serial_at + 1) l.bytes _ homes (omega arith) (omega arith) (serial 0 (omega arith)) in
    let second = one_written _ (serial_at + 1) (serial_at + 2) _ _ first (omega arith) (omega arith) (serial 1 (omega arith)) in
    let third = one_written _ (serial_at + 2) serial_end _ _ second (omega arith) (omega arith) (serial 2 (omega arith)) in
    all-written _ serial_end _ third (λ j h. byte-rest k c.requires j h)
