-- The bytes are written from the front, field by field, each as the rules give it. Assumes nothing.
use Prim.Native.Nat.{◌+◌}
use Rattle.control.specs.ControlBytes.{control_byte, homes_at, masks_at}
use Rattle.control.specs.Meaning.{meaning}
use Rattle.control.proofs.Written.{Written}
use Rattle.control.proofs.codec.encode.Given as goal

abbrev pub invariant-loop-i : goal.invariant-loop-i
invariant-loop-i l = Written (control_byte (meaning l.k)) (masks_at + l.i) l.bytes

abbrev pub invariant-loop-t : goal.invariant-loop-t
invariant-loop-t l = Written (control_byte (meaning l.k)) (homes_at + l.t) l.bytes
