-- The image is the one after the commands performed, which are whole while the program goes on; the bytes read rise.
-- Assumes nothing.
use mathlib.Core.Path.{◌≡◌}
use Prim.Native.Nat.{◌<◌}
use lib.ListN.{length}
use Rattle.std.specs.Prelude.{IfSome}
use Rattle.command.specs.Commands.{command_size}
use Rattle.console.proofs.Known.{Listed}
use Rattle.console.proofs.Loop.{turns_left}
use Rattle.console.proofs.read_all.Given as goal

abbrev pub invariant-loop-next : goal.invariant-loop-next
invariant-loop-next g l = (length l.image ≡ length l.initial.image) × (length l.input ≡ length l.initial.input)
    × (length l.out ≡ length l.initial.out) × IfSome l.next (λ at. at.waiting < command_size)
    × Listed l.initial.image l.image l.next l.input (g.R.Read.remaining l.initial.reader) (g.R.Read.remaining l.reader)
    (g.W.Write.contents l.initial.writer) (g.W.Write.contents l.writer)

abbrev pub decreases-loop-next : goal.decreases-loop-next
decreases-loop-next g l = turns_left l.next
