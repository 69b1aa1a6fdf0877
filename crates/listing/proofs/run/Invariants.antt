-- `run` meets its contract: a turn puts one line more. Assumes nothing.
use mathlib.Core.Path.{◌≡◌}
use Prim.Native.Nat.{◌*◌, ◌≤◌}
use lib.ListN.{drop, length}
use Rattle.std.specs.Iterator.Adapters.{enumerate_count, enumerate_source}
use Rattle.std.specs.Slice.Iter.{chunks_rest, chunks_size}
use Rattle.command.specs.Commands.{command_size}
use Rattle.lines.specs.Lines.{longest_line}
use Rattle.listing.specs.Listing.{command_count, image_behind, listing}
use Rattle.lines.specs.Text.{Puts}
use Rattle.listing.proofs.run.Given as goal

abbrev pub invariant-loop-i : goal.invariant-loop-i
invariant-loop-i l =
    goal.iterator-loop-i.can_next l.i-iterator
    × goal.iterator-loop-i.is_finite l.i-iterator
    × (chunks_size (enumerate_source l.i-iterator) ≡ command_size)
    × (chunks_rest (enumerate_source l.i-iterator) ≡ drop (enumerate_count l.i-iterator * command_size) l.input)
    × (enumerate_count l.i-iterator ≤ command_count l.input)
    × (length l.image ≡ length l.initial.image) × (length l.out ≡ length l.initial.out)
    × (l.at ≤ enumerate_count l.i-iterator * longest_line command_size)
    × (l.image ≡ image_behind l.input l.initial.image (enumerate_count l.i-iterator))
    × Puts (listing l.number l.input l.initial.image (enumerate_count l.i-iterator)) l.initial.out 0 l.at l.out
