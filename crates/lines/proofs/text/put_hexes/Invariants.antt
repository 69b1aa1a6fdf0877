-- `put_hexes` meets its contract: a turn puts one byte more. Assumes nothing.
use mathlib.Core.Path.{◌≡◌}
use Prim.Native.Nat.{◌*◌, ◌+◌}
use lib.ListN.{length, take}
use Rattle.lines.specs.Text.{Puts, hex_bytes}
use Rattle.lines.proofs.text.put_hexes.Given as goal

abbrev pub invariant-loop-byte : goal.invariant-loop-byte
invariant-loop-byte l =
    (length l.out ≡ length l.initial.out) × (l.end ≡ l.at + 2 * l.byte-index) × Puts (hex_bytes (take l.byte-index l.bytes)) l.initial.out l.at l.end l.out
