-- Group by group the bytes are those of what is packed. Assumes nothing.
use mathlib.Core.Path.{◌≡◌}
use Prim.Native.Nat.{◌*◌}
use lib.ListN.{get_or, length}
use Rattle.image.specs.Layout.{pairs_size}
use Rattle.mask.specs.Pairs.{group_size}
use Rattle.mask.proofs.PairLaws.{Holds, packed_byte}
use Rattle.mask.proofs.pairs.pack.Given as goal

abbrev pub invariant-loop-q : goal.invariant-loop-q
invariant-loop-q l = record {
  long : length l.bytes ≡ pairs_size;
  so_far : Holds (λ j v. v ≡ packed_byte (λ b. get_or l.pairs b 0) j) l.bytes (l.q * group_size);
}
