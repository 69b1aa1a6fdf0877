-- The sites that are left are looked at one by one, and a put on one changes nothing of what another holds. Assumes nothing.
use Prim.Native.Nat.{◌+◌, ℕ}
use lib.ListN.{length}
use mathlib.Core.Bool.{true}
use mathlib.Core.Path.{◌≡◌}
use Rattle.lists.specs.Tests.{count_not}
use Rattle.image.specs.Layout.{block_size}
use Rattle.mask.specs.Cards.{cards_left}
use Rattle.mask.specs.Masks.{byte, has_card}
use Rattle.promise.proofs.PutEach.{put_each}
use Rattle.trail.specs.Trail.{holds_at}
use Rattle.reorganise.proofs.MoveWrites.{lacking}
use Rattle.reorganise.proofs.moving.spread.Given as goal

-- With f the cards that hold the block before the loop: what is still to be put, what those that are left hold, and the copies.
abbrev pub invariant-loop-site : goal.invariant-loop-site
invariant-loop-site l =
    let f = holds_at l.initial.image (byte l.working) l.block.0 in
    let all = cards_left l.initial.site-iterator in record {
      long : length l.bytes ≡ block_size;
      put : put_each l.block.0 l.bytes (lacking f (cards_left l.site-iterator)) l.image ≡ put_each l.block.0 l.bytes (lacking f all) l.initial.image;
      held : (d : ℕ) → has_card (byte l.site-iterator.0) d ≡ true → holds_at l.image (byte l.working) l.block.0 d ≡ f d;
      counted : l.copies + count_not f (cards_left l.site-iterator) ≡ count_not f all;
    }
