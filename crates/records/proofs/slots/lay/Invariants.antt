-- Where the new block is put on each site that is left, it is put on each site. Assumes nothing.
use mathlib.Core.Path.{◌≡◌}
use Prim.Native.Nat.{◌/◌}
use Rattle.image.specs.Layout.{slot_count}
use Rattle.mask.specs.Cards.{cards_left}
use Rattle.slot.specs.Words.{state_of}
use Rattle.method.specs.Rules.{lay_block}
use Rattle.cabinet_rules.specs.Cabinet.{cabinet}
use Rattle.cabinet_rules.specs.Images.{control_in}
use Rattle.promise.specs.Laid.{laid}
use Rattle.promise.proofs.PutEach.{put_each}
use Rattle.records.proofs.Locking.{new_block}
use Rattle.records.proofs.slots.lay.Given as goal

abbrev pub invariant-loop-site : goal.invariant-loop-site
invariant-loop-site l =
    let g = l.initial.image in
    let v = state_of l.pending in
    put_each (l.rec.0 / slot_count) (new_block l.tran.0 l.rec.0 v).0 (cards_left l.site-iterator) l.image ≡ laid (lay_block cabinet (control_in g) l.tran.0 l.rec.0 v) g
