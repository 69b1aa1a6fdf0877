-- Refused by the form or by a row; else the placement of the mask is added to the control part, and working cards get its stamp. Assumes nothing.
use mathlib.Core.Path.{refl}
use Rattle.mask.specs.Masks.{byte}
use Rattle.method.specs.Rules.{place}
use Rattle.cabinet_rules.specs.Places.{by_mask}
use Rattle.promise.proofs.Finish.{by_form, given}
use Rattle.promise.proofs.Stamping.{serial-small}
use Rattle.cards.proofs.Plans.{long, place-done, place-refused, place-room, whole-written}
use Rattle.cards.proofs.place.Goals as goal

pub returns-in_err-k : goal.returns-in_err-k
returns-in_err-k c = let a = c.args in by_form (place (by_mask (byte a.mask))) refl a.image.now _ _ c.in_err-k.ensures c.from_residual.ensures

pub check_place-requires : goal.check_place-requires
check_place-requires c = (given c.in_ok-k.ensures).is.counted

pub returns-in_err-check_place : goal.returns-in_err-check_place
returns-in_err-check_place c =
    place-refused (given c.in_ok-k.ensures) (byte c.args.mask) _ _ c.in_err-check_place.ensures c.from_residual-in_err-check_place.ensures

pub add-added-requires : goal.add-added-requires
add-added-requires c =
    let e = given c.in_ok-k.ensures in
    record {
      counted = e.is.counted;
      count_lt_most_active = place-room e (byte c.args.mask) c.in_ok-check_place.ensures;
      serial_lt_serial_bound = serial-small e;
    }

pub write-requires : goal.write-requires
write-requires c = record { control_size_in_bounds = long (given c.in_ok-k.ensures); counted = c.add-added.ensures.counted }

pub put_all-requires : goal.put_all-requires
put_all-requires c = whole-written (given c.in_ok-k.ensures) c.add-added.result _ c.write.ensures

pub returns : goal.returns
returns c =
    place-done (given c.in_ok-k.ensures) c.args.mask _ _ _ c.in_ok-check_place.ensures c.add-added.ensures c.write.ensures c.stamp.ensures c.put_all.ensures
