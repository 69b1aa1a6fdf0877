-- Demand 3 on images, the proof: from any image that is sound, and from an accepted start. Assumes nothing.
use mathlib.Core.List.{List}
use mathlib.Core.Path.{◌∙◌, ◌≡◌, ap}
use Rattle.method.specs.OneRecordList.{run_plain, zeroed}
use Rattle.method.specs.PlainList.{PlainList, plain_start}
use Rattle.method.specs.Rules.{Call, State, start}
use Rattle.method.proofs.Run.{run-same}
use Rattle.cabinet_rules.specs.Cabinet.{cabinet, rules_of}
use Rattle.cabinet_rules.specs.ByTheRules.{noised_by}
use Rattle.cabinet_rules.specs.Claims.{NoisyCallBy, OneRecordListOnImages, image_calls_by, run_image_by}
use Rattle.cabinet_rules.specs.Delivery.{Delivery, current}
use Rattle.cabinet_rules.specs.Images.{Image, next, state_by}
use Rattle.cabinet_rules.proofs.Form.{current_laws}
use Rattle.cabinet_rules.proofs.Lawful.{DeliveryLaws, lawful_by}
use Rattle.cabinet_rules.proofs.Sound.{Sound, start-sound}
use Rattle.cabinet_rules.proofs.Transport.{calls_alone, run-rules}

pub run-image : (D : Delivery) (W : DeliveryLaws D) (l : List (NoisyCallBy D)) (g : Image) (z : State (rules_of D)) (q : PlainList (rules_of D)) → Sound D W g z q
    → run_image_by D l g ≡ run_plain (rules_of D) (image_calls_by D l) z q
run-image D W l g z q s =
    run-rules D W l g s.seen ∙ run-same (rules_of D) (lawful_by D W.rules) (noised_by D l) (state_by D g) z q s.ready
    ∙ ap (λ (t : List (Call (rules_of D))). run_plain (rules_of D) t z q) (calls_alone D W l)

-- DEMAND 3
pub one-record-list-on-images : OneRecordListOnImages
unfolding OneRecordListOnImages
one-record-list-on-images m before e l = run-image current current_laws l (next (start m) before) (zeroed cabinet m) (plain_start cabinet m) (start-sound current current_laws m before e)
