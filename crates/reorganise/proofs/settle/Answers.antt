-- Refused by the form or by a row; else only the newest placement stays, with its pairs, and only the control part changes. Assumes nothing.
use Prim.Native.Nat.{◌-◌}
use lib.ListN.{length}
use mathlib.Core.Path.{◌∙◌, ap, ap₂, refl}
use native.Mathlib.Omega.{arith}
use Rattle.method.specs.ControlPart.{only_newest}
use Rattle.method.specs.Rules.{settle}
use Rattle.control.specs.ControlBytes.{Part}
use Rattle.control.specs.Meaning.{put_control}
use Rattle.cabinet_rules.specs.Images.{control_in}
use Rattle.promise.specs.declared.Answer.TheVariants.{Retired}
use Rattle.promise.proofs.Finish.{by_form, by-rules, given, given-whole}
use Rattle.promise.proofs.WholePart.{by_whole, whole-tail}
use Rattle.reorganise.proofs.Settles.{settle-plan}
use Rattle.reorganise.proofs.settle.Goals as goal

pub returns-in_err-k : goal.returns-in_err-k
returns-in_err-k c = by_form settle refl c.args.image.now _ _ c.in_err-k.ensures c.from_residual.ensures

pub check-requires : goal.check-requires
check-requires c = given c.in_ok-k.ensures

pub returns-in_err-check : goal.returns-in_err-check
returns-in_err-check c =
    by-rules settle refl c.args.image.now (given c.in_ok-k.ensures).formed _ _ c.in_err-check.ensures c.from_residual-in_err-check.ensures

pub overflow_sub-retired : goal.overflow_sub-retired
overflow_sub-retired c = omega (arith, (given c.in_ok-k.ensures).is.counted.some)

pub retire_pairs-requires : goal.retire_pairs-requires
retire_pairs-requires c = given c.in_ok-k.ensures

pub retire-requires : goal.retire-requires
retire-requires c = (given c.in_ok-k.ensures).is.counted

pub write-requires : goal.write-requires
write-requires c =
    let long = ap length c.retire_pairs.ensures ∙ whole-tail c.args.image.now _ (given-whole (given c.in_ok-k.ensures)) in
    record { control_size_in_bounds = omega (arith, long); counted = c.retire.ensures.counted }

pub returns : goal.returns
returns c =
    let g = c.args.image.now in
    let k = c.in_ok-k.k in
    let e = given c.in_ok-k.ensures in
    by_whole settle refl g e.formed (Retired (k.count - 1)) (only_newest (control_in g)) _ c.in_ok-check.ensures (settle-plan k g e)
    (c.write.ensures ∙ ap₂ put_control c.retire_pairs.ensures (c.retire.ensures.means ∙ ap (λ (p : Part). only_newest p) e.is.means))
