-- What is told, coded. Assumes nothing.
use mathlib.Core.Path.{◌∙◌, ap}
use Rattle.codes.specs.ToldCodes.{told_code}
use Rattle.nolpigat.proofs.nolpigat_stopped.Goals as goal

pub returns : goal.returns
returns c = c.told_code.ensures ∙ ap told_code c.ask.ensures
