-- By whether the byte is open with the card. Assumes nothing.
use mathlib.Core.Path.{◌∙◌, sym}
use Rattle.control.specs.Meaning.{kept_home}
use Rattle.control.proofs.kept_home.Goals as goal

pub returns-then-is_home : goal.returns-then-is_home
unfolding kept_home
returns-then-is_home c = rw (sym c.is_home.ensures ∙ c.if-is_home.true)

pub returns : goal.returns
unfolding kept_home
returns c = rw (sym c.is_home.ensures ∙ c.if-is_home.false)
