-- `store::perform_command` meets its contract: the reading is told, and what is done for it is what the rules say of the
-- bytes. Assumes nothing.
use mathlib.Core.Path.{sym}
use Rattle.command.proofs.Meaning.{obeyed-asked, obeyed-malformed}
use Rattle.store.proofs.perform_command.Goals as goal

pub returns-in_err-asked : goal.returns-in_err-asked
returns-in_err-asked c = obeyed-malformed _ (sym c.in_err-asked.ensures) c.from_residual.ensures

pub returns : goal.returns
returns c = obeyed-asked (sym c.in_ok-asked.ensures) c.call_for.ensures c.perform.ensures
