-- What a command does on an image: RULES, "Commands and the listing". Assumes nothing.
use Rattle.std.specs.Prelude.{ℕ, leb, cond, List, ◌≡◌}
use Rattle.method.specs.Rules.{Answer, Call, move, refused}
use Rattle.cabinet_rules.specs.Cabinet.{cabinet}
use Rattle.cabinet_rules.specs.Images.{Image, answer, next}
use Rattle.promise.specs.Promise.{Answered, asked, shown}
use Rattle.promise.specs.declared.Call.{Call as CallValue}
use Rattle.promise.specs.declared.Call.TheVariants.{Move}
use Rattle.command.specs.declared.Command.{Command}
use Rattle.command.specs.declared.Command.TheVariants.{Of, WideMove}
use Rattle.command.specs.Commands.{command_of, malformed, most_block, well_formed}

-- The call of the rules that a command asks for: a wide move has its own number there.
abbrev pub ruled : Command → Call cabinet
ruled (Of call) = asked call
ruled (WideMove c n) = move c.0 n

-- What the bytes of a command are answered. The form of a command is asked before all that its call asks.
unfoldable pub command_answer : List ℕ → Image → Answer cabinet
command_answer l g = cond (well_formed l) (answer (ruled (command_of l)) g) (refused malformed)

-- The image after them: as found where they are malformed.
unfoldable pub command_next : List ℕ → Image → Image
command_next l g = cond (well_formed l) (next (ruled (command_of l)) g) g

-- The bytes of a command on an image were answered a and left the image behind.
pub record Obeyed (l : List ℕ) (before : Image) (a : Answered) (behind : Image) : Type 0 where
  pub answers : shown a ≡ command_answer l before
  pub leaves : behind ≡ command_next l before

-- The call of the code that performs a command. A wide move is performed as one of the greatest block: both are out of
-- range.
abbrev pub block_for : ℕ → ℕ
block_for n = cond (leb n most_block) n most_block

abbrev pub call_for : Command → CallValue
call_for (Of call) = call
call_for (WideMove c n) = Move c (record { 0 = block_for n })
