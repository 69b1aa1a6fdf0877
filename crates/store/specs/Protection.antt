-- What the word of state is worth to a caller: the statements, of the calls themselves. Assumes nothing.
use Rattle.std.specs.Prelude.{Ok, ◌<◌, ℕ, ◌≢◌, ◌≡◌}
use Rattle.image.specs.Layout.{card_count}
use Rattle.method.specs.Rules.{fail, state}
use Rattle.cabinet_rules.specs.Images.{Image}
use Rattle.promise.specs.Promise.{Answered, Done}
use Rattle.promise.specs.declared.Answer.TheVariants.{Protected, Stopped, Unprotected}

-- On memory of any length and contents. Where state said protected, no fail of any card on that memory says stopped.
unfoldable pub ProtectedIsSafe : Type 0
ProtectedIsSafe = (g left : Image) → Done state g (Ok Protected) left
    → (c : ℕ) (said : Answered) (behind : Image) → Done (fail c) g said behind → said ≢ Ok Stopped

-- Where it said unprotected, there is a card of which a fail on that memory says stopped.
unfoldable pub UnprotectedIsNot : Type 0
UnprotectedIsNot = (g left : Image) → Done state g (Ok Unprotected) left
    → (c : ℕ) × (c < card_count) × ((said : Answered) (behind : Image) → Done (fail c) g said behind → said ≡ Ok Stopped)
