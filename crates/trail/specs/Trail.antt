-- The holders of a block on an image, and what the code keeps of the list of them. Assumes nothing.
use Rattle.std.specs.Prelude.{ℕ, get_or, Bool, ◌&&◌, cond, List, [], ◌∷◌, ◌++◌, ◌≡◌, Option, Some, None}
use Rattle.image.specs.declared.Card.{Card}
use Rattle.lists.specs.Tests.{elem, keep_if}
use Rattle.mask.specs.Masks.{AreMembers, Byte, byte, has_card, with_card}
use Rattle.mask.specs.Placements.{Placement}
use Rattle.control.specs.ControlBytes.{placement_at}
use Rattle.slot.specs.Blocks.{is_held}
use Rattle.method.specs.Rules.{holders}
use Rattle.cabinet_rules.specs.Cabinet.{cabinet}
use Rattle.cabinet_rules.specs.Images.{Image, block_in, control_in, tail_in}
use Rattle.promise.specs.Given.{view_of}
use Rattle.trail.specs.declared.Holders.{Holders}

-- The holders of block b as the rules have them.
abbrev pub holders_in : Image → ℕ → List ℕ
holders_in g b = holders cabinet (control_in g) (view_of g) b

-- Placement i that the bytes of an image show.
abbrev pub shown_at : Image → ℕ → Placement
shown_at g i = placement_at (λ n. get_or g n 0) (tail_in g) i

-- Card c, of these working cards, holds block b.
unfoldable pub holds_at : Image → Byte → ℕ → ℕ → Bool
holds_at g working b c = has_card working c && is_held (block_in g c b)

-- The mask r is m with the card, where it is on, and else m.
abbrev pub WithCard : ℕ → ℕ → ℕ → Bool → Type 0
WithCard m r c on = byte r ≡ cond on (with_card (byte m) c) (byte m)

-- The first card of a list, if there is one.
abbrev pub first_in : List ℕ → Option Card
first_in [] = None
first_in (c ∷ l) = Some (record { 0 = c })

-- What the code keeps of the list l of holders: its cards as a mask, and the first of them.
pub record Lists (h : Holders) (l : List ℕ) : Type 0 where
  pub cards-are : AreMembers h.cards (λ c. elem c l)
  pub first-is : h.first ≡ first_in l

-- Whatever `found` lists, r lists that and behind it the cards of s that f picks.
abbrev pub Adds : Holders → (ℕ → Bool) → List ℕ → Holders → Type 0
Adds found f s r = (l : List ℕ) → Lists found l → Lists r (l ++ keep_if f s)
