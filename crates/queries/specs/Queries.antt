-- What the questions about the store are told. They are none of its calls: they change nothing, and those of the control
-- part are told of a stopped store too. Assumes nothing.
use Rattle.std.specs.Prelude.{Option, Some, None, Result, Ok, Err, ◌/◌, suc, zero, ℕ, ltb, length, Bool, cond, false, true, List, [], ◌∷◌}
use Rattle.std.proofs.Math.Option.{Option as Maybe, none, some}
use Rattle.refusals.specs.Refusals.{number}
use Rattle.refusals.specs.declared.Refusal.{Refusal}
use Rattle.lists.specs.Tests.{count_below, elem}
use Rattle.image.specs.Layout.{card_count, most_active, slot_count, tran_count}
use Rattle.mask.specs.Placements.{Placement}
use Rattle.method.specs.ControlPart.{active, is_open}
use Rattle.method.specs.Rules.{get}
use Rattle.control.specs.ControlBytes.{Part}
use Rattle.control_form.specs.ControlForm.{form_refusal}
use Rattle.cabinet_rules.specs.Cabinet.{tran_ok}
use Rattle.cabinet_rules.specs.Images.{Image, control_in, refusal_on}
use Rattle.trail.specs.Trail.{holders_in}
use Rattle.queries.specs.declared.Query.{Query}
use Rattle.queries.specs.declared.Query.TheVariants.{Failed, FreeTransaction, Home, Placement as Query-as-Placement, PlacementCount}
use Rattle.queries.specs.declared.Query.TheVariants.{Stopped, Working}

-- ---- refused, or told
-- What is told: a number, that there is none, or a refusal's number.
pub data Told : Type 0 where
  tells : ℕ → Told
  tells_none : Told
  not_told : ℕ → Told

-- The same for what the code answers, by the number that its refusal stands for; and where that is a refusal of the table.
abbrev pub shown_told_by : {E : Type 0} → (E → ℕ) → Result (Option ℕ) E → Told
shown_told_by numbered (Ok (Some n)) = tells n
shown_told_by numbered (Ok None) = tells_none
shown_told_by numbered (Err r) = not_told (numbered r)

abbrev pub shown_told : Result (Option ℕ) Refusal → Told
shown_told = shown_told_by number

-- The refusal's number; where it is 0, what is told.
abbrev pub unless_row : ℕ → Told → Told
unless_row zero t = t
unless_row (suc n) t = not_told (suc n)

-- A number out of its range is refused with 3.
abbrev pub if_in_range : Bool → Told → Told
if_in_range true t = t
if_in_range false t = not_told 3

-- ---- of the control part
-- Yes is 1, no is 0.
abbrev pub told_flag : Bool → Told
told_flag t = tells (cond t 1 0)

-- The mask of the placement with this number, the first being 0; none behind the last.
abbrev pub mask_of_nth : List Placement → ℕ → Told
mask_of_nth [] i = tells_none
mask_of_nth (p ∷ l) zero = tells p.mask.0
mask_of_nth (p ∷ l) (suc i) = mask_of_nth l i

-- The home card of a transaction; none where it is not open.
abbrev pub told_home : Maybe ℕ → Told
told_home none = tells_none
told_home (some h) = tells h

-- The lowest of n numbers from t on that is no open transaction's, or 0.
abbrev pub free_from : Part → ℕ → ℕ → ℕ
free_from k t zero = 0
free_from k t (suc n) = cond (is_open k t) (free_from k (suc t) n) t

-- The lowest transaction that is not open, or 0 where all are.
unfoldable pub free_in : Part → ℕ
free_in k = free_from k 1 tran_count

-- What the control part tells: whether the store has stopped; how many placements are active; the mask of one of them,
-- oldest first; the working and the failed cards; the home of a transaction; the lowest transaction that is not open.
unfoldable pub told_of : Query → Part → Told
told_of Stopped k = told_flag k.stopped
told_of PlacementCount k = tells (length (active k))
told_of (Query-as-Placement i) k = if_in_range (ltb i most_active) (mask_of_nth (active k) i)
told_of Working k = tells k.working.0
told_of Failed k = tells k.failed.0
told_of (Home t) k = if_in_range (tran_ok t.0) (told_home (k.home t.0))
told_of FreeTransaction k = tells (free_in k)

-- The same of an image, refused with 1 and 2 before.
unfoldable pub told_on : Query → Image → Told
told_on q g = unless_row (form_refusal g) (told_of q (control_in g))

-- ---- of a record, asked by a transaction: refused as a get of it is
-- The card that the get reads: the first holder of the record's block. None holds it: the get says absent.
abbrev pub first_told : List ℕ → Told
first_told [] = tells_none
first_told (c ∷ l) = tells c

unfoldable pub source_on : ℕ → ℕ → Image → Told
source_on t r g = unless_row (refusal_on (get t r) g) (first_told (holders_in g (r / slot_count)))

-- How many cards hold the record's block. The trail may name a card more than once, which is one card.
abbrev pub cards_in : List ℕ → ℕ
cards_in l = count_below card_count (λ c. elem c l)

unfoldable pub holders_on : ℕ → ℕ → Image → Told
holders_on t r g = unless_row (refusal_on (get t r) g) (tells (cards_in (holders_in g (r / slot_count))))
