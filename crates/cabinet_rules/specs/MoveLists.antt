-- The moves that let settle succeed, on images (request A.3): what the call answers, and the statements. Assumes
-- nothing.
use Rattle.std.specs.Prelude.{◌≤◌, suc, zero, ℕ, length, false, List, map, ◌≡◌}
use Rattle.mask.specs.Masks.{Byte}
use Rattle.method.specs.MoveList.{Entry, ListAnswer, LockedMove, as_move, list_answer, listed, move_list, no_list}
use Rattle.method.specs.MoveList.{not_listed}
use Rattle.method.specs.Rules.{look, ok, refused, retired, row, settle, start}
use Rattle.control_form.specs.ControlForm.{control_form, form_rows}
use Rattle.cabinet_rules.specs.Cabinet.{cabinet}
use Rattle.cabinet_rules.specs.Claims.{NoStopBy, NoisyCall, image_after, image_calls, noisy}
use Rattle.cabinet_rules.specs.Delivery.{current}
use Rattle.cabinet_rules.specs.GoesOn.{Earlier, Store}
use Rattle.cabinet_rules.specs.Images.{Image, answer, control_in, next, state_in}

-- ---- the call
-- The list of an image.
abbrev pub moves_on : Image → List Entry
moves_on g = move_list cabinet (control_in g) (look cabinet (state_in g))

-- It is refused 1, 2 and 4 as every call without arguments.
abbrev pub list_refusal : Image → ℕ
list_refusal g = form_rows false (control_form g) g (row 4 (control_in g).stopped 0)

abbrev pub unless_refused_list : ℕ → ListAnswer → ListAnswer
unless_refused_list zero a = a
unless_refused_list (suc n) a = not_listed (suc n)

-- The answer to a lent list with room for so many entries: 1, 2 and 4 first, then 'none', then 16.
unfoldable pub list_answer_on : ℕ → Image → ListAnswer
list_answer_on room g =
    unless_refused_list (list_refusal g) (list_answer cabinet (control_in g) (look cabinet (state_in g)) room)

-- ---- the statements
-- These calls are moves of these entries, each with any noise before it.
abbrev pub AreMoves : List NoisyCall → List Entry → Type 0
AreMoves l entries = image_calls l ≡ map (as_move cabinet) entries

-- On every image of which moves are listed, reached by calls or not: after exactly these moves settle succeeds.
unfoldable pub ListSettles : Type 0
ListSettles = (g : Image) (room n : ℕ) → list_answer_on room g ≡ listed n
    → (l : List NoisyCall) → AreMoves l (moves_on g) → (noise : ℕ → ℕ)
    → answer settle (noisy noise (image_after l g)) ≡ retired (length (control_in g).older)

-- There no shorter list of moves lets settle succeed.
unfoldable pub NoShorterList : Type 0
NoShorterList = (g : Image) (room n : ℕ) → list_answer_on room g ≡ listed n
    → (l : List NoisyCall) (entries : List Entry) → AreMoves l entries → (noise : ℕ → ℕ) (m : ℕ)
    → answer settle (noisy noise (image_after l g)) ≡ retired m
    → n ≤ length entries

-- On every image that is not refused 1, 2 or 4 the answer is 'none' exactly where one of the copies that would move has
-- a locked record.
unfoldable pub NoneByLock : Type 0
NoneByLock = (g : Image) (room : ℕ) → list_refusal g ≡ 0
    → (list_answer_on room g ≡ no_list → LockedMove cabinet (control_in g) (look cabinet (state_in g)))
    × (LockedMove cabinet (control_in g) (look cabinet (state_in g)) → list_answer_on room g ≡ no_list)

-- No list of moves lets settle succeed: it is refused 13 after each.
unfoldable pub NeverSettles : Image → Type 0
NeverSettles g = (l : List NoisyCall) (entries : List Entry) → AreMoves l entries → (noise : ℕ → ℕ)
    → answer settle (noisy noise (image_after l g)) ≡ refused 13

-- After an accepted start on memory of any contents and any calls, none of which stopped the store, 'none' is honest:
-- then no list of moves lets settle succeed.
unfoldable pub NoneIsFinal : Type 0
NoneIsFinal = (m : Byte) (before : Image) → answer (start m) before ≡ ok
    → (l : List NoisyCall) → NoStopBy current l (next (start m) before)
    → (room : ℕ) → list_answer_on room (image_after l (next (start m) before)) ≡ no_list
    → NeverSettles (image_after l (next (start m) before))

-- The same from a store that earlier deliveries left.
unfoldable pub NoneIsFinalFromEarlier : Type 0
NoneIsFinalFromEarlier = (s : Store) → Earlier s → (l : List NoisyCall) → NoStopBy current l s.image
    → (room : ℕ) → list_answer_on room (image_after l s.image) ≡ no_list
    → NeverSettles (image_after l s.image)
