-- The control form: RULES, "The control form", a clause a definition. Assumes nothing.
use Rattle.std.specs.Prelude.{suc, ℕ, ◌+◌, eqb, leb, ltb, get_or, length, Bool, ◌&&◌, ◌||◌, cond, false, not, true, List, [], ◌∷◌, reverse}
use Rattle.std.proofs.Math.Option.{Option, none, some}
use Rattle.lists.specs.Tests.{all_in, all_below}
use Rattle.image.specs.Layout.{control_size, copy_count, image_size, least_members, most_active, most_placed, tail_size, tran_bound}
use Rattle.mask.specs.Masks.{Byte, are_apart, common, has_card, is_one_more, is_within, is_within_either, size}
use Rattle.mask.specs.Placements.{Placement, pairs_ok}
use Rattle.method.specs.ControlPart.{active}
use Rattle.method.specs.Rules.{row}
use Rattle.control.specs.ControlBytes.{Part, control_byte, control_of, count_in, tail_at, tail_byte}
use Rattle.control.specs.Serials.{serial_most}

-- Count is 1 to 4.
unfoldable pub count_ok : (ℕ → ℕ) → Bool
count_ok g = leb 1 (count_in (g 0)) && leb (count_in (g 0)) most_active

-- Zero fields are zero, marks of placements that are not there among them, and no placement has both marks: the bytes
-- before the tables are those of the control part that they show.
unfoldable pub zero_fields_ok : Part → (ℕ → ℕ) → Bool
zero_fields_ok k g = all_below control_size (λ n. eqb (g n) (control_byte k n))

-- An active placement with this mask has two members or more, each working or failed.
unfoldable pub members_ok : Byte → Byte → Byte → Bool
members_ok working failed m = leb least_members (size m) && is_within_either m working failed

-- While more placements than the limit are active, each is the next plus one failed card: the newest mask, and the masks
-- of the older ones, newest first. With a limit of three this is said of the third and the fourth placement, where
-- there are four.
unfoldable pub chain_ok : ℕ → Byte → Byte → List Byte → Bool
chain_ok limit failed newest [] = true
chain_ok limit failed newest (m ∷ older) =
    cond (ltb limit (suc (suc (length older)))) (is_one_more failed newest m && chain_ok limit failed m older) true

-- In a running store an active placement with this mask has fewer failed members than copies, and at least as many
-- working ones as copies.
unfoldable pub is_safe : Byte → Byte → Byte → Bool
is_safe working failed m = ltb (common m failed) copy_count && leb copy_count (common m working)

-- All active placements are so.
abbrev pub all_safe : Part → Bool
all_safe k = all_in (λ p. is_safe k.working k.failed p.mask) (active k)

-- In a running store the home of an open transaction works; in a stopped one no transaction is open.
unfoldable pub home_ok : Bool → Byte → Option ℕ → Bool
home_ok stopped working none = true
home_ok stopped working (some h) = not stopped && has_card working h

-- The serial is not below the count of active placements, and with the newest placement's members added not above
-- 16,777,008.
unfoldable pub serial_ok : Part → Bool
serial_ok k = leb (suc (length k.older)) k.serial && leb (k.serial + size k.newest.mask) serial_most

-- The masks of placements.
abbrev pub masks_of : List Placement → List Byte
masks_of [] = []
masks_of (p ∷ l) = p.mask ∷ masks_of l

-- The clauses on the control part that the bytes show, but for pairs.
unfoldable pub part_ok : Part → Bool
part_ok k =
    -- working and failed share no card
    are_apart k.working k.failed
    && (all_in (λ p. members_ok k.working k.failed p.mask) (active k)
    && (chain_ok most_placed k.failed k.newest.mask (masks_of (reverse k.older))
    -- in a running store all members of the newest placement work
    && ((k.stopped || is_within k.newest.mask k.working)
    && ((k.stopped || all_safe k)
    && (all_below tran_bound (λ t. home_ok k.stopped k.working (k.home t))
    && serial_ok k)))))

-- What is asked of the bytes before the tables.
unfoldable pub front_ok : Part → (ℕ → ℕ) → Bool
front_ok k g = count_ok g && (zero_fields_ok k g && part_ok k)

-- Behind the tables nothing is kept for a placement that is not by table or not there, and the pairs of one that is by
-- table are two different members each.
unfoldable pub kept_ok : Part → (ℕ → ℕ) → Bool
kept_ok k t = all_below tail_size (λ n. eqb (t n) (tail_byte k n))

unfoldable pub tables_ok : Part → Bool
tables_ok k = all_in (λ p. pairs_ok p.mask p.choice) (active k)

-- The control form of bytes, before and behind the tables.
unfoldable pub form_ok : (ℕ → ℕ) → (ℕ → ℕ) → Bool
form_ok g t = front_ok (control_of g t) g && (kept_ok (control_of g t) t && tables_ok (control_of g t))

-- The same of an image.
abbrev pub control_form : List ℕ → Bool
control_form image = form_ok (λ n. get_or image n 0) (tail_at image)

-- Rows 1 and 2 of the refusal table, and the rows below them: the length is wrong; the control form is broken (formed
-- says whether it holds), which a start does not examine.
abbrev pub form_rows_of : ℕ → Bool → Bool → List ℕ → ℕ → ℕ
form_rows_of size is_start formed image below =
    row 1 (not (eqb (length image) size)) (
    row 2 (not is_start && not formed) below)

-- The same by the length in force.
abbrev pub form_rows : Bool → Bool → List ℕ → ℕ → ℕ
form_rows = form_rows_of image_size

-- They alone.
unfoldable pub form_refusal : List ℕ → ℕ
form_refusal image = form_rows false (control_form image) image 0
