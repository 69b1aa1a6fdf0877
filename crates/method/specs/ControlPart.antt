-- The control part: what the store keeps beside its card tables, and what the plain record list keeps beside its
-- records. Every change yields a whole new control part; those that both sides make stand here. Assumes nothing.
use Rattle.std.specs.Prelude.{Bool, true, false, cond, List, [], ◌∷◌, ◌++◌, map, ℕ, eqb}
use Rattle.std.proofs.Math.Option.{Option, some, none}
use Rattle.method.specs.Slots.{is_some}

-- The active placements are the older ones, oldest first, and then the newest; each open transaction has its home
-- card; the setting is what a start fixes until the next.
pub record ControlPart (Mask Placement Setting Serial : Type 0) : Type 0 where
  pub stopped : Bool
  pub older : List Placement
  pub newest : Placement
  pub working : Mask
  pub failed : Mask
  pub home : ℕ → Option ℕ
  pub setting : Setting
  pub serial : Serial

abbrev pub is_card : Option ℕ → ℕ → Bool
is_card none c = false
is_card (some h) c = eqb h c

module _ {Mask Placement Setting Serial : Type 0} where
  abbrev pub active : ControlPart Mask Placement Setting Serial → List Placement
  active k = k.older ++ (k.newest ∷ [])

  -- Transaction t is open.
  abbrev pub is_open : ControlPart Mask Placement Setting Serial → ℕ → Bool
  is_open k t = is_some (k.home t)

  -- Transaction t was begun at card c.
  abbrev pub begun_at : ControlPart Mask Placement Setting Serial → ℕ → ℕ → Bool
  begun_at k c t = is_card (k.home t) c

  -- A whole control part, field by field.
  abbrev pub part : Bool → List Placement → Placement → Mask → Mask → (ℕ → Option ℕ) → Setting → Serial
      → ControlPart Mask Placement Setting Serial
  part s o n w f h σ ν =
      record { stopped = s; older = o; newest = n; working = w; failed = f; home = h; setting = σ; serial = ν }

  -- One placement and its cards, none failed, none open.
  abbrev pub started : Placement → Mask → Mask → Setting → Serial → ControlPart Mask Placement Setting Serial
  started p cards nobody σ ν = part false [] p cards nobody (λ t. none) σ ν

  -- Other homes; other working and failed cards; other placements.
  abbrev pub with_home : ControlPart Mask Placement Setting Serial → (ℕ → Option ℕ) → ControlPart Mask Placement Setting Serial
  with_home k h = part k.stopped k.older k.newest k.working k.failed h k.setting k.serial

  abbrev pub with_cards : ControlPart Mask Placement Setting Serial → Mask → Mask → ControlPart Mask Placement Setting Serial
  with_cards k w f = part k.stopped k.older k.newest w f k.home k.setting k.serial

  abbrev pub with_placements : ControlPart Mask Placement Setting Serial → List Placement → Placement
      → ControlPart Mask Placement Setting Serial
  with_placements k o n = part k.stopped o n k.working k.failed k.home k.setting k.serial

  -- The transaction opens with its home.
  abbrev pub opened : ControlPart Mask Placement Setting Serial → ℕ → ℕ → ControlPart Mask Placement Setting Serial
  opened k t h = with_home k (λ x. cond (eqb x t) (some h) (k.home x))

  -- The transactions that f picks close.
  abbrev pub closed : ControlPart Mask Placement Setting Serial → (ℕ → Bool) → ControlPart Mask Placement Setting Serial
  closed k f = with_home k (λ x. cond (f x) none (k.home x))

  -- The placement becomes the newest.
  abbrev pub added : ControlPart Mask Placement Setting Serial → Placement → Serial
      → ControlPart Mask Placement Setting Serial
  added k p ν = part k.stopped (active k) p k.working k.failed k.home k.setting ν

  -- Only the newest placement remains.
  abbrev pub only_newest : ControlPart Mask Placement Setting Serial → ControlPart Mask Placement Setting Serial
  only_newest k = with_placements k [] k.newest

  -- The stopped bit is set and no transaction is open.
  abbrev pub halted : ControlPart Mask Placement Setting Serial → ControlPart Mask Placement Setting Serial
  halted k = part true k.older k.newest k.working k.failed (λ t. none) k.setting k.serial

-- The same control part where f, σ and ν tell what its placements, its setting and its serial are.
abbrev pub part_by : {M A B X Y S T : Type 0} → (A → B) → (X → Y) → (S → T) → ControlPart M A X S → ControlPart M B Y T
part_by f σ ν k =
    part k.stopped (map f k.older) (f k.newest) k.working k.failed k.home (σ k.setting) (ν k.serial)
