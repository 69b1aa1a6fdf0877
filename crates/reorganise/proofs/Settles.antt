-- The condition of a settle and the retired placements, from the code's values to the rules'. Assumes nothing.
use Prim.Native.Nat.{◌-◌, ◌<◌, ℕ}
use lib.ListN.{length, length-map}
use mathlib.Core.Bool.{Bool, false, not, true}
use mathlib.Core.Path.{◌∙◌, ◌≡◌, ap, fun_ext, sym}
use Rattle.lists.specs.Tests.{all_below}
use Rattle.lists.proofs.Counts.{all-fails}
use Rattle.image.specs.Layout.{card_count, block_count}
use Rattle.mask.specs.Masks.{AreMembers, byte, has_card, members}
use Rattle.mask.specs.Placements.{is_site, pairless}
use Rattle.mask.proofs.Masks.{elem-members}
use Rattle.slot.specs.Blocks.{is_held}
use Rattle.method.specs.ControlPart.{only_newest}
use Rattle.method.specs.Rules.{View, act, newest_sites, refusal, retired, row, settle, settled, settled_at, unwritten}
use Rattle.control.specs.ControlBytes.{Part}
use Rattle.control.specs.Meaning.{meaning, placement_in}
use Rattle.control.specs.declared.Control.{Control}
use Rattle.control.proofs.Struct.{length-placements}
use Rattle.cabinet_rules.specs.Cabinet.{cabinet}
use Rattle.cabinet_rules.specs.Images.{Image, control_in, plan_on}
use Rattle.promise.specs.Given.{Given, rows_on, view_of}
use Rattle.promise.proofs.SharedRows.{stopped-is}
use Rattle.trail.specs.Trail.{holds_at}
use Rattle.trail.proofs.Holding.{holds-seen}
use Rattle.method.specs.Rules.{settled_by}
use Rattle.reorganise.proofs.SettledMasks.{same-sites}

-- ---- all blocks
pub some-fails : (k : Part) (v : View cabinet) (b : ℕ) → b < block_count → settled_at cabinet k v b ≡ false → false ≡ settled cabinet k v
unfolding settled
some-fails k v b h e = sym (all-fails (settled_at cabinet k v) block_count b h e)

pub all_pass : (k : Part) (v : View cabinet) (n : ℕ) → n ≡ block_count → all_below n (settled_at cabinet k v) ≡ true → true ≡ settled cabinet k v
unfolding settled
all_pass k v n e h = sym (ap (λ (m : ℕ). all_below m (settled_at cabinet k v)) (sym e) ∙ h)

module _ (k : Control) (g : Image) (is : Given k g) where
  pub block-is-settled : (b held sites : ℕ) → b < block_count → AreMembers held (holds_at g (byte k.working) b) → AreMembers sites (is_site (control_in g).newest b)
      → settled_by card_count (members (byte sites)) (has_card (byte held)) ≡ settled_at cabinet (control_in g) (view_of g) b
  unfolding settled_by
  block-is-settled b held sites h m s = ap (settled_by card_count (members (byte sites))) (fun_ext (λ c. m c ∙ holds-seen k g is b c h))
      ∙ same-sites (members (byte sites)) (newest_sites cabinet (control_in g) b) (λ c. elem-members (byte sites) c ∙ s c) (λ c. is_held (view_of g c b))

  pub settle-rows : row 4 k.stopped (row 13 (not (settled cabinet (control_in g) (view_of g))) 0) ≡ rows_on settle g
  unfolding refusal
  settle-rows = ap (λ (t : Bool). row 4 t (row 13 (not (settled cabinet (control_in g) (view_of g))) 0)) (stopped-is k g is)

  -- the answer: the older placements go
  pub older-count : length (control_in g).older ≡ k.count - 1
  unfolding meaning
  older-count = sym (length-map (control_in g).older pairless) ∙ ap (λ (p : Part). length p.older) (sym is.is.means) ∙ length-placements (placement_in k) (k.count - 1)

  pub settle-plan : plan_on settle g ≡ unwritten cabinet (retired (k.count - 1)) (only_newest (control_in g))
  unfolding act
  settle-plan = ap (λ (n : ℕ). unwritten cabinet (retired n) (only_newest (control_in g))) older-count
