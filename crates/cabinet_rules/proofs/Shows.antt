-- An image that shows a running store: it is legible, its control part k meets the form, and of its tables a view v can be seen. Noise on
-- failed cards and calls keep this. Assumes nothing.
use Prim.Native.Nat.{ℕ}
use mathlib.Core.Bool.{false}
use mathlib.Core.Path.{◌≡◌, subst, sym}
use Rattle.slot.specs.Blocks.{empty_block}
use Rattle.method.specs.Parameters.{Parameters}
use Rattle.method.specs.Rules.{Call, State, View, answer_of, next_state, visible}
use Rattle.method.proofs.Capacity.{ControlInv}
use Rattle.method.proofs.Invariant.{Form}
use Rattle.method.proofs.Laws.{Laws}
use Rattle.method.proofs.Run.{Beside, beside-disturb}
use Rattle.cabinet_rules.specs.Cabinet.{rules_of}
use Rattle.cabinet_rules.specs.ByTheRules.{noise_by}
use Rattle.cabinet_rules.specs.Claims.{noisy_by}
use Rattle.cabinet_rules.specs.Delivery.{Delivery, PartOf}
use Rattle.cabinet_rules.specs.Images.{Image, answer_by, next_by, state_by}
use Rattle.cabinet_rules.proofs.Lawful.{DeliveryLaws, lawful_by}
use Rattle.cabinet_rules.proofs.Legible.{Legible, legible-noise, state-noise}
use Rattle.cabinet_rules.proofs.Transport.{answer-legible, legible-next, state-next}

module _ (D : Delivery) (W : DeliveryLaws D) where
  abbrev P : Parameters
  P = rules_of D

  abbrev L : Laws P
  L = lawful_by D W.rules

  pub record Shows (g : Image) (k : PartOf D) (v : View P) : Type 0 where
    pub seen : Legible D W g
    pub form : Form P k
    pub full : ControlInv P L k
    pub idle : (c b : ℕ) → visible P k c b ≡ false → v c b ≡ empty_block
    pub beside : Beside P L (state_by D g) k v

  pub noise-shows : (noise : ℕ → ℕ) (g : Image) (k : PartOf D) (v : View P) → Shows g k v → Shows (noisy_by D noise g) k v
  noise-shows noise g k v s = record {
    seen = legible-noise D W noise g s.seen;
    form = s.form;
    full = s.full;
    idle = s.idle;
    beside = subst (λ (x : State P). Beside P L x k v) (sym (state-noise D W noise g s.seen)) (beside-disturb P L (noise_by D noise) (state_by D g) k v s.form s.beside);
  }

  pub answer-shows : (c : Call P) (g : Image) (k : PartOf D) (v : View P) → Shows g k v → answer_by D c g ≡ answer_of P c (state_by D g)
  answer-shows c g k v s = answer-legible D W c g s.seen

  -- the image after a call shows what the rules' state after it is beside
  pub next-shows : (c : Call P) (g : Image) (k k' : PartOf D) (v v' : View P) → Shows g k v → Form P k' → ControlInv P L k'
      → ((x b : ℕ) → visible P k' x b ≡ false → v' x b ≡ empty_block) → Beside P L (next_state P c (state_by D g)) k' v' → Shows (next_by D c g) k' v'
  next-shows c g k k' v v' s f u idle d = record {
    seen = legible-next D W c g s.seen;
    form = f;
    full = u;
    idle = idle;
    beside = subst (λ (x : State P). Beside P L x k' v') (sym (state-next D W c g s.seen)) d;
  }
