-- move, settle, state, load. Assumes nothing.
use Prim.Native.Nat.{suc, zero, ℕ}
use borrow.Author.Tests.{eqb-true, ltb-true}
use lib.Dec.{eqb, ltb}
use mathlib.Core.Bool.{Bool, ◌&&◌, ◌||◌, cond, false, not, true}
use mathlib.Core.List.{[], ◌∷◌}
use mathlib.Core.Logic.{◌⊎◌, inl, inr}
use mathlib.Core.Option.{none}
use mathlib.Core.Path.{◌∙◌, ◌≡◌, ap, refl, sym}
use Rattle.lists.specs.Tests.{all_in, elem}
use Rattle.lists.proofs.Bools.{and_l, and_r, not-not-is, split, tf}
use Rattle.lists.proofs.Counts.{below_all}
use Rattle.lists.proofs.Lists.{all-out, elem_in}
use Rattle.method.specs.Rules.{settled_by, unless_refused}
use Rattle.method.specs.Changes.{Control}
use Rattle.method.specs.ControlPart.{active, only_newest}
use Rattle.method.specs.OneRecordList.{is_zero, plain_observe, quiet}
use Rattle.method.specs.Parameters.{Parameters}
use Rattle.method.specs.PlainList.{plain_act, plain_next, plain_refusal}
use Rattle.method.specs.Rules.{View, act, guarded, load, move, move_writes, newest_sites, plan, refusal, refused}
use Rattle.method.specs.Rules.{row, settle, settled, state, updated}
use Rattle.method.specs.Slots.{Slot}
use Rattle.method.proofs.Calls.Agreement.{Agrees, Good, idle-any, idle-still, plain_of}
use Rattle.method.proofs.ControlForms.{form-settled}
use Rattle.method.proofs.Invariant.{Blank, BlockInv, Cover, Invariant, holder-of, works-w}
use Rattle.method.proofs.Keeping.{kept, next-idle, next_view, renewed, same_view}
use Rattle.method.proofs.Laws.{Laws}
use Rattle.method.proofs.MoveEffect.{moved-away, moved_other, moved-site}
use Rattle.method.proofs.Refusals.{row-3, row-clear}

module _ (P : Parameters) (L : Laws P) where
  open P use {Block, cards, slots, blocks, block_of, place_of, has, empty, held, slot}
  open L use {has-card, held-empty}

  module _ (k : Control P) (v : View P) (records : ℕ → Slot) (i : Invariant P k v records) where
    -- ---- move
    move-inv : (c m : ℕ) → held (v c m) ≡ true → Invariant P k (next_view P L k (move_writes P k v c m) v) records
    move-inv c m hold = record {
      form = i.form;
      idle = next-idle P L k (move_writes P k v c m) v;
      each = λ b bk. go b bk (split (eqb b m));
    }
      where
        w : ℕ → ℕ → Block
        w x b = updated (move_writes P k v c m x b) (v x b)

        origin : (b : ℕ) → eqb b m ≡ true → held (v c b) ≡ true
        origin b p = rw (eqb-true b m p) hold

        site-held : (x b : ℕ) → eqb b m ≡ true → elem x (newest_sites P k b) ≡ true → held (w x b) ≡ true
        site-held x b p q = ap held (moved-site P k v c m x b p q) ∙ pick (held (v x b)) refl
          where
            pick : (h : Bool) → held (v x b) ≡ h → held (cond h (v x b) (v c b)) ≡ true
            pick true e = e
            pick false e = origin b p

        other-held : (x b : ℕ) → eqb b m ≡ true → elem x (newest_sites P k b) ≡ false → held (w x b) ≡ true → (held (v x b) ≡ true) × (w x b ≡ v x b)
        other-held x b p q h = pick (eqb x c) (moved_other P k v c m x b p q)
          where
            pick : (y : Bool) → w x b ≡ cond y empty (v x b) → (held (v x b) ≡ true) × (w x b ≡ v x b)
            pick true e = tf (held (w x b)) h (ap held e ∙ held-empty)
            pick false e = (sym (ap held e) ∙ h, e)

        trace : (x b : ℕ) → eqb b m ≡ true → (elem x (newest_sites P k b) ≡ true) ⊎ (elem x (newest_sites P k b) ≡ false) → held (w x b) ≡ true
            → (elem x (newest_sites P k b) ≡ true) ⊎ (held (v x b) ≡ true)
        trace x b p (inl q) h = inl q
        trace x b p (inr q) h = inr (other-held x b p q h).0

        slots : (x r b : ℕ) → eqb b m ≡ true → ltb b (blocks k.setting) ≡ true → (elem x (newest_sites P k b) ≡ true) ⊎ (elem x (newest_sites P k b) ≡ false) → held (w x b) ≡ true
            → block_of r ≡ b → slot (w x b) (place_of r) ≡ records r
        slots x r b p bk (inl q) h e = ap (λ y. slot y (place_of r)) (moved-site P k v c m x b p q) ∙ pick (held (v x b)) refl
          where
            pick : (y : Bool) → held (v x b) ≡ y → slot (cond y (v x b) (v c b)) (place_of r) ≡ records r
            pick true z = (i.each b bk).same x r z e
            pick false z = (i.each b bk).same c r (origin b p) e
        slots x r b p bk (inr q) h e = let o = other-held x b p q h in ap (λ y. slot y (place_of r)) o.1 ∙ (i.each b bk).same x r o.0 e

        go : (b : ℕ) → ltb b (blocks k.setting) ≡ true → (eqb b m ≡ true) ⊎ (eqb b m ≡ false)
            → BlockInv P k.setting (active k) (has k.working) (next_view P L k (move_writes P k v c m) v) records b
        go b bk (inl p) = renewed P L k v records i (move_writes P k v c m) records b bk
            (λ x q. site-held x b p q)
            (λ x h. trace x b p (split (elem x (newest_sites P k b))) h)
            (λ x r h e. slots x r b p bk (split (elem x (newest_sites P k b))) h e)
        go b bk (inr p) = kept P L k v records i k (move_writes P k v c m) records b bk bk (λ q z. z) (λ q x z y h. h)
            (λ x s. ap held (moved-away P k v c m x b p))
            (λ x r s h e o. ap (λ (y : Block). slot y (place_of r)) (moved-away P k v c m x b p) ∙ o)
            (λ n r e. n.1 r e)

    pub step_move : (c b : ℕ) → Agrees P L k v records (move c b)
    unfolding plan refusal act plain_observe plain_next plain_refusal plain_act
    step_move c b = go (refusal P (move c b) k v) refl
      where
        go : (n : ℕ) → refusal P (move c b) k v ≡ n → Good P L v (move c b) (guarded P n k (act P (move c b) k v)) quiet (plain_of P k records)
        go zero e =
            let x = (row-clear (not (has k.working c)) 7 (row-clear k.stopped 3 (row-3 (ltb c cards && ltb b (blocks k.setting)) e).1).1).1 in
            record { sight = refl; goes = λ z. (refl, move-inv c b (not-not-is (held (v c b)) (row-clear (not (held (v c b))) 10 x).0)) }
        go (suc n) e = idle-still P L k v records i (move c b) (refused (suc n)) quiet refl

    -- ---- settle
    settle-inv : settled P k v ≡ true → Invariant P (only_newest k) (next_view P L (only_newest k) (λ c b. none) v) records
    unfolding settled settled_by next_view
    settle-inv yes-settled = rw (same_view P L k v records i) record {
      form = form-settled P L k i.form;
      idle = i.idle;
      each = λ b bk. record {
        trailed = λ c h. (k.newest, inl refl, and_l (elem c (newest_sites P k b)) (all_in (λ x. held (v x b)) (newest_sites P k b)) (all_new c b bk h));
        same = (i.each b bk).same;
        cover = go b bk (i.each b bk).cover;
      };
    }
      where
        all_new : (c b : ℕ) → ltb b (blocks k.setting) ≡ true → held (v c b) ≡ true → (elem c (newest_sites P k b) && all_in (λ x. held (v x b)) (newest_sites P k b)) ≡ true
        all_new c b bk h =
            let row = below_all (blocks k.setting) _ b yes-settled (ltb-true b (blocks k.setting) bk) in
            let cell = below_all cards (λ c. not (held (v c b)) || (elem c (newest_sites P k b) && all_in (λ x. held (v x b)) (newest_sites P k b))) c row
            (has-card k.working c (works-w P L k v records i c b h)) in
            rw h at cell

        go : (b : ℕ) → ltb b (blocks k.setting) ≡ true → Cover P k.setting (active k) (has k.working) v b ⊎ Blank P v records b
            → Cover P k.setting (k.newest ∷ []) (has k.working) v b ⊎ Blank P v records b
        go b bk (inl o) =
            let h = holder-of P L k v records i b bk o in
            let a = and_r (elem h.0 (newest_sites P k b)) (all_in (λ x. held (v x b)) (newest_sites P k b)) (all_new h.0 b bk h.1) in
            inl (k.newest, inl refl, λ c e z. all-out (λ x. held (v x b)) (newest_sites P k b) c a (elem_in c (newest_sites P k b) e))
        go b bk (inr n) = inr n

    pub step-settle : Agrees P L k v records settle
    unfolding plan refusal act plain_observe plain_next plain_refusal plain_act
    step-settle = go (refusal P settle k v) refl
      where
        go : (n : ℕ) → refusal P settle k v ≡ n → Good P L v settle (guarded P n k (act P settle k v)) quiet
            (unless_refused (row 13 (not (is_zero n)) 0) (plain_of P k records) (plain_act P settle (plain_of P k records)))
        go zero e = record { sight = refl; goes = λ z. (refl, settle-inv (not-not-is (settled P k v) (row-clear (not (settled P k v)) 12 (row-clear k.stopped 3 e).1).0)) }
        go (suc n) e = idle-still P L k v records i settle (refused (suc n)) quiet refl

    -- ---- state, load
    pub step-state : Agrees P L k v records state
    unfolding plan refusal act plain_observe plain_next plain_refusal plain_act
    step-state = idle-any P L k v records i state _ (λ x. refl) (refusal P state k v)

    pub step-load : (c : ℕ) → Agrees P L k v records (load c)
    unfolding plan refusal act plain_observe plain_next plain_refusal plain_act
    step-load c = idle-any P L k v records i (load c) _ (λ x. refl) (refusal P (load c) k v)
