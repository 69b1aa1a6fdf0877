-- From the rules to images: the state that an image shows after a call and after a list of calls is the state that the rules give; so what is
-- proved of the rules holds of images. Assumes nothing.
use Prim.Native.Nat.{◌<◌, suc, zero, ℕ}
use borrow.Author.Tests.{eq-eqb, eqb-true, ltb-true}
use lib.Dec.{eqb, ltb}
use lib.ListN.{length}
use mathlib.Core.Bool.{Bool, ◌&&◌, cond, false, not, true}
use mathlib.Core.List.{List, [], ◌∷◌}
use mathlib.Core.Logic.{◌⊎◌, inl, inr}
use mathlib.Core.Option.{Option, none, some}
use mathlib.Core.Path.{◌∙◌, ◌≡◌, ap, ap₂, refl, subst, sym}
use native.Mathlib.Omega.{arith}
use Rattle.lists.proofs.Bools.{and_l, and_r, not-not-is, split}
use Rattle.image.specs.Layout.{Layout, block_count, card_count, image_size_of}
use Rattle.mask.specs.Masks.{Byte}
use Rattle.slot.specs.Blocks.{empty_block}
use Rattle.method.specs.Changes.{started_by}
use Rattle.method.specs.OneRecordList.{state_after, Observation, calls_of, is_last, observe, run_store}
use Rattle.method.specs.Parameters.{Parameters}
use Rattle.method.specs.PlainList.{or_refused}
use Rattle.method.specs.Rules.{is_start, Answer, Call, Plan, act, answer_of, apply, guarded, look, next_state, ok, plan, refusal, row, start, updated}
use Rattle.method.specs.Rules.{visible}
use Rattle.method.proofs.Laws.{Laws}
use Rattle.method.proofs.Refusals.{row-clear}
use Rattle.method.proofs.Legal.{Legal, Written, legal-next, legal-start, stamp-outside, stamp-written, write-outside}
use Rattle.cabinet_rules.specs.Cabinet.{rules_of, start_row}
use Rattle.cabinet_rules.specs.ByTheRules.{noised_by}
use Rattle.cabinet_rules.specs.Claims.{NoisyCallBy, image_after_by, image_calls_by, noisy_by, run_image_by}
use Rattle.cabinet_rules.specs.Delivery.{Delivery}
use Rattle.cabinet_rules.specs.Images.{Image, after_plan, answer_by, block_by, control_by, end_by, end_of, is_there}
use Rattle.cabinet_rules.specs.Images.{next_by, plan_by, refusal_by, state_by}
use Rattle.cabinet_rules.proofs.After.{after-end}
use Rattle.cabinet_rules.proofs.Lawful.{DeliveryLaws, ShowsStamp, lawful_by}
use Rattle.cabinet_rules.proofs.Noisy.{plan-block, plan-long, plan-wrote}
use Rattle.cabinet_rules.proofs.Legible.{Legible, legible-form, legible-noise, legible-part, reads, state-ext, state-noise}

module _ (D : Delivery) (W : DeliveryLaws D) where
  abbrev P : Parameters
  P = rules_of D

  abbrev L : Laws P
  L = lawful_by D W.rules

  abbrev Y : Layout
  Y = D.memory.layout

  -- ---- a call
  -- there only the rows from 3 on can refuse
  pub refusal-legible : (c : Call P) (g : Image) → Legible D W g → refusal_by D c g ≡ refusal P c (control_by D g) (look P (state_by D g))
  unfolding refusal_by
  refusal-legible c g s = rw (eq-eqb (length g) (image_size_of Y) s.long, legible-form D W g s) (go (is_start c))
    where
      go : (b : Bool) → row 2 (not b && false) (refusal P c (control_by D g) (look P (state_by D g))) ≡ refusal P c (control_by D g) (look P (state_by D g))
      go true = refl
      go false = refl

  -- and the answer is that of the rules on the state that the image shows
  answer-rows : (c : Call P) (g : Image) → refusal_by D c g ≡ refusal P c (control_by D g) (look P (state_by D g)) → answer_by D c g ≡ answer_of P c (state_by D g)
  unfolding answer_by answer_of plan state_by
  answer-rows c g rows = ap (λ (n : ℕ). or_refused P n (plan_by D c g).answer) rows ∙ go (refusal P c (control_by D g) (look P (state_by D g)))
    where
      go : (n : ℕ) → or_refused P n (plan_by D c g).answer ≡ (guarded P n (control_by D g) (plan_by D c g)).answer
      go zero = refl
      go (suc n) = refl

  pub answer-legible : (c : Call P) (g : Image) → Legible D W g → answer_by D c g ≡ answer_of P c (state_by D g)
  answer-legible c g s = answer-rows c g (refusal-legible c g s)

  -- the state after a plan that leaves a legal control part and writes nothing outside the tables
  module _ (p : Plan P) (g : Image) (good : Legal P L p.after) (blocks : (c b : ℕ) → is_there c b ≡ false → updated (p.write c b) empty_block ≡ empty_block)
      (shown : (c : ℕ) → Written P L (ShowsStamp D) (p.stamps c)) (stamps : (c : ℕ) → ltb c card_count ≡ false → updated (p.stamps c) D.memory.no_stamp ≡ D.memory.no_stamp) where
    abbrev O : Image
    O = after_plan D p g

    end_after : (c : ℕ) → c < card_count → (o : Option D.memory.Stamp) → p.stamps c ≡ o → Written P L (ShowsStamp D) o
        → D.memory.stamp_in (end_by Y O c) ≡ updated o (D.memory.stamp_in (end_by Y g c))
    end_after c hc none e w = W.stamps.same-stamp (end_by Y O c) (end_by Y g c) (λ j h. at j h ∙ ap (λ (x : Option D.memory.Stamp). updated (end_of D x) (end_by Y g c) j) e)
      where
        at : (j : ℕ) → j < Y.table_tail → end_by Y O c j ≡ updated (end_of D (p.stamps c)) (end_by Y g c) j
        at j h = after-end Y (D.memory.bytes p.after) (D.memory.tail p.after) p.write (λ c. end_of D (p.stamps c)) g c j hc h
    end_after c hc (some m) e w = w (end_by Y O c) (λ j h. at j h ∙ ap (λ (x : Option D.memory.Stamp). updated (end_of D x) (end_by Y g c) j) e)
      where
        at : (j : ℕ) → j < Y.table_tail → end_by Y O c j ≡ updated (end_of D (p.stamps c)) (end_by Y g c) j
        at j h = after-end Y (D.memory.bytes p.after) (D.memory.tail p.after) p.write (λ c. end_of D (p.stamps c)) g c j hc h

    pub state-plan : state_by D O ≡ apply P p (state_by D g)
    unfolding state_by apply
    state-plan = state-ext D W (state_by D O) (apply P p (state_by D g)) (reads D W p.after good O (plan-wrote D p g)) (λ c b. blk c b (split (is_there c b))) (λ c. stm c (split (ltb c card_count)))
      where
        blk : (c b : ℕ) → (is_there c b ≡ true) ⊎ (is_there c b ≡ false)
            → cond (is_there c b) (block_by Y O c b) empty_block ≡ updated (p.write c b) (cond (is_there c b) (block_by Y g c b) empty_block)
        blk c b (inl e) = rw e (plan-block D p g c b (ltb-true c card_count (and_l (ltb c card_count) (ltb b block_count) e)) (ltb-true b block_count (and_r (ltb c card_count) (ltb b block_count) e)))
        blk c b (inr e) = rw e (sym (blocks c b e))

        stm : (c : ℕ) → (ltb c card_count ≡ true) ⊎ (ltb c card_count ≡ false)
            → cond (ltb c card_count) (D.memory.stamp_in (end_by Y O c)) D.memory.no_stamp ≡ updated (p.stamps c) (cond (ltb c card_count) (D.memory.stamp_in (end_by Y g c)) D.memory.no_stamp)
        stm c (inl e) = rw e (end_after c (ltb-true c card_count e) (p.stamps c) refl (shown c))
        stm c (inr e) = rw e (sym (stamps c e))

  -- an image and the state that it shows, after a refused call and after an accepted one
  next-refused : (c : Call P) (g : Image) (n : ℕ) → refusal_by D c g ≡ suc n → next_by D c g ≡ g
  unfolding next_by
  next-refused c g n e = rw e

  state-refused : (c : Call P) (g : Image) (n : ℕ) → refusal P c (control_by D g) (look P (state_by D g)) ≡ suc n → next_state P c (state_by D g) ≡ state_by D g
  unfolding next_state apply plan state_by
  state-refused c g n e = rw e

  next-accepted : (c : Call P) (g : Image) → refusal_by D c g ≡ 0 → next_by D c g ≡ after_plan D (plan_by D c g) g
  unfolding next_by
  next-accepted c g e = rw e

  state-accepted : (c : Call P) (g : Image) → refusal P c (control_by D g) (look P (state_by D g)) ≡ 0 → next_state P c (state_by D g) ≡ apply P (plan_by D c g) (state_by D g)
  unfolding next_state plan state_by
  state-accepted c g e = rw e

  -- where the rows from 3 on decide
  module _ (c : Call P) (g : Image) (rows : refusal_by D c g ≡ refusal P c (control_by D g) (look P (state_by D g)))
      (good : refusal P c (control_by D g) (look P (state_by D g)) ≡ 0 → Legal P L (plan_by D c g).after)
      (inside : refusal P c (control_by D g) (look P (state_by D g)) ≡ 0 → (x b : ℕ) → is_there x b ≡ false → updated ((plan_by D c g).write x b) empty_block ≡ empty_block) where
    state-rows : state_by D (next_by D c g) ≡ next_state P c (state_by D g)
    state-rows = go (refusal P c (control_by D g) (look P (state_by D g))) refl
      where
        go : (n : ℕ) → refusal P c (control_by D g) (look P (state_by D g)) ≡ n → state_by D (next_by D c g) ≡ next_state P c (state_by D g)
        go zero e = ap (state_by D) (next-accepted c g (rows ∙ e))
            ∙ state-plan (plan_by D c g) g (good e) (inside e)
            (stamp-written P L (ShowsStamp D) (control_by D g) (look P (state_by D g)) c W.stamps.none-shown (W.stamps.stamp-shown (plan_by D c g).after (good e)))
            (λ x out. stamp-outside P L (control_by D g) (look P (state_by D g)) x out c)
            ∙ sym (state-accepted c g e)
        go (suc n) e = ap (state_by D) (next-refused c g n (rows ∙ e)) ∙ sym (state-refused c g n e)

  -- what cannot be seen of a state is empty
  unseen : (g : Image) (c b : ℕ) → visible P (control_by D g) c b ≡ false → look P (state_by D g) c b ≡ empty_block
  unfolding look state_by
  unseen g c b e = rw e

  module _ (c : Call P) (g : Image) (s : Legible D W g) where
    legal-now : Legal P L (control_by D g)
    legal-now = subst (Legal P L) (sym (legible-part D W g s)) s.legal

    good-next : refusal P c (control_by D g) (look P (state_by D g)) ≡ 0 → Legal P L (plan_by D c g).after
    good-next = legal-next P L (control_by D g) legal-now c (look P (state_by D g))

    pub legible-next : Legible D W (next_by D c g)
    legible-next = go (refusal_by D c g) refl
      where
        go : (n : ℕ) → refusal_by D c g ≡ n → Legible D W (next_by D c g)
        go zero e =
            let h : Legal P L (plan_by D c g).after = good-next (sym (refusal-legible c g s) ∙ e) in
            subst (Legible D W) (sym (next-accepted c g e)) (record { part = (plan_by D c g).after; legal = h; long = plan-long D (plan_by D c g) g; wrote = plan-wrote D (plan_by D c g) g })
        go (suc n) e = subst (Legible D W) (sym (next-refused c g n e)) s

    -- THE CALL
    pub state-next : state_by D (next_by D c g) ≡ next_state P c (state_by D g)
    state-next = state-rows c g (refusal-legible c g s) good-next
        (λ e x b out. write-outside P L (control_by D g) legal-now (look P (state_by D g)) (unseen g) x b out c e)

  -- ---- a start, on an image of the right length
  module _ (m : Byte) (g : Image) where
    start-rows : length g ≡ image_size_of Y → refusal_by D (start m) g ≡ start_row m
    unfolding refusal_by refusal
    start-rows long = rw (eq-eqb (length g) (image_size_of Y) long)

    pub answer-start : length g ≡ image_size_of Y → answer_by D (start m) g ≡ answer_of P (start m) (state_by D g)
    unfolding refusal
    answer-start long = answer-rows (start m) g (start-rows long)

    pub state-start : length g ≡ image_size_of Y → state_by D (next_by D (start m) g) ≡ next_state P (start m) (state_by D g)
    unfolding act refusal
    state-start long = state-rows (start m) g (start-rows long) (legal-start P L m) (λ e x b out. refl)

    -- an accepted one
    accepted : answer_by D (start m) g ≡ ok → refusal_by D (start m) g ≡ 0
    unfolding answer_by
    accepted e = go (refusal_by D (start m) g) e
      where
        go : (n : ℕ) → or_refused P n (plan_by D (start m) g).answer ≡ ok → n ≡ 0
        go zero h = refl
        go (suc n) h = let z : ◌≡◌ {A = ℕ} 0 1 = cc in absurd (omega arith)

    start-clear : answer_by D (start m) g ≡ ok → (not (eqb (length g) (image_size_of Y)) ≡ false) × (start_row m ≡ 0)
    unfolding refusal_by refusal
    start-clear e = row-clear (not (eqb (length g) (image_size_of Y))) 0 (accepted e)

    pub start-row : answer_by D (start m) g ≡ ok → start_row m ≡ 0
    start-row e = (start-clear e).1

    pub start-long : answer_by D (start m) g ≡ ok → length g ≡ image_size_of Y
    start-long e = eqb-true (length g) (image_size_of Y) (not-not-is (eqb (length g) (image_size_of Y)) (start-clear e).0)

    pub legible-start : answer_by D (start m) g ≡ ok → Legible D W (next_by D (start m) g)
    unfolding act
    legible-start e = subst (Legible D W) (sym (next-accepted (start m) g (accepted e))) (record {
      part = started_by P m;
      legal = legal-start P L m (start-row e);
      long = plan-long D (plan_by D (start m) g) g;
      wrote = plan-wrote D (plan_by D (start m) g) g;
    })

  -- ---- a list of calls
  -- THE STATE AFTER ALL OF THEM
  pub state-after : (l : List (NoisyCallBy D)) (g : Image) → Legible D W g → Legible D W (image_after_by D l g) × (state_by D (image_after_by D l g) ≡ state_after P (noised_by D l) (state_by D g))
  unfolding image_after_by state_after
  state-after [] g s = (s, refl)
  state-after (e ∷ l) g s =
      let n : Legible D W (noisy_by D e.0 g) = legible-noise D W e.0 g s in
      let h = state-after l (next_by D e.1 (noisy_by D e.0 g)) (legible-next e.1 (noisy_by D e.0 g) n) in
      (h.0, h.1 ∙ ap (state_after P (noised_by D l)) (state-next e.1 (noisy_by D e.0 g) n ∙ ap (next_state P e.1) (state-noise D W e.0 g s)))

  -- AND WHAT IS OBSERVED
  pub run-rules : (l : List (NoisyCallBy D)) (g : Image) → Legible D W g → run_image_by D l g ≡ run_store P (noised_by D l) (state_by D g)
  unfolding run_image_by run_store
  run-rules [] g s = refl
  run-rules (e ∷ l) g s =
      let h : Image = noisy_by D e.0 g in
      let n : Legible D W h = legible-noise D W e.0 g s in
      ap₂ (λ (x : Answer P) (t : List (Observation P)). observe P e.1 x ∷ cond (is_last P (observe P e.1 x)) [] t)
      (answer-legible e.1 h n ∙ ap (answer_of P e.1) (state-noise D W e.0 g s))
      (run-rules l (next_by D e.1 h) (legible-next e.1 h n) ∙ ap (run_store P (noised_by D l)) (state-next e.1 h n ∙ ap (next_state P e.1) (state-noise D W e.0 g s)))

  pub calls_alone : (l : List (NoisyCallBy D)) → calls_of P (noised_by D l) ≡ image_calls_by D l
  calls_alone [] = refl
  calls_alone (e ∷ l) = ap (λ (t : List (Call P)). e.1 ∷ t) (calls_alone l)
