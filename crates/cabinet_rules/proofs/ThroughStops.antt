-- Steps on images are those of the rules on the states that they show, with the noise and the recorded bytes as blocks and stamps; so the
-- theorem through stops holds of images. Assumes nothing.
use Prim.Native.Nat.{◌+◌, ◌<◌, ℕ}
use borrow.Author.Tests.{le-leb, ltb-true}
use lib.Dec.{ltb}
use lib.ListN.{get_or}
use mathlib.Core.Bool.{Bool, cond, false, true}
use mathlib.Core.List.{List, [], ◌++◌, ◌∷◌}
use mathlib.Core.Logic.{◌⊎◌, inl, inr}
use mathlib.Core.Path.{◌∙◌, ◌≡◌, ap, ap₂, refl, subst, sym}
use native.Mathlib.Omega.{arith}
use Rattle.lists.proofs.Bools.{and_r, split}
use Rattle.image.specs.Layout.{Layout, block_address_of, block_count, block_size, block_start, blocks_size, card_count, control_size, end_start_of}
use Rattle.image.specs.Layout.{table_size_of, table_start_of}
use Rattle.slot.specs.Blocks.{block_of_bytes, empty_block}
use Rattle.slot.proofs.Blocks.{block-ext, byte-in}
use Rattle.method.specs.OneRecordList.{Noise, Observation, disturb, is_zero, observe}
use Rattle.method.specs.Parameters.{Parameters}
use Rattle.method.specs.Rules.{State}
use Rattle.method.specs.ThroughStops.{AsRecorded, Intact, Step, Tables, after_step, call, counts, next_by, recorded, recorded_by, return, run_through}
use Rattle.method.specs.ThroughStops.{observed, steps_taken, takes}
use Rattle.cabinet_rules.specs.Cabinet.{rules_of}
use Rattle.cabinet_rules.specs.ByTheRules.{noise_by}
use Rattle.cabinet_rules.specs.Claims.{noisy_by}
use Rattle.cabinet_rules.specs.Delivery.{Delivery}
use Rattle.cabinet_rules.specs.Images.{Image, block_by, end_by, is_there, state_by}
use Rattle.cabinet_rules.specs.ThroughStops.{AsRecordedBy, IntactBy, NoisyStepBy, after_step_by, counts_by, failed_between, image_through_by}
use Rattle.cabinet_rules.specs.ThroughStops.{observed_by, recorded_byte, run_through_by, steps_taken_by, takes_by}
use Rattle.cabinet_rules.proofs.After.{card-of}
use Rattle.cabinet_rules.proofs.Lawful.{DeliveryLaws}
use Rattle.cabinet_rules.proofs.Legible.{Legible, legible-noise, state-noise}
use Rattle.cabinet_rules.proofs.Returns.{legible-return, return-rows, state-return}
use Rattle.cabinet_rules.proofs.Transport.{answer-legible, legible-next, state-next}

module _ (D : Delivery) (W : DeliveryLaws D) where
  abbrev P : Parameters
  P = rules_of D

  abbrev Y : Layout
  Y = D.memory.layout

  -- the same steps as the rules are given them, and the recorded bytes as tables
  abbrev pub stepped_by : List (NoisyStepBy D) → List (Noise P × Step P)
  stepped_by [] = []
  stepped_by (e ∷ l) = (noise_by D e.0, e.1) ∷ stepped_by l

  unfoldable pub tables_by : (ℕ → ℕ) → Tables P
  tables_by t = record {
    block = λ c b. cond (is_there c b) (block_of_bytes (λ j. t (block_address_of Y c b + j))) empty_block;
    stamp = λ c. cond (ltb c card_count) (D.memory.stamp_in (λ j. t (end_start_of Y c + j))) D.memory.no_stamp;
  }

  -- ---- one step
  pub legible-step : (e : Step P) (g : Image) → Legible D W g → Legible D W (after_step_by D e g)
  unfolding after_step_by
  legible-step (call c) g s = legible-next D W c g s
  legible-step (return c) g s = legible-return D W c g s

  pub state-step : (e : Step P) (g : Image) → Legible D W g → state_by D (after_step_by D e g) ≡ after_step P e (state_by D g)
  unfolding after_step_by after_step
  state-step (call c) g s = state-next D W c g s
  state-step (return c) g s = state-return D W c g s

  pub takes_same : (c : ℕ) (g : Image) → Legible D W g → takes_by D c g ≡ takes P c (state_by D g)
  unfolding takes_by takes state_by
  takes_same c g s = ap is_zero (return-rows D W c g s)

  pub counts_same : (e : Step P) (g : Image) → Legible D W g → counts_by D e g ≡ counts P e (state_by D g)
  counts_same (call c) g s = refl
  counts_same (return c) g s = takes_same c g s

  pub observed-same : (e : Step P) (g : Image) → Legible D W g → observed_by D e g ≡ observed P e (state_by D g)
  unfolding observed_by observed
  observed-same (call c) g s = ap (λ x. observe P c x ∷ []) (answer-legible D W c g s)
  observed-same (return c) g s = refl

  -- ---- bytes and tables
  flat : (a b j : ℕ) → a + b + j ≡ a + (b + j)
  flat a b j = omega arith

  -- byte j of the table of card c is recorded with the card
  record-at : (g h : Image) (t : ℕ → ℕ) (c j : ℕ) → j < table_size_of Y
      → recorded_byte D g h t (table_start_of Y c + j) ≡ cond (failed_between D g h c) (get_or h (table_start_of Y c + j) 0) (t (table_start_of Y c + j))
  unfolding recorded_byte
  record-at g h t c j hj = rw (card-of Y c j hj, le-leb control_size (table_start_of Y c + j) (omega arith))

  block-recorded : (g h : Image) (t : ℕ → ℕ) (c b : ℕ) → b < block_count → (d : Bool) → failed_between D g h c ≡ d
      → cond d (block_by Y h c b) (block_of_bytes (λ j. t (block_address_of Y c b + j))) ≡ block_of_bytes (λ j. recorded_byte D g h t (block_address_of Y c b + j))
  block-recorded g h t c b hb d e = go d e
    where
      at : (j : ℕ) → j < block_size → recorded_byte D g h t (block_address_of Y c b + j) ≡ cond (failed_between D g h c) (get_or h (block_address_of Y c b + j) 0) (t (block_address_of Y c b + j))
      at j l = subst (λ (n : ℕ). recorded_byte D g h t n ≡ cond (failed_between D g h c) (get_or h n 0) (t n)) (sym (flat (table_start_of Y c) (block_start b) j))
          (record-at g h t c (block_start b + j) (omega arith))

      go : (d : Bool) → failed_between D g h c ≡ d
          → cond d (block_by Y h c b) (block_of_bytes (λ j. t (block_address_of Y c b + j))) ≡ block_of_bytes (λ j. recorded_byte D g h t (block_address_of Y c b + j))
      go true e = block-ext _ _ (λ j l. byte-in (λ i. get_or h (block_address_of Y c b + i) 0) j l
          ∙ sym (at j l ∙ ap (λ (x : Bool). cond x (get_or h (block_address_of Y c b + j) 0) (t (block_address_of Y c b + j))) e)
          ∙ sym (byte-in (λ i. recorded_byte D g h t (block_address_of Y c b + i)) j l))
      go false e = block-ext _ _ (λ j l. byte-in (λ i. t (block_address_of Y c b + i)) j l
          ∙ sym (at j l ∙ ap (λ (x : Bool). cond x (get_or h (block_address_of Y c b + j) 0) (t (block_address_of Y c b + j))) e)
          ∙ sym (byte-in (λ i. recorded_byte D g h t (block_address_of Y c b + i)) j l))

  stamp-recorded : (g h : Image) (t : ℕ → ℕ) (c : ℕ) → (d : Bool) → failed_between D g h c ≡ d
      → cond d (D.memory.stamp_in (end_by Y h c)) (D.memory.stamp_in (λ j. t (end_start_of Y c + j))) ≡ D.memory.stamp_in (λ j. recorded_byte D g h t (end_start_of Y c + j))
  stamp-recorded g h t c d e = go d e
    where
      at : (j : ℕ) → j < Y.table_tail → recorded_byte D g h t (end_start_of Y c + j) ≡ cond (failed_between D g h c) (get_or h (end_start_of Y c + j) 0) (t (end_start_of Y c + j))
      at j l = subst (λ (n : ℕ). recorded_byte D g h t n ≡ cond (failed_between D g h c) (get_or h n 0) (t n)) (sym (flat (table_start_of Y c) blocks_size j))
          (record-at g h t c (blocks_size + j) (omega arith))

      go : (d : Bool) → failed_between D g h c ≡ d
          → cond d (D.memory.stamp_in (end_by Y h c)) (D.memory.stamp_in (λ j. t (end_start_of Y c + j))) ≡ D.memory.stamp_in (λ j. recorded_byte D g h t (end_start_of Y c + j))
      go true e = W.stamps.same-stamp _ _ (λ j l. sym (at j l ∙ ap (λ (x : Bool). cond x (get_or h (end_start_of Y c + j) 0) (t (end_start_of Y c + j))) e))
      go false e = W.stamps.same-stamp _ _ (λ j l. sym (at j l ∙ ap (λ (x : Bool). cond x (get_or h (end_start_of Y c + j) 0) (t (end_start_of Y c + j))) e))

  tables-ext : (s t : Tables P) → ((c b : ℕ) → s.block c b ≡ t.block c b) → ((c : ℕ) → s.stamp c ≡ t.stamp c) → s ≡ t
  tables-ext s t p q = λ i. record { block = λ c b. p c b i; stamp = λ c. q c i }

  pub recorded-same : (g h : Image) (t : ℕ → ℕ) → recorded P (state_by D g) (state_by D h) (tables_by t) ≡ tables_by (recorded_byte D g h t)
  unfolding recorded state_by tables_by
  recorded-same g h t = tables-ext _ _ (λ c b. blk c b (split (is_there c b))) (λ c. stm c (split (ltb c card_count)))
    where
      either : {A : Type 0} (d : Bool) (x : A) → cond d x x ≡ x
      either true x = refl
      either false x = refl

      blk : (c b : ℕ) → (is_there c b ≡ true) ⊎ (is_there c b ≡ false)
          → cond (failed_between D g h c) (cond (is_there c b) (block_by Y h c b) empty_block) (cond (is_there c b) (block_of_bytes (λ j. t (block_address_of Y c b + j))) empty_block)
          ≡ cond (is_there c b) (block_of_bytes (λ j. recorded_byte D g h t (block_address_of Y c b + j))) empty_block
      blk c b (inl e) = rw e (block-recorded g h t c b (ltb-true b block_count (and_r (ltb c card_count) (ltb b block_count) e)) (failed_between D g h c) refl)
      blk c b (inr e) = rw e (either (failed_between D g h c) empty_block)

      stm : (c : ℕ) → (ltb c card_count ≡ true) ⊎ (ltb c card_count ≡ false)
          → cond (failed_between D g h c) (cond (ltb c card_count) (D.memory.stamp_in (end_by Y h c)) D.memory.no_stamp)
          (cond (ltb c card_count) (D.memory.stamp_in (λ j. t (end_start_of Y c + j))) D.memory.no_stamp)
          ≡ cond (ltb c card_count) (D.memory.stamp_in (λ j. recorded_byte D g h t (end_start_of Y c + j))) D.memory.no_stamp
      stm c (inl e) = rw e (stamp-recorded g h t c (failed_between D g h c) refl)
      stm c (inr e) = rw e (either (failed_between D g h c) D.memory.no_stamp)

  -- a table with the recorded bytes shows the recorded blocks and stamp
  module _ (g : Image) (t : ℕ → ℕ) (c : ℕ) (same : (j : ℕ) → j < table_size_of Y → get_or g (table_start_of Y c + j) 0 ≡ t (table_start_of Y c + j)) where
    same_block : (b : ℕ) → (state_by D g).block c b ≡ (tables_by t).block c b
    unfolding state_by tables_by
    same_block b = go (split (is_there c b))
      where
        go : (is_there c b ≡ true) ⊎ (is_there c b ≡ false)
            → cond (is_there c b) (block_by Y g c b) empty_block ≡ cond (is_there c b) (block_of_bytes (λ j. t (block_address_of Y c b + j))) empty_block
        go (inl e) = rw e (block-ext _ _ (λ j l.
            let hb : b < block_count = ltb-true b block_count (and_r (ltb c card_count) (ltb b block_count) e) in
            byte-in (λ i. get_or g (block_address_of Y c b + i) 0) j l
            ∙ subst (λ (n : ℕ). get_or g n 0 ≡ t n) (sym (flat (table_start_of Y c) (block_start b) j)) (same (block_start b + j) (omega arith))
            ∙ sym (byte-in (λ i. t (block_address_of Y c b + i)) j l)))
        go (inr e) = rw e

    pub same_end : (state_by D g).stamp c ≡ (tables_by t).stamp c
    unfolding state_by tables_by
    same_end = ap (λ (m : D.memory.Stamp). cond (ltb c card_count) m D.memory.no_stamp) (W.stamps.same-stamp _ _ (λ j l.
        subst (λ (n : ℕ). get_or g n 0 ≡ t n) (sym (flat (table_start_of Y c) blocks_size j)) (same (blocks_size + j) (omega arith))))

  pub recorded-as : (e : Step P) (g : Image) (t : ℕ → ℕ) → Legible D W g → AsRecordedBy D e g t → AsRecorded P e (state_by D g) (tables_by t)
  unfolding AsRecordedBy AsRecorded
  recorded-as (call c) g t s a = tt
  recorded-as (return c) g t s a = λ e.
      let same = a (takes_same c g s ∙ e) in
      (same_block g t c same, same_end g t c same)

  -- ---- a list of steps
  -- the step with the noise before it
  module _ (e : NoisyStepBy D) (g : Image) (s : Legible D W g) where
    abbrev noised : Image
    noised = noisy_by D e.0 g

    calm : Legible D W noised
    calm = legible-noise D W e.0 g s

    pub step-legible : Legible D W (after_step_by D e.1 noised)
    step-legible = legible-step e.1 noised calm

    pub step-state : state_by D (after_step_by D e.1 noised) ≡ next_by P (noise_by D e.0, e.1) (state_by D g)
    unfolding next_by
    step-state = state-step e.1 noised calm ∙ ap (after_step P e.1) (state-noise D W e.0 g s)

    pub step-recorded : (t : ℕ → ℕ) → tables_by (recorded_byte D noised (after_step_by D e.1 noised) t) ≡ recorded_by P (noise_by D e.0, e.1) (state_by D g) (tables_by t)
    unfolding recorded_by
    step-recorded t = sym (recorded-same noised (after_step_by D e.1 noised) t)
        ∙ ap₂ (λ (x y : State P). recorded P x y (tables_by t)) (state-noise D W e.0 g s) step-state

    step-as : (t : ℕ → ℕ) → AsRecordedBy D e.1 noised t → AsRecorded P e.1 (disturb P (noise_by D e.0) (state_by D g)) (tables_by t)
    step-as t a = subst (λ (x : State P). AsRecorded P e.1 x (tables_by t)) (state-noise D W e.0 g s) (recorded-as e.1 noised t calm a)

    step-observed : observed_by D e.1 noised ≡ observed P e.1 (disturb P (noise_by D e.0) (state_by D g))
    step-observed = observed-same e.1 noised calm ∙ ap (observed P e.1) (state-noise D W e.0 g s)

    step_counts : counts_by D e.1 noised ≡ counts P e.1 (disturb P (noise_by D e.0) (state_by D g))
    step_counts = counts_same e.1 noised calm ∙ ap (counts P e.1) (state-noise D W e.0 g s)

  pub intact-same : (l : List (NoisyStepBy D)) (g : Image) (t : ℕ → ℕ) → Legible D W g → IntactBy D l g t → Intact P (stepped_by l) (state_by D g) (tables_by t)
  unfolding IntactBy Intact
  intact-same [] g t s h = tt
  intact-same (e ∷ l) g t s h = (
    step-as e g s t h.0,
    subst (λ (x : State P). Intact P (stepped_by l) x (recorded_by P (noise_by D e.0, e.1) (state_by D g) (tables_by t))) (step-state e g s)
        (subst (λ (x : Tables P). Intact P (stepped_by l) (state_by D (after_step_by D e.1 (noisy_by D e.0 g))) x) (step-recorded e g s t)
        (intact-same l (after_step_by D e.1 (noisy_by D e.0 g)) (recorded_byte D (noisy_by D e.0 g) (after_step_by D e.1 (noisy_by D e.0 g)) t) (step-legible e g s) h.1)),
  )

  pub run-through : (l : List (NoisyStepBy D)) (g : Image) → Legible D W g → run_through_by D l g ≡ run_through P (stepped_by l) (state_by D g)
  unfolding run_through_by run_through
  run-through [] g s = refl
  run-through (e ∷ l) g s = ap₂ (λ (x y : List (Observation P)). x ++ y) (step-observed e g s)
      (run-through l (after_step_by D e.1 (noisy_by D e.0 g)) (step-legible e g s) ∙ ap (run_through P (stepped_by l)) (step-state e g s))

  pub steps-taken : (l : List (NoisyStepBy D)) (g : Image) → Legible D W g → steps_taken_by D l g ≡ steps_taken P (stepped_by l) (state_by D g)
  unfolding steps_taken_by steps_taken
  steps-taken [] g s = refl
  steps-taken (e ∷ l) g s = ap₂ (λ (b : Bool) (x : List (Step P)). cond b (e.1 ∷ x) x) (step_counts e g s)
      (steps-taken l (after_step_by D e.1 (noisy_by D e.0 g)) (step-legible e g s) ∙ ap (steps_taken P (stepped_by l)) (step-state e g s))

  -- THE IMAGE AFTER ALL OF THEM
  pub legible-through : (l : List (NoisyStepBy D)) (g : Image) → Legible D W g → Legible D W (image_through_by D l g)
  unfolding image_through_by
  legible-through [] g s = s
  legible-through (e ∷ l) g s = legible-through l (after_step_by D e.1 (noisy_by D e.0 g)) (step-legible e g s)
