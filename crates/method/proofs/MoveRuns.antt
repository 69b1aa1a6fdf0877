-- What a list of moves, accepted or refused, keeps and brings about in a store that runs, and settle after it. Assumes nothing.
use Prim.Native.Nat.{suc, zero, ℕ}
use borrow.Author.Tests.{eqb-true}
use lib.Dec.{eqb, ltb}
use lib.ListN.{length}
use mathlib.Core.Bool.{Bool, ◌&&◌, ◌||◌, cond, false, not, true}
use mathlib.Core.List.{List, [], ◌∷◌}
use mathlib.Core.Logic.{◌⊎◌, inl, inr}
use mathlib.Core.Path.{◌∙◌, ◌≡◌, ap, ap₂, fun_ext, refl, subst, sym}
use Rattle.lists.specs.Tests.{In, all_in, all_below, elem}
use Rattle.lists.proofs.Bools.{and_in, and_l, and_r, imp-out, split, tf}
use Rattle.lists.proofs.Counts.{all-below, below_all}
use Rattle.lists.proofs.Lists.{all_in_lem, all-out, elem_in, in-elem}
use Rattle.method.specs.Rules.{settled_by}
use Rattle.method.specs.Changes.{Control}
use Rattle.method.specs.MoveList.{Entry, as_move, entry_at}
use Rattle.method.specs.Parameters.{Parameters}
use Rattle.method.specs.Rules.{State, View, act, any_locked, guarded, move, newest_sites, next_state}
use Rattle.method.specs.Rules.{plan, refusal, refused, retired, row, settle, settled, settled_at, visible}
use Rattle.method.proofs.Invariant.{Form, held-seen}
use Rattle.method.proofs.Keeping.{next_view}
use Rattle.method.proofs.Laws.{Laws}
use Rattle.method.proofs.Moves.{Complete, Idle, InPlace, Unlocked, complete-keeps, held-or-complete, in-place-comes}
use Rattle.method.proofs.Moves.{in-place-keeps, locked-stays, moved, moved-idle, other_block, stray-keeps, traced}
use Rattle.method.proofs.Moves.{unlocked-keeps}
use Rattle.method.proofs.Run.{Beside, beside-next}

module _ (P : Parameters) (L : Laws P) where
  open P use {cards, blocks, has, held}
  open L use {has-card}

  -- The view after a list of moves.
  unfoldable pub moved_all : Control P → List Entry → View P → View P
  moved_all k [] v = v
  moved_all k (e ∷ l) v = moved_all k l (moved P L k e.card e.block v)

  module _ (k : Control P) (form : Form P k) where
    -- ---- what moves keep
    -- What cannot be seen stays empty.
    pub moves-idle : (l : List Entry) (v : View P) → Idle P L k v → Idle P L k (moved_all k l v)
    unfolding moved_all
    moves-idle [] v i = i
    moves-idle (e ∷ l) v i = moves-idle l (moved P L k e.card e.block v) (moved-idle P L k form v i e.card e.block)

    -- Settle's condition at a card and block is kept.
    pub moves-in-place : (l : List Entry) (v : View P) → Idle P L k v → (x b : ℕ) → InPlace P L k v x b → InPlace P L k (moved_all k l v) x b
    unfolding moved_all
    moves-in-place [] v i x b h = h
    moves-in-place (e ∷ l) v i x b h =
        moves-in-place l (moved P L k e.card e.block v) (moved-idle P L k form v i e.card e.block) x b (in-place-keeps P L k form v i e.card e.block x b h)

    -- A block that a card holds is held there still, or by all newest sites.
    pub moves-hold : (l : List Entry) (v : View P) → Idle P L k v → (x b : ℕ) → (held (v x b) ≡ true) ⊎ Complete P L k v b
        → (held (moved_all k l v x b) ≡ true) ⊎ Complete P L k (moved_all k l v) b
    unfolding moved_all
    moves-hold [] v i x b h = h
    moves-hold (e ∷ l) v i x b h = moves-hold l (moved P L k e.card e.block v) (moved-idle P L k form v i e.card e.block) x b (step h)
      where
        step : (held (v x b) ≡ true) ⊎ Complete P L k v b → (held (moved P L k e.card e.block v x b) ≡ true) ⊎ Complete P L k (moved P L k e.card e.block v) b
        step (inl g) = held-or-complete P L k form v i e.card e.block x b g
        step (inr g) = inr (complete-keeps P L k form v i e.card e.block b g)

    -- No card but a newest site gets a block.
    pub moves-no-new : (l : List Entry) (v : View P) → Idle P L k v → (x b : ℕ) → elem x (newest_sites P k b) ≡ false → held (moved_all k l v x b) ≡ true → held (v x b) ≡ true
    unfolding moved_all
    moves-no-new [] v i x b q h = h
    moves-no-new (e ∷ l) v i x b q h = back (moves-no-new l w (moved-idle P L k form v i e.card e.block) x b q h)
      where
        w : View P
        w = moved P L k e.card e.block v

        back : held (w x b) ≡ true → held (v x b) ≡ true
        back was = go (traced P L k form v i e.card e.block x b was)
          where
            go : (w x b ≡ v x b) ⊎ ((elem x (newest_sites P k b) ≡ true) × (any_locked P (w x b) ≡ false)) → held (v x b) ≡ true
            go (inl p) = sym (ap held p) ∙ was
            go (inr p) = tf (elem x (newest_sites P k b)) p.0 q

    -- A block that no entry names stays as it is.
    pub moves-other-block : (l : List Entry) (v : View P) → Idle P L k v → (b : ℕ) → ((e : Entry) → In e l → eqb b e.block ≡ false) → (x : ℕ) → moved_all k l v x b ≡ v x b
    unfolding moved_all
    moves-other-block [] v i b n x = refl
    moves-other-block (e ∷ l) v i b n x =
        moves-other-block l (moved P L k e.card e.block v) (moved-idle P L k form v i e.card e.block) b (λ y m. n y (inr m)) x
        ∙ other_block P L k form v i e.card e.block x b (n e (inl refl))

    -- A block of which every copy has a locked slot stays as it is.
    pub moves-locked : (l : List Entry) (v : View P) → Idle P L k v → (b : ℕ) → ((x : ℕ) → held (v x b) ≡ true → any_locked P (v x b) ≡ true) → (x : ℕ) → moved_all k l v x b ≡ v x b
    unfolding moved_all
    moves-locked [] v i b h x = refl
    moves-locked (e ∷ l) v i b h x =
        let same : (y : ℕ) → moved P L k e.card e.block v y b ≡ v y b = locked-stays P L k form v i e.card e.block b h in
        moves-locked l (moved P L k e.card e.block v) (moved-idle P L k form v i e.card e.block) b (λ y z. ap (any_locked P) (same y) ∙ h y (sym (ap held (same y)) ∙ z)) x
        ∙ same x

    -- ---- what moves bring about
    -- A move that was called has brought settle's condition about at its card and block, unless a slot was locked there.
    pub moves-come : (l : List Entry) (v : View P) → Idle P L k v → (x b : ℕ) → visible P k x b ≡ true → Unlocked P L v x b → In (entry_at b x) l → InPlace P L k (moved_all k l v) x b
    unfolding moved_all
    moves-come [] v i x b s f n = absurd n
    moves-come (e ∷ l) v i x b s f (inl p) =
        moves-in-place l (moved P L k e.card e.block v) (moved-idle P L k form v i e.card e.block) x b
        (subst (λ (y : Entry). InPlace P L k (moved P L k y.card y.block v) x b) p (in-place-comes P L k form v i x b s f))
    moves-come (e ∷ l) v i x b s f (inr p) =
        moves-come l (moved P L k e.card e.block v) (moved-idle P L k form v i e.card e.block) x b s (unlocked-keeps P L k form v i e.card e.block x b f) p

    -- A card that is no newest site drops a block only by its own move.
    pub moves-drop : (l : List Entry) (v : View P) → Idle P L k v → (c b : ℕ) → elem c (newest_sites P k b) ≡ false → held (v c b) ≡ true → held (moved_all k l v c b) ≡ false → In (entry_at b c) l
    unfolding moved_all
    moves-drop [] v i c b q h n = tf (held (v c b)) h n
    moves-drop (e ∷ l) v i c b q h n = go (split (eqb c e.card && eqb b e.block)) (λ y. moves-drop l (moved P L k e.card e.block v)
        (moved-idle P L k form v i e.card e.block) c b q y n)
      where
        go : ((eqb c e.card && eqb b e.block) ≡ true) ⊎ ((eqb c e.card && eqb b e.block) ≡ false)
            → (held (moved P L k e.card e.block v c b) ≡ true → In (entry_at b c) l) → (entry_at b c ≡ e) ⊎ In (entry_at b c) l
        go (inl p) ih = inl (ap₂ (λ (x y : ℕ). entry_at y x) (eqb-true c e.card (and_l (eqb c e.card) (eqb b e.block) p))
            (eqb-true b e.block (and_r (eqb c e.card) (eqb b e.block) p)))
        go (inr p) ih = inr (ih (ap held (stray-keeps P L k form v i e.card e.block c b q p) ∙ h))

  -- ---- settle's condition, block by block
  -- It is met by a block where it is met at every card.
  pub in-place-settles : (k : Control P) (v : View P) (b : ℕ) → ((x : ℕ) → InPlace P L k v x b) → settled_at P k v b ≡ true
  unfolding settled_by
  in-place-settles k v b h = all-below cards (λ c. not (held (v c b)) || (elem c (newest_sites P k b) && all_in (λ x. held (v x b)) (newest_sites P k b))) (λ c l. go c (held (v c b)) refl)
    where
      go : (c : ℕ) (t : Bool) → held (v c b) ≡ t → (not t || (elem c (newest_sites P k b) && all_in (λ x. held (v x b)) (newest_sites P k b))) ≡ true
      go c true e =
          let z = h c e in
          and_in (elem c (newest_sites P k b)) (all_in (λ x. held (v x b)) (newest_sites P k b)) z.0 (all_in_lem (λ x. held (v x b)) (newest_sites P k b) (λ x m. z.1 x (in-elem x (newest_sites P k b) m)))
      go c false e = refl

  -- And where it is met by a block it is met at every card.
  pub settled-in-place : (k : Control P) (v : View P) → Idle P L k v → (b : ℕ) → settled_at P k v b ≡ true → (x : ℕ) → InPlace P L k v x b
  unfolding settled_by
  settled-in-place k v i b e x h = (
    and_l (elem x (newest_sites P k b)) (all_in (λ y. held (v y b)) (newest_sites P k b)) t,
    λ y q. all-out (λ z. held (v z b)) (newest_sites P k b) y (and_r (elem x (newest_sites P k b)) (all_in (λ y. held (v y b)) (newest_sites P k b)) t) (elem_in y (newest_sites P k b) q),
  )
    where
      card : has k.working x ≡ true
      card = and_l (has k.working x) (ltb b (blocks k.setting)) (held-seen P L k v i x b h)

      t : (elem x (newest_sites P k b) && all_in (λ y. held (v y b)) (newest_sites P k b)) ≡ true
      t = imp-out (held (v x b)) (elem x (newest_sites P k b) && all_in (λ y. held (v y b)) (newest_sites P k b))
          (below_all cards (λ c. not (held (v c b)) || (elem c (newest_sites P k b) && all_in (λ x. held (v x b)) (newest_sites P k b))) x e (has-card k.working x card)) h

  -- It looks at no other block.
  pub settled_same : (k : Control P) (v w : View P) (b : ℕ) → ((x : ℕ) → w x b ≡ v x b) → settled_at P k w b ≡ settled_at P k v b
  unfolding settled_by
  settled_same k v w b same =
      ap (λ (f : ℕ → Parameters.Block P). all_below cards (λ c. not (held (f c)) || (elem c (newest_sites P k b) && all_in (λ x. held (f x)) (newest_sites P k b)))) (fun_ext same)

  -- ---- a store beside the view
  -- A move leaves the control part.
  same_after : (k : Control P) (v : View P) (c b : ℕ) → (plan P (move c b) k v).after ≡ k
  unfolding plan act
  same_after k v c b = go (refusal P (move c b) k v)
    where
      go : (n : ℕ) → (guarded P n k (act P (move c b) k v)).after ≡ k
      go zero = refl
      go (suc n) = refl

  -- A store beside a view is beside the view after a move, once it has made it.
  pub move-beside : (s : State P) (k : Control P) (v : View P) → Beside P L s k v → (e : Entry) → Beside P L (next_state P (as_move P e) s) k (moved P L k e.card e.block v)
  unfolding moved
  move-beside s k v h e =
      let z = beside-next P L s k v h (as_move P e) in
      record {
        same-control = z.same-control ∙ same_after k v e.card e.block;
        same-look = z.same-look ∙ ap (λ (x : Control P). next_view P L x (plan P (as_move P e) k v).write v) (same_after k v e.card e.block);
      }

  -- What settle answers in a store that runs.
  pub settle-says : (k : Control P) (v : View P) → k.stopped ≡ false → (plan P settle k v).answer ≡ cond (settled P k v) (retired (length k.older)) (refused 13)
  unfolding plan refusal act
  settle-says k v run = ap (λ (t : Bool). (guarded P (row 4 t (row 13 (not (settled P k v)) 0)) k (act P settle k v)).answer) run ∙ go (settled P k v)
    where
      go : (t : Bool) → (guarded P (row 13 (not t) 0) k (act P settle k v)).answer ≡ cond t (retired (length k.older)) (refused 13)
      go true = refl
      go false = refl
