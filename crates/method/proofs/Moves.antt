-- What one move, accepted or refused, keeps and brings about in a store that runs. Assumes nothing.
use Prim.Native.Nat.{suc, zero, ℕ}
use borrow.Author.Tests.{eq-eqb, eqb-true, lt-ltb}
use lib.Dec.{eqb, ltb}
use mathlib.Core.Bool.{Bool, ◌&&◌, cond, false, not, true}
use mathlib.Core.Logic.{◌⊎◌, inl, inr}
use mathlib.Core.Path.{◌∙◌, ◌≡◌, ap, refl, subst, sym}
use native.Mathlib.Omega.{arith}
use Rattle.lists.specs.Tests.{elem}
use Rattle.lists.proofs.Bools.{and_in, and_l, and_r, eqb-self, never_true, not-not-is, split, tf}
use Rattle.method.specs.Changes.{Control}
use Rattle.method.specs.Parameters.{Parameters}
use Rattle.method.specs.Rules.{View, act, any_locked, guarded, move, move_writes, newest_sites, plan, refusal, row}
use Rattle.method.specs.Rules.{visible}
use Rattle.method.proofs.Invariant.{Form, newest-in}
use Rattle.method.proofs.Keeping.{idle-view, next-idle, next-seen, next_view}
use Rattle.method.proofs.Laws.{Laws}
use Rattle.method.proofs.MoveEffect.{moved-away, moved_other, moved-site}
use Rattle.method.proofs.Refusals.{row-3, row-clear}

module _ (P : Parameters) (L : Laws P) where
  open P use {cards, blocks, has, empty, held}
  open L use {has-card, site-member, held-empty}

  -- The view after a move of block m from card c, accepted or refused.
  unfoldable pub moved : Control P → ℕ → ℕ → View P → View P
  moved k c m v = next_view P L k (plan P (move c m) k v).write v

  -- What cannot be seen is empty.
  abbrev pub Idle : Control P → View P → Type 0
  Idle k v = (c b : ℕ) → visible P k c b ≡ false → v c b ≡ empty

  -- All newest sites hold the block.
  abbrev pub Complete : Control P → View P → ℕ → Type 0
  Complete k v b = (x : ℕ) → elem x (newest_sites P k b) ≡ true → held (v x b) ≡ true

  -- Settle's condition at one card and block: if the card holds the block it is a newest site, and all of them hold it.
  abbrev pub InPlace : Control P → View P → ℕ → ℕ → Type 0
  InPlace k v c b = held (v c b) ≡ true → (elem c (newest_sites P k b) ≡ true) × Complete k v b

  -- The card's copy of the block, if it holds one, has no locked slot.
  abbrev pub Unlocked : View P → ℕ → ℕ → Type 0
  Unlocked v c b = held (v c b) ≡ true → any_locked P (v c b) ≡ false

  -- An accepted move, and the view w that it leaves.
  pub record MoveDone (k : Control P) (v : View P) (c m : ℕ) (w : View P) : Type 0 where
    pub was-held : held (v c m) ≡ true
    pub was_free : any_locked P (v c m) ≡ false
    pub away : (x b : ℕ) → eqb b m ≡ false → w x b ≡ v x b
    pub at-site : (x : ℕ) → elem x (newest_sites P k m) ≡ true → w x m ≡ cond (held (v x m)) (v x m) (v c m)
    pub at_other : (x : ℕ) → elem x (newest_sites P k m) ≡ false → w x m ≡ cond (eqb x c) empty (v x m)

  -- A refused one: of what can be seen, the card does not hold the block, or its copy has a locked slot.
  pub record MoveRefused (k : Control P) (v : View P) (c m : ℕ) (w : View P) : Type 0 where
    pub same_tables : w ≡ v
    pub why : visible P k c m ≡ true → (held (v c m) ≡ false) ⊎ (any_locked P (v c m) ≡ true)

  module _ (k : Control P) (form : Form P k) (v : View P) (idle : Idle k v) (c m : ℕ) where
    done : refusal P (move c m) k v ≡ 0 → MoveDone k v c m (next_view P L k (move_writes P k v c m) v)
    unfolding refusal
    done e = record { was-held = hold; was_free = (row-clear (any_locked P (v c m)) 11 (row-clear (not (held (v c m))) 10 from-11).1).0; away = away; at-site = at-site; at_other = at_other }
      where
        in-range : ltb m (blocks k.setting) ≡ true
        in-range = and_r (ltb c cards) (ltb m (blocks k.setting)) (row-3 (ltb c cards && ltb m (blocks k.setting)) e).0

        from-11 : row 11 (not (held (v c m))) (row 12 (any_locked P (v c m)) 0) ≡ 0
        from-11 = (row-clear (not (has k.working c)) 7 (row-clear k.stopped 3 (row-3 (ltb c cards && ltb m (blocks k.setting)) e).1).1).1

        hold : held (v c m) ≡ true
        hold = not-not-is (held (v c m)) (row-clear (not (held (v c m))) 10 from-11).0

        away : (x b : ℕ) → eqb b m ≡ false → next_view P L k (move_writes P k v c m) v x b ≡ v x b
        away x b n = go (split (visible P k x b))
          where
            go : (visible P k x b ≡ true) ⊎ (visible P k x b ≡ false) → next_view P L k (move_writes P k v c m) v x b ≡ v x b
            go (inl s) = next-seen P L k (move_writes P k v c m) v x b s ∙ moved-away P k v c m x b n
            go (inr s) = next-idle P L k (move_writes P k v c m) v x b s ∙ sym (idle x b s)

        at-site : (x : ℕ) → elem x (newest_sites P k m) ≡ true → next_view P L k (move_writes P k v c m) v x m ≡ cond (held (v x m)) (v x m) (v c m)
        at-site x q =
            let on : has k.working x ≡ true = form.new_works x (site-member k.setting k.newest m x (form.base.sound k.newest (newest-in P k)) in-range q) in
            next-seen P L k (move_writes P k v c m) v x m (and_in (has k.working x) (ltb m (blocks k.setting)) on in-range)
            ∙ moved-site P k v c m x m (eqb-self m) q

        at_other : (x : ℕ) → elem x (newest_sites P k m) ≡ false → next_view P L k (move_writes P k v c m) v x m ≡ cond (eqb x c) empty (v x m)
        at_other x q = go (split (visible P k x m))
          where
            both-empty : (h : Bool) → empty ≡ cond h empty empty
            both-empty true = refl
            both-empty false = refl

            go : (visible P k x m ≡ true) ⊎ (visible P k x m ≡ false) → next_view P L k (move_writes P k v c m) v x m ≡ cond (eqb x c) empty (v x m)
            go (inl s) = next-seen P L k (move_writes P k v c m) v x m s ∙ moved_other P k v c m x m (eqb-self m) q
            go (inr s) = next-idle P L k (move_writes P k v c m) v x m s ∙ rw (idle x m s) (both-empty (eqb x c))

    why-not : (n : ℕ) → refusal P (move c m) k v ≡ suc n → visible P k c m ≡ true → (held (v c m) ≡ false) ⊎ (any_locked P (v c m) ≡ true)
    unfolding refusal
    why-not n e s = go (split (held (v c m))) (split (any_locked P (v c m)))
      where
        on : has k.working c ≡ true
        on = and_l (has k.working c) (ltb m (blocks k.setting)) s

        go : (held (v c m) ≡ true) ⊎ (held (v c m) ≡ false) → (any_locked P (v c m) ≡ true) ⊎ (any_locked P (v c m) ≡ false) → (held (v c m) ≡ false) ⊎ (any_locked P (v c m) ≡ true)
        go (inr h) l = inl h
        go (inl h) (inl l) = inr l
        go (inl h) (inr l) =
            let z : 0 ≡ suc n = rw (lt-ltb c cards (has-card k.working c on), and_r (has k.working c) (ltb m (blocks k.setting)) s, form.base.running, on, h, l) at e in
            absurd (omega arith)

    -- A move is done or refused.
    pub one-move : MoveDone k v c m (moved k c m v) ⊎ MoveRefused k v c m (moved k c m v)
    unfolding moved plan act
    one-move = go (refusal P (move c m) k v) refl
      where
        go : (n : ℕ) → refusal P (move c m) k v ≡ n
            → MoveDone k v c m (next_view P L k (guarded P n k (act P (move c m) k v)).write v) ⊎ MoveRefused k v c m (next_view P L k (guarded P n k (act P (move c m) k v)).write v)
        go zero e = inl (done e)
        go (suc n) e = inr (record { same_tables = idle-view P L k v idle; why = why-not n e })

    -- After it, what cannot be seen is still empty.
    pub moved-idle : Idle k (moved k c m v)
    unfolding moved
    moved-idle = next-idle P L k (plan P (move c m) k v).write v

  module _ (k : Control P) (form : Form P k) (v : View P) (idle : Idle k v) (c m : ℕ) where
    abbrev w : View P
    w = moved k c m v

    abbrev Cases : Type 0
    Cases = MoveDone k v c m w ⊎ MoveRefused k v c m w

    one : Cases
    one = one-move k form v idle c m

    -- On each card a block is as before, or an accepted move was of it.
    by-own : (G : Type 0) (x b : ℕ) → (w x b ≡ v x b → G) → (MoveDone k v c m w → b ≡ m → G) → G
    by-own G x b same own = go one (split (eqb b m))
      where
        go : Cases → (eqb b m ≡ true) ⊎ (eqb b m ≡ false) → G
        go (inr r) e = same (ap (λ (u : View P). u x b) r.same_tables)
        go (inl d) (inr n) = same (d.away x b n)
        go (inl d) (inl e) = own d (eqb-true b m e)

    -- A move leaves the other blocks as they are.
    pub other_block : (x b : ℕ) → eqb b m ≡ false → w x b ≡ v x b
    other_block x b n = by-own (w x b ≡ v x b) x b (λ e. e) (λ d p. tf (eqb b m) (eq-eqb b m p) n)

    -- What a card holds afterwards it held before, or it is a newest site and its copy has no locked slot.
    pub traced : (x b : ℕ) → held (w x b) ≡ true → (w x b ≡ v x b) ⊎ ((elem x (newest_sites P k b) ≡ true) × (any_locked P (w x b) ≡ false))
    traced x b h = by-own ((w x b ≡ v x b) ⊎ ((elem x (newest_sites P k b) ≡ true) × (any_locked P (w x b) ≡ false))) x b (λ e. inl e)
        (λ d q. subst (λ (y : ℕ). (w x y ≡ v x y) ⊎ ((elem x (newest_sites P k y) ≡ true) × (any_locked P (w x y) ≡ false))) (sym q)
        (here d (split (elem x (newest_sites P k m))) (subst (λ (y : ℕ). held (w x y) ≡ true) q h)))
      where
        here : MoveDone k v c m w → (elem x (newest_sites P k m) ≡ true) ⊎ (elem x (newest_sites P k m) ≡ false) → held (w x m) ≡ true
            → (w x m ≡ v x m) ⊎ ((elem x (newest_sites P k m) ≡ true) × (any_locked P (w x m) ≡ false))
        here d (inl q) z = pick (held (v x m)) (d.at-site x q)
          where
            pick : (y : Bool) → w x m ≡ cond y (v x m) (v c m) → (w x m ≡ v x m) ⊎ ((elem x (newest_sites P k m) ≡ true) × (any_locked P (w x m) ≡ false))
            pick true o = inl o
            pick false o = inr (q, ap (any_locked P) o ∙ d.was_free)
        here d (inr q) z = pick (eqb x c) (d.at_other x q)
          where
            pick : (y : Bool) → w x m ≡ cond y empty (v x m) → (w x m ≡ v x m) ⊎ ((elem x (newest_sites P k m) ≡ true) × (any_locked P (w x m) ≡ false))
            pick true o = tf (held (w x m)) z (ap held o ∙ held-empty)
            pick false o = inl o

    -- A newest site keeps what it holds.
    pub site-keeps : (x b : ℕ) → elem x (newest_sites P k b) ≡ true → held (v x b) ≡ true → w x b ≡ v x b
    site-keeps x b q h = by-own (w x b ≡ v x b) x b (λ e. e) (λ d p.
        let hold : held (v x m) ≡ true = subst (λ (y : ℕ). held (v x y) ≡ true) p h in
        let o : w x m ≡ cond (held (v x m)) (v x m) (v c m) = d.at-site x (subst (λ (y : ℕ). elem x (newest_sites P k y) ≡ true) p q) in
        subst (λ (y : ℕ). w x y ≡ v x y) (sym p) (rw hold at o))

    -- A card that is no newest site keeps what it holds unless it is the origin.
    pub stray-keeps : (x b : ℕ) → elem x (newest_sites P k b) ≡ false → (eqb x c && eqb b m) ≡ false → w x b ≡ v x b
    stray-keeps x b q n = by-own (w x b ≡ v x b) x b (λ e. e) (λ d p.
        let o : w x m ≡ cond (eqb x c) empty (v x m) = d.at_other x (subst (λ (y : ℕ). elem x (newest_sites P k y) ≡ false) p q) in
        let off : eqb x c ≡ false = never_true (eqb x c) (λ t. tf (eqb x c && eqb b m) (and_in (eqb x c) (eqb b m) t (eq-eqb b m p)) n) in
        subst (λ (y : ℕ). w x y ≡ v x y) (sym p) (rw off at o))

    -- A block of which every copy has a locked slot stays as it is.
    pub locked-stays : (b : ℕ) → ((x : ℕ) → held (v x b) ≡ true → any_locked P (v x b) ≡ true) → (x : ℕ) → w x b ≡ v x b
    locked-stays b locks x = by-own (w x b ≡ v x b) x b (λ e. e) (λ d p.
        let l : any_locked P (v c b) ≡ true = locks c (subst (λ (y : ℕ). held (v c y) ≡ true) (sym p) d.was-held) in
        tf (any_locked P (v c m)) (subst (λ (y : ℕ). any_locked P (v c y) ≡ true) p l) d.was_free)

    -- A block that all newest sites hold stays so, and an accepted move makes its block so.
    pub complete-keeps : (b : ℕ) → Complete k v b → Complete k w b
    complete-keeps b h x q = ap held (site-keeps x b q (h x q)) ∙ h x q

    pub spreads : MoveDone k v c m w → (b : ℕ) → b ≡ m → Complete k w b
    spreads d b p = subst (λ (y : ℕ). Complete k w y) (sym p) (λ y q. pick y (held (v y m)) refl (d.at-site y q))
      where
        pick : (y : ℕ) (t : Bool) → held (v y m) ≡ t → w y m ≡ cond t (v y m) (v c m) → held (w y m) ≡ true
        pick y true z o = ap held o ∙ z
        pick y false z o = ap held o ∙ d.was-held

    -- A block that a card holds is held there still, or by all newest sites.
    pub held-or-complete : (x b : ℕ) → held (v x b) ≡ true → (held (w x b) ≡ true) ⊎ Complete k w b
    held-or-complete x b h = by-own ((held (w x b) ≡ true) ⊎ Complete k w b) x b (λ e. inl (ap held e ∙ h)) (λ d p. inr (spreads d b p))

    -- Settle's condition at a card and block is kept.
    pub in-place-keeps : (x b : ℕ) → InPlace k v x b → InPlace k w x b
    in-place-keeps x b cell h = (go (traced x b h), by-own (Complete k w b) x b (λ e. complete-keeps b (was e).1) (λ d p. spreads d b p))
      where
        was : w x b ≡ v x b → (elem x (newest_sites P k b) ≡ true) × Complete k v b
        was e = cell (sym (ap held e) ∙ h)

        go : (w x b ≡ v x b) ⊎ ((elem x (newest_sites P k b) ≡ true) × (any_locked P (w x b) ≡ false)) → elem x (newest_sites P k b) ≡ true
        go (inl e) = (was e).0
        go (inr s) = s.0

    -- No move locks a slot.
    pub unlocked-keeps : (x b : ℕ) → Unlocked v x b → Unlocked w x b
    unlocked-keeps x b f h = go (traced x b h)
      where
        go : (w x b ≡ v x b) ⊎ ((elem x (newest_sites P k b) ≡ true) × (any_locked P (w x b) ≡ false)) → any_locked P (w x b) ≡ false
        go (inl e) = ap (any_locked P) e ∙ f (sym (ap held e) ∙ h)
        go (inr s) = s.1

    -- The move of a card's block brings settle's condition about there, unless a slot of the card's copy is locked.
    pub in-place-comes : visible P k c m ≡ true → Unlocked v c m → InPlace k w c m
    in-place-comes s f = go one
      where
        go : Cases → InPlace k w c m
        go (inr r) h = why (r.why s)
          where
            was : held (v c m) ≡ true
            was = sym (ap (λ (u : View P). held (u c m)) r.same_tables) ∙ h

            why : (held (v c m) ≡ false) ⊎ (any_locked P (v c m) ≡ true) → (elem c (newest_sites P k m) ≡ true) × Complete k w m
            why (inl n) = tf (held (v c m)) was n
            why (inr l) = tf (any_locked P (v c m)) l (f was)
        go (inl d) h = (at (split (elem c (newest_sites P k m))), spreads d m refl)
          where
            at : (elem c (newest_sites P k m) ≡ true) ⊎ (elem c (newest_sites P k m) ≡ false) → elem c (newest_sites P k m) ≡ true
            at (inl q) = q
            at (inr q) = tf (held (w c m)) h (ap held (rw (eqb-self c) at (d.at_other c q)) ∙ held-empty)
