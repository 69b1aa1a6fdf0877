-- The invariant of a running store beside the plain record list, and what follows from it. Assumes nothing.
use Prim.Native.Nat.{◌<◌, ◌≤◌, ℕ}
use lib.Dec.{eqb, ltb}
use lib.ListN.{length}
use mathlib.Core.Bool.{Bool, ◌&&◌, false, not, true}
use mathlib.Core.List.{List, [], ◌∷◌}
use mathlib.Core.Logic.{◌⊎◌, inl, inr}
use mathlib.Core.Path.{◌∙◌, ◌≡◌, ap, refl, sym}
use native.Mathlib.Omega.{arith}
use Rattle.lists.specs.Tests.{In, any_in, concat_map, count_below, elem}
use Rattle.lists.proofs.Bools.{and_in, and_l, and_r, eqb-self, never_true, not_is, not-not-is, or_l, same_test, split}
use Rattle.lists.proofs.Bools.{tf}
use Rattle.lists.proofs.Counts.{pigeon}
use Rattle.lists.proofs.Lists.{any_none, any_out, any_same, concat-in, elem_in, elem-keep, in-elem, in_right, keep-elem}
use Rattle.method.specs.Changes.{Control}
use Rattle.method.specs.ControlPart.{active}
use Rattle.method.specs.Parameters.{Parameters}
use Rattle.method.specs.Rules.{View, act, first_slot, holders, locked_out, lost, seen_slot, trail, visible}
use Rattle.method.specs.Slots.{Slot, blank, locked_by_other}
use Rattle.method.proofs.Laws.{Laws}
use Rattle.method.proofs.StopRule.{few-failed}

module _ (P : Parameters) where
  open P use {Placement, Setting, blocks, block_of, place_of, has, mask, sites, usable, empty, held, slot}

  -- ---- the control part of a running store
  pub record Base (k : Control P) : Type 0 where
    pub running : k.stopped ≡ false
    pub apart : (c : ℕ) → has k.working c ≡ true → has k.failed c ≡ false
    pub known : (p : Placement) (c : ℕ) → In p (active k) → has (mask p) c ≡ true → has k.failed c ≡ false → has k.working c ≡ true
    pub sound : (p : Placement) → In p (active k) → usable k.setting p
    pub safe : (p : Placement) → In p (active k) → lost P k p ≡ false

  pub record Form (k : Control P) : Type 0 where
    pub base : Base k
    pub new_works : (c : ℕ) → has (mask k.newest) c ≡ true → has k.working c ≡ true

  -- ---- one block
  abbrev pub Trailed : Setting → List Placement → ℕ → ℕ → Type 0
  Trailed σ act b c = (p : Placement) × In p act × (elem c (sites σ p b) ≡ true)

  -- a placement all of whose working sites hold the block
  abbrev pub Cover : Setting → List Placement → (ℕ → Bool) → View P → ℕ → Type 0
  Cover σ act w v b = (p : Placement) × In p act × ((c : ℕ) → elem c (sites σ p b) ≡ true → w c ≡ true → held (v c b) ≡ true)

  -- no card holds it, and its records are blank
  abbrev pub Blank : View P → (ℕ → Slot) → ℕ → Type 0
  Blank v records b = ((c : ℕ) → held (v c b) ≡ false) × ((r : ℕ) → block_of r ≡ b → records r ≡ blank)

  pub record BlockInv (σ : Setting) (act : List Placement) (w : ℕ → Bool) (v : View P) (records : ℕ → Slot) (b : ℕ) : Type 0 where
    pub trailed : (c : ℕ) → held (v c b) ≡ true → Trailed σ act b c
    pub same : (c r : ℕ) → held (v c b) ≡ true → block_of r ≡ b → slot (v c b) (place_of r) ≡ records r
    pub cover : Cover σ act w v b ⊎ Blank v records b

  pub record Invariant (k : Control P) (v : View P) (records : ℕ → Slot) : Type 0 where
    pub form : Form k
    pub idle : (c b : ℕ) → visible P k c b ≡ false → v c b ≡ empty
    pub each : (b : ℕ) → ltb b (blocks k.setting) ≡ true → BlockInv k.setting (active k) (has k.working) v records b

  pub newest-in : (k : Control P) → In k.newest (active k)
  newest-in k = in_right k.older (k.newest ∷ []) k.newest (inl refl)

module _ (P : Parameters) (L : Laws P) where
  open P use {Placement, cards, copies, blocks, rec_in_range, block_of, place_of, has, mask, sites, held, slot}
  open P use {empty}
  open L use {rec-block, has-card, site-count, site-member, site-distinct, held-empty}

  -- ---- consequences
  -- where what cannot be seen is empty, a card that holds a block can be seen
  pub held-seen : (k : Control P) (v : View P) → ((c b : ℕ) → visible P k c b ≡ false → v c b ≡ empty) → (c b : ℕ) → held (v c b) ≡ true → visible P k c b ≡ true
  held-seen k v idle c b h = not-not-is (visible P k c b) (never_true (not (visible P k c b)) (λ e. tf (held (v c b)) h (rw (idle c b (not_is (visible P k c b) e)) held-empty)))

  module _ (k : Control P) (v : View P) (records : ℕ → Slot) (i : Invariant P k v records) where
    pub works : (c b : ℕ) → held (v c b) ≡ true → visible P k c b ≡ true
    works = held-seen k v i.idle

    pub works-w : (c b : ℕ) → held (v c b) ≡ true → has k.working c ≡ true
    works-w c b h = and_l (has k.working c) (ltb b (blocks k.setting)) (works c b h)

    pub works-b : (c b : ℕ) → held (v c b) ≡ true → ltb b (blocks k.setting) ≡ true
    works-b c b h = and_r (has k.working c) (ltb b (blocks k.setting)) (works c b h)

    -- holders are the cards that hold
    pub holder-is : (c b : ℕ) → elem c (holders P k v b) ≡ held (v c b)
    unfolding holders trail
    holder-is c b = same_test (elem c (holders P k v b)) (held (v c b)) up down
      where
        all-sites : List ℕ
        all-sites = concat_map (λ p. sites k.setting p b) (active k)

        up : elem c (holders P k v b) ≡ true → held (v c b) ≡ true
        up e = (elem-keep (λ x. held (v x b)) c (trail P k b) e).0

        down : held (v c b) ≡ true → elem c (holders P k v b) ≡ true
        down h =
            let t = (i.each b (works-b c b h)).trailed c h in
            let m : elem c all-sites ≡ true = in-elem c all-sites (concat-in (λ p. sites k.setting p b) (active k) c t.0 t.1 (elem_in c (sites k.setting t.0 b) t.2)) in
            let f : has k.failed c ≡ false = i.form.base.apart c (works-w c b h) in
            keep-elem (λ x. held (v x b)) c (trail P k b) h (keep-elem (λ x. not (has k.failed x)) c all-sites (rw f) m)

    -- an active placement has a site that works
    pub site-of : (b : ℕ) → ltb b (blocks k.setting) ≡ true → (p : Placement) → In p (active k)
        → (c : ℕ) × (elem c (sites k.setting p b) ≡ true) × (has k.failed c ≡ false) × (has k.working c ≡ true)
    site-of b in-range p m = go (split (any_in (λ c. not (has k.failed c)) l))
      where
        l : List ℕ
        l = sites k.setting p b

        member : (c : ℕ) → In c l → has (mask p) c ≡ true
        member c e = site-member k.setting p b c (i.form.base.sound p m) in-range (in-elem c l e)

        go : (any_in (λ c. not (has k.failed c)) l ≡ true) ⊎ (any_in (λ c. not (has k.failed c)) l ≡ false)
            → (c : ℕ) × (elem c (sites k.setting p b) ≡ true) × (has k.failed c ≡ false) × (has k.working c ≡ true)
        go (inl e) =
            let t = any_out (λ c. not (has k.failed c)) l e in
            let w = i.form.base.known p t.0 m (member t.0 t.1) (not_is (has k.failed t.0) t.2) in
            (t.0, in-elem t.0 l t.1, not_is (has k.failed t.0) t.2, w)
        go (inr e) =
            let s = i.form.base.sound p m in
            let q : length l ≤ count_below cards (λ c. has (mask p) c && has k.failed c) = pigeon cards l (λ c. has (mask p) c && has k.failed c) (site-distinct k.setting p b s in-range)
            (λ x n. and_in (has (mask p) x) (has k.failed x) (member x n) (not-not-is (has k.failed x) (any_none (λ c. not (has k.failed c)) l x e n)))
            (λ x n. has-card (mask p) x (member x n)) in
            let n : length l ≡ copies k.setting = site-count k.setting p b s in-range in
            let few : count_below cards (λ c. has (mask p) c && has k.failed c) < copies k.setting = few-failed P k.setting k.working k.failed (mask p) (i.form.base.safe p m) in
            absurd (omega arith)

    -- a covered block has a holder
    pub holder-of : (b : ℕ) → ltb b (blocks k.setting) ≡ true → Cover P k.setting (active k) (has k.working) v b → (c : ℕ) × (held (v c b) ≡ true)
    holder-of b in-range (p, m, h) = let t = site-of b in-range p m in (t.0, h t.0 t.1 t.3)

    -- the first holder's slot is the record
    pub seen-is : (r : ℕ) → rec_in_range k.setting r ≡ true → seen_slot P k v r ≡ records r
    seen-is r in-range = go (holders P k v (block_of r)) (λ c. holder-is c (block_of r)) (i.each (block_of r) (rec-block k.setting r in-range)).cover
      where
        go : (l : List ℕ) → ((c : ℕ) → elem c l ≡ held (v c (block_of r))) → Cover P k.setting (active k) (has k.working) v (block_of r) ⊎ Blank P v records (block_of r)
            → first_slot P v r l ≡ records r
        go [] h (inl c) = let t = holder-of (block_of r) (rec-block k.setting r in-range) c in tf (held (v t.0 (block_of r))) t.1 (sym (h t.0))
        go [] h (inr n) = sym (n.1 r refl)
        go (x ∷ l) h z = (i.each (block_of r) (rec-block k.setting r in-range)).same x r (sym (h x) ∙ or_l (eqb x x) (elem x l) (eqb-self x)) refl

    pub locks-is : (t r : ℕ) → rec_in_range k.setting r ≡ true → locked_out P k v t r ≡ locked_by_other t (records r)
    locks-is t r in-range = go (i.each (block_of r) b-ok).cover
      where
        b : ℕ
        b = block_of r

        b-ok : ltb b (blocks k.setting) ≡ true
        b-ok = rec-block k.setting r in-range

        f : ℕ → Bool
        f c = locked_by_other t (slot (v c b) (place_of r))

        go : Cover P k.setting (active k) (has k.working) v b ⊎ Blank P v records b → any_in f (holders P k v b) ≡ locked_by_other t (records r)
        go (inl c) =
            let h = holder-of b b-ok c in
            any_same f (locked_by_other t (records r)) (holders P k v b) h.0 (holder-is h.0 b ∙ h.1)
            (λ x e. ap (locked_by_other t) ((i.each b b-ok).same x r (sym (holder-is x b) ∙ e) refl))
        go (inr n) = never_true (any_in f (holders P k v b)) (λ e. let o = any_out f (holders P k v b) e in tf (held (v o.0 b))
            (sym (holder-is o.0 b) ∙ in-elem o.0 (holders P k v b) o.1) (n.0 o.0))
            ∙ rw (n.1 r refl) refl
