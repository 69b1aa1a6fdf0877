-- The tables after a call, and the two ways in which a block keeps the invariant: the same holders with new slots, or all newest sites. Assumes nothing.
use Prim.Native.Nat.{ℕ}
use lib.Dec.{ltb}
use mathlib.Core.Bool.{cond, false, true}
use mathlib.Core.Logic.{◌⊎◌, inl, inr}
use mathlib.Core.Option.{Option, none}
use mathlib.Core.Path.{◌∙◌, ◌≡◌, ap, fun_ext, sym}
use Rattle.lists.specs.Tests.{In, elem}
use Rattle.lists.proofs.Bools.{and_in, never_true, split, tf}
use Rattle.method.specs.Changes.{Control}
use Rattle.method.specs.ControlPart.{active}
use Rattle.method.specs.Parameters.{Parameters}
use Rattle.method.specs.Rules.{View, newest_sites, updated, visible}
use Rattle.method.specs.Slots.{Slot, blank}
use Rattle.method.proofs.Invariant.{Blank, BlockInv, Cover, Invariant, Trailed, newest-in}
use Rattle.method.proofs.Laws.{Laws}

module _ (P : Parameters) (L : Laws P) where
  open P use {Placement, Block, slots, blocks, block_of, place_of, has, mask, sites, empty, held, slot}
  open L use {site-member, held-empty}

  -- ---- the view after a call
  unfoldable pub next_view : Control P → (ℕ → ℕ → Option Block) → View P → View P
  next_view k w v c b = cond (visible P k c b) (updated (w c b) (v c b)) empty

  module _ (k : Control P) (w : ℕ → ℕ → Option Block) (v : View P) where
    pub next-idle : (c b : ℕ) → visible P k c b ≡ false → next_view k w v c b ≡ empty
    unfolding next_view
    next-idle c b e = rw e

    pub next-seen : (c b : ℕ) → visible P k c b ≡ true → next_view k w v c b ≡ updated (w c b) (v c b)
    unfolding next_view
    next-seen c b e = rw e

    pub next-works : (c b : ℕ) → held (next_view k w v c b) ≡ true → visible P k c b ≡ true
    next-works c b h = go (split (visible P k c b))
      where
        go : (visible P k c b ≡ true) ⊎ (visible P k c b ≡ false) → visible P k c b ≡ true
        go (inl e) = e
        go (inr e) = tf (held (next_view k w v c b)) h (ap held (next-idle c b e) ∙ held-empty)

    pub next-held : (c b : ℕ) → held (next_view k w v c b) ≡ true → held (updated (w c b) (v c b)) ≡ true
    next-held c b h = sym (ap held (next-seen c b (next-works c b h))) ∙ h

  -- where what cannot be seen is empty, a call that writes nothing changes nothing
  pub idle-view : (k : Control P) (v : View P) → ((c b : ℕ) → visible P k c b ≡ false → v c b ≡ empty) → next_view k (λ c b. none) v ≡ v
  idle-view k v idle = fun_ext (λ c. fun_ext (λ b. go c b (split (visible P k c b))))
    where
      go : (c b : ℕ) → (visible P k c b ≡ true) ⊎ (visible P k c b ≡ false) → next_view k (λ c b. none) v c b ≡ v c b
      go c b (inl e) = next-seen k (λ c b. none) v c b e
      go c b (inr e) = next-idle k (λ c b. none) v c b e ∙ sym (idle c b e)

  -- one block that keeps its holders, with new slots
  module _ (k k' : Control P) (v : View P) (records : ℕ → Slot) (w : ℕ → ℕ → Option Block) (records' : ℕ → Slot) (b : ℕ)
      (old : BlockInv P k.setting (active k) (has k.working) v records b) (in-range' : ltb b (blocks k'.setting) ≡ true)
      (sub : (p : Placement) → In p (active k) → In p (active k'))
      (stay : (p : Placement) (c : ℕ) → In p (active k) → elem c (sites k.setting p b) ≡ true → has k'.working c ≡ true → has k.working c ≡ true)
      (kind : (c : ℕ) → visible P k' c b ≡ true → held (updated (w c b) (v c b)) ≡ held (v c b))
      (slots : (c r : ℕ) → visible P k' c b ≡ true → held (v c b) ≡ true → block_of r ≡ b → slot (v c b) (place_of r) ≡ records r → slot (updated (w c b) (v c b)) (place_of r) ≡ records' r)
      (blanks : Blank P v records b → (r : ℕ) → block_of r ≡ b → records' r ≡ blank) where
    v' : View P
    v' = next_view k' w v

    back : (c : ℕ) → held (v' c b) ≡ true → held (v c b) ≡ true
    unfolding v'
    back c h = sym (kind c (next-works k' w v c b h)) ∙ next-held k' w v c b h

    forth : (c : ℕ) → has k'.working c ≡ true → held (v c b) ≡ true → held (v' c b) ≡ true
    unfolding v'
    forth c h e = let s = and_in (has k'.working c) (ltb b (blocks k'.setting)) h in-range' in ap held (next-seen k' w v c b s) ∙ kind c s ∙ e

    fits : (c r : ℕ) → held (v' c b) ≡ true → block_of r ≡ b → slot (v' c b) (place_of r) ≡ records' r
    unfolding v'
    fits c r h e =
        let s = next-works k' w v c b h in
        ap (λ x. slot x (place_of r)) (next-seen k' w v c b s) ∙ slots c r s (back c h) e (old.same c r (back c h) e)

    covers : Cover P k.setting (active k) (has k.working) v b ⊎ Blank P v records b → Cover P k.setting (active k') (has k'.working) v' b ⊎ Blank P v' records' b
    covers (inl (p, m, h)) = inl (p, sub p m, λ c e x. forth c x (h c e (stay p c m e x)))
    covers (inr n) = inr ((λ c. never_true (held (v' c b)) (λ h. tf (held (v c b)) (back c h) (n.0 c))), blanks n)

    pub kept_block : BlockInv P k.setting (active k') (has k'.working) (next_view k' w v) records' b
    unfolding v'
    kept_block = record {
      trailed = λ c h. let t = old.trailed c (back c h) in (t.0, sub t.0 t.1, t.2);
      same = fits;
      cover = covers old.cover;
    }

  module _ (k : Control P) (v : View P) (records : ℕ → Slot) (i : Invariant P k v records) where
    pub same_view : next_view k (λ c b. none) v ≡ v
    same_view = idle-view k v i.idle

    -- nothing written, nothing changed
    pub unchanged : Invariant P k (next_view k (λ c b. none) v) records
    unchanged = rw same_view i

    pub site-mask : (p : Placement) (b c : ℕ) → In p (active k) → ltb b (blocks k.setting) ≡ true → elem c (sites k.setting p b) ≡ true → has (mask p) c ≡ true
    site-mask p b c m in-range e = site-member k.setting p b c (i.form.base.sound p m) in-range e

    -- the same holders of a block, with new slots, in a store that has the invariant: what most calls do
    pub kept : (k' : Control P) (w : ℕ → ℕ → Option Block) (records' : ℕ → Slot) (b : ℕ)
        → ltb b (blocks k.setting) ≡ true → ltb b (blocks k'.setting) ≡ true
        → ((p : Placement) → In p (active k) → In p (active k'))
        → ((p : Placement) (c : ℕ) → In p (active k) → has (mask p) c ≡ true → has k'.working c ≡ true → has k.working c ≡ true)
        → ((c : ℕ) → visible P k' c b ≡ true → held (updated (w c b) (v c b)) ≡ held (v c b))
        → ((c r : ℕ) → visible P k' c b ≡ true → held (v c b) ≡ true → block_of r ≡ b → slot (v c b) (place_of r) ≡ records r → slot (updated (w c b) (v c b)) (place_of r) ≡ records' r)
        → (Blank P v records b → (r : ℕ) → block_of r ≡ b → records' r ≡ blank)
        → BlockInv P k.setting (active k') (has k'.working) (next_view k' w v) records' b
    kept k' w records' b in-range in-range' sub stay kind slots blanks =
        kept_block k k' v records w records' b (i.each b in-range) in-range' sub (λ p c m e x. stay p c m (site-mask p b c m in-range e) x) kind slots blanks

    -- a block that every newest site holds afterwards
    module _ (w : ℕ → ℕ → Option Block) (records' : ℕ → Slot) (b : ℕ) (in-range : ltb b (blocks k.setting) ≡ true)
        (sited : (c : ℕ) → elem c (newest_sites P k b) ≡ true → held (updated (w c b) (v c b)) ≡ true)
        (trace : (c : ℕ) → held (updated (w c b) (v c b)) ≡ true → (elem c (newest_sites P k b) ≡ true) ⊎ (held (v c b) ≡ true))
        (slots : (c r : ℕ) → held (updated (w c b) (v c b)) ≡ true → block_of r ≡ b → slot (updated (w c b) (v c b)) (place_of r) ≡ records' r) where
      pub renewed : BlockInv P k.setting (active k) (has k.working) (next_view k w v) records' b
      renewed = record {
        trailed = λ c h. on c (trace c (next-held k w v c b h));
        same = λ c r h e. ap (λ x. slot x (place_of r)) (next-seen k w v c b (next-works k w v c b h)) ∙ slots c r (next-held k w v c b h) e;
        cover = inl (k.newest, newest-in P k, λ c e x. ap held (next-seen k w v c b (and_in (has k.working c) (ltb b (blocks k.setting)) x in-range)) ∙ sited c e);
      }
        where
          on : (c : ℕ) → (elem c (newest_sites P k b) ≡ true) ⊎ (held (v c b) ≡ true) → Trailed P k.setting (active k) b c
          on c (inl e) = (k.newest, newest-in P k, e)
          on c (inr h) = (i.each b in-range).trailed c h
