-- A stopped store and its records. What the store can become is its wish: the tables of the cards that work, and of the failed cards that the
-- newest placement names as they would come back, with every lock dropped. The wish has the invariant of each block over all those cards, with
-- every record unlocked. The stop brings it about, a fail while stopped and a return keep it, and where the store can run it is what the
-- store sees. Assumes nothing.
use Prim.Native.Nat.{ℕ}
use borrow.Author.Tests.{eqb-true, lt-ltb}
use lib.Dec.{eqb, ltb}
use mathlib.Core.Bool.{Bool, ◌&&◌, ◌||◌, cond, false, not, true}
use mathlib.Core.List.{List}
use mathlib.Core.Logic.{◌⊎◌, inl, inr}
use mathlib.Core.Option.{none, some}
use mathlib.Core.Path.{◌∙◌, ◌≡◌, ap, fun_ext, refl, sym}
use Rattle.lists.proofs.Bools.{and_in, never_true, split, tf}
use Rattle.method.specs.Changes.{Control, marked}
use Rattle.method.specs.ControlPart.{active, halted, is_open}
use Rattle.method.specs.Parameters.{Parameters}
use Rattle.method.specs.Returning.{admitted, drop_locks, is_lock}
use Rattle.method.specs.Rules.{View, drop_held, updated}
use Rattle.method.specs.Slots.{Slot, blank, ended}
use Rattle.method.proofs.Capacity.{ControlInv}
use Rattle.method.proofs.Invariant.{Blank, BlockInv, Cover, Invariant}
use Rattle.method.proofs.Laws.{Laws}
use Rattle.method.proofs.Returning.{admitted_as, rests-admitted}
use Rattle.method.proofs.Slots.{ended-blank}
use Rattle.method.proofs.Stopped.{Rests, rests-halted, rests-marked}
use Rattle.method.proofs.Tidy.{Tidy, Unlocked, drop_all, drop-open, drop-unlocked, freed-same, freed-unlocked}

module _ (P : Parameters) (L : Laws P) where
  open P use {Block, Placement, Setting, block_of, blocks, cards, empty, end_slots, has, held, mask, place_of, slot}
  open L use {has-card, has-insert, has-remove, held-empty, held-end, slot-end}

  -- ---- a block seen anew
  -- a card of it: the same holding, and slots that follow; or it does not count and holds nothing
  abbrev Follows : (ℕ → Bool) → (ℕ → Bool) → View P → View P → (ℕ → Slot) → (ℕ → Slot) → ℕ → ℕ → Type 0
  Follows w w' v v' records records' b x =
      ((w x ≡ true) × (held (v' x b) ≡ held (v x b))
      × ((r : ℕ) → block_of r ≡ b → held (v x b) ≡ true → slot (v x b) (place_of r) ≡ records r → slot (v' x b) (place_of r) ≡ records' r))
      ⊎ ((w' x ≡ false) × (held (v' x b) ≡ false))

  module _ (σ : Setting) (act : List Placement) (w w' : ℕ → Bool) (v v' : View P) (records records' : ℕ → Slot) (b : ℕ) (old : BlockInv P σ act w v records b)
      (case : (x : ℕ) → Follows w w' v v' records records' b x) (blanks : (r : ℕ) → records r ≡ blank → records' r ≡ blank) where
    back : (c : ℕ) → held (v' c b) ≡ true → Follows w w' v v' records records' b c → held (v c b) ≡ true
    back c h (inl (x, e, s)) = sym e ∙ h
    back c h (inr (x, e)) = tf (held (v' c b)) h e

    fits : (c r : ℕ) → held (v' c b) ≡ true → block_of r ≡ b → Follows w w' v v' records records' b c → slot (v' c b) (place_of r) ≡ records' r
    fits c r h z (inl (x, e, s)) = s r z (sym e ∙ h) (old.same c r (sym e ∙ h) z)
    fits c r h z (inr (x, e)) = tf (held (v' c b)) h e

    forth : (c : ℕ) → w' c ≡ true → Follows w w' v v' records records' b c → (w c ≡ true → held (v c b) ≡ true) → held (v' c b) ≡ true
    forth c z (inl (x, e, s)) h = e ∙ h x
    forth c z (inr (x, e)) h = tf (w' c) z x

    covers : Cover P σ act w v b ⊎ Blank P v records b → Cover P σ act w' v' b ⊎ Blank P v' records' b
    covers (inl (p, m, h)) = inl (p, m, λ c e z. forth c z (case c) (h c e))
    covers (inr n) = inr ((λ c. never_true (held (v' c b)) (λ h. tf (held (v c b)) (back c h (case c)) (n.0 c))), λ r e. blanks r (n.1 r e))

    block-anew : BlockInv P σ act w' v' records' b
    block-anew = record { trailed = λ c h. old.trailed c (back c h (case c)); same = λ c r h e. fits c r h e (case c); cover = covers old.cover }

  -- ---- transactions dropped in a block that is held
  abbrev dropped : (ℕ → Bool) → Block → Block
  dropped f x = cond (held x) (end_slots false f x) x

  held-dropped : (f : ℕ → Bool) (x : Block) → held (dropped f x) ≡ held x
  held-dropped f x = go (split (held x))
    where
      go : (held x ≡ true) ⊎ (held x ≡ false) → held (cond (held x) (end_slots false f x) x) ≡ held x
      go (inl e) = rw e (held-end false f x ∙ e)
      go (inr e) = rw e e

  slot-dropped : (f : ℕ → Bool) (x : Block) (r : ℕ) → held x ≡ true → slot (dropped f x) (place_of r) ≡ ended false f (slot x (place_of r))
  slot-dropped f x r h = rw h (slot-end false f x r)

  -- ---- what a stopped store can become
  -- the card can come back; it counts: it works or can come back
  abbrev pub hoped : Control P → ℕ → Bool
  hoped k x = has k.failed x && has (mask k.newest) x

  abbrev pub hopes : Control P → ℕ → Bool
  hopes k x = has k.working x || hoped k x

  -- one card of one block: whether it works, is failed, is named by the newest; and its table
  abbrev wish_by : Bool → Bool → Bool → Block → Block
  wish_by w d n y = cond w y (cond (d && n) (dropped is_lock y) empty)

  unfoldable pub wish : Control P → View P → View P
  wish k v x b = cond (ltb b (blocks k.setting)) (wish_by (has k.working x) (has k.failed x) (has (mask k.newest) x) (v x b)) empty

  pub record Halt (k : Control P) (v : View P) (records : ℕ → Slot) : Type 0 where
    pub rests : Rests P L k
    pub each : (b : ℕ) → ltb b (blocks k.setting) ≡ true → BlockInv P k.setting (active k) (hopes k) (wish k v) records b
    pub free : (r : ℕ) → Unlocked (records r)

  -- a working card's block is in the wish as it is
  pub wish-works : (k : Control P) (v : View P) (x b : ℕ) → has k.working x ≡ true → ltb b (blocks k.setting) ≡ true → wish k v x b ≡ v x b
  unfolding wish
  wish-works k v x b w bk = rw (w, bk)

  -- ---- a fail of a stopped store marks the card
  mark-by : (e w d n : Bool) (y : Block) → (e ≡ true → w ≡ true)
      → (((w || (d && n)) ≡ true) × ((wish_by (w && not e) (e || d) n y ≡ wish_by w d n y) ⊎ (wish_by (w && not e) (e || d) n y ≡ dropped is_lock (wish_by w d n y))))
      ⊎ ((((w && not e) || ((e || d) && n)) ≡ false) × (wish_by (w && not e) (e || d) n y ≡ empty))
  mark-by true true d true y h = inl (refl, inr refl)
  mark-by true true d false y h = inr (refl, refl)
  mark-by true false d n y h = tf false (h refl) refl
  mark-by false true d n y h = inl (refl, inl refl)
  mark-by false false true true y h = inl (refl, inl refl)
  mark-by false false true false y h = inr (refl, refl)
  mark-by false false false n y h = inr (refl, refl)

  module _ (k : Control P) (v : View P) (records : ℕ → Slot) (i : Halt k v records) (c : ℕ) (on : has k.working c ≡ true) where
    mark-ok : ltb c cards ≡ true
    mark-ok = lt-ltb c cards (has-card k.working c on)

    mark-case : (b : ℕ) → ltb b (blocks k.setting) ≡ true → (x : ℕ) → Follows (hopes k) (hopes (marked P k c)) (wish k v) (wish (marked P k c) v) records records b x
    unfolding wish
    mark-case b bk x = rw (bk, has-remove k.working c x, has-insert k.failed c x mark-ok)
        (go (mark-by (eqb x c) (has k.working x) (has k.failed x) (has (mask k.newest) x) (v x b) (λ e. rw (eqb-true x c e) on)))
      where
        old : Block
        old = wish_by (has k.working x) (has k.failed x) (has (mask k.newest) x) (v x b)

        new : Block
        new = wish_by (has k.working x && not (eqb x c)) (eqb x c || has k.failed x) (has (mask k.newest) x) (v x b)

        out : Bool
        out = (has k.working x && not (eqb x c)) || ((eqb x c || has k.failed x) && has (mask k.newest) x)

        go : ((hopes k x ≡ true) × ((new ≡ old) ⊎ (new ≡ dropped is_lock old))) ⊎ ((out ≡ false) × (new ≡ empty))
            → ((hopes k x ≡ true) × (held new ≡ held old) × ((r : ℕ) → block_of r ≡ b → held old ≡ true → slot old (place_of r) ≡ records r → slot new (place_of r) ≡ records r))
            ⊎ ((out ≡ false) × (held new ≡ false))
        go (inl (h, inl e)) = inl (h, ap held e, λ r z q o. ap (λ y. slot y (place_of r)) e ∙ o)
        go (inl (h, inr e)) = inl (
          h,
          ap held e ∙ held-dropped is_lock old,
          λ r z q o. ap (λ y. slot y (place_of r)) e ∙ slot-dropped is_lock old r q
              ∙ ap (ended false is_lock) o ∙ drop-unlocked is_lock (records r) (i.free r) ∙ freed-same (records r) (i.free r),
        )
        go (inr (h, e)) = inr (h, ap held e ∙ held-empty)

    pub halt-marked : Halt (marked P k c) v records
    halt-marked = record {
      rests = rests-marked P L k c mark-ok i.rests;
      each = λ b bk. block-anew k.setting (active k) (hopes k) (hopes (marked P k c)) (wish k v) (wish (marked P k c) v) records records b
          (i.each b bk) (mark-case b bk) (λ r e. e);
      free = i.free;
    }

  -- ---- the stop: rolled back where a card works on, and as it was where the card fails
  stop-by : (e w d n : Bool) (y f : Block) → (e ≡ true → w ≡ true) → (w ≡ true → d ≡ false) → (n ≡ true → w ≡ true)
      → ((w ≡ true) × ((wish_by (w && not e) (e || d) n (cond e y f) ≡ f × (e ≡ false)) ⊎ (wish_by (w && not e) (e || d) n (cond e y f) ≡ dropped is_lock y)))
      ⊎ ((((w && not e) || ((e || d) && n)) ≡ false) × (wish_by (w && not e) (e || d) n (cond e y f) ≡ empty))
  stop-by true true d true y f h g q = inl (refl, inr refl)
  stop-by true true d false y f h g q = inr (refl, refl)
  stop-by true false d n y f h g q = tf false (h refl) refl
  stop-by false true d n y f h g q = inl (refl, inl (refl, refl))
  stop-by false false d true y f h g q = tf false (q refl) refl
  stop-by false false true false y f h g q = inr (refl, refl)
  stop-by false false false false y f h g q = inr (refl, refl)

  -- k and v: control part and tables; see: what is seen of them
  module _ (k : Control P) (v see : View P) (looks : (x b : ℕ) → has k.working x ≡ true → ltb b (blocks k.setting) ≡ true → see x b ≡ v x b)
      (records : ℕ → Slot) (i : Invariant P k see records) (u : ControlInv P L k) (tidy : Tidy P k records) (c : ℕ) (on : has k.working c ≡ true) where
    -- the tables after the stop
    abbrev pub rolled : View P
    rolled x b = updated (drop_held P (is_open k) c see x b) (v x b)

    abbrev stop : Control P
    stop = halted (marked P k c)

    stop-ok : ltb c cards ≡ true
    stop-ok = lt-ltb c cards (has-card k.working c on)

    rolled-is : (x b : ℕ) → rolled x b ≡ cond (eqb x c) (v x b) (rolled x b)
    unfolding drop_held
    rolled-is x b = go (eqb x c) refl
      where
        own : (h : Bool) → updated (cond (h && false) (some (end_slots false (is_open k) (see x b))) none) (v x b) ≡ v x b
        own true = refl
        own false = refl

        go : (e : Bool) → eqb x c ≡ e → rolled x b ≡ cond e (v x b) (rolled x b)
        go true e = rw e (own (held (see x b)))
        go false e = refl

    rolled-on : (x b : ℕ) → eqb x c ≡ false → has k.working x ≡ true → ltb b (blocks k.setting) ≡ true → rolled x b ≡ dropped (is_open k) (see x b)
    unfolding drop_held
    rolled-on x b e w bk = rw e (go (held (see x b)))
      where
        go : (h : Bool) → updated (cond (h && true) (some (end_slots false (is_open k) (see x b))) none) (v x b) ≡ cond h (end_slots false (is_open k) (see x b)) (see x b)
        go true = refl
        go false = sym (looks x b w bk)

    stop-case : (b : ℕ) → ltb b (blocks k.setting) ≡ true → (x : ℕ)
        → Follows (has k.working) (hopes stop) see (wish stop rolled) records (λ r. ended false (is_open k) (records r)) b x
    unfolding wish
    stop-case b bk x = rw (bk, has-remove k.working c x, has-insert k.failed c x stop-ok)
        (go (stop-by (eqb x c) (has k.working x) (has k.failed x) (has (mask k.newest) x) (v x b) (rolled x b) (λ e. rw (eqb-true x c e) on) (i.form.base.apart x) (i.form.new_works x)))
      where
        old : Block
        old = see x b

        wished : Block → Block
        wished y = wish_by (has k.working x && not (eqb x c)) (eqb x c || has k.failed x) (has (mask k.newest) x) y

        new : Block
        new = wished (rolled x b)

        split-new : Block
        split-new = wished (cond (eqb x c) (v x b) (rolled x b))

        out : Bool
        out = (has k.working x && not (eqb x c)) || ((eqb x c || has k.failed x) && has (mask k.newest) x)

        is : new ≡ split-new
        is = ap wished (rolled-is x b)

        go : ((has k.working x ≡ true) × ((split-new ≡ rolled x b × (eqb x c ≡ false)) ⊎ (split-new ≡ dropped is_lock (v x b)))) ⊎ ((out ≡ false) × (split-new ≡ empty))
            → ((has k.working x ≡ true) × (held new ≡ held old)
            × ((r : ℕ) → block_of r ≡ b → held old ≡ true → slot old (place_of r) ≡ records r → slot new (place_of r) ≡ ended false (is_open k) (records r)))
            ⊎ ((out ≡ false) × (held new ≡ false))
        go (inl (w, inl (e, n))) =
            let p : new ≡ dropped (is_open k) old = is ∙ e ∙ rolled-on x b n w bk in
            inl (w, ap held p ∙ held-dropped (is_open k) old, λ r z h o. ap (λ y. slot y (place_of r)) p ∙ slot-dropped (is_open k) old r h ∙ ap (ended false (is_open k)) o)
        go (inl (w, inr e)) =
            let p : new ≡ dropped is_lock old = is ∙ e ∙ ap (dropped is_lock) (sym (looks x b w bk)) in
            inl (
              w,
              ap held p ∙ held-dropped is_lock old,
              λ r z h o. ap (λ y. slot y (place_of r)) p ∙ slot-dropped is_lock old r h ∙ ap (ended false is_lock) o
                  ∙ drop_all P L k (records r) u.opens (tidy r) ∙ sym (drop-open P L k (records r) (tidy r)),
            )
        go (inr (h, e)) = inr (h, ap held (is ∙ e) ∙ held-empty)

    pub halt-stopped : Halt (halted (marked P k c)) rolled (λ r. ended false (is_open k) (records r))
    halt-stopped = record {
      rests = rests-halted P L k c stop-ok i.form u;
      each = λ b bk. block-anew k.setting (active k) (has k.working) (hopes stop) see (wish stop rolled) records (λ r. ended false (is_open k) (records r)) b
          (i.each b bk) (stop-case b bk) (λ r e. rw e (ended-blank false (is_open k)));
      free = λ r. rw (drop-open P L k (records r) (tidy r)) (freed-unlocked false (records r));
    }

  -- ---- a return: the wish stays
  back_by : (e w d n : Bool) (y : Block) → (e ≡ true → w ≡ false) → (e ≡ true → (d && n) ≡ true)
      → wish_by (e || w) (d && not e) n (cond e (dropped is_lock y) y) ≡ wish_by w d n y
  back_by true true d n y h g = tf true refl (h refl)
  back_by true false true true y h g = refl
  back_by true false true false y h g = tf false (g refl) refl
  back_by true false false n y h g = tf false (g refl) refl
  back_by false w true n y h g = refl
  back_by false w false n y h g = refl

  hope-by : (e w d n : Bool) → (e ≡ true → (d && n) ≡ true) → ((e || w) || ((d && not e) && n)) ≡ (w || (d && n))
  hope-by true true d n h = refl
  hope-by true false d n h = sym (h refl)
  hope-by false w true n h = refl
  hope-by false w false n h = refl

  module _ (k : Control P) (v : View P) (records : ℕ → Slot) (i : Halt k v records) (c : ℕ) (c-ok : ltb c cards ≡ true)
      (down : has k.failed c ≡ true) (named : has (mask k.newest) c ≡ true) where
    -- the tables after the return
    abbrev pub returned : View P
    returned x b = updated (drop_locks P k v c x b) (v x b)

    off : has k.working c ≡ false
    off = never_true (has k.working c) (λ e. tf (has k.failed c) down (i.rests.apart c e))

    can : hoped k c ≡ true
    can = and_in (has k.failed c) (has (mask k.newest) c) down named

    same-wish : wish (admitted P k c) returned ≡ wish k v
    unfolding wish drop_locks
    same-wish = fun_ext (λ x. fun_ext (λ b. go x b (split (ltb b (blocks k.setting)))))
      where
        written : (x b : ℕ) (e h : Bool) → held (v x b) ≡ h
            → updated (cond (e && (true && h)) (some (end_slots false is_lock (v x b))) none) (v x b) ≡ cond e (cond h (end_slots false is_lock (v x b)) (v x b)) (v x b)
        written x b true true p = refl
        written x b true false p = refl
        written x b false h p = refl

        go : (x b : ℕ) → (ltb b (blocks k.setting) ≡ true) ⊎ (ltb b (blocks k.setting) ≡ false) → wish (admitted P k c) returned x b ≡ wish k v x b
        go x b (inl bk) = rw (bk, has-insert k.working c x c-ok, has-remove k.failed c x, written x b (eqb x c) (held (v x b)) refl)
            (back_by (eqb x c) (has k.working x) (has k.failed x) (has (mask k.newest) x) (v x b) (λ e. rw (eqb-true x c e) off) (λ e. rw (eqb-true x c e) can))
        go x b (inr bk) = rw bk

    same-hopes : hopes (admitted P k c) ≡ hopes k
    same-hopes = fun_ext (λ x. rw (has-insert k.working c x c-ok, has-remove k.failed c x)
        (hope-by (eqb x c) (has k.working x) (has k.failed x) (has (mask k.newest) x) (λ e. rw (eqb-true x c e) can)))

    each-still : (b : ℕ) → ltb b (blocks k.setting) ≡ true → BlockInv P k.setting (active k) (hopes (admitted P k c)) (wish (admitted P k c) returned) records b
    each-still b bk = rw (same-wish, same-hopes) (i.each b bk)

    -- it stays stopped
    pub halt-returned : Halt (admitted_as P L k c true) returned records
    halt-returned = record { rests = rests-admitted P L k i.rests c c-ok named; each = unfold wish in each-still; free = i.free }
