-- What the control part of a running store has besides: homes work, and there are never too many placements. Assumes nothing.
use Prim.Native.Nat.{◌+◌, ◌<◌, ◌≤◌, suc, zero, ℕ}
use borrow.Author.Tests.{eq-eqb, eqb-true, ne_eqb}
use lib.Dec.{eqb, ltb}
use lib.ListN.{length, length-append}
use mathlib.Core.Bool.{Bool, ◌&&◌, ◌||◌, and-true, cond, false, not, true}
use mathlib.Core.List.{List, [], ◌∷◌, reverse, reverse-append}
use mathlib.Core.Logic.{◌⊎◌, inl, inr}
use mathlib.Core.Option.{Option, none, some}
use mathlib.Core.Path.{◌∙◌, ◌≡◌, refl, sym}
use native.Mathlib.Omega.{arith}
use Rattle.lists.specs.Tests.{In, any_below, count_below}
use Rattle.lists.proofs.Bools.{and_in, and_l, and_r, eqb-self, nor-r, not-not-is, or_l, or_r, split, tf}
use Rattle.lists.proofs.Counts.{below_none, but, count-but, count-mono}
use Rattle.lists.proofs.Lists.{any_none, in_left, in-reverse, in_right}
use Rattle.method.specs.Changes.{Control, added_by, marked, started_by}
use Rattle.method.specs.ControlPart.{active, begun_at, closed, is_open, only_newest, opened}
use Rattle.method.specs.ControlPart.{with_cards}
use Rattle.method.specs.OneRecordList.{is_last, is_stop, observe}
use Rattle.method.specs.Parameters.{Parameters}
use Rattle.method.specs.Rules.{Call, Plan, View, absent, act, begin, commit, delete, fail, fail_plan, stop_plan}
use Rattle.method.specs.Rules.{fit, get, guarded, in_active, load, lock_holders, move, ok, place, plan, refusal}
use Rattle.method.specs.Rules.{rollback, seen_slot, settle, start, state, stopping, stops, store, unwritten}
use Rattle.method.specs.Rules.{withdraw, writing}
use Rattle.method.specs.Slots.{is_none, is_some, read_by}
use Rattle.method.proofs.Invariant.{Form}
use Rattle.method.proofs.Laws.{Laws}
use Rattle.method.proofs.Refusals.{row-3, row-clear}
use Rattle.method.proofs.StopRule.{few-failed}

some_inj : (a b : ℕ) → ◌≡◌ {A = Option ℕ} (some a) (some b) → a ≡ b
some_inj a b e = cc

none≢some : (a : ℕ) → ◌≡◌ {A = Option ℕ} none (some a) → ⊥
none≢some a e = let z : ◌≡◌ {A = ℕ} 0 1 = cc in omega arith

module _ (P : Parameters) (L : Laws P) where
  open P use {Mask, Placement, StartArgument, PlaceArgument, cards, transactions, copies, tran_in_range, has}
  open P use {insert, remove, mask, without, start_setting, places, place_in_range, place_refusal, place_limit, numbered, start_refusal}
  open L use {tran-below, has-card, has-insert, has-remove, has-without, limit-some, place-room}
  open L use {numbered-start, numbered-same, numbered-place, numbered-fail, numbered-settle}

  -- p is n and one failed card
  pub record OneMore (d : Mask) (n p : Placement) : Type 0 where
    pub extra : ℕ
    pub extra-failed : has d extra ≡ true
    pub extra-new : has (mask n) extra ≡ false
    pub extra-is : (x : ℕ) → has (mask p) x ≡ (eqb x extra || has (mask n) x)

  -- from the newest back, j placements were each added by a failure
  abbrev pub Chain : Mask → ℕ → Placement → List Placement → Type 0
  Chain d zero n l = Unit {0}
  Chain d (suc j) n [] = ⊥
  Chain d (suc j) n (p ∷ l) = OneMore d n p × Chain d j p l

  pub record Capacity (k : Control P) : Type 0 where
    pub steps : ℕ
    pub chain : Chain k.failed steps k.newest (reverse k.older)
    pub few : suc (length k.older) ≤ place_limit k.setting + steps

  pub record ControlInv (k : Control P) : Type 0 where
    pub homes : (t h : ℕ) → k.home t ≡ some h → has k.working h ≡ true
    pub opens : (t : ℕ) → is_open k t ≡ true → tran_in_range t ≡ true
    pub room : Capacity k
    pub numbers : numbered k

  -- failed marks may come and go, as long as those of the chain stay
  pub chain-map : (d e : Mask) (j : ℕ) (n : Placement) (l : List Placement) → ((p : Placement) (x : ℕ) → In p l → has (mask p) x ≡ true → has d x ≡ true → has e x ≡ true)
      → Chain d j n l → Chain e j n l
  chain-map d e zero n l h c = tt
  chain-map d e (suc j) n [] h c = c
  chain-map d e (suc j) n (p ∷ l) h c = (
    record {
      extra = c.0.extra;
      extra-failed = h p c.0.extra (inl refl) (rw (c.0.extra-is c.0.extra)
          (or_l (eqb c.0.extra c.0.extra) (has (mask n) c.0.extra) (eqb-self c.0.extra))) c.0.extra-failed;
      extra-new = c.0.extra-new;
      extra-is = c.0.extra-is;
    },
    chain-map d e j p l (λ q x m. h q x (inr m)) c.1,
  )

  grow : (d : Mask) (n p : Placement) → OneMore d n p → (a : ℕ) → a ≤ count_below cards (λ x. has (mask n) x && has d x) → suc a ≤ count_below cards (λ x. has (mask p) x && has d x)
  grow d n p o a h =
      let e : ℕ = o.extra in
      let one : count_below cards fp ≡ suc (count_below cards (but fp e)) = count-but cards fp e (and_in (has (mask p) e) (has d e)
      (rw (o.extra-is e) (or_l (eqb e e) (has (mask n) e) (eqb-self e))) o.extra-failed) (has-card d e o.extra-failed) in
      let m : count_below cards (λ x. has (mask n) x && has d x) ≤ count_below cards (but fp e) = count-mono cards (λ x. has (mask n) x && has d x) (but fp e) inc in
      omega arith
    where
      fp : ℕ → Bool
      fp x = has (mask p) x && has d x

      inc : (x : ℕ) → (has (mask n) x && has d x) ≡ true → but fp o.extra x ≡ true
      inc x q =
          let i : has (mask n) x ≡ true = and_l (has (mask n) x) (has d x) q in
          and_in (fp x) (not (eqb x o.extra)) (and_in (has (mask p) x) (has d x) (rw (o.extra-is x) (or_r (eqb x o.extra) (has (mask n) x) i)) (and_r (has (mask n) x) (has d x) q))
          (rw (ne_eqb x o.extra (λ z. tf (has (mask n) o.extra) (rw z at i) o.extra-new)))

  -- j steps back there are j failed cards more
  chain-count : (d : Mask) (j : ℕ) (n : Placement) (l : List Placement) → Chain d j n l → (p : Placement) × In p (n ∷ l) × (j ≤ count_below cards (λ x. has (mask p) x && has d x))
  chain-count d j n l c = let r = go j n l 0 c (omega arith) in (r.0, r.1, omega (arith, r.2))
    where
      go : (j : ℕ) (n : Placement) (l : List Placement) (a : ℕ) → Chain d j n l → a ≤ count_below cards (λ x. has (mask n) x && has d x)
          → (p : Placement) × In p (n ∷ l) × (j + a ≤ count_below cards (λ x. has (mask p) x && has d x))
      go zero n l a c h = (n, inl refl, omega arith)
      go (suc j) n [] a c h = absurd c
      go (suc j) n (p ∷ l) a c h = let r = go j p l (suc a) c.1 (grow d n p c.0 a h) in (r.0, inr r.1, omega (arith, r.2))

  module _ (k : Control P) (f : Form P k) where
    -- so there are fewer steps than copies, and the placements are bounded
    pub bounded : Capacity k → suc (length k.older) < place_limit k.setting + copies k.setting
    bounded r =
        let t = chain-count k.failed r.steps k.newest (reverse k.older) r.chain in
        let n : ℕ = count_below cards (λ x. has (mask t.0) x && has k.failed x) in
        let s : n < copies k.setting = few-failed P k.setting k.working k.failed (mask t.0) (f.base.safe t.0 (place_of t.0 t.1)) in
        let a : r.steps ≤ n = t.2 in
        let b : suc (length k.older) ≤ place_limit k.setting + r.steps = r.few in
        omega arith
      where
        place_of : (p : Placement) → In p (k.newest ∷ reverse k.older) → In p (active k)
        place_of p (inl e) = in_right k.older (k.newest ∷ []) p (inl e)
        place_of p (inr m) = in_left k.older (k.newest ∷ []) p (in-reverse k.older p m)

    module _ (g : ControlInv k) where
      older-in : (p : Placement) → In p (reverse k.older) → In p (active k)
      older-in p m = in_left k.older (k.newest ∷ []) p (in-reverse k.older p m)

      -- ---- each change of the control part
      full-open : (t h : ℕ) → tran_in_range t ≡ true → has k.working h ≡ true → ControlInv (opened k t h)
      full-open t h t-ok on = record {
        homes = λ x y e. homes' x y (split (eqb x t)) e;
        opens = λ x e. opens' x (split (eqb x t)) e;
        room = record { steps = g.room.steps; chain = g.room.chain; few = g.room.few };
        numbers = numbered-same k (opened k t h) refl refl refl g.numbers;
      }
        where
          homes' : (x y : ℕ) → (eqb x t ≡ true) ⊎ (eqb x t ≡ false) → cond (eqb x t) (some h) (k.home x) ≡ some y → has k.working y ≡ true
          homes' x y (inl q) e = let z : h ≡ y = some_inj h y (rw q at e) in rw z at on
          homes' x y (inr q) e = g.homes x y (rw q at e)

          opens' : (x : ℕ) → (eqb x t ≡ true) ⊎ (eqb x t ≡ false) → is_some (cond (eqb x t) (some h) (k.home x)) ≡ true → tran_in_range x ≡ true
          opens' x (inl q) e = rw (eqb-true x t q) t-ok
          opens' x (inr q) e = g.opens x (rw q at e)

      full-close : (c : ℕ → Bool) → ControlInv (closed k c)
      full-close c = record {
        homes = λ x y e. homes' x y (split (c x)) e;
        opens = λ x e. opens' x (split (c x)) e;
        room = record { steps = g.room.steps; chain = g.room.chain; few = g.room.few };
        numbers = numbered-same k (closed k c) refl refl refl g.numbers;
      }
        where
          homes' : (x y : ℕ) → (c x ≡ true) ⊎ (c x ≡ false) → cond (c x) none (k.home x) ≡ some y → has k.working y ≡ true
          homes' x y (inl q) e = absurd (none≢some y (rw q at e))
          homes' x y (inr q) e = g.homes x y (rw q at e)

          opens' : (x : ℕ) → (c x ≡ true) ⊎ (c x ≡ false) → is_some (cond (c x) none (k.home x)) ≡ true → tran_in_range x ≡ true
          opens' x (inl q) e = tf false (rw q at e) refl
          opens' x (inr q) e = g.opens x (rw q at e)

      full-fit : (c : ℕ) → ltb c cards ≡ true → in_active P k c ≡ false → ControlInv (with_cards k (insert k.working c) (remove k.failed c))
      full-fit c c-ok n = record {
        homes = λ t h e. rw (has-insert k.working c h c-ok) (or_r (eqb h c) (has k.working h) (g.homes t h e));
        opens = g.opens;
        room = record { steps = g.room.steps; chain = chain-map k.failed (remove k.failed c) g.room.steps k.newest (reverse k.older) stays g.room.chain; few = g.room.few };
        numbers = numbered-same k (with_cards k (insert k.working c) (remove k.failed c)) refl refl refl g.numbers;
      }
        where
          stays : (p : Placement) (x : ℕ) → In p (reverse k.older) → has (mask p) x ≡ true → has k.failed x ≡ true → has (remove k.failed c) x ≡ true
          stays p x m h d = rw (has-remove k.failed c x, ne_eqb x c (λ e. tf (has (mask p) c) (rw e at h) (any_none (λ q. has (mask q) c) (active k) p n (older-in p m))))
              (and-true (has k.failed x) ∙ d)

      full-withdraw : (c : ℕ) → any_below transactions (begun_at k c) ≡ false → ControlInv (with_cards k (remove k.working c) k.failed)
      full-withdraw c n = record {
        homes = λ t h e. rw (has-remove k.working c h, ne_eqb h c (elsewhere t h e)) (and-true (has k.working h) ∙ g.homes t h e);
        opens = g.opens;
        room = record { steps = g.room.steps; chain = g.room.chain; few = g.room.few };
        numbers = numbered-same k (with_cards k (remove k.working c) k.failed) refl refl refl g.numbers;
      }
        where
          elsewhere : (t h : ℕ) → k.home t ≡ some h → h ≡ c → ⊥
          elsewhere t h e z =
              let o : is_open k t ≡ true = rw e in
              let b : begun_at k c t ≡ true = rw e (eq-eqb h c z) in
              tf (begun_at k c t) b (below_none transactions (begun_at k c) t n (tran-below t (g.opens t o)))

      full-place : (a : PlaceArgument) → place_refusal k a ≡ 0 → ControlInv (added_by P k (places k.newest a))
      full-place a e = record {
        homes = g.homes;
        opens = g.opens;
        room = record {
          steps = 0;
          chain = tt;
          few = simp length-append
              (omega (arith, place-room k a e));
        };
        numbers = numbered-place k a e g.numbers;
      }

      full-settle : ControlInv (only_newest k)
      full-settle = record { homes = g.homes; opens = g.opens; room = record { steps = 0; chain = tt; few = omega (arith, limit-some k.setting) }; numbers = numbered-settle k g.numbers }

      module _ (c : ℕ) (c-ok : ltb c cards ≡ true) where
        -- what stays open has its home on a card that works on
        fail-homes : (t h : ℕ) → cond (begun_at k c t) none (k.home t) ≡ some h → has (remove k.working c) h ≡ true
        fail-homes t h e = go (split (begun_at k c t))
          where
            go : (begun_at k c t ≡ true) ⊎ (begun_at k c t ≡ false) → has (remove k.working c) h ≡ true
            go (inl q) = absurd (none≢some h (rw q at e))
            go (inr q) =
                let o : k.home t ≡ some h = rw q at e in
                rw (has-remove k.working c h, rw o at q) (and-true (has k.working h) ∙ g.homes t h o)

        fail-opens : (t : ℕ) → is_some (cond (begun_at k c t) none (k.home t)) ≡ true → tran_in_range t ≡ true
        fail-opens t e = go (split (begun_at k c t))
          where
            go : (begun_at k c t ≡ true) ⊎ (begun_at k c t ≡ false) → tran_in_range t ≡ true
            go (inl q) = tf false (rw q at e) refl
            go (inr q) = g.opens t (rw q at e)

        still-failed : (p : Placement) (x : ℕ) → In p (reverse k.older) → has (mask p) x ≡ true → has k.failed x ≡ true → has (insert k.failed c) x ≡ true
        still-failed p x m h d = rw (has-insert k.failed c x c-ok) (or_r (eqb x c) (has k.failed x) d)

        full-fail : (b : Bool) → has (mask k.newest) c ≡ b
            → ControlInv (cond b (added_by P (closed (marked P k c) (begun_at k c)) (without k.newest c)) (closed (marked P k c) (begun_at k c)))
        full-fail true e = record {
          homes = fail-homes;
          opens = fail-opens;
          room = record {
            steps = suc g.room.steps;
            chain = rw (reverse-append k.older (k.newest ∷ [])) (
              step,
              chain-map k.failed (insert k.failed c) g.room.steps k.newest
                  (reverse k.older) still-failed g.room.chain,
            );
            few = simp length-append (omega (arith, g.room.few));
          };
          numbers = numbered-same (added_by P k (without k.newest c)) (added_by P (closed (marked P k c) (begun_at k c)) (without k.newest c)) refl refl refl (numbered-fail k c e g.numbers);
        }
          where
            step : OneMore (insert k.failed c) (without k.newest c) k.newest
            step = record {
              extra = c;
              extra-failed = rw (has-insert k.failed c c c-ok) (or_l (eqb c c) (has k.failed c) (eqb-self c));
              extra-new = rw (has-without k.newest c c, eqb-self c, e);
              extra-is = λ x. rw (has-without k.newest c x) (back x (split (eqb x c)));
            }
              where
                back : (x : ℕ) → (eqb x c ≡ true) ⊎ (eqb x c ≡ false) → has (mask k.newest) x ≡ (eqb x c || (has (mask k.newest) x && not (eqb x c)))
                back x (inl q) = rw q (rw (eqb-true x c q) e)
                back x (inr q) = rw q (sym (and-true (has (mask k.newest) x)))
        full-fail false e = record {
          homes = fail-homes;
          opens = fail-opens;
          room = record {
            steps = g.room.steps;
            chain = chain-map k.failed (insert k.failed c) g.room.steps k.newest (reverse k.older) still-failed g.room.chain;
            few = g.room.few;
          };
          numbers = numbered-same k (closed (marked P k c) (begun_at k c)) refl refl refl g.numbers;
        }

  pub full_start : (a : StartArgument) → start_refusal a ≡ 0 → ControlInv (started_by P a)
  full_start a e0 = record {
    homes = λ t h e. absurd (none≢some h e);
    opens = λ t e. tf false e refl;
    room = record {
      steps = 0;
      chain = tt;
      few = omega
          (arith, limit-some (start_setting a));
    };
    numbers = numbered-start a e0;
  }

  -- ---- every call that does not stop keeps it
  module _ (k : Control P) (v : View P) (f : Form P k) (g : ControlInv k) where
    act-full : (c : Call P) → refusal P c k v ≡ 0 → is_last P (observe P c (act P c k v).answer) ≡ false → ControlInv (act P c k v).after
    unfolding act refusal
    act-full (start a) e s = full_start a e
    act-full (begin t h) e s =
        let r = row-3 (tran_in_range t && ltb h cards) e in
        let n = (row-clear (is_open k t) 5 (row-clear k.stopped 3 r.1).1).1 in
        full-open k f g t h (and_l (tran_in_range t) (ltb h cards) r.0) (f.new_works h (not-not-is (has (mask k.newest) h) (row-clear (not (has (mask k.newest) h)) 7 n).0))
    act-full (get t r) e s = g
    act-full (store t r n) e s = g
    act-full (delete t r) e s = either (is_none (read_by t (seen_slot P k v r)))
      where
        either : (b : Bool) → ControlInv (cond {A = Plan P} b (unwritten P absent k) (writing P ok k (lock_holders P k v t r none))).after
        either true = g
        either false = g
    act-full (commit t) e s = full-close k f g (λ x. eqb x t)
    act-full (rollback t) e s = full-close k f g (λ x. eqb x t)
    act-full (fit c) e s =
        let r = row-3 (ltb c cards) e in
        full-fit k f g c r.0 (nor-r (has k.working c) (in_active P k c) (row-clear (has k.working c || in_active P k c) 7 (row-clear k.stopped 3 r.1).1).0)
    act-full (withdraw c) e s =
        let r = row-3 (ltb c cards) e in
        full-withdraw k f g c (row-clear (any_below transactions (begun_at k c)) 13 (row-clear (not (has k.working c) || in_active P k c) 7 (row-clear k.stopped 3 r.1).1).1).0
    act-full (place a) e s = full-place k f g a (row-clear k.stopped 3 (row-3 (place_in_range a) e).1).1
    act-full (fail c) e s = either k.stopped (stopping P k c) s
      where
        planned : Bool → Bool → Plan P
        planned s b = cond s (unwritten P stops (marked P k c)) (cond b (stop_plan P k v c) (fail_plan P k v c))

        either : (s b : Bool) → is_stop P (planned s b).answer ≡ false → ControlInv (planned s b).after
        either true b z = tf true refl z
        either false true z = tf true refl z
        either false false z = full-fail k f g c (row-3 (ltb c cards) e).0 (has (mask k.newest) c) refl
    act-full (move c b) e s = g
    act-full settle e s = full-settle k f g
    act-full state e s = g
    act-full (load c) e s = g

    pub control-kept : (c : Call P) → is_last P (observe P c (plan P c k v).answer) ≡ false → ControlInv (plan P c k v).after
    unfolding plan
    control-kept c = go (refusal P c k v) refl
      where
        go : (n : ℕ) → refusal P c k v ≡ n → is_last P (observe P c (guarded P n k (act P c k v)).answer) ≡ false → ControlInv (guarded P n k (act P c k v)).after
        go zero e s = act-full c e s
        go (suc n) e s = g
