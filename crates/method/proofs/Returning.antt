-- The return of a card, on the control part: a stopped store stays one with all that the control form asks, or is a running one again. The
-- card is named by the newest placement, so it is none of those whose failures added the placements. Assumes nothing.
use Prim.Native.Nat.{suc, zero, ℕ}
use borrow.Author.Tests.{eqb-true, ne_eqb}
use lib.Dec.{eqb, ltb}
use mathlib.Core.Bool.{Bool, ◌&&◌, ◌||◌, and-true, false, not, true}
use mathlib.Core.List.{List, [], ◌∷◌, reverse}
use mathlib.Core.Logic.{◌⊎◌, inl, inr}
use mathlib.Core.Option.{none}
use mathlib.Core.Path.{◌∙◌, ◌≡◌, ap, refl, sym}
use Rattle.lists.specs.Tests.{In, all_below, all_in}
use Rattle.lists.proofs.Bools.{and_l, and_r, imp-out, never_true, nor-l, nor-r, not_is, not-not-is, or_l, or_r, split, tf}
use Rattle.lists.proofs.Counts.{below_all}
use Rattle.lists.proofs.Lists.{all-out}
use Rattle.method.specs.Changes.{Control}
use Rattle.method.specs.ControlPart.{active, part}
use Rattle.method.specs.Parameters.{Parameters}
use Rattle.method.specs.Returning.{admitted, after_return, can_run, drop_locks, is_stale, rejoined, return_plan, return_refusal, returning}
use Rattle.method.specs.Rules.{State, View, apply, guarded, lost, row}
use Rattle.method.specs.Slots.{is_some}
use Rattle.method.proofs.Capacity.{Capacity, Chain, ControlInv}
use Rattle.method.proofs.Invariant.{Form}
use Rattle.method.proofs.Laws.{Laws}
use Rattle.method.proofs.Legal.{Legal, is-resting, is-running}
use Rattle.method.proofs.Refusals.{row-3, row-clear}
use Rattle.method.proofs.Sight.{some≢none}
use Rattle.method.proofs.Stopped.{Rests}

module _ (P : Parameters) where
  open P use {Stamp, blocks, cards, has, mask, same_stamp, stamp_of}

  -- ---- what a return that is taken has shown
  pub record Taken (k : Control P) (m : ℕ → Stamp) (c : ℕ) : Type 0 where
    pub is-card : ltb c cards ≡ true
    pub is-stopped : k.stopped ≡ true
    pub was-failed : has k.failed c ≡ true
    pub same-stamp : same_stamp (m c) (stamp_of k) ≡ true
    pub named : has (mask k.newest) c ≡ true

  pub taken-shows : (k : Control P) (m : ℕ → Stamp) (c : ℕ) → return_refusal P k m c ≡ 0 → Taken k m c
  unfolding return_refusal is_stale
  taken-shows k m c e =
      let a = row-3 (ltb c cards) e in
      let b = row-clear (not k.stopped || not (has k.failed c)) 7 a.1 in
      let n = not-not-is (same_stamp (m c) (stamp_of k) && has (mask k.newest) c) (row-clear (not (same_stamp (m c) (stamp_of k) && has (mask k.newest) c)) 18 b.1).0 in
      record {
        is-card = a.0;
        is-stopped = not-not-is k.stopped (nor-l (not k.stopped) (not (has k.failed c)) b.0);
        was-failed = not-not-is (has k.failed c) (nor-r (not k.stopped) (not (has k.failed c)) b.0);
        same-stamp = and_l (same_stamp (m c) (stamp_of k)) (has (mask k.newest) c) n;
        named = and_r (same_stamp (m c) (stamp_of k)) (has (mask k.newest) c) n;
      }

  pub shown-taken : (k : Control P) (m : ℕ → Stamp) (c : ℕ) → Taken k m c → return_refusal P k m c ≡ 0
  unfolding return_refusal is_stale
  shown-taken k m c t = go (ltb c cards) k.stopped (has k.failed c) (same_stamp (m c) (stamp_of k)) (has (mask k.newest) c)
      t.is-card t.is-stopped t.was-failed t.same-stamp t.named
    where
      go : (a s f g n : Bool) → a ≡ true → s ≡ true → f ≡ true → g ≡ true → n ≡ true → row 3 (not a) (row 8 (not s || not f) (row 19 (not (g && n)) 0)) ≡ 0
      go a s f g n p q r t u = rw (p, q, r, t, u)

  -- ---- a refused return changes nothing
  pub return_refused : (c : ℕ) (s : State P) (n : ℕ) → return_refusal P s.control s.stamp c ≡ suc n → after_return P c s ≡ s
  unfolding after_return apply returning
  return_refused c s n e = rw e

  pub return-taken : (c : ℕ) (s : State P) → return_refusal P s.control s.stamp c ≡ 0 → after_return P c s ≡ apply P (return_plan P s.control s.block c) s
  unfolding after_return returning
  return-taken c s e = ap (λ (n : ℕ). apply P (guarded P n s.control (return_plan P s.control s.block c)) s) e

  -- one that is taken writes nothing outside the tables
  pub return-outside : (k : Control P) (v : View P) (c x b : ℕ) → ltb c cards ≡ true → (ltb x cards && ltb b (blocks k.setting)) ≡ false → drop_locks P k v c x b ≡ none
  unfolding drop_locks
  return-outside k v c x b c-ok out = go (split (eqb x c))
    where
      go : (eqb x c ≡ true) ⊎ (eqb x c ≡ false) → drop_locks P k v c x b ≡ none
      go (inl e) =
          let o : ltb x cards ≡ true = rw (eqb-true x c e) c-ok in
          let n : ltb b (blocks k.setting) ≡ false = rw o at out in
          rw (e, n)
      go (inr e) = rw e

  -- a running store refuses it, 3 or 8
  pub running-refusal : (k : Control P) (m : ℕ → Stamp) (c : ℕ) → k.stopped ≡ false → (return_refusal P k m c ≡ 3) ⊎ (return_refusal P k m c ≡ 8)
  unfolding return_refusal
  running-refusal k m c run = go (ltb c cards) k.stopped run
    where
      go : (a s : Bool) → s ≡ false → (row 3 (not a) (row 8 (not s || not (has k.failed c)) (row 19 (is_stale P k (m c) c) 0)) ≡ 3)
          ⊎ (row 3 (not a) (row 8 (not s || not (has k.failed c)) (row 19 (is_stale P k (m c) c) 0)) ≡ 8)
      go true s e = inr (rw e)
      go false s e = inl refl

  pub running-refuses-return : (c : ℕ) (s : State P) → s.control.stopped ≡ false → after_return P c s ≡ s
  running-refuses-return c s run = go (running-refusal s.control s.stamp c run)
    where
      go : (return_refusal P s.control s.stamp c ≡ 3) ⊎ (return_refusal P s.control s.stamp c ≡ 8) → after_return P c s ≡ s
      go (inl e) = return_refused c s 2 e
      go (inr e) = return_refused c s 7 e

module _ (P : Parameters) (L : Laws P) where
  open P use {Mask, Placement, Stamp, cards, has, insert, mask, remove}
  open L use {has-card, has-insert, has-remove, numbered-same}

  -- a card that the newest placement names is none that the chain has lost
  chain_back : (d : Mask) (c j : ℕ) (n : Placement) (l : List Placement) → has (mask n) c ≡ true → Chain P L d j n l → Chain P L (remove d c) j n l
  chain_back d c zero n l h z = tt
  chain_back d c (suc j) n [] h z = z
  chain_back d c (suc j) n (p ∷ l) h z = (
    record {
      extra = z.0.extra;
      extra-failed = rw (has-remove d c z.0.extra, ne_eqb z.0.extra c (λ e. tf (has (mask n) c) h (rw (← e) z.0.extra-new)))
          (and-true (has d z.0.extra) ∙ z.0.extra-failed);
      extra-new = z.0.extra-new;
      extra-is = z.0.extra-is;
    },
    chain_back d c j p l (rw (z.0.extra-is c) (or_r (eqb c z.0.extra) (has (mask n) c) h)) z.1,
  )

  -- ---- the card is admitted, and the store runs or stays stopped
  abbrev pub admitted_as : Control P → ℕ → Bool → Control P
  admitted_as k c stopped = part stopped k.older k.newest (insert k.working c) (remove k.failed c) k.home k.setting k.serial

  module _ (k : Control P) (r : Rests P L k) (c : ℕ) (c-ok : ltb c cards ≡ true) (named : has (mask k.newest) c ≡ true) where
    apart-admitted : (x : ℕ) → has (insert k.working c) x ≡ true → has (remove k.failed c) x ≡ false
    apart-admitted x h = rw (has-remove k.failed c x) (go (eqb x c) (rw (has-insert k.working c x c-ok) at h))
      where
        go : (e : Bool) → (e || has k.working x) ≡ true → (has k.failed x && not e) ≡ false
        go true h = never_true (has k.failed x && false) (λ z. tf false (and_r (has k.failed x) false z) refl)
        go false h = and-true (has k.failed x) ∙ r.apart x h

    known-admitted : (p : Placement) (x : ℕ) → In p (active k) → has (mask p) x ≡ true → has (remove k.failed c) x ≡ false → has (insert k.working c) x ≡ true
    known-admitted p x m h n = rw (has-insert k.working c x c-ok) (go (split (eqb x c)) (rw (has-remove k.failed c x) at n))
      where
        go : (eqb x c ≡ true) ⊎ (eqb x c ≡ false) → (has k.failed x && not (eqb x c)) ≡ false → (eqb x c || has k.working x) ≡ true
        go (inl e) n = or_l (eqb x c) (has k.working x) e
        go (inr e) n = or_r (eqb x c) (has k.working x) (r.known p x m h (sym (and-true (has k.failed x)) ∙ (rw e at n)))

    room-admitted : (stopped : Bool) → Capacity P L (admitted_as k c stopped)
    room-admitted stopped = record {
      steps = r.room.steps;
      chain = chain_back k.failed c r.room.steps k.newest (reverse k.older) named r.room.chain;
      few = r.room.few;
    }

    pub rests-admitted : Rests P L (admitted_as k c true)
    rests-admitted = record {
      stays = refl;
      shut = r.shut;
      apart = apart-admitted;
      known = known-admitted;
      sound = r.sound;
      room = room-admitted true;
      numbers = numbered-same k (admitted_as k c true) refl refl refl r.numbers;
      bound = r.bound;
    }

    -- and the store runs
    pub newest-works : can_run P (admitted P k c) ≡ true → (x : ℕ) → has (mask k.newest) x ≡ true → has (insert k.working c) x ≡ true
    unfolding can_run
    newest-works e x h = imp-out (has (mask k.newest) x) (has (insert k.working c) x)
        (below_all cards (λ x. not (has (mask k.newest) x) || has (insert k.working c) x) x
        (and_l (all_below cards (λ x. not (has (mask k.newest) x) || has (insert k.working c) x)) (all_in (λ p. not (lost P (admitted P k c) p)) (active k)) e)
        (has-card (mask k.newest) x h)) h

    none-lost : can_run P (admitted P k c) ≡ true → (p : Placement) → In p (active k) → lost P (admitted P k c) p ≡ false
    unfolding can_run
    none-lost e p m = not_is (lost P (admitted P k c) p) (all-out (λ p. not (lost P (admitted P k c) p)) (active k) p
        (and_r (all_below cards (λ x. not (has (mask k.newest) x) || has (insert k.working c) x)) (all_in (λ p. not (lost P (admitted P k c) p)) (active k)) e) m)

    pub form-again : can_run P (admitted P k c) ≡ true → Form P (admitted_as k c false)
    form-again e = record {
      base = record {
        running = refl;
        apart = apart-admitted;
        known = known-admitted;
        sound = r.sound;
        safe = none-lost e;
      };
      new_works = newest-works e;
    }

    pub full-again : ControlInv P L (admitted_as k c false)
    full-again = record {
      homes = λ t h e. absurd (some≢none h (sym e ∙ r.shut t));
      opens = λ t e. tf (is_some (k.home t)) e (ap is_some (r.shut t));
      room = room-admitted false;
      numbers = numbered-same k (admitted_as k c false) refl refl refl r.numbers;
    }

  -- ---- every return that is taken leaves a legal control part
  pub legal-return : (k : Control P) (m : ℕ → Stamp) (c : ℕ) → Legal P L k → return_refusal P k m c ≡ 0 → Legal P L (rejoined P k c)
  legal-return k m c (is-running f u) e = tf k.stopped (taken-shows P k m c e).is-stopped f.base.running
  legal-return k m c (is-resting r) e = go (can_run P (admitted P k c)) refl
    where
      t : Taken P k m c
      t = taken-shows P k m c e

      go : (b : Bool) → can_run P (admitted P k c) ≡ b → Legal P L (admitted_as k c (not b))
      go true h = is-running (form-again k r c t.is-card t.named h) (full-again k r c t.is-card t.named)
      go false h = is-resting (rests-admitted k r c t.is-card t.named)
