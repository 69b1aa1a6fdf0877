-- Which changes of the control part keep the form of a running store. Assumes nothing.
use Prim.Native.Nat.{◌<◌, ◌≤◌, suc, zero, ℕ}
use mathlib.Core.Bool.{◌&&◌, false, true}
use mathlib.Core.List.{[], ◌∷◌}
use mathlib.Core.Logic.{◌⊎◌, inl, inr}
use mathlib.Core.Option.{Option}
use mathlib.Core.Path.{◌∙◌, ◌≡◌, ap, fun_ext, refl, sym}
use native.Mathlib.Omega.{arith}
use Rattle.lists.specs.Tests.{In, count_below}
use Rattle.lists.proofs.Bools.{and_in, and_l, and_r, and-when, tf}
use Rattle.lists.proofs.Counts.{count-mono}
use Rattle.lists.proofs.Lists.{in-cases, in_right}
use Rattle.method.specs.Changes.{Control, added_by, started_by}
use Rattle.method.specs.ControlPart.{active, only_newest, with_cards, with_home}
use Rattle.method.specs.Parameters.{Parameters}
use Rattle.method.specs.Rules.{lost, lost_of}
use Rattle.method.proofs.Invariant.{Base, Form, newest-in}
use Rattle.method.proofs.Laws.{Laws}
use Rattle.method.proofs.StopRule.{enough-work, few-failed, not-lost}

module _ (P : Parameters) (L : Laws P) where
  open P use {Mask, Placement, Setting, Serial, StartArgument, cards, copies, has, no_cards, mask, usable, starts}
  open P use {start_setting, start_refusal}
  open L use {has-none, start-usable, start-many, start-some}

  pub all-work-safe : (σ : Setting) (w f : Mask) (p : Placement) → ((c : ℕ) → has (mask p) c ≡ true → has w c ≡ true) → ((c : ℕ) → has w c ≡ true → has f c ≡ false)
      → copies σ ≤ count_below cards (has (mask p)) → 0 < copies σ → lost_of P σ w f (mask p) ≡ false
  all-work-safe σ w f p all-w apart many pos =
      let z : count_below cards (λ c. has (mask p) c && has f c) ≤ count_below cards (λ c. false) = count-mono cards (λ c. has (mask p) c && has f c) (λ c. false)
      (λ c e. tf (has f c) (and_r (has (mask p) c) (has f c) e) (apart c (all-w c (and_l (has (mask p) c) (has f c) e)))) in
      let y : count_below cards (λ c. false) ≡ 0 = none-counted cards in
      let x : count_below cards (has (mask p)) ≤ count_below cards (λ c. has (mask p) c && has w c) = count-mono cards (has (mask p)) (λ c. has (mask p) c && has w c)
      (λ c e. and_in (has (mask p) c) (has w c) e (all-w c e)) in
      not-lost P σ w f (mask p) (omega arith) (omega arith)
    where
      none-counted : (n : ℕ) → count_below n (λ c. false) ≡ 0
      none-counted zero = refl
      none-counted (suc n) = let h = none-counted n in omega arith

  module _ (k : Control P) (f : Base P k) where
    pub some-copies : 0 < copies k.setting
    some-copies =
        let n : ℕ = count_below cards (λ c. has (mask k.newest) c && has k.failed c) in
        let h : n < copies k.setting = few-failed P k.setting k.working k.failed (mask k.newest) (f.safe k.newest (newest-in P k)) in
        omega arith

    pub base-home : (h : ℕ → Option ℕ) → Base P (with_home k h)
    base-home h = record { running = f.running; apart = f.apart; known = f.known; sound = f.sound; safe = f.safe }

    -- a placement is added, of working cards
    pub form-added : (p : Placement) → usable k.setting p → copies k.setting ≤ count_below cards (has (mask p)) → ((c : ℕ) → has (mask p) c ≡ true → has k.working c ≡ true)
        → Form P (added_by P k p)
    form-added p fp many wk = record {
      base = record {
        running = f.running;
        apart = f.apart;
        known = λ q c m. known' q c (in-cases (active k) (p ∷ []) q m);
        sound = λ q m. sound' q (in-cases (active k) (p ∷ []) q m);
        safe = λ q m. safe' q (in-cases (active k) (p ∷ []) q m);
      };
      new_works = wk;
    }
      where
        known' : (q : Placement) (c : ℕ) → In q (active k) ⊎ In q (p ∷ []) → has (mask q) c ≡ true → has k.failed c ≡ false → has k.working c ≡ true
        known' q c (inl m) h n = f.known q c m h n
        known' q c (inr (inl e)) h n = wk c (rw e at h)
        known' q c (inr (inr e)) h n = absurd e

        sound' : (q : Placement) → In q (active k) ⊎ In q (p ∷ []) → usable k.setting q
        sound' q (inl m) = f.sound q m
        sound' q (inr (inl e)) = rw e fp
        sound' q (inr (inr e)) = absurd e

        safe' : (q : Placement) → In q (active k) ⊎ In q (p ∷ []) → lost P k q ≡ false
        safe' q (inl m) = f.safe q m
        safe' q (inr (inl e)) = rw e (all-work-safe k.setting k.working k.failed p wk f.apart many some-copies)
        safe' q (inr (inr e)) = absurd e

  module _ (k : Control P) (g : Form P k) where
    f : Base P k
    f = g.base

    pub form-home : (h : ℕ → Option ℕ) → Form P (with_home k h)
    form-home h = record { base = base-home k g.base h; new_works = g.new_works }

    pub form-settled : Form P (only_newest k)
    form-settled = record {
      base = record {
        running = f.running;
        apart = f.apart;
        known = λ q c m. f.known q c (only q m);
        sound = λ q m. f.sound q (only q m);
        safe = λ q m. f.safe q (only q m);
      };
      new_works = g.new_works;
    }
      where
        only : (q : Placement) → In q (k.newest ∷ []) → In q (active k)
        only q m = in_right k.older (k.newest ∷ []) q m

    -- cards that are in no active placement come and go
    pub form-cards : (w d : Mask) → ((c : ℕ) → has w c ≡ true → has d c ≡ false)
        → ((p : Placement) (c : ℕ) → In p (active k) → has (mask p) c ≡ true → (has w c ≡ has k.working c) × (has d c ≡ has k.failed c))
        → Form P (with_cards k w d)
    form-cards w d ap' eq = record {
      base = record {
        running = f.running;
        apart = ap';
        known = λ p c m h n. (eq p c m h).0 ∙ f.known p c m h (sym (eq p c m h).1 ∙ n);
        sound = f.sound;
        safe = safe';
      };
      new_works = λ c h. (eq k.newest c (newest-in P k) h).0 ∙ g.new_works c h;
    }
      where
        safe' : (p : Placement) → In p (active k) → lost_of P k.setting w d (mask p) ≡ false
        safe' p m =
            let old = f.safe p m in
            let few : count_below cards (λ c. has (mask p) c && has k.failed c) < copies k.setting = few-failed P k.setting k.working k.failed (mask p) old in
            let many : copies k.setting ≤ count_below cards (λ c. has (mask p) c && has k.working c) = enough-work P k.setting k.working k.failed (mask p) old in
            let same-d : count_below cards (λ c. has (mask p) c && has d c) ≡ count_below cards (λ c. has (mask p) c && has k.failed c) =
            ap (count_below cards) (fun_ext (λ c. and-when (has (mask p) c) (has d c) (has k.failed c) (λ h. (eq p c m h).1))) in
            let same_w : count_below cards (λ c. has (mask p) c && has w c) ≡ count_below cards (λ c. has (mask p) c && has k.working c) =
            ap (count_below cards) (fun_ext (λ c. and-when (has (mask p) c) (has w c) (has k.working c) (λ h. (eq p c m h).0))) in
            not-lost P k.setting w d (mask p) (omega arith) (omega arith)

  pub form-started : (a : StartArgument) → start_refusal a ≡ 0 → Form P (started_by P a)
  form-started a e = record {
    base = record {
      running = refl;
      apart = λ c h. has-none c;
      known = λ p c m h n. only p c m h;
      sound = sound';
      safe = safe';
    };
    new_works = λ c h. h;
  }
    where
      only : (p : Placement) (c : ℕ) → In p (starts a ∷ []) → has (mask p) c ≡ true → has (mask (starts a)) c ≡ true
      only p c (inl q) h = rw q at h
      only p c (inr m) h = absurd m

      sound' : (p : Placement) → In p (starts a ∷ []) → usable (start_setting a) p
      sound' p (inl q) = rw q (start-usable a e)
      sound' p (inr m) = absurd m

      safe' : (p : Placement) → In p (starts a ∷ []) → lost_of P (start_setting a) (mask (starts a)) no_cards (mask p) ≡ false
      safe' p (inl q) = rw q (all-work-safe (start_setting a) (mask (starts a)) no_cards (starts a) (λ c h. h) (λ c h. has-none c) (start-many a e) (start-some a e))
      safe' p (inr m) = absurd m
