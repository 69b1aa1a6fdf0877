-- Demand 3 where the list of calls goes on under a later paper, the proof: a store that is ready under the older rules is ready under the
-- later ones. Assumes nothing.
use Prim.Native.Nat.{◌+◌, ◌<◌, ◌≤◌, suc, zero, ℕ}
use lib.Dec.{ltb}
use lib.ListN.{length, length-map}
use mathlib.Core.Bool.{Bool, ◌&&◌, cond}
use mathlib.Core.List.{List, [], ◌∷◌, map, map-append, reverse}
use mathlib.Core.Logic.{◌⊎◌, inl, inr}
use mathlib.Core.Path.{◌∙◌, ◌≡◌, ap, fun_ext, refl, subst, sym}
use native.Mathlib.Omega.{arith}
use Rattle.lists.specs.Tests.{In, elem}
use Rattle.lists.proofs.Lists.{in_map, map-in, map-reverse}
use Rattle.method.specs.Changes.{Control}
use Rattle.method.specs.ControlPart.{active}
use Rattle.method.specs.Growth.{GoesOn, Growth, grown, grown_control, grown_plain, grown_state}
use Rattle.method.specs.OneRecordList.{plain_after, rules_after, state_after, calls_of, zeroed}
use Rattle.method.specs.Parameters.{Parameters}
use Rattle.method.specs.PlainList.{PlainList, plain_start}
use Rattle.method.specs.Rules.{State, View, look, lost, lost_of, next_state, start, visible}
use Rattle.method.specs.Slots.{Slot}
use Rattle.method.proofs.Capacity.{Capacity, Chain, ControlInv, bounded}
use Rattle.method.proofs.Stopped.{Rests}
use Rattle.method.proofs.Invariant.{Blank, BlockInv, Cover, Form, Invariant}
use Rattle.method.proofs.Laws.{Laws}
use Rattle.method.proofs.Legal.{Legal, is-resting, is-running}
use Rattle.method.proofs.Reached.{Reached, ready-reached}
use Rattle.method.proofs.Run.{Beside, Ready, run-same}

-- What is asked of a later paper: an older placement keeps its cards and its sites.
pub record GrowthLaws (P : Parameters) (G : Growth P) : Type 0 where
  pub same-mask : (p : Parameters.Placement P) → G.mask (G.older p) ≡ Parameters.mask P p
  pub same-sites : (σ : Parameters.Setting P) (p : Parameters.Placement P) (b : ℕ) → G.sites (G.older_setting σ) (G.older p) b ≡ Parameters.sites P σ p b
  pub still-usable : (σ : Parameters.Setting P) (p : Parameters.Placement P) → Parameters.usable P σ p → G.usable (G.older_setting σ) (G.older p)
  pub same-copies : (σ : Parameters.Setting P) → G.copies (G.older_setting σ) ≡ Parameters.copies P σ
  pub same_blocks : (σ : Parameters.Setting P) → G.blocks (G.older_setting σ) ≡ Parameters.blocks P σ
  pub still-numbered : (k : Control P) → suc (length k.older) < Parameters.place_limit P k.setting + Parameters.copies P k.setting → Parameters.numbered P k
      → G.numbered (grown_control P G k)
  pub enough-room : (σ : Parameters.Setting P) → Parameters.place_limit P σ ≤ G.place_limit (G.older_setting σ)

module _ (P : Parameters) (L : Laws P) (G : Growth P) (E : GrowthLaws P G) (M : Laws (grown P G)) where
  open P use {Mask, Placement, has, sites, empty}
  open E use {same-mask, same-sites, still-usable, same-copies, same_blocks, still-numbered, enough-room}

  -- ---- the control part
  module _ (k : Control P) where
    grown-active : active (grown_control P G k) ≡ map G.older (active k)
    grown-active = sym (map-append G.older k.older (k.newest ∷ []))

    -- what is active now was active before, and what was active still is
    was-active : (p : G.Placement) → In p (active (grown_control P G k)) → (q : Placement) × In q (active k) × (p ≡ G.older q)
    was-active p m = in_map G.older (active k) p (subst (λ (t : List G.Placement). In p t) grown-active m)

    still-active : (q : Placement) → In q (active k) → In (G.older q) (active (grown_control P G k))
    still-active q m = subst (λ (t : List G.Placement). In (G.older q) t) (sym grown-active) (map-in G.older (active k) q m)

    same-lost : (q : Placement) → lost (grown P G) (grown_control P G k) (G.older q) ≡ lost P k q
    unfolding lost_of
    same-lost q = rw (same-copies k.setting, same-mask q)

    pub form-grown : Form P k → Form (grown P G) (grown_control P G k)
    form-grown f = record {
      base = record {
        running = f.base.running;
        apart = f.base.apart;
        known = λ p c m h n. let q = was-active p m in f.base.known q.0 c q.1 (sym (ap (λ (x : Mask). has x c) (ap G.mask q.2 ∙ same-mask q.0)) ∙ h) n;
        sound = λ p m. let q = was-active p m in subst (G.usable (G.older_setting k.setting)) (sym q.2) (still-usable k.setting q.0 (f.base.sound q.0 q.1));
        safe = λ p m. let q = was-active p m in ap (lost (grown P G) (grown_control P G k)) q.2 ∙ same-lost q.0 ∙ f.base.safe q.0 q.1;
      };
      new_works = λ c h. f.new_works c (sym (ap (λ (x : Mask). has x c) (same-mask k.newest)) ∙ h);
    }

    chain-grown : (d : Mask) (j : ℕ) (n : Placement) (l : List Placement) → Chain P L d j n l → Chain (grown P G) M d j (G.older n) (map G.older l)
    chain-grown d zero n l c = tt
    chain-grown d (suc j) n [] c = c
    chain-grown d (suc j) n (p ∷ l) c = (
      record { extra = c.0.extra; extra-failed = c.0.extra-failed; extra-new = rw (same-mask n) c.0.extra-new; extra-is = λ x. rw (same-mask n, same-mask p) (c.0.extra-is x) },
      chain-grown d j p l c.1,
    )

    room-grown : Capacity P L k → Capacity (grown P G) M (grown_control P G k)
    room-grown r = record {
      steps = r.steps;
      chain = subst (Chain (grown P G) M k.failed r.steps (G.older k.newest)) (map-reverse G.older k.older)
          (chain-grown k.failed r.steps k.newest (reverse k.older) r.chain);
      few = omega (arith, r.few, enough-room k.setting, length-map k.older G.older);
    }

    pub control-inv-grown : Form P k → ControlInv P L k → ControlInv (grown P G) M (grown_control P G k)
    control-inv-grown f u = record {
      homes = u.homes;
      opens = u.opens;
      room = room-grown u.room;
      numbers = still-numbered k (bounded P L k f u.room) u.numbers;
    }

    -- ---- a stopped store
    pub rests-grown : Rests P L k → Rests (grown P G) M (grown_control P G k)
    rests-grown r = record {
      stays = r.stays;
      shut = r.shut;
      apart = r.apart;
      known = λ p c m h n. let q = was-active p m in r.known q.0 c q.1 (sym (ap (λ (x : Mask). has x c) (ap G.mask q.2 ∙ same-mask q.0)) ∙ h) n;
      sound = λ p m. let q = was-active p m in subst (G.usable (G.older_setting k.setting)) (sym q.2) (still-usable k.setting q.0 (r.sound q.0 q.1));
      room = room-grown r.room;
      numbers = still-numbered k r.bound r.numbers;
      bound = omega (arith, r.bound, enough-room k.setting, same-copies k.setting, length-map k.older G.older);
    }

    -- ---- either
    pub legal-grown : Legal P L k → Legal (grown P G) M (grown_control P G k)
    legal-grown (is-running f u) = is-running (form-grown f) (control-inv-grown f u)
    legal-grown (is-resting r) = is-resting (rests-grown r)

    -- ---- the tables
    same-visible : (c b : ℕ) → visible (grown P G) (grown_control P G k) c b ≡ visible P k c b
    same-visible c b = ap (λ (n : ℕ). has k.working c && ltb b n) (same_blocks k.setting)

    module _ (v : View P) (records : ℕ → Slot) where
      site-of-older : (q : Placement) (b c : ℕ) → elem c (G.sites (G.older_setting k.setting) (G.older q) b) ≡ elem c (sites k.setting q b)
      site-of-older q b c = ap (elem c) (same-sites k.setting q b)

      -- over any cards that count
      pub block-grown : (w : ℕ → Bool) (b : ℕ) → BlockInv P k.setting (active k) w v records b
          → BlockInv (grown P G) (G.older_setting k.setting) (active (grown_control P G k)) w v records b
      block-grown w b o = record {
        trailed = λ c h. let t = o.trailed c h in (G.older t.0, still-active t.0 t.1, site-of-older t.0 b c ∙ t.2);
        same = o.same;
        cover = go o.cover;
      }
        where
          go : Cover P k.setting (active k) w v b ⊎ Blank P v records b
              → Cover (grown P G) (G.older_setting k.setting) (active (grown_control P G k)) w v b ⊎ Blank (grown P G) v records b
          go (inl (p, m, h)) = inl (G.older p, still-active p m, λ c e w. h c (sym (site-of-older p b c) ∙ e) w)
          go (inr n) = inr n

      invariant-grown : Invariant P k v records → Invariant (grown P G) (grown_control P G k) v records
      invariant-grown i = record {
        form = form-grown i.form;
        idle = λ c b e. i.idle c b (sym (same-visible c b) ∙ e);
        each = λ b e. block-grown (has k.working) b (i.each b (sym (ap (ltb b) (same_blocks k.setting)) ∙ e));
      }

    pub beside-grown : (s : State P) (v : View P) → Beside P L s k v → Beside (grown P G) M (grown_state P G s) (grown_control P G k) v
    unfolding look
    beside-grown s v b = record {
      same-control = ap (grown_control P G) b.same-control;
      same-look = fun_ext (λ c. fun_ext (λ x. ap (λ (t : ℕ). cond (has s.control.working c && ltb x t) (s.block c x) empty) (same_blocks s.control.setting))) ∙ b.same-look;
    }

  -- ---- the store, beside the rules' own run and the plain list
  pub ready-grown : (s z : State P) (q : PlainList P) → Ready P L s z q → Ready (grown P G) M (grown_state P G s) (grown_state P G z) (grown_plain P G q)
  ready-grown s z q r = record {
    sees = r.sees;
    inv = invariant-grown q.control r.sees q.records r.inv;
    full = control-inv-grown q.control r.inv.form r.full;
    store_beside = beside-grown q.control s r.sees r.store_beside;
    rules-beside = beside-grown q.control z r.sees r.rules-beside;
  }

  -- DEMAND 3, going on
  pub goes_on : GoesOn P G
  unfolding GoesOn
  goes_on a before e l runs m =
      let s : State P = state_after P l (next_state P (start a) before) in
      let z : State P = rules_after P (calls_of P l) (zeroed P a) in
      let q : PlainList P = plain_after P (calls_of P l) (zeroed P a) (plain_start P a) in
      let r : Reached P s = record { argument = a; before = before; begins = e; since = l; running = runs; is = refl } in
      run-same (grown P G) M m (grown_state P G s) (grown_state P G z) (grown_plain P G q) (ready-grown s z q (ready-reached P L s r))
