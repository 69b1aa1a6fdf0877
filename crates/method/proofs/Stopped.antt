-- The control part of a stopped store: what the control form asks of it, from a stop on. Assumes nothing.
use Prim.Native.Nat.{◌+◌, ◌<◌, suc, ℕ}
use lib.Dec.{eqb, ltb}
use lib.ListN.{length}
use mathlib.Core.Bool.{◌&&◌, ◌||◌, and-true, false, not, true}
use mathlib.Core.List.{reverse}
use mathlib.Core.Option.{none}
use mathlib.Core.Path.{◌∙◌, ◌≡◌, refl}
use Rattle.lists.specs.Tests.{In}
use Rattle.lists.proofs.Bools.{and_l, and_r, nor-l, nor-r, not_is, or_r}
use Rattle.method.specs.Changes.{Control, marked}
use Rattle.method.specs.ControlPart.{active, halted}
use Rattle.method.specs.Parameters.{Parameters}
use Rattle.method.proofs.Capacity.{Capacity, ControlInv, bounded, chain-map}
use Rattle.method.proofs.Invariant.{Form}
use Rattle.method.proofs.Laws.{Laws}

module _ (P : Parameters) (L : Laws P) where
  open P use {Placement, cards, copies, has, insert, mask, numbered, place_limit, remove, usable}
  open L use {has-insert, has-remove, numbered-same}

  -- It is stopped, none is open; cards are apart, members known, placements usable and few.
  pub record Rests (k : Control P) : Type 0 where
    pub stays : k.stopped ≡ true
    pub shut : (t : ℕ) → k.home t ≡ none
    pub apart : (c : ℕ) → has k.working c ≡ true → has k.failed c ≡ false
    pub known : (p : Placement) (c : ℕ) → In p (active k) → has (mask p) c ≡ true → has k.failed c ≡ false → has k.working c ≡ true
    pub sound : (p : Placement) → In p (active k) → usable k.setting p
    pub room : Capacity P L k
    pub numbers : numbered k
    pub bound : suc (length k.older) < place_limit k.setting + copies k.setting

  -- one card more fails
  module _ (k : Control P) (c : ℕ) (c-ok : ltb c cards ≡ true) where
    pub apart-still : ((x : ℕ) → has k.working x ≡ true → has k.failed x ≡ false) → (x : ℕ) → has (remove k.working c) x ≡ true → has (insert k.failed c) x ≡ false
    apart-still apart x h =
        let e : (has k.working x && not (eqb x c)) ≡ true = rw (has-remove k.working c x) at h in
        rw (has-insert k.failed c x c-ok, not_is (eqb x c) (and_r (has k.working x) (not (eqb x c)) e)) (apart x (and_l (has k.working x) (not (eqb x c)) e))

    known-still : ((p : Placement) (x : ℕ) → In p (active k) → has (mask p) x ≡ true → has k.failed x ≡ false → has k.working x ≡ true)
        → (p : Placement) (x : ℕ) → In p (active k) → has (mask p) x ≡ true → has (insert k.failed c) x ≡ false → has (remove k.working c) x ≡ true
    known-still known p x m h n =
        let g : (eqb x c || has k.failed x) ≡ false = rw (has-insert k.failed c x c-ok) at n in
        rw (has-remove k.working c x, nor-l (eqb x c) (has k.failed x) g) (and-true (has k.working x) ∙ known p x m h (nor-r (eqb x c) (has k.failed x) g))

    room-still : Capacity P L k → Capacity P L (marked P k c)
    room-still r = record {
      steps = r.steps;
      chain = chain-map P L k.failed (insert k.failed c) r.steps k.newest (reverse k.older)
          (λ p x m h d. rw (has-insert k.failed c x c-ok) (or_r (eqb x c) (has k.failed x) d)) r.chain;
      few = r.few;
    }

    -- a stopping fail of a running store, and a fail of a stopped one
    pub rests-halted : Form P k → ControlInv P L k → Rests (halted (marked P k c))
    rests-halted f u = record {
      stays = refl;
      shut = λ t. refl;
      apart = apart-still f.base.apart;
      known = known-still f.base.known;
      sound = f.base.sound;
      room = let r = room-still u.room in record { steps = r.steps; chain = r.chain; few = r.few };
      numbers = numbered-same k (halted (marked P k c)) refl refl refl u.numbers;
      bound = bounded P L k f u.room;
    }

    pub rests-marked : Rests k → Rests (marked P k c)
    rests-marked r = record {
      stays = r.stays;
      shut = r.shut;
      apart = apart-still r.apart;
      known = known-still r.known;
      sound = r.sound;
      room = room-still r.room;
      numbers = numbered-same k (marked P k c) refl refl refl r.numbers;
      bound = r.bound;
    }
