-- A delivery that a later one retired: its control part and control bytes are what the later one's are, read through what its placements and
-- serials are by the later one; so the laws of its control bytes are the later one's. Assumes nothing.
use Prim.Native.Nat.{◌<◌, ℕ}
use borrow.Author.Tests.{eq-eqb}
use lib.Dec.{eqb}
use mathlib.Core.Bool.{Bool, cond, false, true}
use mathlib.Core.List.{List, [], ◌∷◌, map}
use mathlib.Core.Path.{◌∙◌, ◌≡◌, ap, refl, sym}
use Rattle.lists.specs.Tests.{all_below}
use Rattle.lists.proofs.Bools.{and_in}
use Rattle.lists.proofs.Counts.{all-below}
use Rattle.image.specs.Layout.{control_size}
use Rattle.method.specs.ControlPart.{part, part_by}
use Rattle.method.specs.Growth.{Growth}
use Rattle.method.specs.Parameters.{Parameters}
use Rattle.method.proofs.Capacity.{ControlInv}
use Rattle.method.proofs.Growth.{control-inv-grown, form-grown, rests-grown}
use Rattle.method.proofs.Invariant.{Form}
use Rattle.method.proofs.Laws.{Laws}
use Rattle.method.proofs.Stopped.{Rests}
use Rattle.cabinet_rules.specs.Cabinet.{rules_of}
use Rattle.cabinet_rules.specs.Delivery.{Delivery, PartOf}
use Rattle.cabinet_rules.specs.Retired.{Retirement, now_part, shown_bytes, retired_bytes, retired_form, retired_part}
use Rattle.cabinet_rules.specs.GoesOn.{Succession, part_now}
use Rattle.cabinet_rules.proofs.GoesOn.{Follows, growth_of, keeps}
use Rattle.cabinet_rules.proofs.Lawful.{ControlLaws, DeliveryLaws, RuleLaws, Wrote, lawful_by}

-- E is retired, D its successor.
pub record Retired (E D : Delivery) (S : Succession E D) : Type 0 where
  pub follows : Follows E D S
  -- E's control part of D's, and it is the one that was
  pub back : PartOf D → PartOf E
  pub back-older : (k : PartOf E) → back (part_now E D S k) ≡ k
  -- D's control bytes for E's, in front and behind the tables: what E wrote of a control part, D would have written of what it is by D
  pub front : (ℕ → ℕ) → ℕ → ℕ
  pub behind : (ℕ → ℕ) → ℕ → ℕ
  pub wrote : (k : PartOf E) (g t : ℕ → ℕ) → Wrote E g t k → Wrote D (front g) (behind t) (part_now E D S k)
  -- E reads them as D does, and has its form where D has and E wrote them
  pub part : (g t : ℕ → ℕ) → E.memory.part g t ≡ back (D.memory.part (front g) (behind t))
  pub form : (k : PartOf E) (g t : ℕ → ℕ) → Wrote E g t k → E.memory.part g t ≡ k → D.memory.form (front g) (behind t) ≡ true → E.memory.form g t ≡ true

module _ (E D : Delivery) (S : Succession E D) (R : Retired E D S) (U : RuleLaws E) (W : DeliveryLaws D) where
  abbrev P : Parameters
  P = rules_of E

  abbrev L : Laws P
  L = lawful_by E U

  abbrev M : Laws (rules_of D)
  M = lawful_by D W.rules

  abbrev G : Growth P
  G = growth_of E D S

  module _ (k : PartOf E) (g t : ℕ → ℕ) (w : Wrote E g t k) where
    read_of : D.memory.part (R.front g) (R.behind t) ≡ part_now E D S k → E.memory.part g t ≡ k
    read_of e = R.part g t ∙ ap R.back e ∙ R.back-older k

    written : Wrote D (R.front g) (R.behind t) (part_now E D S k)
    written = R.wrote k g t w

    module _ (f : Form P k) (u : ControlInv P L k) where
      form-now : Form (rules_of D) (part_now E D S k)
      form-now = form-grown P L G (keeps E D S R.follows) M k f

      inv-now : ControlInv (rules_of D) M (part_now E D S k)
      inv-now = control-inv-grown P L G (keeps E D S R.follows) M k f u

      pub runs-read : E.memory.part g t ≡ k
      runs-read = read_of (W.control.reads (part_now E D S k) form-now inv-now (R.front g) (R.behind t) written)

      pub runs-formed : E.memory.form g t ≡ true
      runs-formed = R.form k g t w runs-read (W.control.formed (part_now E D S k) form-now inv-now (R.front g) (R.behind t) written)

    module _ (r : Rests P L k) where
      rests-now : Rests (rules_of D) M (part_now E D S k)
      rests-now = rests-grown P L G (keeps E D S R.follows) M k r

      pub stays-read : E.memory.part g t ≡ k
      stays-read = read_of (W.control.rest_read (part_now E D S k) rests-now (R.front g) (R.behind t) written)

      pub stays-formed : E.memory.form g t ≡ true
      stays-formed = R.form k g t w stays-read (W.control.rest-formed (part_now E D S k) rests-now (R.front g) (R.behind t) written)

  -- THE LAW
  pub retired-control : ControlLaws E U
  retired-control = record {
    reads = λ k f u g t w. runs-read k g t w f u;
    formed = λ k f u g t w. runs-formed k g t w f u;
    rest_read = λ k r g t w. stays-read k g t w r;
    rest-formed = λ k r g t w. stays-formed k g t w r;
  }

-- ---- the construction: a memory that is written over the later one
pub map_back : {A B : Type 0} (older : A → B) (back : B → A) → ((x : A) → back (older x) ≡ x) → (l : List A) → map back (map older l) ≡ l
map_back older back e [] = refl
map_back older back e (x ∷ l) = λ i. e x i ∷ map_back older back e l i

module _ (E D : Delivery) (S : Succession E D) (R : Retirement E.Placement E.Serial D.Placement D.Serial) where
  abbrev old : PartOf E → PartOf D
  old = now_part D.memory R

  -- What is asked: the memory is the construction's; what was told is told back; of an older control part D writes the filled bytes in those
  -- added, and behind the tables what it is shown of what lay there.
  pub record Over : Type 0 where
    pub follows : Follows E D S
    pub bytes-are : (k : PartOf E) (n : ℕ) → E.memory.bytes k n ≡ retired_bytes D.memory R k n
    pub part-is : (g t : ℕ → ℕ) → E.memory.part g t ≡ retired_part D.memory R g t
    pub form-is : (g t : ℕ → ℕ) → E.memory.form g t ≡ retired_form D.memory R g t
    pub told : (k : PartOf E) → old k ≡ part_now E D S k
    pub back-placement : (p : E.Placement) → R.back (R.older p) ≡ p
    pub back-serial : (x : E.Serial) → R.back_serial (R.older_serial x) ≡ x
    pub fills : (k : PartOf E) (n : ℕ) → R.added n ≡ true → R.filled n ≡ D.memory.bytes (old k) n
    pub tails : (k : PartOf E) (g t : ℕ → ℕ) → Wrote E g t k → (n : ℕ) → n < D.memory.layout.image_tail → R.behind t n ≡ D.memory.tail (old k) n

  module _ (O : Over) where
    back_is : (k : PartOf E) → part_by R.back (λ σ. σ) R.back_serial (old k) ≡ k
    back_is k = λ i. part k.stopped (map_back R.older R.back O.back-placement k.older i) (O.back-placement k.newest i) k.working
        k.failed k.home k.setting (O.back-serial k.serial i)

    module _ (k : PartOf E) (g t : ℕ → ℕ) (w : Wrote E g t k) where
      -- what D is shown is what it writes
      filled_is : (n : ℕ) → n < control_size → shown_bytes D.memory R g n ≡ D.memory.bytes (old k) n
      filled_is n h = go (R.added n) refl
        where
          go : (a : Bool) → R.added n ≡ a → cond a (R.filled n) (g n) ≡ D.memory.bytes (old k) n
          go true e = O.fills k n e
          go false e = w.front n h ∙ O.bytes-are k n ∙ rw e

      -- the bytes are those that are written of the control part that they show
      own : E.memory.part g t ≡ k → all_below control_size (λ n. eqb (g n) (retired_bytes D.memory R (retired_part D.memory R g t) n)) ≡ true
      own e = all-below control_size (λ n. eqb (g n) (retired_bytes D.memory R (retired_part D.memory R g t) n)) (λ n h.
          eq-eqb (g n) (retired_bytes D.memory R (retired_part D.memory R g t) n)
          (w.front n h ∙ O.bytes-are k n ∙ ap (λ (x : PartOf E). retired_bytes D.memory R x n) (sym e ∙ O.part-is g t)))

      formed-again : E.memory.part g t ≡ k → D.memory.form (shown_bytes D.memory R g) (R.behind t) ≡ true → retired_form D.memory R g t ≡ true
      unfolding retired_form
      formed-again e f = and_in (D.memory.form (shown_bytes D.memory R g) (R.behind t))
          (all_below control_size (λ n. eqb (g n) (retired_bytes D.memory R (retired_part D.memory R g t) n))) f (own e)

    pub retired-over : Retired E D S
    retired-over = record {
      follows = O.follows;
      back = part_by R.back (λ σ. σ) R.back_serial;
      back-older = λ k. ap (part_by R.back (λ σ. σ) R.back_serial) (sym (O.told k)) ∙ back_is k;
      front = shown_bytes D.memory R;
      behind = R.behind;
      wrote = λ k g t w. record {
        front = λ n h. filled_is k g t w n h ∙ ap (λ (x : PartOf D). D.memory.bytes x n) (O.told k);
        behind = λ n h. O.tails k g t w n h ∙ ap (λ (x : PartOf D). D.memory.tail x n) (O.told k);
      };
      part = λ g t. O.part-is g t;
      form = λ k g t w e f. O.form-is g t ∙ formed-again k g t w e f;
    }
