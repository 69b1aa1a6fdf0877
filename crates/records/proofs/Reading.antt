-- The slots of a record that the code reads on its holders are those that the rules read. Assumes nothing.
use Prim.Native.Nat.{◌%◌, ◌/◌, ◌<◌, ℕ}
use lib.Dec.{eqb}
use mathlib.Core.Bool.{Bool, ◌||◌, cond, false, true}
use mathlib.Core.List.{List, [], ◌∷◌}
use mathlib.Core.Option.{Option, none}
use mathlib.Core.Path.{◌∙◌, ◌≡◌, ap, ap₂, refl, sym}
use native.Mathlib.Omega.{arith}
use Rattle.lists.specs.Tests.{any_in, elem}
use Rattle.lists.proofs.Bools.{and_l, eqb-self, or_l, or_r, same_test}
use Rattle.lists.proofs.Lists.{any-in, any_out, elem_in, elem-keep, in-elem}
use Rattle.image.specs.Layout.{block_count, card_count, record_count, slot_count}
use Rattle.image.specs.Parts.{Whole, block_at}
use Rattle.mask.specs.Masks.{byte, has_card, members}
use Rattle.mask.proofs.Masks.{elem-members}
use Rattle.slot.specs.Blocks.{BlockBytes, is_held, of_list, slot_at}
use Rattle.slot.specs.Words.{entry_of, state_of}
use Rattle.slot.specs.declared.Entry.{Entry}
use Rattle.slot.specs.declared.Slot.{Slot as Struct}
use Rattle.method.specs.Rules.{first_slot, holders, look, trail}
use Rattle.method.specs.Slots.{locked_by_other, read_by}
use Rattle.cabinet_rules.specs.Cabinet.{cabinet, slot_seen}
use Rattle.cabinet_rules.specs.Images.{Image, block_in, control_in, state_in}
use Rattle.promise.proofs.Laid.{of-block}
use Rattle.promise.proofs.View.{held-look, look-on}
use Rattle.trail.specs.Trail.{Lists, first_in, holders_in}
use Rattle.trail.specs.declared.Holders.{Holders}
use Rattle.trail.proofs.Listed.{no-first}
use Rattle.image.specs.declared.Card.{Card}
use Rattle.std.specs.Prelude.{None, Some}
use Rattle.records.specs.Slots.{locked_at, locked_out_in, seen_in}

-- a holder's block is what the rules see
pub holder-look : (g : Image) (c b : ℕ) → b < block_count → elem c (holders_in g b) ≡ true → look cabinet (state_in g) c b ≡ block_in g c b
holder-look g c b hb m = look-on g c b (and_l (has_card (control_in g).working c) (is_held (block_in g c b)) (sym (held-look g c b hb) ∙ held)) hb
  where
    held : is_held (look cabinet (state_in g) c b) ≡ true
    held = unfold holders in (elem-keep (λ c. is_held (look cabinet (state_in g) c b)) c (trail cabinet (control_in g) b) m).0

-- the slot that is read off a card's block
pub slot-by : (g : Image) → Whole g → (c r : ℕ) → c < card_count → r < record_count → (b p : ℕ) (x : List ℕ) (s : Struct)
    → b ≡ r / slot_count → x ≡ block_at g c b → p ≡ r % slot_count → s ≡ slot_at (of_list x) p → s ≡ slot_at (block_in g c (r / slot_count)) (r % slot_count)
slot-by g w c r hc hr b p x s eb ex ep es =
    es ∙ ap₂ (λ (y : BlockBytes) (q : ℕ). slot_at y q) (ap of_list (ex ∙ ap (block_at g c) eb) ∙ of-block g w c (r / slot_count) hc (omega arith)) ep

-- ---- a loop that looks for one among the members of a mask
module _ (f : ℕ → Bool) (left rest : List ℕ) (c : ℕ) (step : left ≡ c ∷ rest) where
  pub any-hit : f c ≡ true → any_in f left ≡ true
  any-hit e = ap (any_in f) step ∙ or_l (f c) (any_in f rest) e

  pub any-miss : f c ≡ false → any_in f rest ≡ any_in f left
  any-miss e = rw (step, e)

any-members : (f : ℕ → Bool) (l m : List ℕ) → ((c : ℕ) → elem c l ≡ elem c m) → any_in f l ≡ any_in f m
any-members f l m same = same_test (any_in f l) (any_in f m) (half l m same) (half m l (λ c. sym (same c)))
  where
    half : (l m : List ℕ) → ((c : ℕ) → elem c l ≡ elem c m) → any_in f l ≡ true → any_in f m ≡ true
    half l m same e = let x = any_out f l e in any-in f m x.0 (elem_in x.0 m (sym (same x.0) ∙ in-elem x.0 l x.1)) x.2

any-ext : (f h : ℕ → Bool) (l : List ℕ) → ((c : ℕ) → elem c l ≡ true → f c ≡ h c) → any_in f l ≡ any_in h l
any-ext f h [] e = refl
any-ext f h (x ∷ l) e = ap₂ (λ (s t : Bool). s || t) (e x (or_l (eqb x x) (elem x l) (eqb-self x))) (any-ext f h l (λ c m. e c (or_r (eqb c x) (elem c l) m)))

module _ (g : Image) (t r : ℕ) (hr : r < record_count) (h : Holders) (lists : Lists h (holders_in g (r / slot_count))) where
  -- ---- row 7
  pub locked-out-is : any_in (locked_at g t r) (members (byte h.cards)) ≡ locked_out_in g t r
  unfolding locked_at
  locked-out-is = any-members (locked_at g t r) (members (byte h.cards)) (holders_in g (r / slot_count)) (λ c. elem-members (byte h.cards) c ∙ lists.cards-are c)
      ∙ any-ext (locked_at g t r) (λ c. locked_by_other t (slot_seen (look cabinet (state_in g) c (r / slot_count)) (r % slot_count))) (holders_in g (r / slot_count))
      (λ c m. ap (λ (x : BlockBytes). locked_by_other t (slot_seen x (r % slot_count))) (sym (holder-look g c (r / slot_count) (omega arith) m)))

  -- ---- what is read
  pub read_none : h.first ≡ None → (e : Entry) → e ≡ entry_of none → state_of e ≡ read_by t (seen_in g r)
  read_none z e is = ap state_of is ∙ sym (ap (λ (l : List ℕ). read_by t (first_slot cabinet (look cabinet (state_in g)) r l)) (no-first (holders_in g (r / slot_count)) (sym z ∙ lists.first-is)) ∙ go (eqb 0 t))
    where
      go : (b : Bool) → ◌≡◌ {A = Option ℕ} (cond b none none) none
      go true = refl
      go false = refl

  pub read_some : (c : Card) → h.first ≡ Some c → read_by t (slot_seen (block_in g c.0 (r / slot_count)) (r % slot_count)) ≡ read_by t (seen_in g r)
  read_some c e = go (holders_in g (r / slot_count)) (sym e ∙ lists.first-is) (λ d m. holder-look g d (r / slot_count) (omega arith) m)
    where
      go : (l : List ℕ) → Some c ≡ first_in l → ((d : ℕ) → elem d l ≡ true → look cabinet (state_in g) d (r / slot_count) ≡ block_in g d (r / slot_count))
          → read_by t (slot_seen (block_in g c.0 (r / slot_count)) (r % slot_count)) ≡ read_by t (first_slot cabinet (look cabinet (state_in g)) r l)
      go [] e held = cc
      go (x ∷ l) e held =
          let same : c.0 ≡ x = cc in
          ap (λ (y : BlockBytes). read_by t (slot_seen y (r % slot_count)))
          (ap (λ (d : ℕ). block_in g d (r / slot_count)) same ∙ sym (held x (or_l (eqb x x) (elem x l) (eqb-self x))))
