-- The locks that the code writes, holder by holder or in a new block, are the rules' writes. Assumes nothing.
use Prim.Native.Nat.{◌%◌, ◌/◌, ◌<◌, ℕ}
use borrow.Author.Tests.{eqb-true, ne_eqb}
use borrow.Rule.Slice.PartMut.{mid_of, put_mid}
use lib.Dec.{eqb}
use lib.ListN.{length}
use mathlib.Core.Bool.{Bool, ◌&&◌, ◌||◌, and-false, cond, false, true}
use mathlib.Core.List.{List, [], ◌++◌, ◌∷◌, append_assoc, append-nil}
use mathlib.Core.Logic.{◌≢◌, ◌⊎◌, inl, inr}
use mathlib.Core.Option.{Option, none, some}
use mathlib.Core.Path.{◌∙◌, ◌≡◌, ap, ap₂, refl, sym}
use native.Mathlib.Omega.{arith}
use Rattle.lists.specs.Segments.{splice}
use Rattle.lists.specs.Tests.{elem}
use Rattle.lists.proofs.Bools.{eqb-self, or_l, or_r, split}
use Rattle.lists.proofs.Cases.{by-pair}
use Rattle.lists.proofs.Segments.{put-again}
use Rattle.image.specs.Layout.{block_address, block_count, block_size, card_count, record_count, slot_count, tran_bound, value_bound}
use Rattle.image.specs.Parts.{Whole, block_at, put_block}
use Rattle.image.proofs.Blocks.{put_same}
use Rattle.image.proofs.Parts.{part-back, part-block}
use Rattle.mask.specs.Masks.{AreMembers, byte, members}
use Rattle.mask.proofs.Masks.{elem-members, has-card}
use Rattle.mask.specs.Placements.{Placement, is_site, sites_of}
use Rattle.slot.specs.Blocks.{BlockBytes, fresh_block, lock_slot, of_list}
use Rattle.slot.specs.Words.{entry_of, state_of}
use Rattle.slot.specs.declared.Entry.{Entry}
use Rattle.slot.proofs.Blocks.{lock-again, of-list}
use Rattle.method.specs.Rules.{lay_block, lock_holders, look, updated}
use Rattle.cabinet_rules.specs.Cabinet.{cabinet}
use Rattle.cabinet_rules.specs.Images.{Image, Writes, block_in, control_in, state_in}
use Rattle.promise.specs.Laid.{laid}
use Rattle.promise.proofs.Laid.{laid-block, laid_none, laid-put, laid_same, put-elsewhere, put_one}
use Rattle.promise.proofs.PutEach.{each, put_each, put_writes, put-cards}
use Rattle.trail.specs.Trail.{holders_in}
use Rattle.records.proofs.Reading.{holder-look}

-- the value of a state that 16 bits hold
pub state-fits : (e : Entry) → e.value < value_bound → (entry_of (state_of e)).value < value_bound
state-fits e h = go e.present
  where
    go : (b : Bool) → (entry_of (cond b (some e.value) none)).value < value_bound
    go true = h
    go false = omega arith

-- one slot, on one card
pub lock-by : (g : Image) (c r t : ℕ) (v : Option ℕ) (b p : ℕ) (x y : List ℕ) (out : Image) → b ≡ r / slot_count → x ≡ block_at g c b → p ≡ r % slot_count
    → y ≡ (lock_slot (of_list x) p t v).0 → out ≡ put_block g c b y → out ≡ put_block g c (r / slot_count) (lock_slot (of_list (block_at g c (r / slot_count))) (r % slot_count) t v).0
lock-by g c r t v b p x y out eb ex ep ey eo =
    eo ∙ ap₂ (put_block g c) eb (ey ∙ ap₂ (λ (x : List ℕ) (p : ℕ). (lock_slot (of_list x) p t v).0) (ex ∙ ap (block_at g c) eb) ep)

-- the same where the block was lent
pub lock-part : (g : Image) (c r t : ℕ) (v : Option ℕ) (b p a k : ℕ) (ys : List ℕ) → b ≡ r / slot_count → a ≡ block_address c b → k ≡ block_size → p ≡ r % slot_count
    → ys ≡ (lock_slot (of_list (mid_of a k g)) p t v).0
    → put_mid a k g ys ≡ put_block g c (r / slot_count) (lock_slot (of_list (block_at g c (r / slot_count))) (r % slot_count) t v).0
lock-part g c r t v b p a k ys eb ea ek ep ey = lock-by g c r t v b p (mid_of a k g) ys (put_mid a k g ys) eb (part-block g c b a k ea ek) ep ey put
  where
    put : put_mid a k g ys ≡ put_block g c b ys
    put = unfold put_block in (part-back a k g ys (ap length ey ∙ (lock_slot (of_list (mid_of a k g)) p t v).1 ∙ sym ek) ∙ ap (λ (m : ℕ). splice g m ys) ea)

-- ---- lists
elem-last : (c : ℕ) (l : List ℕ) → elem c (l ++ (c ∷ [])) ≡ true
elem-last c [] = rw (eqb-self c)
elem-last c (x ∷ l) = or_r (eqb c x) (elem c (l ++ (c ∷ []))) (elem-last c l)

elem-skip : (c d : ℕ) (l : List ℕ) → c ≢ d → elem c (l ++ (d ∷ [])) ≡ elem c l
elem-skip c d [] n = rw (ne_eqb c d n)
elem-skip c d (x ∷ l) n = ap (λ (t : Bool). eqb c x || t) (elem-skip c d l n)

-- ---- the loop over the holders: the record's slot is locked on one card, and on each of a list
abbrev pub locked_on : ℕ → ℕ → Option ℕ → ℕ → Image → Image
locked_on t r v c g = put_block g c (r / slot_count) (lock_slot (of_list (block_at g c (r / slot_count))) (r % slot_count) t v).0

abbrev pub lock_each : ℕ → ℕ → Option ℕ → List ℕ → Image → Image
lock_each t r v = each (locked_on t r v)

-- what is written then
unfoldable pub lock_writes : Image → ℕ → ℕ → Option ℕ → List ℕ → Writes
lock_writes g t r v l c b = cond (eqb b (r / slot_count) && elem c l) (some (lock_slot (block_in g c b) (r % slot_count) t v)) none

module _ (g : Image) (t r : ℕ) (v : Option ℕ) (hr : r < record_count) (ht : t < tran_bound) (hv : (entry_of v).value < value_bound) where
  pub lock-none : Whole g → g ≡ laid (lock_writes g t r v []) g
  lock-none w = laid_none (lock_writes g t r v []) g w (λ c b hc hb. unfold lock_writes in
      ap (λ (s : Bool). cond s (some (lock_slot (block_in g c b) (r % slot_count) t v)) none) (and-false (eqb b (r / slot_count))))

  -- one card more, which may be in the list already
  lock-more : (l : List ℕ) (c : ℕ) → c < card_count → (image : Image) → image ≡ laid (lock_writes g t r v l) g
      → locked_on t r v c image ≡ laid (lock_writes g t r v (l ++ (c ∷ []))) g
  lock-more l c hc image e =
      ap (λ (i : Image). put_block i c b (lock_slot (of_list (block_at i c b)) p t v).0) e
      ∙ ap (λ (x : BlockBytes). put_block (laid w g) c b (lock_slot x p t v).0) (ap of_list (laid-block w g c b hc hb) ∙ of-list before)
      ∙ laid-put w g c b hc hb (lock_slot before p t v)
      ∙ laid_same (put_one w c b (lock_slot before p t v)) g (lock_writes g t r v (l ++ (c ∷ []))) (λ d k hd hk. ap (λ (o : Option BlockBytes). updated o (block_in g d k)) (there d k))
    where
      b : ℕ
      b = r / slot_count

      p : ℕ
      p = r % slot_count

      hb : b < block_count
      hb = omega arith

      w : Writes
      w = lock_writes g t r v l

      before : BlockBytes
      before = updated (w c b) (block_in g c b)

      same : (s : Bool) → lock_slot (updated (cond s (some (lock_slot (block_in g c b) p t v)) none) (block_in g c b)) p t v ≡ lock_slot (block_in g c b) p t v
      same true = lock-again (block_in g c b) p t v (omega arith) ht hv
      same false = refl

      put_is : lock_slot before p t v ≡ lock_slot (block_in g c b) p t v
      put_is = unfold lock_writes in same (eqb b b && elem c l)

      there : (d k : ℕ) → put_one w c b (lock_slot before p t v) d k ≡ lock_writes g t r v (l ++ (c ∷ [])) d k
      there d k = by-pair (put_one w c b (lock_slot before p t v) d k ≡ lock_writes g t r v (l ++ (c ∷ [])) d k) d c k b
          (λ e f. rw (e, f, eqb-self c, eqb-self b) (ap {B = Option BlockBytes} some put_is ∙ unfold lock_writes in sym (rw (eqb-self b, elem-last c l))))
          (λ n. put-elsewhere w c b (lock_slot before p t v) d k n ∙ unfold lock_writes in (ap (λ (s : Bool). cond s (some (lock_slot (block_in g d k) p t v)) none) (test n)))
        where
          test : (d ≢ c) ⊎ (k ≢ b) → (eqb k b && elem d l) ≡ (eqb k b && elem d (l ++ (c ∷ [])))
          test (inl n) = ap (λ (s : Bool). eqb k b && s) (sym (elem-skip d c l n))
          test (inr n) = rw (ne_eqb k b n)

  -- and each card of a list
  lock-from : (m l : List ℕ) → ((c : ℕ) → elem c m ≡ true → c < card_count) → (image : Image) → image ≡ laid (lock_writes g t r v l) g
      → lock_each t r v m image ≡ laid (lock_writes g t r v (l ++ m)) g
  unfolding each
  lock-from [] l cards image e = e ∙ ap (λ (x : List ℕ). laid (lock_writes g t r v x) g) (sym (append-nil l))
  lock-from (c ∷ m) l cards image e =
      lock-from m (l ++ (c ∷ [])) (λ d h. cards d (or_r (eqb d c) (elem d m) h)) (locked_on t r v c image)
      (lock-more l c (cards c (or_l (eqb c c) (elem c m) (eqb-self c))) image e)
      ∙ ap (λ (x : List ℕ). laid (lock_writes g t r v x) g) (append_assoc l (c ∷ []) m)

  pub lock-mask : Whole g → (m : ℕ) (l : List ℕ) → AreMembers m (λ c. elem c l) → lock_each t r v (members (byte m)) g ≡ laid (lock_writes g t r v l) g
  lock-mask w m l are = lock-from (members (byte m)) [] (λ c h. has-card (byte m) c (sym (elem-members (byte m) c) ∙ h)) g (lock-none w)
      ∙ laid_same (lock_writes g t r v (members (byte m))) g (lock_writes g t r v l) (λ c b hc hb. unfold lock_writes in
      ap (λ (x : Bool). updated (cond (eqb b (r / slot_count) && x) (some (lock_slot (block_in g c b) (r % slot_count) t v)) none) (block_in g c b)) (elem-members (byte m) c ∙ are c))

-- what is written on card c where it is in a list
abbrev locked_if : ℕ → ℕ → Option ℕ → ℕ → List ℕ → BlockBytes → Option BlockBytes
locked_if t r v c l x = cond (elem c l) (some (lock_slot x (r % slot_count) t v)) none

-- the holders' slots are those that the rules lock
pub lock-holders : (g : Image) (t r : ℕ) (v : Option ℕ)
    → laid (lock_writes g t r v (holders_in g (r / slot_count))) g ≡ laid (lock_holders cabinet (control_in g) (look cabinet (state_in g)) t r v) g
lock-holders g t r v = laid_same (lock_writes g t r v (holders_in g (r / slot_count))) g (lock_holders cabinet (control_in g) (look cabinet (state_in g)) t r v)
    (λ c b hc hb. ap (λ (o : Option BlockBytes). updated o (block_in g c b)) (same c b hb))
  where
    inner : (c b : ℕ) → b < block_count → (elem c (holders_in g b) ≡ true) ⊎ (elem c (holders_in g b) ≡ false)
        → locked_if t r v c (holders_in g b) (block_in g c b) ≡ locked_if t r v c (holders_in g b) (look cabinet (state_in g) c b)
    inner c b hb (inl e) = ap (locked_if t r v c (holders_in g b)) (sym (holder-look g c b hb e))
    inner c b hb (inr e) = rw e

    at : (c b : ℕ) → b < block_count → (eqb b (r / slot_count) ≡ true) ⊎ (eqb b (r / slot_count) ≡ false)
        → cond (eqb b (r / slot_count) && elem c (holders_in g (r / slot_count))) (some (lock_slot (block_in g c b) (r % slot_count) t v)) none
        ≡ cond (eqb b (r / slot_count)) (locked_if t r v c (holders_in g b) (look cabinet (state_in g) c b)) none
    at c b hb (inl e) = rw e (ap (λ (z : ℕ). locked_if t r v c (holders_in g z) (block_in g c b)) (sym (eqb-true b (r / slot_count) e)) ∙ inner c b hb (split (elem c (holders_in g b))))
    at c b hb (inr e) = rw e

    same : (c b : ℕ) → b < block_count → lock_writes g t r v (holders_in g (r / slot_count)) c b ≡ lock_holders cabinet (control_in g) (look cabinet (state_in g)) t r v c b
    same c b hb = unfold lock_writes lock_holders in at c b hb (split (eqb b (r / slot_count)))

-- ---- a new block at each site of the newest placement
abbrev pub new_block : ℕ → ℕ → Option ℕ → BlockBytes
new_block t r v = lock_slot fresh_block (r % slot_count) t v

-- a fresh block is put on a card, and the record's slot locked in it
pub lay-one : (g : Image) (t r : ℕ) (v : Option ℕ) → Whole g → r < record_count → (c b : ℕ) → c < card_count → b ≡ r / slot_count → (x : List ℕ) → x ≡ fresh_block.0
    → (one two : Image) → one ≡ put_block g c b x → two ≡ locked_on t r v c one → two ≡ put_block g c b (new_block t r v).0
lay-one g t r v w hr c b hc eb x ex one two put lock =
    lock ∙ ap₂ (λ (i : Image) (k : ℕ). put_block i c k (lock_slot (of_list (block_at i c k)) (r % slot_count) t v).0) (put ∙ ap (put_block g c b) ex) (sym eb)
    ∙ ap (λ (y : BlockBytes). put_block (put_block g c b fresh_block.0) c b (lock_slot y (r % slot_count) t v).0)
    (ap of_list (put_same g w c hc b hb fresh_block.0 fresh_block.1) ∙ of-list fresh_block)
    ∙ unfold put_block in (put-again g (block_address c b) fresh_block.0 (new_block t r v).0 (fresh_block.1 ∙ sym (new_block t r v).1) (omega (arith, fresh_block.1, w)))
  where
    hb : b < block_count
    hb = omega arith

-- each site of the newest placement gets it, which the rules say
pub lay-laid : (g : Image) (t r : ℕ) (v : Option ℕ) (q : Placement) → Whole g → r < record_count → q ≡ (control_in g).newest
    → (m : ℕ) → AreMembers m (is_site q (r / slot_count)) → put_each (r / slot_count) (new_block t r v).0 (members (byte m)) g ≡ laid (lay_block cabinet (control_in g) t r v) g
lay-laid g t r v q w hr is m are =
    put-cards g w b hb x (members (byte m)) (λ c h. has-card (byte m) c (sym (elem-members (byte m) c) ∙ h)) (is_site q b) (λ c. elem-members (byte m) c ∙ are c)
    ∙ laid_same (put_writes (λ c k. none) b x (is_site q b)) g (lay_block cabinet (control_in g) t r v)
    (λ c k hc hk. ap (λ (o : Option BlockBytes). updated o (block_in g c k)) (there c k (split (eqb k b))))
  where
    b : ℕ
    b = r / slot_count

    x : BlockBytes
    x = new_block t r v

    hb : b < block_count
    hb = omega arith

    there : (c k : ℕ) → (eqb k b ≡ true) ⊎ (eqb k b ≡ false) → put_writes (λ c k. none) b x (is_site q b) c k ≡ lay_block cabinet (control_in g) t r v c k
    there c k (inl e) = unfold lay_block in (rw e (ap₂ (λ (p : Placement) (n : ℕ). cond (elem c (sites_of p n)) (some x) none) is (sym (eqb-true k b e))))
    there c k (inr e) = unfold lay_block in (rw e)
