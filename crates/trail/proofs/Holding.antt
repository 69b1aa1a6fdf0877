-- The holders as the code finds them, placement by placement, are those of the rules. Assumes nothing.
use Prim.Native.Nat.{◌%◌, ◌+◌, ◌-◌, ◌<◌, ◌≤◌, suc, zero, ℕ}
use borrow.Author.Tests.{lt-ltb}
use lib.Dec.{leb, ltb}
use lib.ListN.{get_or}
use mathlib.Core.Bool.{Bool, ◌&&◌, and-false, cond, false, not, true}
use mathlib.Core.List.{List, [], ◌++◌, ◌∷◌}
use mathlib.Core.Logic.{◌⊎◌, inl, inr}
use mathlib.Core.Path.{◌∙◌, ◌≡◌, ap, fun_ext, refl, sym}
use native.Mathlib.Nat.{mod-eq_of_lt}
use native.Mathlib.Numerals.{add-one}
use native.Mathlib.Omega.{arith}
use Rattle.lists.specs.Tests.{In, concat_map, keep_if}
use Rattle.lists.proofs.Bools.{split}
use Rattle.lists.proofs.Lists.{concat-more, keep_append}
use Rattle.image.specs.Layout.{block_address, block_count, card_count}
use Rattle.mask.specs.Masks.{AreMembers, Byte, byte, has_card}
use Rattle.mask.proofs.Masks.{has-card}
use Rattle.mask.specs.Placements.{Placement, Usable, sites_of}
use Rattle.slot.specs.Blocks.{byte_in, is_held}
use Rattle.slot.proofs.Blocks.{byte-in}
use Rattle.method.specs.ControlPart.{active}
use Rattle.method.specs.Rules.{holders, trail}
use Rattle.control.specs.ControlBytes.{Part, count_in, placements_in}
use Rattle.control.specs.Meaning.{meaning}
use Rattle.control.specs.declared.Control.{Control}
use Rattle.control.proofs.Fields.{placements-more, shown-active, shown-newest}
use Rattle.control.proofs.Struct.{shown-count}
use Rattle.control_form.specs.ControlForm.{control_form}
use Rattle.control_form.proofs.RoundTrip.{form-count}
use Rattle.cabinet_rules.specs.Images.{Image, block_in, control_in, tail_in}
use Rattle.promise.specs.Given.{Given, view_of}
use Rattle.promise.proofs.Finish.{form-good}
use Rattle.promise.proofs.View.{held-look, usable-active, works-not-failed}
use Rattle.trail.specs.Trail.{holders_in, holds_at, shown_at}

-- ---- the bit 'held' is in a block's first byte
pub held-byte : (g : Image) (c b at : ℕ) → at ≡ block_address c b → get_or g at 0 < 256 → leb 128 (get_or g at 0) ≡ is_held (block_in g c b)
unfolding is_held
held-byte g c b at e h =
    let z : block_address c b + 0 ≡ at = omega (arith, e) in
    let x : byte_in (block_in g c b) 0 ≡ get_or g at 0 = byte-in (λ j. get_or g (block_address c b + j) 0) 0 (omega arith) ∙ ap (λ (n : ℕ). get_or g n 0) z in
    sym (ap (λ (m : ℕ). leb 128 (m % 256)) x ∙ ap (leb 128) (mod-eq_of_lt h))

-- ---- lists
keep-keep : (f g : ℕ → Bool) (l : List ℕ) → keep_if f (keep_if g l) ≡ keep_if (λ c. g c && f c) l
keep-keep f g [] = refl
keep-keep f g (x ∷ l) = go (g x) (keep-keep f g l)
  where
    go : (t : Bool) → keep_if f (keep_if g l) ≡ keep_if (λ c. g c && f c) l
        → keep_if f (cond t (x ∷ keep_if g l) (keep_if g l)) ≡ cond (t && f x) (x ∷ keep_if (λ c. g c && f c) l) (keep_if (λ c. g c && f c) l)
    go true e = ap (λ (r : List ℕ). cond (f x) (x ∷ r) r) e
    go false e = e

-- ---- placements by their number
in-placements : (f : ℕ → Placement) (n i : ℕ) → i < n → In (f i) (placements_in f n)
in-placements f zero i h = absurd (omega arith)
in-placements f (suc n) zero h = inl refl
in-placements f (suc n) (suc i) h = inr (in-placements (λ i. f (suc i)) n i (omega arith))

-- ---- the holders among the sites of the first i placements
abbrev holds_seen : Image → ℕ → ℕ → Bool
holds_seen g b c = is_held (view_of g c b)

abbrev not_failed : Image → ℕ → Bool
not_failed g c = not (has_card (control_in g).failed c)

unfoldable pub first_holders : Image → ℕ → ℕ → List ℕ
first_holders g b i = keep_if (holds_seen g b) (keep_if (not_failed g) (concat_map (λ p. sites_of p b) (placements_in (shown_at g) i)))

pub first-none : (g : Image) (b : ℕ) → [] ≡ first_holders g b 0
unfolding first_holders
first-none g b = refl

module _ (k : Control) (g : Image) (given : Given k g) where
  pub formed : control_form g ≡ true
  formed = form-good g given.formed

  -- the active placements are the first `count` ones that the bytes show, and the newest is the last of them
  some-active : 1 ≤ count_in (get_or g 0 0)
  some-active = (form-count (λ n. get_or g n 0) (tail_in g) formed).0

  same_count : count_in (get_or g 0 0) ≡ k.count
  same_count = sym (shown-count (λ n. get_or g n 0) (tail_in g) some-active k given.is.counted given.is.means)

  active-first : active (control_in g) ≡ placements_in (shown_at g) k.count
  active-first = shown-active (λ n. get_or g n 0) (tail_in g) some-active ∙ ap (placements_in (shown_at g)) same_count

  pub newest-last : shown_at g (k.count - 1) ≡ (control_in g).newest
  newest-last = sym (shown-newest (λ n. get_or g n 0) (tail_in g) some-active ∙ ap (λ (n : ℕ). shown_at g (n - 1)) same_count)

  -- each has as many members as copies
  pub usable_at : (i : ℕ) → i < k.count → Usable (shown_at g i)
  usable_at i h = usable-active g formed (shown_at g i) (rw active-first (in-placements (shown_at g) k.count i h))

  -- a working card that holds a block is one that the rules see hold it
  pub holds-seen : (b c : ℕ) → b < block_count → holds_at g (byte k.working) b c ≡ is_held (view_of g c b)
  unfolding holds_at meaning
  holds-seen b c hb = ap (λ (p : Part). has_card p.working c && is_held (block_in g c b)) given.is.means ∙ sym (held-look g c b hb)

  -- such a card has not failed
  test-is : (b c : ℕ) → b < block_count → (not_failed g c && holds_seen g b c) ≡ holds_at g (byte k.working) b c
  test-is b c hb = ap (λ (t : Bool). not_failed g c && t) (held-look g c b hb) ∙ go (split (has_card (control_in g).working c)) ∙ sym (held-look g c b hb) ∙ sym (holds-seen b c hb)
    where
      go : (has_card (control_in g).working c ≡ true) ⊎ (has_card (control_in g).working c ≡ false)
          → (not_failed g c && (has_card (control_in g).working c && is_held (block_in g c b))) ≡ (has_card (control_in g).working c && is_held (block_in g c b))
      go (inl on) = rw (on, works-not-failed g formed c on)
      go (inr off) = rw off (and-false (not_failed g c))

  -- one placement more
  pub first_more : (b i : ℕ) → b < block_count
      → first_holders g b i ++ keep_if (holds_at g (byte k.working) b) (sites_of (shown_at g i) b) ≡ first_holders g b (i + 1)
  unfolding first_holders
  first_more b i hb =
      let p = shown_at g i in
      let l = placements_in (shown_at g) i in
      let sites : Placement → List ℕ = λ p. sites_of p b in
      sym (ap (λ (l : List Placement). keep_if (holds_seen g b) (keep_if (not_failed g) (concat_map sites l))) (ap (placements_in (shown_at g)) (add-one i) ∙ sym (placements-more (shown_at g) i))
      ∙ ap (λ (l : List ℕ). keep_if (holds_seen g b) (keep_if (not_failed g) l)) (concat-more sites l p)
      ∙ ap (keep_if (holds_seen g b)) (keep_append (not_failed g) (concat_map sites l) (sites_of p b))
      ∙ keep_append (holds_seen g b) (keep_if (not_failed g) (concat_map sites l)) (keep_if (not_failed g) (sites_of p b))
      ∙ ap (λ (r : List ℕ). first_holders g b i ++ r) (keep-keep (holds_seen g b) (not_failed g) (sites_of p b)
      ∙ ap (λ (f : ℕ → Bool). keep_if f (sites_of p b)) (fun_ext (λ c. test-is b c hb))))

  -- and all of them
  pub first-all : (b : ℕ) → first_holders g b k.count ≡ holders_in g b
  unfolding first_holders holders trail
  first-all b = ap (λ (l : List Placement). keep_if (holds_seen g b) (keep_if (not_failed g) (concat_map (λ p. sites_of p b) l))) (sym active-first)

-- ---- the working cards that hold a block
module _ (g : Image) (w : Byte) (b c : ℕ) where
  pub works-holds : (on : Bool) → has_card w c ≡ true → on ≡ is_held (block_in g c b) → on ≡ holds_at g w b c
  unfolding holds_at
  works-holds on h e = e ∙ sym (rw h)

  pub idle-holds : has_card w c ≡ false → false ≡ holds_at g w b c
  unfolding holds_at
  idle-holds h = sym (rw h)

pub all_held : (g : Image) (w : Byte) (b held n : ℕ) → n ≡ card_count → AreMembers held (λ x. ltb x n && holds_at g w b x) → AreMembers held (holds_at g w b)
unfolding holds_at
all_held g w b held n e inv x = inv x ∙ ap (λ (k : ℕ). ltb x k && holds_at g w b x) e ∙ go (split (has_card w x))
  where
    go : (has_card w x ≡ true) ⊎ (has_card w x ≡ false) → (ltb x card_count && (has_card w x && is_held (block_in g x b))) ≡ (has_card w x && is_held (block_in g x b))
    go (inl h) = rw (lt-ltb x card_count (has-card w x h))
    go (inr h) = rw h (and-false (ltb x card_count))
