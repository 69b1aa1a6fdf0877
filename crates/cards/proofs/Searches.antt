-- Searches of the active placements and of the open transactions. Assumes nothing.
use Prim.Native.Nat.{◌+◌, ◌-◌, ◌<◌, ℕ}
use borrow.Author.Tests.{lt-ltb}
use lib.ListN.{get_or}
use mathlib.Core.Bool.{Bool, ◌&&◌, ◌||◌, false, not, true}
use mathlib.Core.List.{List, [], ◌∷◌}
use mathlib.Core.Path.{◌∙◌, ◌≡◌, ap, refl, sym}
use native.Mathlib.Omega.{arith}
use Rattle.lists.specs.Tests.{all_in, all_below, any_in, any_below}
use Rattle.lists.proofs.Counts.{any_below_lem, any-more}
use Rattle.image.specs.Layout.{tran_bound, tran_count}
use Rattle.mask.specs.Masks.{Byte, byte, has_card}
use Rattle.method.specs.ControlPart.{active, begun_at, is_card}
use Rattle.method.specs.Rules.{in_active}
use Rattle.control.specs.ControlBytes.{home_in}
use Rattle.control.specs.Meaning.{Counted, mask_in, meaning}
use Rattle.control.proofs.Active.{every-passed, mask_passes, one-fails, one_passes}
use Rattle.cabinet_rules.specs.Cabinet.{cabinet}
use Rattle.control.specs.declared.Control.{Control as Struct}

any-not-all : {A : Type 0} (f : A → Bool) (l : List A) → any_in f l ≡ not (all_in (λ x. not (f x)) l)
any-not-all f [] = refl
any-not-all f (x ∷ l) = go (f x) (any-not-all f l)
  where
    go : (b : Bool) → any_in f l ≡ not (all_in (λ x. not (f x)) l) → (b || any_in f l) ≡ not (not b && all_in (λ x. not (f x)) l)
    go true ih = refl
    go false ih = ih

-- ---- the active placements: the card is not in this one
abbrev pub lacks : ℕ → Byte → Bool
lacks c m = not (has_card m c)

module _ (k : Struct) (w : Counted k) (c : ℕ) where
  pub found-active : (i : ℕ) → i < k.count → true ≡ has_card (byte (mask_in k i)) c → true ≡ in_active cabinet (meaning k) c
  found-active i h e = ap not (one-fails (lacks c) k w i h (rw (sym e))) ∙ sym (any-not-all (λ p. has_card p.mask c) (active (meaning k)))

  pub none-active : (i : ℕ) → k.count ≡ i → all_below i (mask_passes (lacks c) k) ≡ true → false ≡ in_active cabinet (meaning k) c
  none-active i e h = ap not (every-passed (lacks c) k w i e h) ∙ sym (any-not-all (λ p. has_card p.mask c) (active (meaning k)))

  pub still-none : (i : ℕ) → false ≡ has_card (byte (mask_in k i)) c → all_below i (mask_passes (lacks c) k) ≡ true → all_below (i + 1) (mask_passes (lacks c) k) ≡ true
  still-none i e h = one_passes (lacks c) k w i (rw (sym e)) h

-- ---- the transactions: byte i is that of transaction i + 1, and there is no transaction 0
module _ (k : Struct) (c : ℕ) where
  begun-byte : (i : ℕ) → i < tran_count → is_card (home_in (get_or k.homes i 0)) c ≡ begun_at (meaning k) c (i + 1)
  unfolding meaning
  begun-byte i h = rw (lt-ltb 0 (i + 1) (omega arith), lt-ltb (i + 1) tran_bound (omega arith), back)
    where
      back : i + 1 - 1 ≡ i
      back = omega arith

  pub none_yet : any_below 1 (begun_at (meaning k) c) ≡ false
  unfolding meaning
  none_yet = refl

  pub found-begun : (i : ℕ) → i < tran_count → true ≡ is_card (home_in (get_or k.homes i 0)) c → true ≡ any_below tran_bound (begun_at (meaning k) c)
  found-begun i h e = sym (any_below_lem tran_bound (begun_at (meaning k) c) (i + 1) (omega arith) (sym (e ∙ begun-byte i h)))

  pub still-unbegun : (i : ℕ) → i < tran_count → false ≡ is_card (home_in (get_or k.homes i 0)) c → any_below (i + 1) (begun_at (meaning k) c) ≡ false
      → any_below (i + 1 + 1) (begun_at (meaning k) c) ≡ false
  still-unbegun i h e p = any-more (begun_at (meaning k) c) (i + 1) (sym (e ∙ begun-byte i h)) p

  pub none-begun : (i : ℕ) → i ≡ tran_count → any_below (i + 1) (begun_at (meaning k) c) ≡ false → false ≡ any_below tran_bound (begun_at (meaning k) c)
  none-begun i e p = sym (rw e at p)
