-- Texts put one behind the other into a lent buffer. Assumes nothing.
use mathlib.Core.Path.{◌∙◌, ◌≡◌, ap, refl, subst, sym}
use mathlib.Core.List.{List, ◌++◌, ◌∷◌, []}
use Prim.Native.Nat.{◌+◌, ◌-◌, ◌<◌, ◌≤◌, ℕ}
use native.Mathlib.Omega.{arith}
use lib.ListN.{length, length-append, set}
use borrow.Rule.Slice.PartMut.{mid_of, put_mid}
use Rattle.lists.specs.Segments.{splice}
use Rattle.lists.proofs.Segments.{put_then, set-splice, splice-none}
use Rattle.image.proofs.Parts.{part-put}
use Rattle.lines.specs.Text.{Puts}

pub puts_none : (l : List ℕ) (a : ℕ) → a ≤ length l → Puts [] l a a l
puts_none l a h = record { ends = omega arith; leaves = sym (splice-none l a h) }

pub puts_byte : (l : List ℕ) (a b : ℕ) → a < length l → Puts (b ∷ []) l a (a + 1) (set l a b)
puts_byte l a b h = record { ends = refl; leaves = set-splice l a b h }

-- where the end, or the lengths, are within the buffer
pub puts-next : {xs ys l m k : List ℕ} {a b c : ℕ} → Puts xs l a b m → Puts ys m b c k → c ≤ length l → Puts (xs ++ ys) l a c k
puts-next {xs} {ys} {l} {m} {k} {a} {b} {c} p q h =
    let n : length (xs ++ ys) ≡ length xs + length ys = length-append xs ys in
    let e : b ≡ a + length xs = p.ends in
    let f : c ≡ b + length ys = q.ends in
    record {
      ends = omega arith;
      leaves = q.leaves ∙ ap (λ (s : List ℕ). splice s b ys) p.leaves ∙ ap (λ (o : ℕ). splice (splice l a xs) o ys) e
          ∙ put_then l a xs ys (omega arith);
    }

pub puts_then : {xs ys l m k : List ℕ} {a b c : ℕ} → Puts xs l a b m → Puts ys m b c k → a + length xs + length ys ≤ length l → Puts (xs ++ ys) l a c k
puts_then p q h = puts-next p q (omega (arith, p.ends, q.ends))

-- a text that is the same
pub puts_same : {xs ys l m : List ℕ} {a b : ℕ} → xs ≡ ys → Puts xs l a b m → Puts ys l a b m
puts_same {xs} {ys} {l} {m} {a} {b} e p = subst (λ (t : List ℕ). Puts t l a b m) e p

-- two bytes
pub puts_pair : {x y v w a b c : ℕ} {l m k : List ℕ} → x ≡ v → y ≡ w → Puts (x ∷ []) l a b m → Puts (y ∷ []) m b c k → a + 2 ≤ length l → Puts (v ∷ w ∷ []) l a c k
puts_pair e f p q h = puts_same (λ i. e i ∷ f i ∷ []) (puts_then p q (omega arith))

-- a text at the start of a part that was lent, said of the whole
pub puts-part : (t : List ℕ) (at k end : ℕ) (l ys : List ℕ) → k ≡ length l - at → at + end ≤ length l
    → Puts t (mid_of at k l) 0 end ys → Puts t l at (at + end) (put_mid at k l ys)
puts-part t at k end l ys e h p =
    let f : end ≡ 0 + length t = p.ends in
    let z : at + 0 ≡ at = omega arith in
    record {
      ends = omega arith;
      leaves = part-put at k l k 0 t ys p.leaves refl (omega arith) (omega arith) ∙ ap (λ (o : ℕ). splice l o t) z;
    }
