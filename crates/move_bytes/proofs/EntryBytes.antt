-- The bytes of entries in a buffer. Assumes nothing.
use Prim.Native.Nat.{◌*◌, ◌+◌, ◌<◌, ◌≤◌, suc, zero, ℕ}
use lib.ListN.{get_or, length, length-append, set, take}
use lib.Seq.{take-suc}
use mathlib.Core.List.{List, [], ◌∷◌}
use mathlib.Core.Path.{◌∙◌, ◌≡◌, ap, refl, sym}
use native.Mathlib.Numerals.{add-one}
use native.Mathlib.Omega.{arith}
use Rattle.lists.specs.Segments.{splice}
use Rattle.lists.specs.Tests.{concat_map}
use Rattle.lists.proofs.Lists.{concat-more}
use Rattle.lists.proofs.Segments.{length-splice, put_then, set-splice, splice-none}
use Rattle.move_list.specs.Promise.{blank_move}
use Rattle.move_list.specs.declared.Move.{Move}
use Rattle.move_bytes.specs.MoveBytes.{bytes_of, entry_size, first_bytes}

-- two bytes set, one behind the other
pub set-entry : (l : List ℕ) (at : ℕ) (m : Move) → at + entry_size ≤ length l → set (set l at m.0.0) (at + 1) m.1.0 ≡ splice l at (bytes_of m)
set-entry l at m h =
    let first : set l at m.0.0 ≡ splice l at (m.0.0 ∷ []) = set-splice l at m.0.0 (omega arith) in
    let long : length (splice l at (m.0.0 ∷ [])) ≡ length l = length-splice l at (m.0.0 ∷ []) (omega arith) in
    ap (λ (k : List ℕ). set k (at + 1) m.1.0) first ∙ set-splice (splice l at (m.0.0 ∷ [])) (at + 1) m.1.0 (omega (arith, long))
    ∙ put_then l at (m.0.0 ∷ []) (m.1.0 ∷ []) (omega arith)

-- the bytes of the first n entries
pub length-first : (l : List Move) (n : ℕ) → n ≤ length l → length (first_bytes l n) ≡ n * entry_size
length-first l zero h = refl
length-first l (suc n) h =
    let e : length (first_bytes l n) ≡ n * entry_size = length-first l n (omega arith) in
    let s : length (first_bytes l (suc n)) ≡ length (first_bytes l n) + 2 =
    ap (λ (t : List Move). length (concat_map bytes_of t)) (take-suc l n blank_move h) ∙ ap length (concat-more bytes_of (take n l) (get_or l n blank_move))
    ∙ length-append (first_bytes l n) (bytes_of (get_or l n blank_move)) in
    omega (arith, e, s)

pub put-length : (l : List ℕ) (moves : List Move) (i : ℕ) → i ≤ length moves → i * entry_size ≤ length l → length (splice l 0 (first_bytes moves i)) ≡ length l
put-length l moves i h room = let e = length-first moves i h in length-splice l 0 (first_bytes moves i) (omega (arith, e))

pub none-put : (l : List ℕ) (moves : List Move) → l ≡ splice l 0 (first_bytes moves 0)
none-put l moves = sym (splice-none l 0 (omega arith))

-- one entry more
pub entry_more : (l : List ℕ) (moves : List Move) (i : ℕ) → i < length moves → (i + 1) * entry_size ≤ length l
    → splice (splice l 0 (first_bytes moves i)) (i * entry_size) (bytes_of (get_or moves i blank_move)) ≡ splice l 0 (first_bytes moves (i + 1))
entry_more l moves i h room =
    let e : length (first_bytes moves i) ≡ i * entry_size = length-first moves i (omega arith) in
    let at : i * entry_size ≡ 0 + length (first_bytes moves i) = omega (arith, e) in
    ap (λ (a : ℕ). splice (splice l 0 (first_bytes moves i)) a (bytes_of (get_or moves i blank_move))) at
    ∙ put_then l 0 (first_bytes moves i) (bytes_of (get_or moves i blank_move)) (omega (arith, e))
    ∙ ap (splice l 0) (sym (ap (λ (k : ℕ). first_bytes moves k) (add-one i) ∙ ap (concat_map bytes_of) (take-suc moves i blank_move h) ∙ concat-more bytes_of (take i moves) (get_or moves i blank_move)))
