-- An input that is read in parts. Assumes nothing.
use mathlib.Core.Path.{◌∙◌, ◌≡◌, ap, refl, sym}
use mathlib.Core.List.{List, ◌++◌, append_assoc, append-nil}
use Prim.Native.Nat.{◌*◌, ◌+◌, ◌≤◌, ℕ, suc, zero}
use native.Mathlib.Omega.{arith}
use native.Mathlib.Nat.{add-suc, add-zero}
use lib.ListN.{get_or-append, drop, length, length-append, take}
use lib.Seq.{drop_at, drop-drop, ext_get_or}
use Rattle.lists.specs.Segments.{segment}
use Rattle.lists.proofs.Segments.{get_or-segment, length-segment}
use Rattle.cabinet_rules.specs.Images.{Image}
use Rattle.command.specs.Commands.{command_size}
use Rattle.command.specs.Meaning.{command_next}
use Rattle.listing.specs.Listing.{InParts, command_bytes, image_behind, line_on, listing}

-- ---- the commands of the first part, and of the rest
first-bytes : (xs ys : List ℕ) (i : ℕ) → i * command_size + command_size ≤ length xs → command_bytes (xs ++ ys) i ≡ command_bytes xs i
first-bytes xs ys i h =
    let n : length (xs ++ ys) ≡ length xs + length ys = length-append xs ys in
    let a : ℕ = i * command_size in
    let u : length (command_bytes (xs ++ ys) i) ≡ command_size = length-segment (xs ++ ys) a command_size (omega arith) in
    let v : length (command_bytes xs i) ≡ command_size = length-segment xs a command_size h in
    ext_get_or 0 (command_bytes (xs ++ ys) i) (command_bytes xs i) (u ∙ sym v) (λ j p.
    get_or-segment (xs ++ ys) a command_size j (omega arith) ∙ get_or-append xs ys 0 (a + j) (omega arith)
    ∙ sym (get_or-segment xs a command_size j (omega arith)))

rest-bytes : (xs ys : List ℕ) (k j : ℕ) → length xs ≡ k * command_size → command_bytes (xs ++ ys) (k + j) ≡ command_bytes ys j
unfolding segment
rest-bytes xs ys k j e =
    let s : (k + j) * command_size ≡ k * command_size + j * command_size = omega arith in
    ap (λ (a : ℕ). take command_size (drop a (xs ++ ys))) s
    ∙ ap (take command_size) (sym (drop-drop (j * command_size) (k * command_size) (xs ++ ys)) ∙ ap (drop (j * command_size)) (drop_at xs ys (k * command_size) e))

-- ---- the first part
first-image : (xs ys : List ℕ) (g : Image) (i : ℕ) → i * command_size ≤ length xs → image_behind (xs ++ ys) g i ≡ image_behind xs g i
unfolding image_behind
first-image xs ys g zero h = refl
first-image xs ys g (suc i) h =
    ap (λ (c : List ℕ). command_next c (image_behind (xs ++ ys) g i)) (first-bytes xs ys i (omega arith))
    ∙ ap (command_next (command_bytes xs i)) (first-image xs ys g i (omega arith))

first-lines : (n : ℕ) (xs ys : List ℕ) (g : Image) (i : ℕ) → i * command_size ≤ length xs → listing n (xs ++ ys) g i ≡ listing n xs g i
unfolding listing
first-lines n xs ys g zero h = refl
first-lines n xs ys g (suc i) h =
    ap (λ (l : List ℕ). l ++ line_on (n + i) (command_bytes (xs ++ ys) i) (image_behind (xs ++ ys) g i)) (first-lines n xs ys g i (omega arith))
    ∙ ap (λ (c : List ℕ). listing n xs g i ++ line_on (n + i) c (image_behind (xs ++ ys) g i)) (first-bytes xs ys i (omega arith))
    ∙ ap (λ (m : Image). listing n xs g i ++ line_on (n + i) (command_bytes xs i) m) (first-image xs ys g i (omega arith))

-- ---- both parts
both-images : (xs ys : List ℕ) (g : Image) (k : ℕ) → length xs ≡ k * command_size → (j : ℕ)
    → image_behind (xs ++ ys) g (k + j) ≡ image_behind ys (image_behind xs g k) j
unfolding image_behind
both-images xs ys g k e zero = ap (image_behind (xs ++ ys) g) (add-zero k) ∙ first-image xs ys g k (omega arith)
both-images xs ys g k e (suc j) =
    ap (image_behind (xs ++ ys) g) (add-suc k j)
    ∙ ap (λ (c : List ℕ). command_next c (image_behind (xs ++ ys) g (k + j))) (rest-bytes xs ys k j e)
    ∙ ap (command_next (command_bytes ys j)) (both-images xs ys g k e j)

both-lines : (n : ℕ) (xs ys : List ℕ) (g : Image) (k : ℕ) → length xs ≡ k * command_size → (j : ℕ)
    → listing n (xs ++ ys) g (k + j) ≡ listing n xs g k ++ listing (n + k) ys (image_behind xs g k) j
unfolding listing
both-lines n xs ys g k e zero =
    ap (listing n (xs ++ ys) g) (add-zero k) ∙ first-lines n xs ys g k (omega arith) ∙ sym (append-nil (listing n xs g k))
both-lines n xs ys g k e (suc j) =
    let s : n + (k + j) ≡ n + k + j = omega arith in
    ap (listing n (xs ++ ys) g) (add-suc k j)
    ∙ ap (λ (l : List ℕ). l ++ line_on (n + (k + j)) (command_bytes (xs ++ ys) (k + j)) (image_behind (xs ++ ys) g (k + j))) (both-lines n xs ys g k e j)
    ∙ ap (λ (c : List ℕ). listing n xs g k ++ listing (n + k) ys (image_behind xs g k) j ++ line_on (n + (k + j)) c (image_behind (xs ++ ys) g (k + j))) (rest-bytes xs ys k j e)
    ∙ ap (λ (m : Image). listing n xs g k ++ listing (n + k) ys (image_behind xs g k) j ++ line_on (n + (k + j)) (command_bytes ys j) m) (both-images xs ys g k e j)
    ∙ ap (λ (i : ℕ). listing n xs g k ++ listing (n + k) ys (image_behind xs g k) j ++ line_on i (command_bytes ys j) (image_behind ys (image_behind xs g k) j)) s
    ∙ append_assoc (listing n xs g k) (listing (n + k) ys (image_behind xs g k) j) (line_on (n + k + j) (command_bytes ys j) (image_behind ys (image_behind xs g k) j))

pub in_parts : (n k : ℕ) (xs ys : List ℕ) (g : Image) → length xs ≡ k * command_size → InParts n k xs ys g
in_parts n k xs ys g e =
    let m : length (xs ++ ys) ≡ length xs + length ys = length-append xs ys in
    record { counts = omega arith; prints = both-lines n xs ys g k e; leaves = both-images xs ys g k e }
