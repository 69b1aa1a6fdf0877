-- However an input is cut into readings, its listing is that of one input: by the law of an input in parts, reading by
-- reading. Where a read fails, the bytes that still wait are fewer than a command. Assumes nothing.
use mathlib.Core.Path.{◌∙◌, ◌≡◌, ap, refl, subst, sym}
use mathlib.Core.Bool.{Bool, false, not, true}
use mathlib.Core.List.{List, ◌++◌, ◌∷◌, [], append_assoc, append-nil}
use Prim.Native.Nat.{◌%◌, ◌*◌, ◌+◌, ◌-◌, ◌<◌, ℕ}
use native.Mathlib.Omega.{arith}
use lib.ListN.{length, length-append, length-drop, take, take-append-drop}
use lib.Seq.{drop-append_seam, length-take-le, take-add, take-append_seam}
use Rattle.lists.proofs.Bools.{and_l, and_r, not_is, tf}
use Rattle.command.specs.Commands.{command_size}
use Rattle.listing.specs.Listing.{InParts, command_count, image_behind, listing}
use Rattle.listing.proofs.Parts.{in_parts}
use Rattle.console.specs.Readings.{AllListed, Given, Standing, all_bytes, at_first, cut, gave, held_bytes, image_over, is_end, is_last, last_given, lines_of, lines_over}
use Rattle.console.specs.Readings.{none_empty, performed, performed_size, read_failed, standing_after}
use Rattle.console.proofs.Buffers.{rest-short}

-- ---- a reading: what is performed and what is cut are all that is held, and fewer bytes than a command are cut
pub whole_parts : (s : Standing) (reading : List ℕ) → performed s (gave reading) ++ cut s (gave reading) ≡ held_bytes s reading
unfolding performed cut
whole_parts s reading = take-append-drop (performed_size (length (held_bytes s reading)) (is_end reading)) (held_bytes s reading)

cut_short : (s : Standing) (reading : List ℕ) → length (cut s (gave reading)) < command_size
unfolding cut
cut_short s reading =
    let n : ℕ = length (held_bytes s reading) in
    subst (λ (k : ℕ). k < command_size) (sym (length-drop (performed_size n (is_end reading)) (held_bytes s reading))) (rest-short n (is_end reading))

-- before the last whole commands are performed, and the rest waits
pub whole-size : (s : Standing) (given : Given) → is_last given ≡ false
    → length (performed s given) ≡ command_count (performed s given) * command_size
unfolding performed
whole-size s (gave reading) h =
    let n : ℕ = length (held_bytes s reading) in
    let p : performed_size n (is_end reading) ≡ n - n % command_size = ap (performed_size n) h in
    let e : length (take (performed_size n (is_end reading)) (held_bytes s reading)) ≡ n - n % command_size =
    ap (λ (k : ℕ). length (take k (held_bytes s reading))) p ∙ length-take-le (n - n % command_size) (held_bytes s reading) (omega arith) in
    omega arith
whole-size s read_failed h = tf true refl h

-- the law of an input in parts, at the commands performed and all that comes behind them
parts-of : (s : Standing) (reading rest : List ℕ) → is_end reading ≡ false
    → InParts s.number (command_count (performed s (gave reading))) (performed s (gave reading)) rest s.image
parts-of s reading rest h =
    let x : List ℕ = performed s (gave reading) in
    in_parts s.number (command_count x) x rest s.image (whole-size s (gave reading) h)

-- ---- the commands of an input: those of its first whole ones, and those of the rest
abbrev commands_in : List ℕ → Bool → List ℕ
commands_in l ends = take (performed_size (length l) ends) l

whole-first : (first rest : List ℕ) (ends : Bool) → length first ≡ command_count first * command_size
    → commands_in (first ++ rest) ends ≡ first ++ commands_in rest ends
whole-first first rest ends h =
    let n : length (first ++ rest) ≡ length first + length rest = length-append first rest in
    let m : ℕ = performed_size (length rest) ends in
    ap (λ (k : ℕ). take (performed_size k ends) (first ++ rest)) n
    ∙ ap (λ (k : ℕ). take k (first ++ rest)) (go ends)
    ∙ take-add (length first) m (first ++ rest)
    ∙ (λ i. take-append_seam first rest i ++ take m (drop-append_seam first rest i))
  where
    go : (t : Bool) → performed_size (length first + length rest) t ≡ length first + performed_size (length rest) t
    go true = refl
    go false = omega (arith, h)

-- all that a program has still to perform
abbrev input : Standing → List (List ℕ) → Bool → List ℕ
input s readings ends = commands_in (s.waiting ++ all_bytes readings) ends

input-first : (s : Standing) (reading : List ℕ) (rest : List (List ℕ)) (ends : Bool) → is_end reading ≡ false
    → input s (reading ∷ rest) ends ≡ performed s (gave reading) ++ input (standing_after s (gave reading)) rest ends
unfolding all_bytes
input-first s reading rest ends h =
    let x : List ℕ = performed s (gave reading) in
    let y : List ℕ = cut s (gave reading) in
    ap (λ (l : List ℕ). commands_in l ends)
    (sym (append_assoc s.waiting reading (all_bytes rest)) ∙ ap (λ (l : List ℕ). l ++ all_bytes rest) (sym (whole_parts s reading))
    ∙ append_assoc x y (all_bytes rest))
    ∙ whole-first x (y ++ all_bytes rest) ends (whole-size s (gave reading) h)

-- behind the last reading: all that waits where the input ends, and nothing where a read failed
input_last : (s : Standing) (ends : Bool) → length s.waiting < command_size → performed s (last_given ends) ≡ input s [] ends
unfolding performed all_bytes
input_last s true h = refl
input_last s false h =
    let n : length (s.waiting ++ []) ≡ length s.waiting = ap length (append-nil s.waiting) in
    let z : 0 ≡ performed_size (length (s.waiting ++ [])) false = omega (arith, n, h) in
    ap (λ (k : ℕ). take k (s.waiting ++ [])) z

-- ---- all readings
lines-all : (readings : List (List ℕ)) (s : Standing) (ends : Bool) → length s.waiting < command_size → none_empty readings ≡ true
    → lines_over s readings ends ≡ listing s.number (input s readings ends) s.image (command_count (input s readings ends))
unfolding lines_over none_empty
lines-all [] s ends w h = ap (λ (l : List ℕ). listing s.number l s.image (command_count l)) (input_last s ends w)
lines-all (reading ∷ rest) s ends w h =
    let some : is_end reading ≡ false = not_is (is_end reading) (and_l (not (is_end reading)) (none_empty rest) h) in
    let x : List ℕ = performed s (gave reading) in
    let y : List ℕ = input (standing_after s (gave reading)) rest ends in
    let p = parts-of s reading y some in
    ap (λ (l : List ℕ). lines_of s (gave reading) ++ l)
    (lines-all rest (standing_after s (gave reading)) ends (cut_short s reading) (and_r (not (is_end reading)) (none_empty rest) h))
    ∙ sym (p.prints (command_count y)) ∙ ap (listing s.number (x ++ y) s.image) (sym p.counts)
    ∙ ap (λ (l : List ℕ). listing s.number l s.image (command_count l)) (sym (input-first s reading rest ends some))

image-all : (readings : List (List ℕ)) (s : Standing) (ends : Bool) → length s.waiting < command_size → none_empty readings ≡ true
    → image_over s readings ends ≡ image_behind (input s readings ends) s.image (command_count (input s readings ends))
unfolding image_over none_empty
image-all [] s ends w h = ap (λ (l : List ℕ). image_behind l s.image (command_count l)) (input_last s ends w)
image-all (reading ∷ rest) s ends w h =
    let some : is_end reading ≡ false = not_is (is_end reading) (and_l (not (is_end reading)) (none_empty rest) h) in
    let x : List ℕ = performed s (gave reading) in
    let y : List ℕ = input (standing_after s (gave reading)) rest ends in
    let p = parts-of s reading y some in
    image-all rest (standing_after s (gave reading)) ends (cut_short s reading) (and_r (not (is_end reading)) (none_empty rest) h)
    ∙ sym (p.leaves (command_count y)) ∙ ap (image_behind (x ++ y) s.image) (sym p.counts)
    ∙ ap (λ (l : List ℕ). image_behind l s.image (command_count l)) (sym (input-first s reading rest ends some))

pub all_listed : AllListed
all_listed g readings ends h =
    record { prints = lines-all readings (at_first g) ends (omega arith) h; leaves = image-all readings (at_first g) ends (omega arith) h }
