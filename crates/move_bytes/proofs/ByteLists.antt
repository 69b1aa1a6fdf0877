-- The promise of the call on bytes, from that of the call on a list with room for every list of moves. Assumes nothing.
use Prim.Native.Nat.{◌<◌, ◌≤◌, ℕ}
use borrow.Author.Tests.{le-ltb, lt-ltb}
use lib.ListN.{drop, length, length-append, length-map, length-replicate, take}
use lib.Seq.{take-append_seam}
use mathlib.Core.List.{List, ◌++◌, map}
use mathlib.Core.Path.{◌∙◌, ◌≡◌, ap, ap₂, refl, sym}
use native.Mathlib.Nat.{zero-add}
use native.Mathlib.Omega.{arith}
use Rattle.lists.specs.Segments.{splice}
use Rattle.lists.specs.Tests.{concat_map}
use Rattle.method.specs.MoveList.{ListAnswer, listed, no_list, not_listed}
use Rattle.cabinet_rules.specs.Images.{Image}
use Rattle.cabinet_rules.specs.MoveLists.{list_answer_on, moves_on}
use Rattle.cabinet_rules.proofs.MoveLists.{listed-clear}
use Rattle.move_list.specs.Plans.{move_for}
use Rattle.move_list.specs.Promise.{EveryListFits, Listed, ListDone, blank_list, blank_move, filled_by, list_after, most_moves, shown_list}
use Rattle.move_list.proofs.MoveRooms.{any-room, by_room, every-list-fits}
use Rattle.std.specs.Prelude.{Some, None, Ok, Err}
use Rattle.refusals.specs.Refusals.{number}
use Rattle.refusals.specs.declared.Refusal.{Refusal}
use Rattle.refusals.specs.declared.Refusal.TheVariants.{List as TooShort}
use Rattle.refusals.proofs.HandedOn.{HandsOn, handed-on}
use Rattle.move_list.specs.declared.Move.{Move}
use Rattle.move_bytes.specs.MoveBytes.{BytesDone, bytes_after, bytes_of, filled_bytes, first_bytes, room_of}
use Rattle.move_bytes.proofs.EntryBytes.{length-first}

length-blank : length blank_list ≡ most_moves
unfolding blank_list
length-blank = length-replicate most_moves blank_move

module _ (g : Image) (a : Listed) (ms : List Move) (d : ListDone g blank_list a ms) (lent : List ℕ) where
  by-room : (x : ListAnswer) → shown_list a ≡ x → list_answer_on (room_of lent) g ≡ by_room (room_of lent) x
  by-room x e = any-room g (room_of lent) ∙ ap (by_room (room_of lent)) (ap (λ (n : ℕ). list_answer_on n g) (sym length-blank) ∙ sym d.answers ∙ e)

  -- from the answer to this buffer, and what is left in it
  done-by : (b : Listed) (filled : List ℕ) → list_answer_on (room_of lent) g ≡ shown_list b → filled ≡ filled_bytes (shown_list b) (map move_for (moves_on g)) lent → BytesDone g lent b filled
  unfolding bytes_after
  done-by b filled e f = record { answers = sym e; fills = f ∙ sym (ap (λ (z : ListAnswer). filled_bytes z (map move_for (moves_on g)) lent) e) }

  pub none_done : a ≡ Ok None → BytesDone g lent (Ok None) lent
  none_done e = done-by (Ok None) lent (by-room no_list (ap shown_list e)) refl

  pub refused-done : (r : Refusal) (b : Listed) → a ≡ Err r → HandsOn r b → BytesDone g lent b lent
  refused-done r b e h = rw (handed-on b h) (done-by (Err r) lent (by-room (not_listed (number r)) (ap shown_list e)) refl)

  pub short-done : (n : ℕ) → a ≡ Ok (Some n) → room_of lent < n → BytesDone g lent (Err TooShort) lent
  short-done n e h = done-by (Err TooShort) lent (by-room (listed n) (ap shown_list e) ∙ rw (lt-ltb (room_of lent) n h)) refl

  module _ (n : ℕ) (e : a ≡ Ok (Some n)) where
    all_listed : list_answer_on (length blank_list) g ≡ listed n
    all_listed = sym d.answers ∙ ap shown_list e

    counted : n ≡ length (moves_on g)
    counted = (listed-clear g (length blank_list) n all_listed).1

    pub few : n ≤ most_moves
    few = let h : length (moves_on g) ≤ most_moves = unfold EveryListFits in (every-list-fits g) in omega (arith, h, counted)

    moves-are : ms ≡ map move_for (moves_on g) ++ drop n blank_list
    unfolding list_after
    moves-are = d.fills ∙ ap (λ (z : ListAnswer). filled_by z (map move_for (moves_on g)) blank_list) all_listed

    moves_long : length (map move_for (moves_on g)) ≡ n
    moves_long = length-map (moves_on g) move_for ∙ sym counted

    first-are : first_bytes ms n ≡ concat_map bytes_of (map move_for (moves_on g))
    first-are = ap (concat_map bytes_of) (ap (take n) moves-are ∙ ap (λ (k : ℕ). take k (map move_for (moves_on g) ++ drop n blank_list)) (sym moves_long)
        ∙ take-append_seam (map move_for (moves_on g)) (drop n blank_list))

    long-enough : n ≤ length ms
    long-enough =
        let l = ap length moves-are ∙ length-append (map move_for (moves_on g)) (drop n blank_list) in
        omega (arith, l, moves_long)

    pub fit-done : n ≤ room_of lent → BytesDone g lent (Ok (Some n)) (splice lent 0 (first_bytes ms n))
    unfolding splice
    fit-done h = done-by (Ok (Some n)) (splice lent 0 (first_bytes ms n)) (by-room (listed n) (ap shown_list e) ∙ rw (le-ltb (room_of lent) n h))
        (ap₂ (λ (xs : List ℕ) (k : ℕ). xs ++ drop k lent) first-are (zero-add (length (first_bytes ms n)) ∙ length-first ms n long-enough))
