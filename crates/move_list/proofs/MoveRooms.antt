-- A list of so many entries has room for every list of moves; and the answer to a lent list of any room, from that to such a one. Assumes
-- nothing.
use Prim.Native.Nat.{◌+◌, ◌≤◌, suc, zero, ℕ}
use borrow.Author.Tests.{le-ltb}
use lib.Dec.{ltb}
use lib.ListN.{length, length-map}
use mathlib.Core.Bool.{Bool, cond, false, true}
use mathlib.Core.Path.{◌∙◌, ◌≡◌, ap, refl, subst, sym}
use native.Mathlib.Omega.{arith}
use Rattle.lists.specs.Tests.{count_below, keep_if, numbers_below, one_if}
use Rattle.lists.proofs.Numbers.{length-concat, length-keep, sum_mono}
use Rattle.image.specs.Layout.{block_count, card_count}
use Rattle.method.specs.MoveList.{ListAnswer, any_move_locked, entry_at, is_origin, list_answer, listed, move_list, moves_of, no_list, not_listed}
use Rattle.method.specs.Rules.{look}
use Rattle.cabinet_rules.specs.Cabinet.{cabinet}
use Rattle.cabinet_rules.specs.Images.{Image, control_in, state_in}
use Rattle.cabinet_rules.specs.MoveLists.{list_answer_on, list_refusal, moves_on, unless_refused_list}
use Rattle.move_list.specs.Promise.{EveryListFits, most_moves}

count_most : (n : ℕ) (f : ℕ → Bool) → count_below n f ≤ n
count_most zero f = omega arith
count_most (suc n) f = go (f n) (count_most n f)
  where
    go : (t : Bool) → count_below n f ≤ n → one_if t + count_below n f ≤ suc n
    go true h = omega arith
    go false h = omega arith

-- no block moves from more cards than there are, so no list is longer than every block from every card
module _ (g : Image) where
  few-of-block : (b : ℕ) → length (moves_of cabinet (control_in g) (look cabinet (state_in g)) b) ≤ card_count
  unfolding moves_of
  few-of-block b =
      let origin : ℕ → Bool = is_origin cabinet (control_in g) (look cabinet (state_in g)) b in
      let h = count_most card_count origin in
      let e = length-map (keep_if origin (numbers_below card_count)) (entry_at b) ∙ length-keep card_count origin in
      omega (arith, h, e)

  few-moves : length (moves_on g) ≤ most_moves
  unfolding move_list
  few-moves = subst (λ (n : ℕ). n ≤ most_moves) (sym (length-concat block_count (moves_of cabinet (control_in g) (look cabinet (state_in g)))))
      (sum_mono block_count (λ b. length (moves_of cabinet (control_in g) (look cabinet (state_in g)) b)) (λ b. card_count) (λ b h. few-of-block b))

pub every-list-fits : EveryListFits
unfolding EveryListFits
every-list-fits = few-moves

-- The answer to a list of this room, of one that has room for every list of moves.
abbrev pub by_room : ℕ → ListAnswer → ListAnswer
by_room room (listed n) = cond (ltb room n) (not_listed 16) (listed n)
by_room room no_list = no_list
by_room room (not_listed n) = not_listed n

pub any-room : (g : Image) (room : ℕ) → list_answer_on room g ≡ by_room room (list_answer_on most_moves g)
unfolding list_answer_on list_answer
any-room g room = go (list_refusal g) (any_move_locked cabinet (control_in g) (look cabinet (state_in g))) (ltb most_moves (length (moves_on g))) (le-ltb most_moves (length (moves_on g)) (few-moves g))
  where
    go : (r : ℕ) (l t : Bool) → t ≡ false → unless_refused_list r (cond l no_list (cond (ltb room (length (moves_on g))) (not_listed 16) (listed (length (moves_on g)))))
        ≡ by_room room (unless_refused_list r (cond l no_list (cond t (not_listed 16) (listed (length (moves_on g))))))
    go (suc r) l t e = refl
    go zero true t e = refl
    go zero false true e = absurd (true≢ e)
      where
        true≢ : true ≡ false → ⊥
        true≢ e = let z : ◌≡◌ {A = ℕ} 0 1 = ap (λ (b : Bool). cond b 0 1) e in omega arith
    go zero false false e = refl
