-- What a list of moves is worth to a caller: the calls answer as the rules do on images, so its moves let settle succeed and no fewer do. Assumes
-- nothing.
use Rattle.std.specs.Prelude.{Ok, Some}
use Prim.Native.Nat.{ℕ}
use lib.ListN.{drop, length, length-map, take}
use lib.Seq.{take-append_seam}
use mathlib.Core.List.{List, [], ◌++◌, ◌∷◌, map}
use mathlib.Core.Path.{◌∙◌, ◌≡◌, ap, refl, sym}
use native.Mathlib.Omega.{arith}
use Rattle.method.specs.MoveList.{Entry, ListAnswer, as_move, entry_at}
use Rattle.method.specs.Rules.{Call, look}
use Rattle.method.specs.Rules.{settle}
use Rattle.cabinet_rules.specs.Cabinet.{cabinet}
use Rattle.cabinet_rules.specs.Claims.{image_after, noisy}
use Rattle.cabinet_rules.specs.Images.{Image, answer, control_in, state_in}
use Rattle.cabinet_rules.specs.MoveLists.{AreMoves, ListSettles, NoShorterList}
use Rattle.cabinet_rules.specs.MoveLists.{list_refusal, moves_on}
use Rattle.cabinet_rules.proofs.MoveLists.{list-settles, listed-clear, no-shorter-list}
use Rattle.cabinet_rules.proofs.Running.{running-image, running-shows}
use Rattle.move_list.specs.Plans.{move_for}
use Rattle.move_list.specs.Promise.{ListDone, filled_by, list_after}
use Rattle.move_list.specs.declared.Move.{Move}
use Rattle.promise.specs.Promise.{Answered, shown}
use Rattle.promise.specs.declared.Answer.TheVariants.{Retired}
use Rattle.store.specs.MoveList.{ListedMovesSettle, MovesThenSettle, NoShorterMoves}
use Rattle.store.specs.MoveList.{move_of}
use Rattle.store.specs.Runs.{memory_after, run_calls}
use Rattle.store.proofs.MoveRuns.{calls-given, given, moves-show, settle-same}

-- ---- moves and then a settle, as the rules are given them
-- An entry of the rules for one of the code's.
pub rule_entry : Move → Entry
rule_entry m = entry_at m.1.0 m.0.0

entries-move : (l : List Move) → map move_of l ≡ map (as_move cabinet) (map rule_entry l)
unfolding rule_entry
entries-move [] = refl
entries-move (m ∷ l) = ap (λ (t : List (Call cabinet)). move_of m ∷ t) (entries-move l)

moves-back : (l : List Entry) → map move_of (map move_for l) ≡ map (as_move cabinet) l
moves-back [] = refl
moves-back (e ∷ l) = ap (λ (t : List (Call cabinet)). as_move cabinet e ∷ t) (moves-back l)

module _ (g : Image) (clear : list_refusal g ≡ 0) (entries : List Move) (said : Answered) (t : MovesThenSettle g entries said) where
  pub given-moves : AreMoves (given (run_calls t.moves)) (map rule_entry entries)
  given-moves = calls-given (run_calls t.moves) ∙ t.are-moves ∙ entries-move entries

  pub settle-given : shown said ≡ answer settle (noisy t.noise (image_after (given (run_calls t.moves)) g))
  settle-given =
      let s = running-shows g (running-image g clear) in
      let h = moves-show (control_in g) t.moves (map rule_entry entries) (t.are-moves ∙ entries-move entries) g g (look cabinet (state_in g)) s s t.ran in
      t.settles.answers ∙ settle-same (control_in g) t.noise (memory_after t.moves g) (image_after (given (run_calls t.moves)) g) h.0 h.1 h.2

-- The first entries of the list as filled are the moves.
filled-moves : (g : Image) (lent filled : List Move) (n : ℕ) → ListDone g lent (Ok (Some n)) filled → map move_of (take n filled) ≡ map (as_move cabinet) (moves_on g)
unfolding list_after
filled-moves g lent filled n d =
    let long : n ≡ length (map move_for (moves_on g)) = (listed-clear g (length lent) n (sym d.answers)).1 ∙ sym (length-map (moves_on g) move_for) in
    ap (λ (l : List Move). map move_of (take n l)) (d.fills ∙ ap (λ (a : ListAnswer). filled_by a (map move_for (moves_on g)) lent) (sym d.answers))
    ∙ ap (λ (i : ℕ). map move_of (take i (map move_for (moves_on g) ++ drop n lent))) long
    ∙ ap (map move_of) (take-append_seam (map move_for (moves_on g)) (drop n lent)) ∙ moves-back (moves_on g)

pub listed-moves-settle : ListedMovesSettle
unfolding ListedMovesSettle ListSettles
listed-moves-settle g lent filled n d said t =
    settle-given g (listed-clear g (length lent) n (sym d.answers)).0 (take n filled) said t
    ∙ list-settles g (length lent) n (sym d.answers) (given (run_calls t.moves)) (calls-given (run_calls t.moves) ∙ t.are-moves ∙ filled-moves g lent filled n d) t.noise

pub no-shorter-moves : NoShorterMoves
unfolding NoShorterMoves NoShorterList
no-shorter-moves g lent filled n d entries m t =
    let clear = (listed-clear g (length lent) n (sym d.answers)).0 in
    let least = no-shorter-list g (length lent) n (sym d.answers) (given (run_calls t.moves)) (map rule_entry entries) (given-moves g clear entries (Ok (Retired m)) t) t.noise m
    (sym (settle-given g clear entries (Ok (Retired m)) t)) in
    omega (arith, least, length-map entries rule_entry)
