-- The move list on images, the proofs: its moves settle, no shorter list does, 'none' is answered exactly where one of them is locked, and
-- is then final. Assumes nothing.
use Prim.Native.Nat.{suc, zero, ℕ}
use lib.ListN.{length}
use mathlib.Core.Bool.{Bool, cond, false, true}
use mathlib.Core.List.{List, [], ◌∷◌}
use mathlib.Core.Path.{◌∙◌, ◌≡◌, ap, ap₂, refl, subst, sym}
use native.Mathlib.Omega.{arith}
use Rattle.method.specs.OneRecordList.{plain_after, rules_after, zeroed}
use Rattle.method.specs.MoveList.{Entry, ListAnswer, any_move_locked, as_move, list_answer, listed, no_list, not_listed}
use Rattle.method.specs.PlainList.{PlainList, plain_start}
use Rattle.method.specs.Rules.{Answer, Call, State, View, look, refused, retired, settle, settled, start}
use Rattle.method.proofs.MoveCounts.{fewest}
use Rattle.method.proofs.MoveList.{is_none, list-settled, listed-is, locked-move, move-locked, none-final, none_is}
use Rattle.method.proofs.MoveRuns.{move-beside, moved_all, settle-says}
use Rattle.method.proofs.Moves.{moved, moved-idle}
use Rattle.method.proofs.Run.{beside-answer}
use Rattle.control.specs.ControlBytes.{Part}
use Rattle.cabinet_rules.specs.Cabinet.{cabinet}
use Rattle.cabinet_rules.specs.Claims.{NoisyCall, image_after, image_after_by, image_calls, noisy}
use Rattle.cabinet_rules.specs.Delivery.{current}
use Rattle.cabinet_rules.specs.Images.{Image, answer, control_in, next, state_by, state_in}
use Rattle.cabinet_rules.specs.MoveLists.{AreMoves, ListSettles, NeverSettles, NoShorterList, NoneByLock, NoneIsFinal}
use Rattle.cabinet_rules.specs.MoveLists.{NoneIsFinalFromEarlier, list_answer_on, list_refusal, moves_on, unless_refused_list}
use Rattle.cabinet_rules.proofs.Earlier.{earlier-sound}
use Rattle.cabinet_rules.proofs.Form.{current_laws}
use Rattle.cabinet_rules.proofs.PlacingLaws.{lawful}
use Rattle.cabinet_rules.proofs.Running.{running-image, running-shows}
use Rattle.cabinet_rules.proofs.Shows.{Shows, answer-shows, next-shows, noise-shows}
use Rattle.cabinet_rules.proofs.Sound.{Sound, sound-after, sound-shows, start-sound}

-- ---- moves on an image that shows a running store
-- The first call of a list, and the calls behind it.
head_of : Call cabinet → List (Call cabinet) → Call cabinet
head_of d [] = d
head_of d (c ∷ l) = c

tail_of : List (Call cabinet) → List (Call cabinet)
tail_of [] = []
tail_of (c ∷ l) = l

-- The image after a move, with any noise before it, shows the same control part, and the view after the move.
pub move-shows : (g : Image) (k : Part) (v : View cabinet) → Shows current current_laws g k v → (e : Entry)
    → Shows current current_laws (next (as_move cabinet e) g) k (moved cabinet lawful k e.card e.block v)
move-shows g k v s e =
    next-shows current current_laws (as_move cabinet e) g k k v (moved cabinet lawful k e.card e.block v) s s.form s.full
    (moved-idle cabinet lawful k s.form v s.idle e.card e.block) (move-beside cabinet lawful (state_in g) k v s.beside e)

-- After a list of moves it shows the view after them.
moves-show : (l : List NoisyCall) (entries : List Entry) → AreMoves l entries → (g : Image) (k : Part) (v : View cabinet)
    → Shows current current_laws g k v → Shows current current_laws (image_after l g) k (moved_all cabinet lawful k entries v)
unfolding image_after_by moved_all head_of tail_of
moves-show [] [] a g k v s = s
moves-show [] (e ∷ entries) a g k v s = let z : ◌≡◌ {A = ℕ} 0 1 = cc in absurd (omega arith)
moves-show (c ∷ l) [] a g k v s = let z : ◌≡◌ {A = ℕ} 0 1 = cc in absurd (omega arith)
moves-show (c ∷ l) (e ∷ entries) a g k v s =
    let w : View cabinet = moved cabinet lawful k e.card e.block v in
    moves-show l entries (ap tail_of a) (next c.1 (noisy c.0 g)) k w
    (subst (λ (x : Call cabinet). Shows current current_laws (next x (noisy c.0 g)) k w) (sym (ap (head_of settle) a))
    (move-shows (noisy c.0 g) k v (noise-shows current current_laws c.0 g k v s) e))

-- What settle answers there.
pub settle-shown : (g : Image) (k : Part) (v : View cabinet) → Shows current current_laws g k v → (noise : ℕ → ℕ)
    → answer settle (noisy noise g) ≡ cond (settled cabinet k v) (retired (length k.older)) (refused 13)
settle-shown g k v s noise =
    let t = noise-shows current current_laws noise g k v s in
    answer-shows current current_laws settle (noisy noise g) k v t ∙ beside-answer cabinet lawful (state_in (noisy noise g)) k v t.beside settle
    ∙ settle-says cabinet lawful k v s.form.base.running

-- ---- the answer
-- One that is no refusal is given where rows 1, 2 and 4 do not apply.
not-refused : (n : ℕ) (a x : ListAnswer) → ((m : ℕ) → not_listed m ≡ x → ⊥) → unless_refused_list n a ≡ x → (n ≡ 0) × (a ≡ x)
not-refused zero a x other e = (refl, e)
not-refused (suc n) a x other e = absurd (other (suc n) e)

no_number : (n m : ℕ) → not_listed m ≡ listed n → ⊥
no_number n m e = let z : ◌≡◌ {A = ℕ} 0 1 = cc in omega arith

no_none : (m : ℕ) → not_listed m ≡ no_list → ⊥
no_none m e = let z : ◌≡◌ {A = ℕ} 0 1 = cc in omega arith

-- ---- an image of which moves are listed, or 'none' is said
module _ (g : Image) (room : ℕ) where
  answer-clear : (x : ListAnswer) → ((m : ℕ) → not_listed m ≡ x → ⊥) → list_answer_on room g ≡ x
      → (list_refusal g ≡ 0) × (list_answer cabinet (control_in g) (look cabinet (state_in g)) room ≡ x)
  unfolding list_answer_on
  answer-clear x other e = not-refused (list_refusal g) (list_answer cabinet (control_in g) (look cabinet (state_in g)) room) x other e

  -- None of its moves is locked, and the number is theirs.
  listed-moves : (n : ℕ) → list_answer_on room g ≡ listed n
      → (list_refusal g ≡ 0) × (any_move_locked cabinet (control_in g) (look cabinet (state_in g)) ≡ false) × (n ≡ length (moves_on g))
  listed-moves n e =
      let a = answer-clear (listed n) (no_number n) e in
      let l = listed-is cabinet (control_in g) (look cabinet (state_in g)) room n a.1 in
      (a.0, l.0, l.1)

  pub listed-clear : (n : ℕ) → list_answer_on room g ≡ listed n → (list_refusal g ≡ 0) × (n ≡ length (moves_on g))
  listed-clear n e = let a = listed-moves n e in (a.0, a.2)

  -- One of its moves is locked.
  pub none-clear : list_answer_on room g ≡ no_list → (list_refusal g ≡ 0) × (any_move_locked cabinet (control_in g) (look cabinet (state_in g)) ≡ true)
  none-clear e =
      let a = answer-clear no_list no_none e in
      (a.0, none_is cabinet (control_in g) (look cabinet (state_in g)) room a.1)

-- It shows a running store.
here : (g : Image) → list_refusal g ≡ 0 → Shows current current_laws g (control_in g) (look cabinet (state_in g))
here g clear = running-shows g (running-image g clear)

-- After exactly these moves settle succeeds.
pub list-settles : ListSettles
unfolding ListSettles
list-settles g room n e l a noise =
    let k : Part = control_in g in
    let v : View cabinet = look cabinet (state_in g) in
    let a' = listed-moves g room n e in
    let s = here g a'.0 in
    settle-shown (image_after l g) k (moved_all cabinet lawful k _ v) (moves-show l _ a g k v s) noise
    ∙ ap (λ (t : Bool). cond t (retired (length k.older)) (refused 13)) (list-settled cabinet lawful k s.form v s.idle a'.1)

-- No shorter list does.
pub no-shorter-list : NoShorterList
unfolding NoShorterList
no-shorter-list g room n e l entries a noise m done =
    let k : Part = control_in g in
    let v : View cabinet = look cabinet (state_in g) in
    let a' = listed-moves g room n e in
    let s = here g a'.0 in
    let w : View cabinet = moved_all cabinet lawful k entries v in
    let least = fewest cabinet lawful k s.form v s.idle entries (met (settled cabinet k w) (sym (settle-shown (image_after l g) k w (moves-show l entries a g k v s) noise) ∙ done)) in
    omega (arith, a'.2, least)
  where
    met : (t : Bool) → ◌≡◌ {A = Answer cabinet} (cond t (retired (length (control_in g).older)) (refused 13)) (retired m) → t ≡ true
    met true q = refl
    met false q = let z : ◌≡◌ {A = ℕ} 0 1 = cc in absurd (omega arith)

-- ---- 'none'
-- It is answered exactly where one of the copies that would move has a locked record.
pub none-by-lock : NoneByLock
unfolding NoneByLock list_answer_on
none-by-lock g room clear =
    let k : Part = control_in g in
    let v : View cabinet = look cabinet (state_in g) in
    let given : unless_refused_list (list_refusal g) (list_answer cabinet k v room) ≡ list_answer cabinet k v room = ap (λ (n : ℕ). unless_refused_list n (list_answer cabinet k v room)) clear in (
      λ e. locked-move cabinet k v (none_is cabinet k v room (sym given ∙ e)),
      λ m. given ∙ is_none cabinet k v room (move-locked cabinet k v m),
    )

-- On an image that is beside the plain record list it is final.
final : (g : Image) (z : State cabinet) (q : PlainList cabinet) → Sound current current_laws g z q → (room : ℕ) → list_answer_on room g ≡ no_list → NeverSettles g
unfolding NeverSettles state_by
final g z q s room e l entries a noise =
    let k : Part = q.control in
    let v : View cabinet = s.ready.sees in
    let locked : any_move_locked cabinet k v ≡ true =
    sym (ap₂ (λ (x : Part) (y : View cabinet). any_move_locked cabinet x y) s.ready.store_beside.same-control s.ready.store_beside.same-look)
    ∙ (none-clear g room e).1 in
    settle-shown (image_after l g) k (moved_all cabinet lawful k entries v) (moves-show l entries a g k v (sound-shows current current_laws g z q s)) noise
    ∙ ap (λ (t : Bool). cond t (retired (length k.older)) (refused 13)) (none-final cabinet lawful k v q.records s.ready.inv locked entries)

-- So it is after an accepted start and any calls that did not stop the store.
pub none-is-final : NoneIsFinal
unfolding NoneIsFinal
none-is-final m before e l runs =
    final (image_after l (next (start m) before)) (rules_after cabinet (image_calls l) (zeroed cabinet m)) (plain_after cabinet (image_calls l) (zeroed cabinet m) (plain_start cabinet m))
    (sound-after current current_laws l (next (start m) before) (zeroed cabinet m) (plain_start cabinet m) (start-sound current current_laws m before e) runs)

-- And from a store that earlier deliveries left.
pub none-is-final-from-earlier : NoneIsFinalFromEarlier
unfolding NoneIsFinalFromEarlier
none-is-final-from-earlier s e l runs =
    final (image_after l s.image) (rules_after cabinet (image_calls l) s.rules) (plain_after cabinet (image_calls l) s.rules s.plain)
    (sound-after current current_laws l s.image s.rules s.plain (earlier-sound s e) runs)
