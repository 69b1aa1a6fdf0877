-- A plan of an image: why the call is refused, the answer and the lent list after it, the n-th move. Assumes nothing.
use Prim.Native.Nat.{◌+◌, ◌-◌, ◌<◌, ◌≤◌, suc, zero, ℕ}
use borrow.Author.Tests.{ltb-false}
use lib.Dec.{ltb}
use lib.ListN.{get_or-eq_default, drop, get_or, length, length-append, length-map, take}
use mathlib.Core.Bool.{Bool, cond, false, true}
use lib.Seq.{take-length, take-suc}
use mathlib.Core.List.{List, [], ◌++◌, ◌∷◌, map, map-append}
use mathlib.Core.Logic.{◌≢◌, ◌⊎◌, inl, inr}
use mathlib.Core.Path.{◌∙◌, ◌≡◌, ap, refl, sym}
use native.Mathlib.Numerals.{add-one}
use native.Mathlib.Omega.{arith}
use Rattle.lists.specs.Tests.{concat_map, numbers_below}
use Rattle.lists.proofs.Bools.{split, tf}
use Rattle.lists.proofs.Lists.{concat-more}
use Rattle.lists.proofs.Numbers.{get_or-concat}
use Rattle.image.specs.Layout.{block_count}
use Rattle.mask.specs.Masks.{byte, members, size}
use Rattle.mask.proofs.Masks.{size-members}
use Rattle.method.specs.MoveList.{Entry, ListAnswer, any_move_locked, entry_at, list_answer, listed, no_list, not_listed}
use Rattle.method.specs.Rules.{refusal, state}
use Rattle.control_form.specs.ControlForm.{form_refusal}
use Rattle.control.specs.declared.Control.{Control}
use Rattle.cabinet_rules.specs.Cabinet.{cabinet}
use Rattle.cabinet_rules.specs.Images.{Image, control_in, refusal_by, refusal_on}
use Rattle.cabinet_rules.specs.MoveLists.{list_answer_on, list_refusal, moves_on, unless_refused_list}
use Rattle.promise.specs.Given.{Given, view_of}
use Rattle.promise.proofs.Finish.{form-row, refusal-rules}
use Rattle.promise.proofs.SharedRows.{state-rows}
use Rattle.std.specs.Prelude.{Option, Some, None, Result, Ok, Err, is_ok}
use Rattle.refusals.specs.Refusals.{number}
use Rattle.refusals.specs.declared.Refusal.{Refusal}
use Rattle.refusals.specs.declared.Refusal.TheVariants.{Stopped, List as TooShort}
use Rattle.refusals.proofs.HandedOn.{HandsOn, handed-on}
use Rattle.refusals.proofs.Numbers.{not-none}
use Rattle.move_list.specs.Plans.{Finds, Plans, first_moves, move_at, move_for, moves_at, moves_in, plan_answer}
use Rattle.move_list.specs.Promise.{Listed, ListDone, filled_by, list_after, shown_list}
use Rattle.move_list.specs.declared.Move.{Move}
use Rattle.move_list.specs.declared.Plan.{Plan}

-- ---- why the call is refused: by the rows of a state
rows-of-state : (g : Image) → list_refusal g ≡ refusal_on state g
unfolding refusal_by refusal
rows-of-state g = refl

pub plan-by-form : (g : Image) (r : Refusal) (a : Result (Option Plan) Refusal) → number r ≡ form_refusal g → HandsOn r a → Plans g a
plan-by-form g r a e h = rw (handed-on a h) (record { refusal_is = form-row state refl g (number r) e (not-none r) ∙ sym (rows-of-state g); finds = tt })

module _ (k : Control) (g : Image) (is : Given k g) where
  rows : list_refusal g ≡ refusal_on state g
  rows = rows-of-state g

  pub plan-stopped : k.stopped ≡ true → Plans g (Err Stopped)
  plan-stopped e = record {
    refusal_is = rw e at (state-rows k g is) ∙ sym (refusal-rules state refl g is.formed) ∙ sym rows;
    finds = tt;
  }

  pub plan-found : k.stopped ≡ false → (p : Option Plan) → Finds g p → Plans g (Ok p)
  plan-found e p f = record {
    refusal_is = (rw e at (state-rows k g is)) ∙ sym (refusal-rules state refl g is.formed) ∙ sym rows;
    finds = f;
  }

-- ---- the n-th move
-- The moves of the first b blocks are so many.
unfoldable pub moves_below : List ℕ → ℕ → ℕ
moves_below origins b = length (concat_map (moves_at origins) (numbers_below b))

get_or-map_lem : {A B : Type 0} (f : A → B) (l : List A) (i : ℕ) (d : B) (e : A) → i < length l → get_or (map f l) i d ≡ f (get_or l i e)
get_or-map_lem f [] i d e h = absurd (omega arith)
get_or-map_lem f (x ∷ l) zero d e h = refl
get_or-map_lem f (x ∷ l) (suc i) d e h = get_or-map_lem f l i d e (omega arith)

length-moves : (origins : List ℕ) (b : ℕ) → length (moves_at origins b) ≡ size (byte (get_or origins b 0))
length-moves origins b = length-map (members (byte (get_or origins b 0))) (entry_at b) ∙ size-members (byte (get_or origins b 0))

pub none_below : (origins : List ℕ) (n : ℕ) → n ≡ moves_below origins 0 + n
unfolding moves_below
none_below origins n = omega arith

-- one block further
pub below_next : (origins : List ℕ) (n b left here : ℕ) → n ≡ moves_below origins b + left → here ≡ size (byte (get_or origins b 0)) → here ≤ left
    → n ≡ moves_below origins (b + 1) + (left - here)
unfolding moves_below
below_next origins n b left here e h le =
    let z : moves_below origins (b + 1) ≡ moves_below origins b + here =
    ap (moves_below origins) (add-one b) ∙ ap length (concat-more (moves_at origins) (numbers_below b) b)
    ∙ length-append (concat_map (moves_at origins) (numbers_below b)) (moves_at origins b) ∙ ap (λ (k : ℕ). moves_below origins b + k) (length-moves origins b ∙ sym h) in
    omega (arith, z, e, le)

-- a move of this block
pub move-here : (origins : List ℕ) (n b left : ℕ) → b < block_count → n ≡ moves_below origins b + left → left < size (byte (get_or origins b 0))
    → record { 0 = record { 0 = get_or (members (byte (get_or origins b 0))) left 0 }; 1 = record { 0 = b } } ≡ move_at (moves_in origins) n
unfolding moves_below moves_in move_at
move-here origins n b left hb e h =
    let l : left < length (moves_at origins b) = rw (length-moves origins b) h in
    let i : left < length (members (byte (get_or origins b 0))) = rw (size-members (byte (get_or origins b 0))) h in
    sym (ap (λ (k : ℕ). move_at (moves_in origins) k) e
    ∙ ap move_for (get_or-concat (moves_at origins) block_count b left (entry_at 0 0) hb l ∙ get_or-map_lem (entry_at b) (members (byte (get_or origins b 0))) left (entry_at 0 0) 0 i))

-- there are no more
pub move-beyond : (origins : List ℕ) (n b left : ℕ) → b ≡ block_count → n ≡ moves_below origins b + left → move_for (entry_at 0 0) ≡ move_at (moves_in origins) n
unfolding moves_below moves_in move_at
move-beyond origins n b left hb e =
    let z : n ≡ moves_below origins block_count + left = e ∙ ap (λ (k : ℕ). moves_below origins k + left) hb in
    sym (ap move_for (get_or-eq_default (moves_in origins) (entry_at 0 0) (omega (arith, z))))

-- ---- the answer, and the lent list after it
-- the first moves, as many as there are, are all
first_taken : (l : List Entry) (n : ℕ) → n ≤ length l → first_moves l n ≡ map move_for (take n l)
unfolding move_at
first_taken l zero h = refl
first_taken l (suc n) h =
    ap (λ (r : List Move). r ++ (move_at l n ∷ [])) (first_taken l n (omega arith))
    ∙ sym (ap (map move_for) (take-suc l n (entry_at 0 0) (omega arith)) ∙ map-append move_for (take n l) (get_or l n (entry_at 0 0) ∷ []))

first-all : (l : List Entry) (n : ℕ) → n ≡ length l → first_moves l n ≡ map move_for l
first-all l n e = first_taken l n (omega (arith, e)) ∙ ap (λ (k : ℕ). map move_for (take k l)) e ∙ ap (map move_for) (take-length l)

-- the number in a result and its refusal, and others where it is the other
abbrev or-zero : Result ℕ Refusal → ℕ
or-zero (Ok n) = n
or-zero (Err r) = 0

abbrev or-short : Result ℕ Refusal → Refusal
or-short (Ok n) = TooShort
or-short (Err r) = r

-- what is listed is the number of moves, and there is room for them
pub listed-whole : (p : Plan) (room n : ℕ) → Ok n ≡ plan_answer p room → (n ≡ p.count) × (ltb room p.count ≡ false)
unfolding plan_answer
listed-whole p room n e = go (split (ltb room p.count))
  where
    go : (ltb room p.count ≡ true) ⊎ (ltb room p.count ≡ false) → (n ≡ p.count) × (ltb room p.count ≡ false)
    go (inl t) = let m : plan_answer p room ≡ Err TooShort = rw t in tf true refl (ap (λ (x : Result ℕ Refusal). is_ok x) (e ∙ m))
    go (inr t) = let m : plan_answer p room ≡ Ok p.count = rw t in (ap or-zero (e ∙ m), t)

pub listed-short : (p : Plan) (room : ℕ) (r : Refusal) → Err r ≡ plan_answer p room → (r ≡ TooShort) × (ltb room p.count ≡ true)
unfolding plan_answer
listed-short p room r e = go (split (ltb room p.count))
  where
    go : (ltb room p.count ≡ true) ⊎ (ltb room p.count ≡ false) → (r ≡ TooShort) × (ltb room p.count ≡ true)
    go (inl t) = let m : plan_answer p room ≡ Err TooShort = rw t in (ap or-short (e ∙ m), t)
    go (inr t) = let m : plan_answer p room ≡ Ok p.count = rw t in tf true refl (sym (ap (λ (x : Result ℕ Refusal). is_ok x) (e ∙ m)))

-- ---- the promise of the call, by what was found
module _ (g : Image) (lent : List Move) where
  abbrev room : ℕ
  room = length lent

  -- from what the code answers, where the rules answer the same
  done-by : (a : Listed) (filled : List Move) → list_answer_on room g ≡ shown_list a → filled ≡ filled_by (shown_list a) (map move_for (moves_on g)) lent → ListDone g lent a filled
  unfolding list_after
  done-by a filled l f = record { answers = sym l; fills = f ∙ sym (ap (λ (z : ListAnswer). filled_by z (map move_for (moves_on g)) lent) l) }

  pub refused-done : (r : Refusal) (a : Listed) → number r ≡ list_refusal g → HandsOn r a → ListDone g lent a lent
  unfolding list_answer_on
  refused-done r a e h = rw (handed-on a h) (done-by (Err r) lent
      (ap (λ (n : ℕ). unless_refused_list n (list_answer cabinet (control_in g) (view_of g) room)) (sym e) ∙ go (number r) (not-none r)) refl)
    where
      go : (n : ℕ) → n ≢ 0 → unless_refused_list n (list_answer cabinet (control_in g) (view_of g) room) ≡ not_listed n
      go zero d = absurd (d refl)
      go (suc n) d = refl

  module _ (clear : 0 ≡ list_refusal g) where
    by-rules : (locked : Bool) → locked ≡ any_move_locked cabinet (control_in g) (view_of g)
        → list_answer_on room g ≡ cond locked no_list (cond (ltb room (length (moves_on g))) (not_listed 16) (listed (length (moves_on g))))
    unfolding list_answer_on list_answer
    by-rules locked e = rw (sym clear)
        (ap (λ (t : Bool). cond t no_list (cond (ltb room (length (moves_on g))) (not_listed 16) (listed (length (moves_on g))))) (sym e))

    pub locked-done : Finds g None → ListDone g lent (Ok None) lent
    locked-done f = done-by (Ok None) lent (by-rules true f.locked-is) refl

    module _ (p : Plan) (f : Finds g (Some p)) where
      by_count : list_answer_on room g ≡ cond (ltb room p.count) (not_listed 16) (listed p.count)
      by_count = by-rules false f.locked-is ∙ ap (λ (n : ℕ). cond (ltb room n) (not_listed 16) (listed n)) (sym f.count-is)

      pub short-done : (r : Refusal) (a : Listed) → Err r ≡ plan_answer p room → HandsOn r a → ListDone g lent a lent
      short-done r a e h =
          let s = listed-short p room r e in
          rw (handed-on a h, s.0) (done-by (Err TooShort) lent (by_count ∙ rw s.1) refl)

      pub filled-done : (n : ℕ) → Ok n ≡ plan_answer p room → (filled : List Move) → filled ≡ first_moves (moves_in p.origins) n ++ drop n lent
          → ListDone g lent (Ok (Some p.count)) filled
      filled-done n e filled l =
          let s = listed-whole p room n e in
          done-by (Ok (Some p.count)) filled (by_count ∙ rw s.1)
          (l ∙ ap (λ (m : ℕ). first_moves (moves_in p.origins) m ++ drop m lent) s.0
          ∙ ap (λ (l : List Move). l ++ drop p.count lent)
          (first-all (moves_in p.origins) p.count (f.count-is ∙ ap length (sym f.moves-are)) ∙ ap (map move_for) f.moves-are))

-- no more are listed than there is room for
pub listed-le : (p : Plan) (room n : ℕ) → Ok n ≡ plan_answer p room → n ≤ room
listed-le p room n e =
    let s = listed-whole p room n e in
    omega (arith, s.0, ltb-false room p.count s.1)
