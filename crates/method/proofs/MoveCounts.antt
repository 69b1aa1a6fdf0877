-- The move list is the shortest, the proof: any list of moves after which every block is settled has at least as many entries. Assumes
-- nothing.
use Prim.Native.Nat.{◌<◌, ◌≤◌, ℕ}
use borrow.Author.Tests.{eqb-true}
use lib.Dec.{eqb}
use lib.ListN.{length, length-map}
use mathlib.Core.Bool.{Bool, false, not, true}
use mathlib.Core.List.{List, [], ◌∷◌, map}
use mathlib.Core.Logic.{◌⊎◌, inl, inr}
use mathlib.Core.Path.{◌∙◌, ◌≡◌, ap, fun_ext, refl}
use native.Mathlib.Omega.{arith}
use Rattle.lists.specs.Tests.{In, any_below, count_below, elem, keep_if, numbers_below, one_if, sum_below}
use Rattle.lists.proofs.Bools.{and_l, and_r, eqb-self, never_true, not_is, split, tf}
use Rattle.lists.proofs.Counts.{all-below, below_all, count_none}
use Rattle.lists.proofs.Lists.{keep-in, map-in}
use Rattle.lists.proofs.Numbers.{count-in, length-concat, length-keep, lowest-once, sum-keep, sum_mono}
use Rattle.method.specs.MoveList.{origin_by}
use Rattle.method.specs.Changes.{Control}
use Rattle.method.specs.MoveList.{Entry, entry_at, is_origin, move_list, moves_of}
use Rattle.method.specs.Parameters.{Parameters}
use Rattle.method.specs.Rules.{View, newest_sites, settled, settled_at}
use Rattle.method.proofs.Invariant.{Form}
use Rattle.method.proofs.Laws.{Laws}
use Rattle.method.proofs.MoveList.{is_lowest, is_stray}
use Rattle.method.proofs.MoveRuns.{moved_all, moves-drop, moves-idle, moves-other-block, settled-in-place, settled_same}
use Rattle.method.proofs.Moves.{Idle}

-- The entries of a list that name block b.
abbrev named_by : ℕ → List Entry → List Entry
named_by b l = keep_if (λ e. eqb b e.block) l

at_most_one : (t : Bool) → one_if t ≤ 1
at_most_one true = omega arith
at_most_one false = omega arith

module _ (P : Parameters) (L : Laws P) (k : Control P) (form : Form P k) (v : View P) (i : Idle P L k v) where
  open P use {cards, blocks, held}

  -- ---- one block, and a list of moves that settles it
  module _ (l : List Entry) (b : ℕ) (done : settled_at P k (moved_all P L k l v) b ≡ true) where
    -- every card that holds it and is none of its newest sites has an entry
    stray-named : (c : ℕ) → c < cards → is_stray P k v b c ≡ true → In c (map (λ e. e.card) (named_by b l))
    stray-named c h s = map-in (λ e. e.card) (named_by b l) (entry_at b c) (keep-in (λ e. eqb b e.block) l (entry_at b c) (eqb-self b)
        (moves-drop P L k form l v i c b off (and_l (held (v c b)) (not (elem c (newest_sites P k b))) s)
        (never_true (held (moved_all P L k l v c b)) (λ z. tf (elem c (newest_sites P k b)) (settled-in-place P L k (moved_all P L k l v) (moves-idle P L k form l v i) b done c z).0 off))))
      where
        off : elem c (newest_sites P k b) ≡ false
        off = not_is (elem c (newest_sites P k b)) (and_r (held (v c b)) (not (elem c (newest_sites P k b))) s)

    -- a block that was not settled has an entry
    some-named : settled_at P k v b ≡ false → 1 ≤ length (named_by b l)
    some-named n = go (named_by b l) refl
      where
        go : (m : List Entry) → named_by b l ≡ m → 1 ≤ length m
        go (e ∷ m) p = omega arith
        go [] p = tf (settled_at P k (moved_all P L k l v) b) done (settled_same P L k v (moved_all P L k l v) b
            (moves-other-block P L k form l v i b (λ e m. never_true (eqb b e.block) (λ q. missing e (keep-in (λ e. eqb b e.block) l e q m)))) ∙ n)
          where
            missing : (e : Entry) → In e (named_by b l) → ⊥
            missing e m = rw p at m

    -- so it has as many entries as cards that it moves from
    block-fewest : count_below cards (is_origin P k v b) ≤ length (named_by b l)
    unfolding origin_by
    block-fewest = go (split (settled_at P k v b)) (split (any_below cards (is_stray P k v b)))
      where
        go : (settled_at P k v b ≡ true) ⊎ (settled_at P k v b ≡ false) → (any_below cards (is_stray P k v b) ≡ true) ⊎ (any_below cards (is_stray P k v b) ≡ false)
            → count_below cards (is_origin P k v b) ≤ length (named_by b l)
        go (inl e) a =
            let z : count_below cards (is_origin P k v b) ≡ 0 = eqb-true (count_below cards (is_origin P k v b)) 0
            (count_none cards (is_origin P k v b) ∙ all-below cards (λ c. not (is_origin P k v b c)) (λ c h. rw e)) in
            omega arith
        go (inr e) (inl a) =
            let f : count_below cards (is_origin P k v b) ≡ count_below cards (is_stray P k v b) = ap (count_below cards) (fun_ext (λ c. rw (e, a))) in
            let z : count_below cards (is_stray P k v b) ≤ length (map (λ x. x.card) (named_by b l)) = count-in cards (is_stray P k v b) (map (λ x. x.card) (named_by b l)) stray-named in
            let y : length (map (λ x. x.card) (named_by b l)) ≡ length (named_by b l) = length-map (named_by b l) (λ x. x.card) in
            omega arith
        go (inr e) (inr a) =
            let f : count_below cards (is_origin P k v b) ≡ count_below cards (is_lowest P v b) = ap (count_below cards) (fun_ext (λ c. rw (e, a))) in
            let z : 1 ≤ length (named_by b l) = some-named e in
            let y : count_below cards (is_lowest P v b) ≤ one_if (any_below cards (λ x. held (v x b))) = lowest-once cards (λ x. held (v x b)) in
            let u : one_if (any_below cards (λ x. held (v x b))) ≤ 1 = at_most_one (any_below cards (λ x. held (v x b))) in
            omega arith

  -- The moves of a block are as many as the cards that it moves from.
  length-moves : (b : ℕ) → length (moves_of P k v b) ≡ count_below cards (is_origin P k v b)
  unfolding moves_of
  length-moves b = length-map (keep_if (is_origin P k v b) (numbers_below cards)) (entry_at b) ∙ length-keep cards (is_origin P k v b)

  -- NO SHORTER LIST OF MOVES SETTLES EVERY BLOCK.
  pub fewest : (l : List Entry) → settled P k (moved_all P L k l v) ≡ true → length (move_list P k v) ≤ length l
  unfolding move_list settled
  fewest l done =
      let a : length (move_list P k v) ≡ sum_below (blocks k.setting) (λ b. length (moves_of P k v b)) = length-concat (blocks k.setting) (moves_of P k v) in
      let c : sum_below (blocks k.setting) (λ b. length (moves_of P k v b)) ≤ sum_below (blocks k.setting) (λ b. length (named_by b l)) =
      sum_mono (blocks k.setting) (λ b. length (moves_of P k v b)) (λ b. length (named_by b l)) each in
      let d : sum_below (blocks k.setting) (λ b. length (named_by b l)) ≤ length l = sum-keep (λ (e : Entry). e.block) (blocks k.setting) l in
      omega (arith, a, c, d)
    where
      each : (b : ℕ) → b < blocks k.setting → length (moves_of P k v b) ≤ length (named_by b l)
      each b h =
          let x = length-moves b in
          let y = block-fewest l b (below_all (blocks k.setting) (settled_at P k (moved_all P L k l v)) b done h) in
          omega (arith, x, y)
