-- The move list, the proofs: its moves settle every block, and 'none' is answered exactly where one of them is locked and then no list of
-- moves settles. Assumes nothing.
use Prim.Native.Nat.{◌<◌, ℕ}
use borrow.Author.Tests.{ltb-true}
use lib.Dec.{eqb, ltb}
use lib.ListN.{length}
use mathlib.Core.Bool.{Bool, ◌&&◌, cond, false, not, true}
use mathlib.Core.List.{List, map}
use mathlib.Core.Logic.{◌⊎◌, inl, inr}
use mathlib.Core.Path.{◌∙◌, ◌≡◌, ap, refl, subst, sym}
use native.Mathlib.Omega.{arith}
use Rattle.lists.specs.Tests.{In, any_below, elem, keep_if, numbers_below}
use Rattle.lists.proofs.Bools.{and_in, and_l, and_r, is-not, not_is, split, tf}
use Rattle.lists.proofs.Counts.{all-below, all-fails, any_below_lem, any-below-out, below_none}
use Rattle.lists.proofs.Lists.{any-in, any_none, any_out, concat-in, concat-out, in-keep, in_map, keep-in, map-in}
use Rattle.lists.proofs.Numbers.{below_in, in-below, lowest-below}
use Rattle.method.specs.MoveList.{lowest_by, origin_by, stray_by}
use Rattle.method.specs.Changes.{Control}
use Rattle.method.specs.MoveList.{Entry, LockedMove, any_move_locked, entry_at, is_origin}
use Rattle.method.specs.MoveList.{list_answer, listed, move_list, moves_of, no_list, not_listed}
use Rattle.method.specs.Parameters.{Parameters}
use Rattle.method.specs.Rules.{View, any_locked, newest_sites, settled, settled_at}
use Rattle.method.specs.Slots.{Slot}
use Rattle.method.proofs.Invariant.{Form, Invariant, held-seen, works-b}
use Rattle.method.proofs.Laws.{Laws}
use Rattle.method.proofs.MoveRuns.{in-place-settles, moved_all, moves-come, moves-hold, moves-in-place, moves-locked}
use Rattle.method.proofs.MoveRuns.{moves-no-new, settled-in-place, settled_same}
use Rattle.method.proofs.Moves.{Complete, Idle, InPlace}

-- ---- the entries of the list
-- A card that holds the block and is none of its newest sites; the lowest that holds it.
abbrev pub is_stray : (P : Parameters) → Control P → View P → ℕ → ℕ → Bool
is_stray P k v b = stray_by (newest_sites P k b) (λ x. Parameters.held P (v x b))

abbrev pub is_lowest : (P : Parameters) → View P → ℕ → ℕ → Bool
is_lowest P v b = lowest_by (λ x. Parameters.held P (v x b))

module _ (P : Parameters) (k : Control P) (v : View P) where
  open P use {cards, blocks, held}

  -- An entry of the list names a card and a block in range, and the block moves from the card.
  pub listed-entry : (e : Entry) → In e (move_list P k v) → (e.card < cards) × (e.block < blocks k.setting) × (is_origin P k v e.block e.card ≡ true)
  unfolding move_list moves_of
  listed-entry e m =
      let j = concat-out (λ b. map (entry_at b) (keep_if (is_origin P k v b) (numbers_below cards))) (numbers_below (blocks k.setting)) e m in
      let t = in_map (entry_at j.0) (keep_if (is_origin P k v j.0) (numbers_below cards)) e j.2 in
      let s = in-keep (is_origin P k v j.0) (numbers_below cards) t.0 t.1 in
      subst (λ (y : Entry). (y.card < cards) × (y.block < blocks k.setting) × (is_origin P k v y.block y.card ≡ true)) (sym t.2)
      (in-below cards t.0 s.1, in-below (blocks k.setting) j.0 j.1, s.0)

  -- And every such card and block is an entry.
  pub entry_listed : (c b : ℕ) → c < cards → b < blocks k.setting → is_origin P k v b c ≡ true → In (entry_at b c) (move_list P k v)
  unfolding move_list moves_of
  entry_listed c b hc hb e =
      concat-in (λ b. map (entry_at b) (keep_if (is_origin P k v b) (numbers_below cards))) (numbers_below (blocks k.setting)) (entry_at b c) b (below_in (blocks k.setting) b hb)
      (map-in (entry_at b) (keep_if (is_origin P k v b) (numbers_below cards)) c (keep-in (is_origin P k v b) (numbers_below cards) c e (below_in cards c hc)))

  -- A card that a block moves from holds it.
  pub origin-holds : (b c : ℕ) → is_origin P k v b c ≡ true → held (v c b) ≡ true
  unfolding origin_by
  origin-holds b c e = go (any_below cards (is_stray P k v b)) (and_r (not (settled_at P k v b)) (cond (any_below cards (is_stray P k v b)) (is_stray P k v b c) (is_lowest P v b c)) e)
    where
      go : (t : Bool) → cond t (is_stray P k v b c) (is_lowest P v b c) ≡ true → held (v c b) ≡ true
      go true h = and_l (held (v c b)) (not (elem c (newest_sites P k b))) h
      go false h = and_l (held (v c b)) (not (any_below c (λ x. held (v x b)))) h

  -- A block that moves from a card is not settled.
  pub origin-unsettled : (b c : ℕ) → is_origin P k v b c ≡ true → settled_at P k v b ≡ false
  unfolding origin_by
  origin-unsettled b c e = not_is (settled_at P k v b) (and_l (not (settled_at P k v b)) (cond (any_below cards (is_stray P k v b)) (is_stray P k v b c) (is_lowest P v b c)) e)

  -- Where the test of the list finds a lock, a block that must still move has it on a card that it would move from.
  pub locked-move : any_move_locked P k v ≡ true → LockedMove P k v
  unfolding any_move_locked
  locked-move e =
      let t = any_out (λ x. any_locked P (v x.card x.block)) (move_list P k v) e in
      let z = listed-entry t.0 t.1 in
      record { card = t.0.card; block = t.0.block; is-card = z.0; is_block = z.1; moves_from = z.2; locked-there = t.2 }

  -- And where a block has such a lock, the test finds it.
  pub move-locked : LockedMove P k v → any_move_locked P k v ≡ true
  unfolding any_move_locked
  move-locked m = any-in (λ x. any_locked P (v x.card x.block)) (move_list P k v) (entry_at m.block m.card)
      (entry_listed m.card m.block m.is-card m.is_block m.moves_from) m.locked-there

-- ---- the answer, read back
module _ (P : Parameters) (k : Control P) (v : View P) (room : ℕ) where
  -- Where a move of the list is locked 'none' is answered, whatever the room.
  pub is_none : any_move_locked P k v ≡ true → list_answer P k v room ≡ no_list
  unfolding list_answer
  is_none e = rw e

  -- 'None' is answered only there.
  pub none_is : list_answer P k v room ≡ no_list → any_move_locked P k v ≡ true
  unfolding list_answer
  none_is e = go (any_move_locked P k v) (ltb room (length (move_list P k v))) e
    where
      go : (t r : Bool) → cond t no_list (cond r (not_listed 16) (listed (length (move_list P k v)))) ≡ no_list → t ≡ true
      go true r h = refl
      go false true h = let z : ◌≡◌ {A = ℕ} 0 1 = cc in absurd (omega arith)
      go false false h = let z : ◌≡◌ {A = ℕ} 0 1 = cc in absurd (omega arith)

  -- Moves are listed where none of them is locked, and the number is theirs.
  pub listed-is : (n : ℕ) → list_answer P k v room ≡ listed n → (any_move_locked P k v ≡ false) × (n ≡ length (move_list P k v))
  unfolding list_answer
  listed-is n e = go (any_move_locked P k v) (ltb room (length (move_list P k v))) refl e
    where
      go : (t r : Bool) → any_move_locked P k v ≡ t → cond t no_list (cond r (not_listed 16) (listed (length (move_list P k v)))) ≡ listed n → (any_move_locked P k v ≡ false) × (n ≡ length (move_list P k v))
      go true r p h = let z : ◌≡◌ {A = ℕ} 0 1 = cc in absurd (omega arith)
      go false true p h = let z : ◌≡◌ {A = ℕ} 0 1 = cc in absurd (omega arith)
      go false false p h = (p, cc)

module _ (P : Parameters) (L : Laws P) where
  open P use {cards, slots, blocks, block_of, place_of, has, held, slot}
  open L use {has-card, rec-at}

  module _ (k : Control P) (form : Form P k) (v : View P) (i : Idle P L k v) where
    in-range : (c b : ℕ) → held (v c b) ≡ true → (c < cards) × (b < blocks k.setting)
    in-range c b h =
        let s = held-seen P L k v i c b h in
        (has-card k.working c (and_l (has k.working c) (ltb b (blocks k.setting)) s), ltb-true b (blocks k.setting) (and_r (has k.working c) (ltb b (blocks k.setting)) s))

    -- A block that is not settled has a card that it moves from.
    pub some-origin : (b : ℕ) → settled_at P k v b ≡ false → (c : ℕ) × (is_origin P k v b c ≡ true)
    unfolding origin_by
    some-origin b n = go (split (any_below cards (is_stray P k v b))) (split (any_below cards (λ x. held (v x b))))
      where
        go : (any_below cards (is_stray P k v b) ≡ true) ⊎ (any_below cards (is_stray P k v b) ≡ false) → (any_below cards (λ x. held (v x b)) ≡ true) ⊎ (any_below cards (λ x. held (v x b)) ≡ false)
            → (c : ℕ) × ((not (settled_at P k v b) && cond (any_below cards (is_stray P k v b)) (is_stray P k v b c) (is_lowest P v b c)) ≡ true)
        go (inl p) q = let z = any-below-out cards (is_stray P k v b) p in (z.0, rw (n, p) z.2)
        go (inr p) (inl q) = let z = lowest-below cards (λ x. held (v x b)) q in (z.0, rw (n, p) z.2)
        go (inr p) (inr q) = tf (settled_at P k v b) (in-place-settles P L k v b (λ x h. tf (held (v x b)) h (below_none cards (λ y. held (v y b)) x q (in-range x b h).0))) n

    -- A card that holds such a block and is none of its newest sites is one.
    stray-origin : (b x : ℕ) → settled_at P k v b ≡ false → held (v x b) ≡ true → elem x (newest_sites P k b) ≡ false → is_origin P k v b x ≡ true
    unfolding origin_by
    stray-origin b x n h q =
        let s : is_stray P k v b x ≡ true = and_in (held (v x b)) (not (elem x (newest_sites P k b))) h (is-not (elem x (newest_sites P k b)) q) in
        let a : any_below cards (is_stray P k v b) ≡ true = any_below_lem cards (is_stray P k v b) x (in-range x b h).0 s in
        rw (n, a) s

    -- AFTER THE MOVES OF THE LIST EVERY BLOCK IS SETTLED, where none of them is locked.
    pub list-settles : any_move_locked P k v ≡ false → (b : ℕ) → settled_at P k (moved_all P L k (move_list P k v) v) b ≡ true
    unfolding any_move_locked
    list-settles free b = in-place-settles P L k w b (go (split (settled_at P k v b)))
      where
        l : List Entry
        l = move_list P k v

        w : View P
        w = moved_all P L k l v

        come : (c : ℕ) → is_origin P k v b c ≡ true → InPlace P L k w c b
        come c e =
            let h = origin-holds P k v b c e in
            let m = entry_listed P k v c b (in-range c b h).0 (in-range c b h).1 e in
            moves-come P L k form l v i c b (held-seen P L k v i c b h) (λ z. any_none (λ y. any_locked P (v y.card y.block)) l (entry_at b c) free m) m

        go : (settled_at P k v b ≡ true) ⊎ (settled_at P k v b ≡ false) → (x : ℕ) → InPlace P L k w x b
        go (inl e) = λ x. moves-in-place P L k form l v i x b (settled-in-place P L k v i b e x)
        go (inr n) = λ x h. site x h (split (elem x (newest_sites P k b)))
          where
            first : (c : ℕ) × (is_origin P k v b c ≡ true)
            first = some-origin b n

            all_there : (held (w first.0 b) ≡ true) ⊎ Complete P L k w b → Complete P L k w b
            all_there (inl h) = (come first.0 first.1 h).1
            all_there (inr h) = h

            complete : Complete P L k w b
            complete = all_there (moves-hold P L k form l v i first.0 b (inl (origin-holds P k v b first.0 first.1)))

            site : (x : ℕ) → held (w x b) ≡ true → (elem x (newest_sites P k b) ≡ true) ⊎ (elem x (newest_sites P k b) ≡ false) → (elem x (newest_sites P k b) ≡ true) × Complete P L k w b
            site x h (inl q) = (q, complete)
            site x h (inr q) = come x (stray-origin b x n (moves-no-new P L k form l v i x b q h) q) h

    -- So settle's condition is met.
    pub list-settled : any_move_locked P k v ≡ false → settled P k (moved_all P L k (move_list P k v) v) ≡ true
    unfolding settled
    list-settled free = all-below (blocks k.setting) (settled_at P k (moved_all P L k (move_list P k v) v)) (λ b h. list-settles free b)

  -- ---- a store that has the invariant
  module _ (k : Control P) (v : View P) (records : ℕ → Slot) (i : Invariant P k v records) where
    lock-of : (c b p : ℕ) → held (v c b) ≡ true → (r : ℕ) × (block_of r ≡ b) × (place_of r ≡ p) → (r : ℕ) × ((x : ℕ) → held (v x b) ≡ true → slot (v x b) p ≡ records r)
    lock-of c b p h (r, e, f) = (r, λ x z. let s : slot (v x b) (place_of r) ≡ records r = (i.each b (works-b P L k v records i c b h)).same x r z e in rw f at s)

    -- All copies of a block show the same locks: where one has a locked slot each has.
    pub locked-alike : (c b : ℕ) → held (v c b) ≡ true → any_locked P (v c b) ≡ true → (x : ℕ) → held (v x b) ≡ true → any_locked P (v x b) ≡ true
    unfolding any_locked
    locked-alike c b h e x z =
        let t = any-below-out slots (λ p. not (eqb (slot (v c b) p).lock 0)) e in
        let r = lock-of c b t.0 h (rec-at b t.0 t.1) in
        any_below_lem slots (λ p. not (eqb (slot (v x b) p).lock 0)) t.0 t.1 (ap (λ (s : Slot). not (eqb s.lock 0)) (r.1 x z ∙ sym (r.1 c h)) ∙ t.2)

    -- WHERE A MOVE OF THE LIST IS LOCKED NO LIST OF MOVES SETTLES EVERY BLOCK.
    pub none-final : any_move_locked P k v ≡ true → (l : List Entry) → settled P k (moved_all P L k l v) ≡ false
    unfolding settled
    none-final e l =
        let m = locked-move P k v e in
        let h = origin-holds P k v m.block m.card m.moves_from in
        let same : (x : ℕ) → moved_all P L k l v x m.block ≡ v x m.block = moves-locked P L k i.form l v i.idle m.block (locked-alike m.card m.block h m.locked-there) in
        all-fails (settled_at P k (moved_all P L k l v)) (blocks k.setting) m.block m.is_block
        (settled_same P L k v (moved_all P L k l v) m.block same ∙ origin-unsettled P k v m.block m.card m.moves_from)
