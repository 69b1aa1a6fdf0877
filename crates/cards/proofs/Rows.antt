-- The refusal rows of fit, withdraw and place in the values that the code has, and what an accepted call has shown. Assumes nothing.
use Prim.Native.Nat.{◌-◌, ◌<◌, ◌≤◌, ℕ}
use borrow.Author.Tests.{le-leb, leb-false, lt-leb, lt-ltb, ltb-true}
use lib.Dec.{eqb, leb, ltb}
use lib.ListN.{length, length-map}
use mathlib.Core.Bool.{Bool, ◌&&◌, ◌||◌, false, not, true}
use mathlib.Core.Logic.{◌≢◌}
use mathlib.Core.List.{List, [], ◌++◌, ◌∷◌, map}
use mathlib.Core.Path.{◌∙◌, ◌≡◌, ap, ap₂, refl, sym}
use native.Mathlib.Omega.{arith}
use Rattle.lists.specs.Tests.{any_below, any_in}
use Rattle.image.specs.Layout.{card_count, least_members, most_placed, tran_bound, most_active}
use Rattle.mask.specs.Masks.{Byte, byte, has_card, is_within, size}
use Rattle.mask.specs.Placements.{Choice, Placement, by_rails, by_table, chained, is_by_rails, pairless, pairless_choice}
use Rattle.method.specs.ControlPart.{active, begun_at}
use Rattle.method.specs.PlainList.{no_blocks}
use Rattle.method.specs.Rules.{Call, View, fit, in_active, place, refusal, row, withdraw}
use Rattle.method.proofs.Refusals.{row-3, row-clear}
use Rattle.control.specs.ControlBytes.{Part, front_part, placements_in}
use Rattle.control.proofs.Front.{active-front}
use Rattle.control.specs.Meaning.{Counted, meaning, placement_in}
use Rattle.control.proofs.Struct.{active-is, length-placements}
use Rattle.cabinet_rules.specs.Cabinet.{cabinet, place_rows}
use Rattle.control.specs.Serials.{serial_limit}
use Rattle.cabinet_rules.specs.Places.{again_by_rails, by_mask, is_spent, placed_row}
use Rattle.promise.specs.Rows.{card_rows}
use Rattle.promise.proofs.SharedRows.{card-accepted}
use Rattle.control.specs.declared.Control.{Control as Struct}

-- the refusal of these calls is one of the control part alone
abbrev pub rows_of : Call cabinet → Part → ℕ
rows_of c k = refusal cabinet c k (no_blocks cabinet)

module _ (k : Part) (v : View cabinet) where
  pub fit-rows : (c : ℕ) → rows_of (fit c) k ≡ refusal cabinet (fit c) k v
  unfolding refusal
  fit-rows c = refl

  pub withdraw-rows : (c : ℕ) → rows_of (withdraw c) k ≡ refusal cabinet (withdraw c) k v
  unfolding refusal
  withdraw-rows c = refl

  pub place-rows : (m : Byte) → rows_of (place (by_mask m)) k ≡ refusal cabinet (place (by_mask m)) k v
  unfolding refusal
  place-rows m = refl

-- ---- they ask nothing of pairs
rails-front : (c : Choice) → is_by_rails (pairless_choice c) ≡ is_by_rails c
rails-front chained = refl
rails-front by_rails = refl
rails-front (by_table x) = refl

any-front : (f : Byte → Bool) (l : List Placement) → any_in (λ p. f p.mask) (map pairless l) ≡ any_in (λ p. f p.mask) l
any-front f [] = refl
any-front f (p ∷ l) = ap (λ (b : Bool). f p.mask || b) (any-front f l)

module _ (k : Part) where
  active-front-is : (c : ℕ) → in_active cabinet (front_part k) c ≡ in_active cabinet k c
  active-front-is c = ap (any_in (λ (p : Placement). has_card p.mask c)) (sym (active-front k)) ∙ any-front (λ m. has_card m c) (active k)

  count-front : length (active (front_part k)) ≡ length (active k)
  count-front = ap length (sym (active-front k)) ∙ length-map (active k) pairless

  pub fit-front : (c : ℕ) → rows_of (fit c) (front_part k) ≡ rows_of (fit c) k
  unfolding refusal
  fit-front c = ap (λ (a : Bool). row 3 (not (ltb c card_count)) (row 4 k.stopped (row 8 (has_card k.working c || a) 0))) (active-front-is c)

  pub withdraw-front : (c : ℕ) → rows_of (withdraw c) (front_part k) ≡ rows_of (withdraw c) k
  unfolding refusal
  withdraw-front c = ap (λ (a : Bool). row 3 (not (ltb c card_count)) (row 4 k.stopped (row 8 (not (has_card k.working c) || a) (row 14 (any_below tran_bound (begun_at k c)) 0)))) (active-front-is c)

  pub place-front : (m : Byte) → rows_of (place (by_mask m)) (front_part k) ≡ rows_of (place (by_mask m)) k
  unfolding refusal place_rows placed_row
  place-front m = ap₂ (λ (r : Bool) (n : ℕ). row 4 k.stopped
      (row 9 (ltb (size m) least_members || (not (is_within m k.working) || (r && eqb m.0 k.newest.mask.0))) (row 10 (leb most_placed n) (row 20 (is_spent k.serial) 0))))
      (rails-front k.newest.choice) count-front

-- ---- by the code's tests
-- fit: in range, stopped, working, in an active placement
pub fit-by : (k : Struct) (c : ℕ) (r s w a : Bool) → ltb c card_count ≡ r → k.stopped ≡ s → has_card (byte k.working) c ≡ w → in_active cabinet (meaning k) c ≡ a
    → row 3 (not r) (row 4 s (row 8 (w || a) 0)) ≡ rows_of (fit c) (meaning k)
unfolding refusal meaning
fit-by k c r s w a er es ew ea = rw (sym er, sym es, sym ew, sym ea)

module _ (k : Part) (c n : ℕ) (e : n ≡ card_rows k c) where
  pub withdraw-refused : n ≢ 0 → n ≡ rows_of (withdraw c) k
  unfolding card_rows refusal
  withdraw-refused d = go (ltb c card_count) k.stopped (has_card k.working c) (in_active cabinet k c) (row 14 (any_below tran_bound (begun_at k c)) 0) e
    where
      go : (a s w o : Bool) (below : ℕ) → n ≡ row 3 (not a) (row 4 s (row 8 (not w) 0)) → n ≡ row 3 (not a) (row 4 s (row 8 (not w || o) below))
      go false s w o below q = q
      go true true w o below q = q
      go true false false o below q = q
      go true false true o below q = absurd (d q)

  pub withdraw-by : n ≡ 0 → (a s : Bool) → a ≡ in_active cabinet k c → s ≡ any_below tran_bound (begun_at k c) → row 8 a (row 14 s 0) ≡ rows_of (withdraw c) k
  unfolding refusal
  withdraw-by z a s ea es =
      ap₂ (λ (o t : Bool). row 8 o (row 14 t 0)) ea es
      ∙ go (ltb c card_count) k.stopped (has_card k.working c) (in_active cabinet k c) (row 14 (any_below tran_bound (begun_at k c)) 0) (lt-ltb c card_count ok.0) ok.1 ok.2
    where
      ok : (c < card_count) × (k.stopped ≡ false) × (has_card k.working c ≡ true)
      ok = card-accepted k c (sym z ∙ e)

      go : (a s w o : Bool) (below : ℕ) → a ≡ true → s ≡ false → w ≡ true → row 8 o below ≡ row 3 (not a) (row 4 s (row 8 (not w || o) below))
      go a s w o below p q r = rw (p, q, r)

-- place: the number of each return, by the tests that lead there
module _ (k : Struct) (c : Counted k) (m : ℕ) where
  abbrev again : Bool
  again = again_by_rails (meaning k).newest (byte m)

  abbrev pub works : Bool
  works = is_within (byte m) (byte k.working)

  abbrev pub few : Bool
  few = ltb (size (byte m)) least_members

  -- the rows over the tests in the code's values
  by_tests : row 4 k.stopped (row 9 (few || (not works || again)) (row 10 (leb most_placed k.count) (row 20 (is_spent k.serial) 0))) ≡ rows_of (place (by_mask (byte m))) (meaning k)
  unfolding refusal place_rows placed_row meaning
  by_tests =
      ap (λ (n : ℕ). row 4 k.stopped (row 9 (few || (not works || again)) (row 10 (leb most_placed n) (row 20 (is_spent k.serial) 0)))) (sym count-is)
    where
      count-is : length (placements_in (placement_in k) (k.count - 1) ++ (placement_in k (k.count - 1) ∷ [])) ≡ k.count
      count-is = ap length (active-is k c) ∙ length-placements (placement_in k) k.count

  tests-at : (s u w a f p : Bool) → k.stopped ≡ s → few ≡ u → works ≡ w → again ≡ a → leb most_placed k.count ≡ f → is_spent k.serial ≡ p
      → row 4 s (row 9 (u || (not w || a)) (row 10 f (row 20 p 0))) ≡ rows_of (place (by_mask (byte m))) (meaning k)
  tests-at s u w a f p es eu ew ea ef ep = rw (sym es, sym eu, sym ew, sym ea, sym ef, sym ep) by_tests

  pub says-4 : k.stopped ≡ true → 4 ≡ rows_of (place (by_mask (byte m))) (meaning k)
  says-4 es = tests-at true few works again _ _ es refl refl refl refl refl

  module _ (run : k.stopped ≡ false) where
    pub few-says-9 : few ≡ true → 9 ≡ rows_of (place (by_mask (byte m))) (meaning k)
    few-says-9 eu = tests-at false true works again _ _ run eu refl refl refl refl

    module _ (eu : few ≡ false) where
      pub idle-says-9 : works ≡ false → 9 ≡ rows_of (place (by_mask (byte m))) (meaning k)
      idle-says-9 ew = tests-at false false false again _ _ run eu ew refl refl refl

      module _ (ew : works ≡ true) where
        pub again-says-9 : again ≡ true → 9 ≡ rows_of (place (by_mask (byte m))) (meaning k)
        again-says-9 ea = tests-at false false true true _ _ run eu ew ea refl refl

        pub full-says-10 : again ≡ false → most_placed ≤ k.count → 10 ≡ rows_of (place (by_mask (byte m))) (meaning k)
        full-says-10 ea h = tests-at false false true false true _ run eu ew ea (le-leb most_placed k.count h) refl

        pub spent-says-20 : again ≡ false → k.count < most_placed → serial_limit ≤ k.serial → 20 ≡ rows_of (place (by_mask (byte m))) (meaning k)
        spent-says-20 ea h l = tests-at false false true false false true run eu ew ea (lt-leb most_placed k.count h) (le-leb serial_limit k.serial l)

        pub room-says-0 : again ≡ false → k.count < most_placed → k.serial < serial_limit → 0 ≡ rows_of (place (by_mask (byte m))) (meaning k)
        room-says-0 ea h l = tests-at false false true false false false run eu ew ea (lt-leb most_placed k.count h) (lt-leb serial_limit k.serial l)

-- ---- what an accepted call has shown
pub fit-range : (k : Part) (c : ℕ) → 0 ≡ rows_of (fit c) k → c < card_count
unfolding refusal
fit-range k c e = ltb-true c card_count (row-3 (ltb c card_count) (sym e)).0

pub withdraw-range : (k : Part) (c : ℕ) → 0 ≡ rows_of (withdraw c) k → c < card_count
unfolding refusal
withdraw-range k c e = ltb-true c card_count (row-3 (ltb c card_count) (sym e)).0

pub place-few : (k : Struct) → Counted k → (m : Byte) → 0 ≡ rows_of (place (by_mask m)) (meaning k) → k.count < most_active
unfolding refusal place_rows placed_row meaning
place-few k c m e =
    let bad : Bool = ltb (size m) least_members || (not (is_within m (byte k.working)) || again_by_rails (placement_in k (k.count - 1)) m) in
    let full : Bool = leb most_placed (length (placements_in (placement_in k) (k.count - 1) ++ (placement_in k (k.count - 1) ∷ []))) in
    let h : length (placements_in (placement_in k) (k.count - 1) ++ (placement_in k (k.count - 1) ∷ [])) < most_placed =
    leb-false most_placed _ (row-clear full 9 (row-clear bad 8 (row-clear k.stopped 3 (sym e)).1).1).0 in
    omega (arith, h, ap length (active-is k c) ∙ length-placements (placement_in k) k.count)
