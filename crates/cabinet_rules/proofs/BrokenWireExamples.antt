-- Examples of request A.5: records that an earlier delivery left with 65,535. Assumes nothing.
use lib.ListN.{length}
use mathlib.Core.List.{List, [], ◌++◌, ◌∷◌, map}
use mathlib.Core.Logic.{inl, inr}
use mathlib.Core.Path.{◌∙◌, ◌≡◌, ap, refl}
use borrow.Author.Tests.{eq-eqb}
use Rattle.lists.specs.Tabulate.{tabulate}
use Rattle.cabinet_rules.specs.Converting.{older_size}
use Rattle.mask.specs.Masks.{byte, has_card, is_within, members, size, with_card, without_card}
use Rattle.mask.specs.Placements.{across_rails, member_at, members_after, mask_sites, rail_sites}
use Rattle.slot.specs.Blocks.{end_slots, ended_byte, is_held, lock_slot, put_slot, word_at}
use Rattle.slot.specs.Words.{slot_of, word_of}
use Rattle.method.specs.Rules.{settled_by}
use Rattle.method.specs.OneRecordList.{plain_after, rules_after}
use Rattle.method.specs.OneRecordList.{Observation, client, plain_observe, quiet, run_plain, settle_accepted}
use Rattle.method.specs.Parameters.{Parameters}
use Rattle.method.specs.PlainList.{plain_act, plain_next, plain_refusal}
use Rattle.method.specs.Rules.{Call, absent, act, answer_of, any_locked, apply, begin, clear_card, commit, delete, end_held, fit}
use Rattle.method.specs.Rules.{get, holders, lay_block, lock_holders, look, move, move_writes, next_state, ok, place, plan}
use Rattle.method.specs.Rules.{refusal, refused, rollback, settle, settled, store, trail, value}
use Rattle.cabinet_rules.specs.Cabinet.{place_rows, rules_of, start_row}
use Rattle.cabinet_rules.specs.Places.{placed_row}
use Rattle.cabinet_rules.specs.Claims.{NoStopBy, NoisyCallBy, image_calls_by, run_image_by}
use Rattle.cabinet_rules.specs.Delivery.{broken_wire}
use Rattle.cabinet_rules.specs.Retired.{base, below_wire, two_rails}
use Rattle.cabinet_rules.specs.GoesOn.{BeforeWire, StoreBy, called_store, started_store, taken_over, from_base, from_rails}
use Rattle.cabinet_rules.specs.Images.{Image, answer_by, refusal_by}
use Rattle.cabinet_rules.proofs.Earlier.{before-wire-sound}
use Rattle.cabinet_rules.proofs.Examples.{answers_by}
use Rattle.cabinet_rules.proofs.Wire.{wire_laws}
use Rattle.cabinet_rules.proofs.OneRecordList.{run-image}

-- The rules of A.5.
abbrev rules : Parameters
rules = rules_of below_wire

-- Calls by any delivery, with no noise before them.
abbrev plainly : List (Call rules) → List (NoisyCallBy below_wire)
plainly = map (λ c. (λ n. 0, c))

-- What calls by A.5 show on the image of a store that earlier deliveries left: what the plain record list says.
module _ (s : StoreBy below_wire) (e : BeforeWire s) where
  shown : List (Call rules) → List (Observation rules)
  shown l = run_image_by below_wire (plainly l) s.image

  said : List (Call rules) → List (Observation rules)
  said l = run_plain rules l s.rules s.plain

  shown-said : (l : List (Call rules)) → shown l ≡ said l
  unfolding shown said
  shown-said l = run-image below_wire wire_laws (plainly l) s.image s.rules s.plain (before-wire-sound s e)
      ∙ ap (λ (x : List (Call rules)). run_plain rules x s.rules s.plain) (calls_alone l)
    where
      calls_alone : (l : List (Call rules)) → image_calls_by below_wire (plainly l) ≡ l
      calls_alone [] = refl
      calls_alone (c ∷ l) = ap (λ (x : List (Call rules)). c ∷ x) (calls_alone l)

-- Record 9, in block 1, gets 65,535, and record 17, in block 2, gets it pending by transaction 2.
abbrev committed_calls : List (Call rules)
committed_calls = begin 1 0 ∷ store 1 9 broken_wire ∷ commit 1 ∷ []

abbrev pending_calls : List (Call rules)
pending_calls = begin 2 0 ∷ store 2 17 broken_wire ∷ []

-- On memory of any contents that has an image's length.
module _ (before : Image) (long : length before ≡ older_size) where
  -- ---- A.1 to A.4 made these calls after a start with cards 0, 1, 4 and 5
  abbrev was_rails : StoreBy two_rails
  was_rails = called_store two_rails (plainly (committed_calls ++ pending_calls)) (started_store two_rails (byte 0xCC) before)

  abbrev left : StoreBy below_wire
  left = taken_over two_rails below_wire from_rails was_rails

  left-earlier : BeforeWire left
  unfolding NoStopBy answer_by refusal_by refusal act start_row size members has_card
  left-earlier = record {
    was = was_rails;
    left = record {
      first = started_store two_rails (byte 0xCC) before;
      begins = inl (record { mask = byte 0xCC; before = before; accepted = rw (eq-eqb (length before) older_size long); is = refl });
      calls = plainly (committed_calls ++ pending_calls);
      runs = (refl, (refl, (refl, (refl, (refl, tt)))));
      is = refl;
    };
    is = refl;
  }

  -- read: the committed one, and the own pending one
  read : shown left left-earlier (begin 3 0 ∷ get 3 9 ∷ get 2 17 ∷ [])
      ≡ quiet ∷ client (value broken_wire) ∷ client (value broken_wire) ∷ []
  unfolding said run_plain plain_observe plain_next plain_refusal plain_act plain_after refusal place_rows placed_row is_within has_card with_card size members
  read = shown-said left left-earlier (begin 3 0 ∷ get 3 9 ∷ get 2 17 ∷ []) ∙ refl

  -- moved: from cards 0, 1, 4 and 5 to cards 2, 4 and 5, and read there when the older placement is retired
  moved : shown left left-earlier (commit 2 ∷ fit 2 ∷ place (byte 0x2C) ∷ move 1 1 ∷ move 4 2 ∷ move 0 2 ∷ settle ∷ begin 3 2 ∷ get 3 9 ∷ get 3 17 ∷ [])
      ≡ client ok ∷ quiet ∷ quiet ∷ quiet ∷ quiet ∷ quiet ∷ quiet ∷ quiet ∷ client (value broken_wire) ∷ client (value broken_wire) ∷ []
  unfolding said run_plain plain_observe plain_next plain_refusal plain_act plain_after settle_accepted rules_after next_state apply plan refusal act look trail holders settled settled_by
      lock_holders lay_block end_held clear_card move_writes any_locked has_card with_card without_card is_within member_at members_after across_rails rail_sites mask_sites start_row place_rows placed_row
      is_held word_at slot_of word_of put_slot lock_slot ended_byte end_slots tabulate members size
  moved = shown-said left left-earlier (commit 2 ∷ fit 2 ∷ place (byte 0x2C) ∷ move 1 1 ∷ move 4 2 ∷ move 0 2 ∷ settle ∷ begin 3 2 ∷ get 3 9 ∷ get 3 17 ∷ []) ∙ refl

  -- deleted: absent for the transaction, and for all once it is committed
  deleted : shown left left-earlier (begin 3 0 ∷ delete 3 9 ∷ get 3 9 ∷ commit 3 ∷ begin 4 0 ∷ get 4 9 ∷ [])
      ≡ quiet ∷ client ok ∷ client absent ∷ client ok ∷ quiet ∷ client absent ∷ []
  unfolding said run_plain plain_observe plain_next plain_refusal plain_act plain_after refusal place_rows placed_row is_within has_card with_card size members
  deleted = shown-said left left-earlier (begin 3 0 ∷ delete 3 9 ∷ get 3 9 ∷ commit 3 ∷ begin 4 0 ∷ get 4 9 ∷ []) ∙ refl

  -- rolled back: a change of the committed one brings it back, and the pending one is dropped
  rolled-back : shown left left-earlier (begin 3 0 ∷ store 3 9 7 ∷ get 3 9 ∷ rollback 3 ∷ rollback 2 ∷ begin 4 0 ∷ get 4 9 ∷ get 4 17 ∷ [])
      ≡ quiet ∷ client ok ∷ client (value 7) ∷ client ok ∷ client ok ∷ quiet ∷ client (value broken_wire) ∷ client absent ∷ []
  unfolding said run_plain plain_observe plain_next plain_refusal plain_act plain_after refusal place_rows placed_row is_within has_card with_card size members
  rolled-back = shown-said left left-earlier (begin 3 0 ∷ store 3 9 7 ∷ get 3 9 ∷ rollback 3 ∷ rollback 2 ∷ begin 4 0 ∷ get 4 9 ∷ get 4 17 ∷ []) ∙ refl

  -- committed: the pending one is what others read then
  committed : shown left left-earlier (begin 3 0 ∷ get 3 17 ∷ commit 2 ∷ get 3 17 ∷ [])
      ≡ quiet ∷ client (refused 7) ∷ client ok ∷ client (value broken_wire) ∷ []
  unfolding said run_plain plain_observe plain_next plain_refusal plain_act plain_after refusal place_rows placed_row is_within has_card with_card size members
  committed = shown-said left left-earlier (begin 3 0 ∷ get 3 17 ∷ commit 2 ∷ get 3 17 ∷ []) ∙ refl

  -- and refused: 65,535 alone, before 5 and 7
  refused-now : shown left left-earlier (store 2 17 broken_wire ∷ store 2 17 65534 ∷ get 2 17 ∷ store 3 17 broken_wire ∷ begin 3 0 ∷ store 3 17 broken_wire ∷ store 3 17 7 ∷ [])
      ≡ client (refused 3) ∷ client ok ∷ client (value 65534) ∷ client (refused 3) ∷ quiet ∷ client (refused 3) ∷ client (refused 7) ∷ []
  unfolding said run_plain plain_observe plain_next plain_refusal plain_act plain_after refusal place_rows placed_row is_within has_card with_card size members
  refused-now = shown-said left left-earlier (store 2 17 broken_wire ∷ store 2 17 65534 ∷ get 2 17 ∷ store 3 17 broken_wire ∷ begin 3 0 ∷ store 3 17 broken_wire ∷ store 3 17 7 ∷ []) ∙ refl

  -- the answers of the moves, which the plain record list does not have: one copy, two, none, and one placement retired
  move-answers : answers_by below_wire (commit 2 ∷ fit 2 ∷ place (byte 0x2C) ∷ move 1 1 ∷ move 4 2 ∷ move 0 2 ∷ settle ∷ begin 3 2 ∷ get 3 9 ∷ get 3 17 ∷ []) left.rules
      ≡ (0 ∷ []) ∷ (0 ∷ []) ∷ (0 ∷ []) ∷ (6 ∷ 1 ∷ []) ∷ (6 ∷ 2 ∷ []) ∷ (6 ∷ 0 ∷ []) ∷ (7 ∷ 1 ∷ []) ∷ (0 ∷ []) ∷ (1 ∷ broken_wire ∷ []) ∷ (1 ∷ broken_wire ∷ []) ∷ []
  unfolding rules_after answers_by answer_of next_state apply plan refusal act look trail holders settled settled_by lock_holders lay_block end_held clear_card move_writes any_locked has_card
      with_card without_card is_within member_at members_after across_rails rail_sites mask_sites start_row place_rows placed_row is_held word_at slot_of word_of
      put_slot lock_slot ended_byte end_slots tabulate members size
  move-answers = refl

  -- ---- the base made the first of these calls, and A.1 to A.4 the others
  abbrev was_base : StoreBy base
  was_base = called_store base (plainly committed_calls) (started_store base (byte 0xCC) before)

  abbrev was_both : StoreBy two_rails
  was_both = called_store two_rails (plainly pending_calls) (taken_over base two_rails from_base was_base)

  abbrev left_by_both : StoreBy below_wire
  left_by_both = taken_over two_rails below_wire from_rails was_both

  both_earlier : BeforeWire left_by_both
  unfolding NoStopBy answer_by refusal_by refusal act start_row size members has_card
  both_earlier = record {
    was = was_both;
    left = record {
      first = taken_over base two_rails from_base was_base;
      begins = inr (record {
        was = was_base;
        left = record {
          first = started_store base (byte 0xCC) before;
          begins = inl (record { mask = byte 0xCC; before = before; accepted = rw (eq-eqb (length before) older_size long); is = refl });
          calls = plainly committed_calls;
          runs = (refl, (refl, (refl, tt)));
          is = refl;
        };
        is = refl;
      });
      calls = plainly pending_calls;
      runs = (refl, (refl, tt));
      is = refl;
    };
    is = refl;
  }

  -- both are read, and the pending one is committed
  by_both : shown left_by_both both_earlier (begin 3 0 ∷ get 3 9 ∷ get 2 17 ∷ commit 2 ∷ get 3 17 ∷ store 3 17 broken_wire ∷ [])
      ≡ quiet ∷ client (value broken_wire) ∷ client (value broken_wire) ∷ client ok ∷ client (value broken_wire) ∷ client (refused 3) ∷ []
  unfolding said run_plain plain_observe plain_next plain_refusal plain_act plain_after refusal has_card
  by_both = shown-said left_by_both both_earlier (begin 3 0 ∷ get 3 9 ∷ get 2 17 ∷ commit 2 ∷ get 3 17 ∷ store 3 17 broken_wire ∷ []) ∙ refl
