-- The cards that are left do not work, and those that do not work and are not left are no homes. Assumes nothing.
use mathlib.Core.Path.{sym, ap, ◌∙◌}
use Prim.Native.Nat.{ℕ}
use native.Mathlib.Omega.{arith}
use Rattle.mask.specs.Cards.{cards_left}
use Rattle.mask.specs.Masks.{byte}
use Rattle.mask.proofs.Steps.{given-card, same-members}
use Rattle.control_form.specs.Reading.{all_from, first_end, is_home_at, second_at}
use Rattle.lists.proofs.Bools.{and_l, and_r}
use Rattle.control_form.proofs.Homes.{all-homes}
use Rattle.control_form.proofs.Idle.{all-work, begun-there, first-idle, idle-all, idle-less}
use Rattle.control_form.proofs.Idle.{lacking, tried-more, tried-none}
use Rattle.control.specs.ControlBytes.{homes_at, homes_end}
use Rattle.control_form.proofs.homes_work.Goals as goal

pub loop-card-init : goal.loop-card-init
loop-card-init c =
    let g = c.args.s.now in
    let it : ℕ = c.into_iter-card-iterator.result.0 in
    -- the iterator has the cards of the mask
    let has = λ (n : ℕ). same-members (byte it) (byte c.without-idle.result) (ap cards_left c.into_iter-card-iterator.ensures.into_iter_gives ∙ c.each-card-items.ensures) n ∙ c.without-idle.ensures n in
    (idle-all g it has, tried-none g it has)

pub lack_home-requires-clause-home_lt_card_count : goal.lack_home-requires-clause-home_lt_card_count
lack_home-requires-clause-home_lt_card_count c = given-card (byte c.loop-card.card-iterator.0) (byte c.next.new.self.0) c.in-Some.card.0 c.in-Some.ensures.steps

pub lack_home-requires-clause-s_value : goal.lack_home-requires-clause-s_value
lack_home-requires-clause-s_value c = and_l _ _ (sym (all-homes c.args.s.now) ∙ c.requires.s_value)

pub returns-then-not-lack_home : goal.returns-then-not-lack_home
returns-then-not-lack_home c =
    let g = c.args.s.now in
    let l = c.loop-card in
    let idle = first-idle g l.card-iterator.0 c.next.new.self.0 c.in-Some.card.0 c.in-Some.ensures.steps l.invariant.0 in
    begun-there g c.in-Some.card.0 homes_at first_end idle (omega arith) (omega arith) (sym c.lack_home.ensures ∙ c.if-not-lack_home.true)

pub lack_home-requires-in-loop-card-clause-home_lt_card_count : goal.lack_home-requires-in-loop-card-clause-home_lt_card_count
lack_home-requires-in-loop-card-clause-home_lt_card_count c = given-card (byte c.loop-card.card-iterator.0) (byte c.next.new.self.0) c.in-Some.card.0 c.in-Some.ensures.steps

pub lack_home-requires-in-loop-card-clause-s_value : goal.lack_home-requires-in-loop-card-clause-s_value
lack_home-requires-in-loop-card-clause-s_value c = and_r (all_from homes_at first_end (is_home_at c.args.s.now)) _ (sym (all-homes c.args.s.now) ∙ c.requires.s_value)

pub returns-then-not-lack_home-2 : goal.returns-then-not-lack_home-2
returns-then-not-lack_home-2 c =
    let g = c.args.s.now in
    let l = c.loop-card in
    let idle = first-idle g l.card-iterator.0 c.next.new.self.0 c.in-Some.card.0 c.in-Some.ensures.steps l.invariant.0 in
    begun-there g c.in-Some.card.0 second_at homes_end idle (omega arith) (omega arith) (sym c.lack_home-in-loop-card.ensures ∙ c.if-not-lack_home-2.true)

pub loop-card-preserved : goal.loop-card-preserved
loop-card-preserved c =
    let g = c.args.s.now in
    let l = c.loop-card in
    let x = c.in-Some.card.0 in (
      idle-less g l.card-iterator.0 c.next.new.self.0 x c.in-Some.ensures.steps l.invariant.0,
      tried-more g l.card-iterator.0 c.next.new.self.0 x c.in-Some.ensures.steps l.invariant.1
          (lacking g x (sym c.lack_home.ensures ∙ c.if-not-lack_home.false) (sym c.lack_home-in-loop-card.ensures ∙ c.if-not-lack_home-2.false)),
    )

pub returns : goal.returns
returns c = all-work c.args.s.now c.loop-card.card-iterator.0 c.in-None.ensures.steps.0 c.loop-card.invariant.1
