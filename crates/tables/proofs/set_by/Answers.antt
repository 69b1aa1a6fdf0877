-- The set of the transactions up to i has been collected, and each new bit is above it. Assumes nothing.
use Rattle.std.proofs.Common.{ℕ, ap, arith, sym, ◌+◌, ◌∙◌, ◌≡◌}
use borrow.Author.Rules.{rules}
use Rattle.tables.specs.Tables.{set_below, set_of}
use Rattle.tables.proofs.Sets.{picked, picked-fits, picked-in, picked-out, picked-start}
use Rattle.tables.proofs.set_by.Goals as goal
use Rattle.tables.proofs.set_by.Goals.{else-passes, then-passes}

pub loop-i-init : goal.loop-i-init
loop-i-init g c = picked-start g.picks c.args.homes c.requires.1.0

pub overflow_add-set : goal.overflow_add-set
overflow_add-set g c =
    let on = sym ((c.requires.1.1 _ (search rules)).1 _ c.passes.ensures) ∙ c.if-passes.true in
    record {
      fits = picked-fits g.picks c.args.homes c.loop-i.i _ c.loop-i-test.true
          (picked-in g.picks c.args.homes c.loop-i.i _ _ c.loop-i-test.true c.loop-i.invariant on c.set_of-set.ensures);
    }

pub loop-i-preserved : goal.loop-i-preserved
loop-i-preserved g c =
    let says = (c.requires.1.1 _ (search rules)).1 _ c.passes.ensures in
    elim c.if-passes.branch [
      | then-passes w ↦ w.set-is ∙ picked-in g.picks c.args.homes c.loop-i.i _ _ c.loop-i-test.true c.loop-i.invariant (sym says ∙ w.if-passes.true) w.set_of-set.ensures
      | else-passes w ↦ w.set-is ∙ picked-out g.picks c.args.homes c.loop-i.i _ c.loop-i-test.true c.loop-i.invariant (sym says ∙ w.if-passes.false)
    ]

pub returns : goal.returns
unfolding set_of
returns g c =
    let e : c.loop-i.i + 1 ≡ 16 = omega arith in
    c.loop-i.invariant ∙ ap (λ (n : ℕ). set_below n (picked g.picks c.args.homes)) e
