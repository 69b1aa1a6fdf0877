-- After i turns the holders among the sites of the first i placements are found. Assumes nothing.
use mathlib.Core.Path.{◌∙◌, ◌≡◌, ap, refl, subst}
use Rattle.std.specs.Prelude.{None}
use native.Mathlib.Omega.{arith}
use Rattle.promise.proofs.Finish.{given-whole}
use Rattle.trail.specs.Trail.{Lists}
use Rattle.trail.proofs.Holding.{first-all, first_more, first-none, first_holders, usable_at}
use Rattle.trail.proofs.Listed.{list-none}
use Rattle.trail.proofs.find.Goals as goal

pub loop-i-init : goal.loop-i-init
loop-i-init c =
    let a = c.args in
    subst (Lists record { first = None; cards = 0 }) (first-none a.image.now a.block.0) (list-none _ refl refl)

pub push_sites-found-requires : goal.push_sites-found-requires
push_sites-found-requires c =
    let given = c.requires.given in record {
      whole = (given-whole given, omega (arith, given.is.counted.few), c.requires.block_lt_block_count);
      usable = usable_at c.args.k c.args.image.now given c.loop-i.i c.loop-i-test.true;
    }

pub loop-i-preserved : goal.loop-i-preserved
loop-i-preserved c =
    let l = c.loop-i in
    let a = c.args in
    subst (Lists c.push_sites-found.result) (first_more a.k a.image.now c.requires.given a.block.0 l.i c.requires.block_lt_block_count)
    (c.push_sites-found.ensures (first_holders a.image.now a.block.0 l.i) l.invariant)

pub returns : goal.returns
returns c =
    let l = c.loop-i in
    let a = c.args in
    let e : l.i ≡ a.k.count = omega arith in
    subst (Lists l.found) (ap (first_holders a.image.now a.block.0) e ∙ first-all a.k a.image.now c.requires.given a.block.0) l.invariant
