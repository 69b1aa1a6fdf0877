-- Block by block: the pairs of those before b pass. Assumes nothing.
use Rattle.std.proofs.Common.{◌≡◌, Bool, true, List, ℕ, get_or, sym, ap, subst, ◌∙◌, arith}
use Rattle.lists.specs.Tests.{all_below}
use Rattle.lists.proofs.Counts.{all-fails, all_more}
use Rattle.image.specs.Layout.{block_count}
use Rattle.mask.specs.Masks.{byte}
use Rattle.mask.specs.Pairs.{is_pair_of, pair_at}
use Rattle.converter.proofs.pairs_ok.Goals as goal

abbrev is_good : List ℕ → ℕ → ℕ → Bool
is_good pairs mask b = is_pair_of (byte mask) (pair_at (λ j. get_or pairs j 0) b)

pub returns-then-not-pair_ok : goal.returns-then-not-pair_ok
returns-then-not-pair_ok c =
    sym (all-fails (is_good c.args.pairs.now c.args.mask) block_count c.loop-b.b c.loop-b-test.true
    (ap (is_pair_of (byte c.args.mask)) (sym c.pair_at.ensures.0) ∙ sym c.pair_ok.ensures ∙ c.if-not-pair_ok.true))

pub loop-b-preserved : goal.loop-b-preserved
loop-b-preserved c =
    all_more (is_good c.args.pairs.now c.args.mask) c.loop-b.b
    (ap (is_pair_of (byte c.args.mask)) (sym c.pair_at.ensures.0) ∙ sym c.pair_ok.ensures ∙ c.if-not-pair_ok.false) c.loop-b.invariant

pub returns : goal.returns
returns c =
    let all : c.loop-b.b ≡ block_count = omega arith in
    sym (subst (λ (n : ℕ). all_below n (is_good c.args.pairs.now c.args.mask) ≡ true) all c.loop-b.invariant)
