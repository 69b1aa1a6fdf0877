-- The form of the bytes, eight at a time, then their homes. Assumes nothing.
use Rattle.std.proofs.Common.{arith}
use Rattle.control_form.proofs.Homes.{all-homes, fits_by}
use Rattle.control_form.proofs.homes_ok.Goals as goal

pub returns-then-not-are_homes : goal.returns-then-not-are_homes
returns-then-not-are_homes c = rw (fits_by c.args.s.now) (grind arith)

pub none_open-requires-clause-s_value : goal.none_open-requires-clause-s_value
none_open-requires-clause-s_value c = rw (all-homes c.args.s.now) (grind arith)

pub homes_work-requires-clause-s_value : goal.homes_work-requires-clause-s_value
homes_work-requires-clause-s_value c = rw (all-homes c.args.s.now) (grind arith)

pub returns-then-s-ge-STOPPED : goal.returns-then-s-ge-STOPPED
returns-then-s-ge-STOPPED c = rw (fits_by c.args.s.now) (grind arith)

pub returns : goal.returns
returns c = rw (fits_by c.args.s.now) (grind arith)
