-- The pairs of the placement are written, then the struct with the placement, then the stamps: the law of all is in Written. Assumes nothing.
use native.Mathlib.Omega.{arith}
use Rattle.promise.proofs.Finish.{given-whole}
use Rattle.promise.proofs.Stamping.{serial-small}
use Rattle.placing.proofs.Written.{long-between, table-written, whole-between}
use Rattle.placing.proofs.add.Goals as goal

pub put-requires : goal.put-requires
put-requires c = (given-whole c.requires.given, omega (arith, c.requires.count_lt_most_active))

pub add_table-added-requires : goal.add_table-added-requires
add_table-added-requires c = record { counted = c.requires.given.is.counted; count_lt_most_active = c.requires.count_lt_most_active; serial_lt_serial_bound = serial-small c.requires.given }

pub write-requires : goal.write-requires
write-requires c =
    record {
      control_size_in_bounds = long-between c.requires.given c.args.lines.bytes.now c.requires.count_lt_most_active _ _ c.pairs.ensures c.put.ensures;
      counted = c.add_table-added.ensures.counted;
    }

pub put_all-requires : goal.put_all-requires
put_all-requires c =
    whole-between c.requires.given c.args.lines.bytes.now c.requires.count_lt_most_active c.add_table-added.result _ _ _ c.pairs.ensures c.put.ensures c.write.ensures

pub returns : goal.returns
returns c =
    table-written c.requires.given c.args.lines.bytes.now c.requires.count_lt_most_active _ _ _ _ _ _ c.named-mask.ensures c.add_table-added.ensures
    c.pairs.ensures c.put.ensures c.write.ensures c.stamp.ensures c.put_all.ensures
