-- Two stores are the two bytes of the entry. Assumes nothing.
use lib.ListN.{length-set}
use native.Mathlib.Omega.{arith}
use Rattle.move_bytes.proofs.EntryBytes.{set-entry}
use Rattle.move_bytes.proofs.put_entry.Goals as goal

pub bounds-bytes-at-2 : goal.bounds-bytes-at-2
bounds-bytes-at-2 c =
    let e = length-set c.args.bytes.now c.args.at c.args.entry.0.0 in
    omega (arith, e, c.requires)

pub returns : goal.returns
returns c = set-entry c.args.bytes.now c.args.at c.args.entry c.requires
