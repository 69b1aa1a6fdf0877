-- Five bytes as one number, the first highest. Assumes nothing.
use mathlib.Core.Path.{◌≡◌}
use Prim.Native.Nat.{◌%◌, ◌<◌}
use native.Mathlib.Omega.{arith}
use Rattle.slot.proofs.Steps.{word-of-list}
use Rattle.slot.proofs.block.word_at.Goals as goal

-- a byte is its own low eight bits
low : {r b : _} → r ≡ b → r < 256 → r ≡ b % 256
low e h = omega arith

pub returns : goal.returns
returns c =
    let p1 = low c.from-a.ensures (omega arith) in
    let p2 = low c.from-b.ensures (omega arith) in
    let p3 = low c.from-c.ensures (omega arith) in
    let p4 = low c.from-d.ensures (omega arith) in
    let p5 = low c.from-e.ensures (omega arith) in
    let a = c.args in
    let e = word-of-list a.block.now a.i (omega arith) in
    (cc, omega arith)
