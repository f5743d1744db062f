use Rattle.std.proofs.Common.{arith, refl, ◌≡◌, length, length-take-le}
use Rattle.std.proofs.Math.Seq.{take-set-lt}
use Rattle.boundaries.proofs.Words.{FAN_OUT}
use Rattle.boundaries.specs.Node.{entries_of}
use Rattle.boundaries.proofs.node.Node.set.Goals as goal

pub returns : goal.returns
returns c =
    let node = c.args.self.now in
    let full : length node.entries ≡ FAN_OUT = omega arith in
    let len : length (entries_of node) ≡ node.len = length-take-le node.len node.entries (omega arith) in
    record { entries = take-set-lt node.len node.entries c.args.index c.args.entry (omega arith); key_heads = refl }
