use Rattle.std.proofs.Math.Facts.{Fits-lt-pow}
use Rattle.keys.proofs.SameBytes.{same_first, other_next}
use Rattle.keys.proofs.prefix.same_bytes.Goals as goal

pub returns-clause-same : goal.returns-clause-same
returns-clause-same c = same_first c.args.a c.args.b (Fits-lt-pow c.ranges.a) (Fits-lt-pow c.ranges.b)

pub returns-clause-differ : goal.returns-clause-differ
returns-clause-differ c = other_next c.args.a c.args.b (Fits-lt-pow c.ranges.a) (Fits-lt-pow c.ranges.b)
