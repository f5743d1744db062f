use Rattle.std.proofs.Common.{arith}
use Rattle.std.proofs.lemmas.Int.{clamps, ints}
use Rattle.batches_report.proofs.bins.last_of.Goals as goal

pub returns-clause-least : goal.returns-clause-least
returns-clause-least c = omega (arith, ints, clamps)
