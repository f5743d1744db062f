use Rattle.stepmap.proofs.FewBoundaries.{few_boundaries}
use Rattle.stepmap.proofs.UnitedWrites.{counted_along}
use Rattle.stepmap.proofs.laws.counts.Goals as goal

pub returns : goal.returns
returns c = record { few = few_boundaries; along = counted_along }
