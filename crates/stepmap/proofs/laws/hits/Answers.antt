use Rattle.stepmap.proofs.Determining.{determines_hits, greatest_determines}
use Rattle.stepmap.proofs.laws.hits.Goals as goal

pub returns : goal.returns
returns c = record { exceeds = determines_hits; greatest = greatest_determines }
