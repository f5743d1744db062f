use Rattle.explanations.proofs.Origins.{same_writes}
use Rattle.explanations.proofs.laws.same_writes.Goals as goal

pub returns : goal.returns
returns c = record { same = same_writes }
