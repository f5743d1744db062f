use Rattle.checking.proofs.NoDifference.{no_difference}
use Rattle.checking.proofs.laws.no_difference.Goals as goal

pub returns : goal.returns
returns c = record { exact = no_difference }
