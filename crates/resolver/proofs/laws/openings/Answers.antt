use Rattle.resolver.proofs.OpenedCore.{openings_start}
use Rattle.resolver.proofs.laws.openings.Goals as goal

pub returns : goal.returns
returns c = record { start = openings_start }
