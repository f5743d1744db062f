use Rattle.resolver.proofs.HeldShares.{within_share}
use Rattle.resolver.proofs.laws.within_share.Goals as goal

pub returns : goal.returns
returns c = record { within = within_share }
