use Rattle.shards.proofs.AmongOthers.{among_current, among_serializable}
use Rattle.shards.proofs.laws.serializable_among_others.Goals as goal

pub returns-clause-current : goal.returns-clause-current
returns-clause-current c = among_current

pub returns-clause-all : goal.returns-clause-all
returns-clause-all c = among_serializable
