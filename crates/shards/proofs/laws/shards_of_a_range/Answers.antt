use Rattle.shards.proofs.Going.{is_computed, each_goes}
use Rattle.shards.proofs.laws.shards_of_a_range.Goals as goal

pub returns-clause-computed : goal.returns-clause-computed
returns-clause-computed c = is_computed

pub returns-clause-some : goal.returns-clause-some
returns-clause-some c = each_goes
