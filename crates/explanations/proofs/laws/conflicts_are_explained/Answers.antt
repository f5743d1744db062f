use Rattle.explanations.proofs.Explaining.{explained_if_in_conflict, each_conflict_explained}
use Rattle.explanations.proofs.laws.conflicts_are_explained.Goals as goal

pub returns-clause-exactly : goal.returns-clause-exactly
returns-clause-exactly c = λ window ps p chain j i t at. explained_if_in_conflict window ps p chain j t i at

pub returns-clause-each : goal.returns-clause-each
returns-clause-each c = each_conflict_explained
