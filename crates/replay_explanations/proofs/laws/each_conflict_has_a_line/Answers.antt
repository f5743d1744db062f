use Rattle.replay_explanations.proofs.HasLine.{has_line}
use Rattle.replay_explanations.proofs.laws.each_conflict_has_a_line.Goals as goal

pub returns : goal.returns
returns c = record { each = λ form window ps p chain j t e at_t at_e. has_line form window ps p chain j t at_t e at_e }
