use Rattle.replay_diagnosis.proofs.Lines.{remedy_is_line}
use Rattle.replay_diagnosis.proofs.laws.each_remedy_is_a_line.Goals as goal

pub returns : goal.returns
returns c = record { each = remedy_is_line }
