use Rattle.replay_diagnosis.proofs.Lines.{run_remedy_is_line}
use Rattle.replay_diagnosis.proofs.laws.each_run_remedy_is_a_line.Goals as goal

pub returns : goal.returns
returns c = record { each = run_remedy_is_line }
