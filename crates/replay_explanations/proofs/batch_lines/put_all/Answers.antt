use Rattle.replay_explanations.proofs.Indices.{text_next}
use Rattle.replay_explanations.proofs.batch_lines.put_all.Goals as goal

pub loop-read-preserved : goal.loop-read-preserved
loop-read-preserved c = text_next _ c.loop-read.read _ _ _ c.loop-read.invariant c.in_ok-put_read_line.ensures.text
