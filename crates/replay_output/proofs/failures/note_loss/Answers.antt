use Rattle.replay_output.proofs.Clean.{with_loss-set}
use Rattle.replay_output.proofs.failures.note_loss.Goals as goal

pub returns : goal.returns
returns c = record { loss = with_loss-set c.args.failures.now c.args.proxy _ c.requires.known }
