use Rattle.replay_tasks.specs.Replies.{TakesReplies}
use Rattle.replay_tasks.proofs.check.replies.read_file.Given as goal

abbrev pub invariant-loop : goal.invariant-loop
invariant-loop g l = TakesReplies (g.S.Source.remaining l.fn.reader) (g.S.Source.remaining l.reader) l.replies.items
