use Rattle.std.proofs.Common.{arith}
use Rattle.std.proofs.lemmas.Grind.{common_steps}
use Rattle.replay_workers.proofs.inbox.Inbox.keep.Goals as goal

pub returns-clause-kept : goal.returns-clause-kept
returns-clause-kept c =
    λ kept. (c.in-Some.line, grind (arith, common_steps), c.in-Some.ensures.answer, c.in-Some.ensures.line)
