use Rattle.std.proofs.Common.{◌∙◌}
use Rattle.replay_workers.proofs.reporting_batches.AskingFramesBatches.next.Goals as goal

pub returns-clause-batch : goal.returns-clause-batch
returns-clause-batch g c =
    let takes = rw c.in-Some.is at c.in_ok-batch.ensures.batch in
    (c.in-Some.batch, takes, c.in-Ok.ensures.batch ∙ c.all_asking.ensures.asking)
