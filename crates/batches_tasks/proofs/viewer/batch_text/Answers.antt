use Rattle.batches_tasks.proofs.viewer.batch_text.Goals as goal

pub returns-clause-shown : goal.returns-clause-shown
returns-clause-shown c = (c.in_ok-batch.batch, c.in_ok-batch.ensures.batch)
