use Rattle.batches_tasks.proofs.viewer.reply_text.Goals as goal

pub returns-clause-shown : goal.returns-clause-shown
returns-clause-shown c = (c.in_ok-reply.reply, c.in_ok-reply.ensures.reply)
