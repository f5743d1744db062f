use Rattle.std.proofs.Common.{ℕ, List, subst}
use Rattle.wire.specs.Fields.{reply_fields}
use Rattle.wire.specs.Spelling.{SpellsReply, reply_body}
use Rattle.wire.proofs.callers.Frames.{entire_is_frame}
use Rattle.batches_tasks.proofs.frame.reply_in.Goals as goal

pub returns-in-Ok-clause-reply : goal.returns-in-Ok-clause-reply
returns-in-Ok-clause-reply c =
    let spelled = c.in-Ok.ensures.spelled in
    subst (λ (bytes : List ℕ). SpellsReply bytes c.in-Ok.reply)
    (entire_is_frame (reply_body (reply_fields c.in-Ok.reply)) c.args.frame.now c.in-Ok.field-0-1 spelled.short spelled.text
    c.in-Ok.ensures.within c.requires.settled) spelled
