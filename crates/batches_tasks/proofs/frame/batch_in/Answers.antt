use Rattle.std.proofs.Common.{ℕ, List, subst}
use Rattle.wire.specs.Fields.{batch_fields}
use Rattle.wire.specs.Spelling.{SpellsBatch, batch_body}
use Rattle.wire.specs.Reading.{version_at_front}
use Rattle.wire.proofs.callers.Frames.{entire_is_frame}
use Rattle.batches_tasks.proofs.frame.batch_in.Goals as goal

pub returns-in-Ok-clause-batch : goal.returns-in-Ok-clause-batch
returns-in-Ok-clause-batch c =
    let frame = c.args.frame.now in
    let spelled = c.in-Ok.ensures.spelled in
    subst (λ (bytes : List ℕ). SpellsBatch (version_at_front frame) bytes c.in-Ok.batch)
    (entire_is_frame (batch_body (version_at_front frame) (batch_fields c.in-Ok.batch)) frame c.in-Ok.field-0-1 spelled.short
    spelled.text c.in-Ok.ensures.within c.requires.settled) spelled
