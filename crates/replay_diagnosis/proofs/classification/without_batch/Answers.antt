use Rattle.std.proofs.Common.{rules}
use Rattle.replay_diagnosis.proofs.Classified.{is_no_frame, is_reply}
use Rattle.replay_diagnosis.proofs.classification.without_batch.Goals as goal

pub returns-in-Ok-clause-finding : goal.returns-in-Ok-clause-finding
returns-in-Ok-clause-finding c =
    is_reply c.args.position c.args.front.now c.in-Ok.ensures.reply.0 c.in-Ok.field-0 c.args.fault c.requires.some
    c.requires.fault c.in-Ok.ensures.reply.1

pub returns-in-Err-clause-finding : goal.returns-in-Err-clause-finding
returns-in-Err-clause-finding c =
    is_no_frame c.args.position c.args.front.now c.args.fault c.in-Err.field-0 c.requires.some c.requires.complete
    c.requires.fault (c.in-Err.ensures.fault (search rules)) c.requires.no_json
