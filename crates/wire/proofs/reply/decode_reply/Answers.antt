use Rattle.std.proofs.Common.{arith}
use Rattle.wire.proofs.Replies.{reply_decoded}
use Rattle.wire.proofs.reply.decode_reply.Goals as goal

pub returns-clause-within : goal.returns-clause-within
returns-clause-within c = (reply_decoded c.args.bytes.now c.read_frame.result
    (λ i. omega (arith, c.type_inv.bytes i)) c.read_frame.ensures.reads c.read_frame.ensures.used).1

pub returns-clause-spelled : goal.returns-clause-spelled
returns-clause-spelled c = (reply_decoded c.args.bytes.now c.read_frame.result
    (λ i. omega (arith, c.type_inv.bytes i)) c.read_frame.ensures.reads c.read_frame.ensures.used).0
