use Rattle.std.proofs.Common.{length, arith}
use Rattle.byteorder.specs.Endian.{big_bytes}
use Rattle.wire.proofs.BatchFrames.{body_is_at}
use Rattle.wire.proofs.batch.frame_of.Goals as goal

pub returns-clause-body : goal.returns-clause-body
returns-clause-body c =
    let body = c.in_ok-body.body.now in
    let at = body_is_at c.args.bytes.now body (λ i. omega (arith, c.type_inv.bytes i)) c.in_ok-body.ensures.reads in
    (big_bytes 4 (length body), at.front)
