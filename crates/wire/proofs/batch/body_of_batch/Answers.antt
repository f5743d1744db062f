use Rattle.std.proofs.Common.{arith}
use Rattle.wire.proofs.Heads.{after_kind}
use Rattle.wire.proofs.batch.body_of_batch.Goals as goal

pub fields_of-requires-clause-rest : goal.fields_of-requires-clause-rest
fields_of-requires-clause-rest c =
    after_kind c.args.frame.now c.args.bytes.now c.in_ok-version.version c.in_ok-version.rest.now
    (λ i. omega (arith, c.type_inv.bytes i)) c.requires.rest c.in_ok-version.ensures.reads
