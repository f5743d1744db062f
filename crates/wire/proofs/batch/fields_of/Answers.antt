use Rattle.std.proofs.Common.{arith}
use Rattle.wire.proofs.Heads.{after_header}
use Rattle.wire.proofs.batch.fields_of.Goals as goal

pub txns_of-requires-clause-rest : goal.txns_of-requires-clause-rest
txns_of-requires-clause-rest c =
    let header = c.in_ok-previous in
    after_header c.args.frame.now c.args.bytes.now (header.previous, header.batch_version, header.received) header.rest.now
    c.in_ok-count.count c.in_ok-count.rest.now (λ i. omega (arith, c.type_inv.bytes i)) c.requires.rest header.ensures.reads
    c.in_ok-count.ensures.reads
