use Rattle.std.proofs.Common.{◌≡◌, Ok, rules, arith}
use Rattle.wire.specs.Lying.{batch_of_tables}
use Rattle.wire.specs.Reading.{read_batch}
use Rattle.wire.proofs.BatchFrames.{read_holds}
use Rattle.wire.proofs.batch.tables_of.Goals as goal

pub returns-clause-holds : goal.returns-clause-holds
unfolding read_batch
returns-clause-holds c =
    let reported = batch_of_tables c.in_ok-frame.frame.now c.in_ok-version.tables in
    let read : read_batch c.args.bytes.now ≡ Ok (c.in_ok-version.version, reported) = search rules in
    read_holds c.args.bytes.now (c.in_ok-version.version, reported) (λ i. omega (arith, c.type_inv.bytes i)) read
