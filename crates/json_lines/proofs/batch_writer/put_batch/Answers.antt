use Rattle.std.proofs.Common.{rules}
use Rattle.wire.proofs.callers.Held.{batch_holds}
use Rattle.json_lines.proofs.batch_writer.put_batch.Goals as goal

pub returns-clause-holds : goal.returns-clause-holds
returns-clause-holds c =
    batch_holds c.args.batch.now (search rules) (search rules) (search rules) c.in_ok-put_txns.ensures.fit
