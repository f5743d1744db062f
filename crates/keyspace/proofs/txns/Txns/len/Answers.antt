use Rattle.std.proofs.Common.{arith, length, ap}
use Rattle.keyspace.proofs.TablesTxns.{length-txns}
use Rattle.keyspace.proofs.txns.Txns.len.Goals as goal

pub returns : goal.returns
returns c =
    let tables = c.self.inside in
    record {
      count = omega (arith, tables.rows.ok.0, ap length c.self.view_is, length-txns tables.buffer.items tables.spans.items tables.rows.items tables.tables.holds);
    }
