use Rattle.std.proofs.Common.{arith, ap, length}
use Rattle.keyspace.proofs.callers.Putting.{length-reported}
use Rattle.archcaraway_c.proofs.batch_object.BatchObject.len.Goals as goal

pub returns-clause-count : goal.returns-clause-count
returns-clause-count c =
    let tables = c.self.inside.tables in
    omega (
      arith,
      c.len.ensures,
      tables.rows.ok.0,
      ap length c.self.view_is,
      length-reported tables.buffer.items tables.spans.items 0 tables.rows.items,
    )
