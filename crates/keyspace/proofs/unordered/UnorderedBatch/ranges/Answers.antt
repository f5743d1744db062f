use Rattle.std.proofs.Common.{ap, ◌∙◌}
use Rattle.keyspace.specs.declared.batch.Batch.{Batch}
use Rattle.keyspace.specs.storage.BatchRanges.{ranges_in}
use Rattle.keyspace.proofs.TablesRanges.{spans_hold, ranges_are}
use Rattle.keyspace.proofs.unordered.UnorderedBatch.ranges.Goals as goal

pub new-requires-clause-holds : goal.new-requires-clause-holds
new-requires-clause-holds c =
    let tables = c.self.inside in
    rw (c.deref.ensures.value, c.deref-2.ensures.value)
    (spans_hold tables.buffer.items tables.spans.items tables.rows.items tables.tables)

pub returns : goal.returns
returns c =
    let tables = c.self.inside in
    record {
      ranges = ranges_are tables.buffer.items tables.spans.items tables.rows.items tables.tables tables.tables.holds
          c.deref.result.now c.deref-2.result.now c.new.result c.deref.ensures.value c.deref-2.ensures.value c.new.ensures.reported
          ∙ ap (λ (b : Batch). ranges_in b.txns) c.self.view_is;
    }
