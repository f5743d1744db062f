use Rattle.std.proofs.Common.{◌≡◌, length, take}
use Rattle.keyspace.specs.storage.RowMarks.{marks_of_rows}
use Rattle.keyspace.specs.storage.Tables.{AreRows}
use Rattle.keyspace.proofs.write_order.mark_writes.Given as goal

abbrev pub invariant-loop-row : goal.invariant-loop-row
invariant-loop-row l = record {
  marks : l.marks.items ≡ marks_of_rows (take l.row-index l.rows);
  rows : AreRows 0 (take l.row-index l.rows) (length l.marks.items);
}
