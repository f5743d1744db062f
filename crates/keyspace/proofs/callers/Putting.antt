-- Lemmas for callers: transactions that are appended to tables, and parts of lists.
pub use Rattle.keyspace.proofs.Putting.{ranges_kept, within_kept, length-put, put_none, put_then}
pub use Rattle.keyspace.proofs.TablesPut.{txn_put, reported_kept}
pub use Rattle.keyspace.proofs.TablesRanges.{few_spans, ranges_of_reported}
pub use Rattle.keyspace.proofs.RowsInTurn.{length-reported, rows_up_to}
pub use Rattle.keyspace.proofs.Slices.{All-slice_range, slice_range-map, slice_range-append, slice_range-appended}
