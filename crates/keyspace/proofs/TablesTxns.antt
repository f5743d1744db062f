-- The transactions that tables show, by their indices.
use Rattle.std.proofs.Common.{◌≡◌, ◌<◌, ℕ, List, length, map, take, sym, ap, ◌∙◌, subst, All, Some, slice_get, get_or}
use Rattle.std.proofs.lemmas.List.{length-map}
use Rattle.keyspace.specs.declared.txn.Txn.{Txn}
use Rattle.keyspace.specs.declared.span.Span.{Span}
use Rattle.keyspace.specs.declared.row.Row.{Row}
use Rattle.keyspace.specs.storage.Fields.{TxnFields, range_fields, txn_fields, TxnLimits, txns_with}
use Rattle.keyspace.specs.storage.Tables.{txn_of_row, txns_of_tables, AreRows}
use Rattle.keyspace.proofs.callers.SameFields.{same_txn}
use Rattle.keyspace.proofs.FieldsBack.{fields_of_txns}
use Rattle.keyspace.proofs.RowsInTurn.{length-reported, reported_at}
use Rattle.keyspace.proofs.Slices.{slice_get-shown}

-- a transaction has these fields if it has each of them
same_fields : (txn : Txn) (fields : TxnFields) → txn.snapshot ≡ fields.snapshot → txn.marked ≡ fields.marked
    → map range_fields txn.reads ≡ fields.reads → map range_fields txn.writes ≡ fields.writes → txn_fields txn ≡ fields
same_fields txn fields snapshot marked reads writes = λ i. record {
  snapshot = snapshot i;
  marked = marked i;
  reads = reads i;
  writes = writes i;
}

module _ (buffer : List ℕ) (spans : List Span) (rows : List Row) (holds : All TxnLimits (txns_of_tables buffer spans rows)) where
  pub length-txns : length (txns_with (txns_of_tables buffer spans rows) holds) ≡ length rows
  length-txns =
      let txns = txns_with (txns_of_tables buffer spans rows) holds in
      sym (length-map txns txn_fields) ∙ ap length (fields_of_txns (txns_of_tables buffer spans rows) holds)
      ∙ length-reported buffer spans 0 rows

  pub limits_at : (index from : ℕ) (row : Row) → AreRows 0 (take index rows) from → index < length rows
      → row ≡ get_or rows index row → TxnLimits (txn_of_row buffer spans from row)
  limits_at index from row before within at =
      let reported = txn_of_row buffer spans from row in
      subst TxnLimits (reported_at buffer spans 0 rows index from row reported before within at)
      (holds index reported (subst (λ n. index < n) (sym (length-reported buffer spans 0 rows)) within))

  pub txn_at : (index from : ℕ) (row : Row) (txn : Txn) → AreRows 0 (take index rows) from → index < length rows
      → row ≡ get_or rows index row → txn.snapshot ≡ row.snapshot → txn.marked ≡ row.marked
      → map range_fields txn.reads ≡ (txn_of_row buffer spans from row).reads
      → map range_fields txn.writes ≡ (txn_of_row buffer spans from row).writes
      → slice_get (txns_with (txns_of_tables buffer spans rows) holds) index ≡ Some txn
  txn_at index from row txn before within at snapshot marked reads writes =
      let fields = same_fields txn (txn_of_row buffer spans from row) snapshot marked reads writes in
      slice_get-shown txn_fields same_txn (txns_with (txns_of_tables buffer spans rows) holds) (txns_of_tables buffer spans rows)
      index txn (fields_of_txns (txns_of_tables buffer spans rows) holds)
      (subst (λ n. index < n) (sym length-txns) within)
      (fields ∙ sym (reported_at buffer spans 0 rows index from row (txn_fields txn) before within at))
