-- The read version of a transaction, the positions of its ranges among all ranges of a batch, and the hashes of these.
use Rattle.std.proofs.Common.{◌≡◌, ◌+◌, ◌-◌, ◌*◌, ◌<◌, ◌≤◌, ℕ, Option, inl, inr, arith, List, length, take, refl, sym, ap, ◌∙◌, subst, Some, slice_get, slice_range, get_or}
use Rattle.std.proofs.lemmas.List.{get_or-map, length-map}
use Rattle.std.proofs.lemmas.Option.{get_or_from_slice_get, slice_get_within}
use Rattle.std.proofs.lemmas.Slice.Zip.{AllZip-long}
use Rattle.keys.specs.Hash.{AreHashesOf, IsHashOf}
use Rattle.keys.specs.Range.{IsSingle}
use Rattle.keys.specs.declared.range.Range.{Range}
use Rattle.keys.proofs.callers.Lists.{some_at, part_get, AllZip-at}
use Rattle.keyspace.specs.declared.txn.Txn.{Txn}
use Rattle.keyspace.specs.declared.span.Span.{Span}
use Rattle.keyspace.specs.declared.row.Row.{Row}
use Rattle.keyspace.specs.storage.BatchRanges.{ranges_in}
use Rattle.keyspace.specs.storage.Fields.{TxnFields, range_fields, txn_fields, txns_with}
use Rattle.keyspace.specs.storage.Tables.{range_of_span, txn_of_row, txns_of_tables, AreRows, AreTables}
use Rattle.keyspace.proofs.callers.SameFields.{same_ranges}
use Rattle.keyspace.proofs.FieldsBack.{fields_of_txns}
use Rattle.keyspace.proofs.RangesReported.{part_reported}
use Rattle.keyspace.proofs.RowsInTurn.{rows_before, row_at, reported_at}
use Rattle.keyspace.proofs.TablesRanges.{few_spans, ranges_reported}
use Rattle.keyspace.proofs.TablesTxns.{length-txns}

module _ (buffer : List ℕ) (spans : List Span) (rows : List Row) (tables : AreTables buffer spans rows) where
  abbrev txns : List Txn
  txns = txns_with (txns_of_tables buffer spans rows) tables.holds

  pub row_within : (index : ℕ) (txn : Txn) → slice_get txns index ≡ Some txn → index < length rows
  row_within index txn is =
      subst (λ n. index < n) (length-txns buffer spans rows tables.holds) (slice_get_within txns index txn is)

  fields_at : (index from : ℕ) (row : Row) (txn : Txn) → AreRows 0 (take index rows) from → slice_get txns index ≡ Some txn
      → row ≡ get_or rows index row → txn_fields txn ≡ txn_of_row buffer spans from row
  fields_at index from row txn before is at =
      sym (ap txn_fields (get_or_from_slice_get txns index txn txn is))
      ∙ sym (get_or-map txn_fields txns index txn (txn_fields txn) (slice_get_within txns index txn is))
      ∙ ap (λ (fs : List TxnFields). get_or fs index (txn_fields txn)) (fields_of_txns (txns_of_tables buffer spans rows) tables.holds)
      ∙ reported_at buffer spans 0 rows index from row (txn_fields txn) before (row_within index txn is) at

  -- the read version of a transaction is that of its row
  pub snapshot_at : (index : ℕ) (row : Row) (txn : Txn) → slice_get txns index ≡ Some txn → row ≡ get_or rows index row
      → row.snapshot ≡ txn.snapshot
  snapshot_at index row txn is at =
      let before = rows_before 0 rows (length spans) index tables.rows_fit in
      sym (ap (λ (f : TxnFields). f.snapshot) (fields_at index before.0 row txn before.1 is at))

  reads_are : (index from : ℕ) (row : Row) (txn : Txn) → AreRows 0 (take index rows) from → slice_get txns index ≡ Some txn
      → row ≡ get_or rows index row → txn.reads ≡ slice_range (ranges_in txns) from (row.end - row.writes)
  reads_are index from row txn before is at =
      let to = row.end - row.writes in
      let part = slice_range (ranges_in txns) from to in
      same_ranges txn.reads part
      (ap (λ (f : TxnFields). f.reads) (fields_at index from row txn before is at)
      ∙ sym (part_reported buffer spans (ranges_in txns) part from to (ranges_reported buffer spans rows tables tables.holds) refl))

  -- where a read range stands among all ranges
  pub read_at : (index read from : ℕ) (txn : Txn) (range : Range) → AreRows 0 (take index rows) from
      → slice_get txns index ≡ Some txn → slice_get txn.reads read ≡ Some range
      → slice_get (ranges_in txns) (from + read) ≡ Some range
  read_at index read from txn range before is there =
      let it = some_at rows index (row_within index txn is) in
      let at : it.0 ≡ get_or rows index it.0 = sym (get_or_from_slice_get rows index it.0 it.0 it.1) in
      part_get (ranges_in txns) from (it.0.end - it.0.writes) read range
      (ap (λ (reads : List Range). slice_get reads read) (sym (reads_are index from it.0 txn before is at)) ∙ there)

  writes_are : (index from : ℕ) (row : Row) (txn : Txn) → AreRows 0 (take index rows) from → slice_get txns index ≡ Some txn
      → row ≡ get_or rows index row → txn.writes ≡ slice_range (ranges_in txns) (row.end - row.writes) row.end
  writes_are index from row txn before is at =
      let first = row.end - row.writes in
      let part = slice_range (ranges_in txns) first row.end in
      same_ranges txn.writes part
      (ap (λ (f : TxnFields). f.writes) (fields_at index from row txn before is at)
      ∙ sym (part_reported buffer spans (ranges_in txns) part first row.end (ranges_reported buffer spans rows tables tables.holds) refl))

  -- where a write range stands among all ranges
  pub write_at : (index write : ℕ) (row : Row) (txn : Txn) (range : Range) → slice_get txns index ≡ Some txn
      → row ≡ get_or rows index row → slice_get txn.writes write ≡ Some range
      → slice_get (ranges_in txns) ((row.end - row.writes) + write) ≡ Some range
  write_at index write row txn range is at there =
      let before = rows_before 0 rows (length spans) index tables.rows_fit in
      part_get (ranges_in txns) (row.end - row.writes) row.end write range
      (ap (λ (writes : List Range). slice_get writes write) (sym (writes_are index before.0 row txn before.1 is at)) ∙ there)

  -- the write ranges of a row are among those up to its end
  pub writes_fit : (index : ℕ) (row : Row) → index < length rows → row ≡ get_or rows index row → row.writes ≤ row.end
  writes_fit index row within at =
      let before = rows_before 0 rows (length spans) index tables.rows_fit in
      let fits = row_at 0 rows (length spans) index before.0 row row tables.rows_fit before.1 within at in
      omega (arith, fits.0)

  -- there are only that many ranges
  pub few_ranges : length (ranges_in txns) ≤ 2048 * length rows
  few_ranges =
      let reported = ap length (ranges_reported buffer spans rows tables tables.holds) in
      let few = few_spans buffer spans rows tables in
      omega (arith, few, reported, length-map (ranges_in txns) range_fields, length-map spans (range_of_span buffer))

module _ (ranges : List Range) (hashes : List (Option ℕ)) (are : AreHashesOf ranges hashes) (place : ℕ) (range : Range)
    (at : slice_get ranges place ≡ Some range) where
  -- a hash that is given is that of the range
  pub hash_found : (hash : Option ℕ) → place < length hashes → hash ≡ get_or hashes place hash → IsHashOf range hash
  hash_found hash within is = elim are [
    | inl (none, single) ↦ absurd (omega (arith, within, ap length none))
    | inr all ↦ subst (IsHashOf range) (sym is) (AllZip-at IsHashOf ranges hashes place range hash at all)
  ]

  -- if none is given, the range isn't a single key
  pub hash_missing : length hashes ≤ place → ¬ IsSingle range
  hash_missing past = elim are [
    | inl (none, single) ↦ subst (λ (r : Range). ¬ IsSingle r) (get_or_from_slice_get ranges place range range at)
        (single place range (slice_get_within ranges place range at))
    | inr all ↦ absurd (omega (arith, past, slice_get_within ranges place range at, AllZip-long IsHashOf ranges hashes all))
  ]
