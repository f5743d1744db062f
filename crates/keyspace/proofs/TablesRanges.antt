-- The ranges that tables show: those of all spans, at most as many as the limits allow.
use Rattle.std.proofs.Common.{◌≡◌, ◌≤◌, ◌*◌, ◌-◌, ℕ, List, [], ◌∷◌, ◌++◌, length, map, take, drop, refl, sym, ap, ap₂, ◌∙◌, subst, All, flat_map, slice_range, arith, length-append, take_all}
use Rattle.std.proofs.lemmas.List.{length-map, map-append}
use Rattle.std.proofs.lemmas.List.Elements.{All-nil, All-head, All-tail, All-append}
use Rattle.keys.specs.declared.range.Range.{Range}
use Rattle.keyspace.specs.declared.txn.Txn.{Txn}
use Rattle.keyspace.specs.declared.span.Span.{Span}
use Rattle.keyspace.specs.declared.row.Row.{Row}
use Rattle.keyspace.specs.storage.BatchRanges.{ranges_in}
use Rattle.keyspace.specs.storage.Fields.{RangeFields, TxnFields, range_fields, txn_fields, RangeHolds, TxnLimits, txns_with}
use Rattle.keyspace.specs.storage.Tables.{range_of_span, txns_from, txns_of_tables, AreRows, AreTables}
use Rattle.keyspace.proofs.callers.Rows.{rows_rise}
use Rattle.keyspace.proofs.callers.SameFields.{same_ranges}
use Rattle.keyspace.proofs.FieldsBack.{fields_of_txns}
use Rattle.keyspace.proofs.RowsInTurn.{length-reported}
use Rattle.keyspace.proofs.Slices.{slice_range-join}

-- the ranges of transactions, as one list
abbrev pub fields_in : List TxnFields → List RangeFields
fields_in txns = flat_map (λ txn. txn.reads ++ txn.writes) txns

fields_of_ranges_in : (txns : List Txn) → map range_fields (ranges_in txns) ≡ fields_in (map txn_fields txns)
fields_of_ranges_in [] = refl
fields_of_ranges_in (txn ∷ txns) =
    map-append range_fields (txn.reads ++ txn.writes) (ranges_in txns)
    ∙ ap₂ ◌++◌ (map-append range_fields txn.reads txn.writes) (fields_of_ranges_in txns)

holds_in : (txns : List TxnFields) → All TxnLimits txns → All RangeHolds (fields_in txns)
holds_in [] limits = All-nil RangeHolds
holds_in (txn ∷ txns) limits =
    let first = All-head TxnLimits txn txns limits in
    All-append RangeHolds (txn.reads ++ txn.writes) (fields_in txns)
    (All-append RangeHolds txn.reads txn.writes first.reads first.writes)
    (holds_in txns (All-tail TxnLimits txn txns limits))

few_in : (txns : List TxnFields) → All TxnLimits txns → length (fields_in txns) ≤ 2048 * length txns
few_in [] limits = omega arith
few_in (txn ∷ txns) limits =
    let first = All-head TxnLimits txn txns limits in
    let others = few_in txns (All-tail TxnLimits txn txns limits) in
    let both = length-append txn.reads txn.writes in
    let all = length-append (txn.reads ++ txn.writes) (fields_in txns) in
    omega arith

reported_in : (buffer : List ℕ) (spans : List Span) (from : ℕ) (rows : List Row) (to : ℕ) → AreRows from rows to
    → fields_in (txns_from buffer spans from rows) ≡ map (range_of_span buffer) (slice_range spans from to)
reported_in buffer spans from [] to are =
    let none : 0 ≡ to - from = omega (arith, are) in
    ap (λ n. map (range_of_span buffer) (take n (drop from spans))) none
reported_in buffer spans from (row ∷ rows) to are =
    let reported = range_of_span buffer in
    let middle = row.end - row.writes in
    let low : from ≤ middle = omega (arith, are.0) in
    let high : middle ≤ row.end = omega arith in
    let own : from ≤ row.end = omega (arith, are.0) in
    ap₂ ◌++◌ (sym (map-append reported (slice_range spans from middle) (slice_range spans middle row.end))
    ∙ ap (map reported) (slice_range-join spans from middle row.end low high)) (reported_in buffer spans row.end rows to are.1)
    ∙ sym (map-append reported (slice_range spans from row.end) (slice_range spans row.end to))
    ∙ ap (map reported) (slice_range-join spans from row.end to own (rows_rise row.end rows to are.1))

module _ (buffer : List ℕ) (spans : List Span) (rows : List Row) (tables : AreTables buffer spans rows) where
  reported_by_spans : fields_in (txns_of_tables buffer spans rows) ≡ map (range_of_span buffer) spans
  reported_by_spans =
      reported_in buffer spans 0 rows (length spans) tables.rows_fit
      ∙ ap (map (range_of_span buffer)) (take_all (length spans - 0) spans (omega arith))

  pub spans_hold : All RangeHolds (map (range_of_span buffer) spans)
  spans_hold = subst (All RangeHolds) reported_by_spans (holds_in (txns_of_tables buffer spans rows) tables.holds)

  pub few_spans : length spans ≤ 2048 * length rows
  few_spans =
      let few = few_in (txns_of_tables buffer spans rows) tables.holds in
      let as_spans : length (fields_in (txns_of_tables buffer spans rows)) ≡ length spans =
      ap length reported_by_spans ∙ length-map spans (range_of_span buffer) in
      let as_rows = length-reported buffer spans 0 rows in
      omega arith

  -- transactions that the tables show have the ranges of the spans
  pub ranges_of_reported : (txns : List Txn) → txns_of_tables buffer spans rows ≡ map txn_fields txns
      → map range_fields (ranges_in txns) ≡ map (range_of_span buffer) spans
  ranges_of_reported txns reported = fields_of_ranges_in txns ∙ ap fields_in (sym reported) ∙ reported_by_spans

  -- the ranges of the transactions are those of the spans
  pub ranges_reported : (holds : All TxnLimits (txns_of_tables buffer spans rows))
      → map range_fields (ranges_in (txns_with (txns_of_tables buffer spans rows) holds)) ≡ map (range_of_span buffer) spans
  ranges_reported holds =
      fields_of_ranges_in (txns_with (txns_of_tables buffer spans rows) holds)
      ∙ ap fields_in (fields_of_txns (txns_of_tables buffer spans rows) holds) ∙ reported_by_spans

  pub ranges_are : (holds : All TxnLimits (txns_of_tables buffer spans rows)) (bytes : List ℕ) (places : List Span)
      (ranges : List Range) → bytes ≡ buffer → places ≡ spans
      → map range_fields ranges ≡ map (range_of_span bytes) places
      → ranges ≡ ranges_in (txns_with (txns_of_tables buffer spans rows) holds)
  ranges_are holds bytes places ranges same_bytes same_places reported =
      same_ranges ranges (ranges_in (txns_with (txns_of_tables buffer spans rows) holds))
      (reported ∙ ap₂ (λ bs ss. map (range_of_span bs) ss) same_bytes same_places ∙ sym (ranges_reported holds))
