-- Tables to which a transaction is appended are tables again, of one more transaction.
use Rattle.std.proofs.Common.{◌≡◌, ◌≤◌, ◌+◌, ◌-◌, ℕ, List, [], ◌∷◌, ◌++◌, length, map, refl, sym, ap, ap₂, ◌∙◌, subst, subst₂, All, slice_range, arith, length-append, append_assoc, append-nil}
use Rattle.std.proofs.lemmas.List.{length-map}
use Rattle.std.proofs.lemmas.List.Elements.{All-append, All-push}
use Rattle.keyspace.specs.declared.span.Span.{Span}
use Rattle.keyspace.specs.declared.row.Row.{Row}
use Rattle.keyspace.specs.storage.Fields.{TxnFields, TxnLimits}
use Rattle.keyspace.specs.storage.Tables.{range_of_span, txn_of_row, txns_from, txns_of_tables, LiesWithin, AreRows, AreTables}
use Rattle.keyspace.specs.storage.Putting.{ArePut}
use Rattle.keyspace.proofs.callers.Rows.{rows_rise, rows_more}
use Rattle.keyspace.proofs.RowsInTurn.{reported_more}
use Rattle.keyspace.proofs.Slices.{All-slice_range, slice_range-append, slice_range-appended}
use Rattle.keyspace.proofs.Putting.{ranges_kept, within_kept, put_then}

-- what a part of the spans shows stays when bytes and spans are appended
part_kept : (buffer more : List ℕ) (spans added : List Span) (from to : ℕ) → All (LiesWithin (length buffer)) spans
    → to ≤ length spans
    → map (range_of_span (buffer ++ more)) (slice_range (spans ++ added) from to)
    ≡ map (range_of_span buffer) (slice_range spans from to)
part_kept buffer more spans added from to lie within =
    ap (map (range_of_span (buffer ++ more))) (slice_range-append spans added from to within)
    ∙ ranges_kept buffer more (slice_range spans from to)
    (All-slice_range (LiesWithin (length buffer)) spans from to lie)

txns_kept : (buffer more : List ℕ) (spans added : List Span) (from : ℕ) (rows : List Row) (to : ℕ)
    → All (LiesWithin (length buffer)) spans → AreRows from rows to → to ≤ length spans
    → txns_from (buffer ++ more) (spans ++ added) from rows ≡ txns_from buffer spans from rows
txns_kept buffer more spans added from [] to lie are within = refl
txns_kept buffer more spans added from (row ∷ rows) to lie are within =
    let middle = row.end - row.writes in
    let ends : row.end ≤ length spans = omega (arith, rows_rise row.end rows to are.1, within) in
    let reads = part_kept buffer more spans added from middle lie (omega (arith, ends)) in
    let writes = part_kept buffer more spans added middle row.end lie ends in
    let txn : txn_of_row (buffer ++ more) (spans ++ added) from row ≡ txn_of_row buffer spans from row =
    λ i. record { snapshot = row.snapshot; marked = row.marked; reads = reads i; writes = writes i } in
    ap₂ ◌∷◌ txn (txns_kept buffer more spans added row.end rows to lie are.1 within)

-- what tables show stays when bytes are appended
pub reported_kept : (buffer more : List ℕ) (spans : List Span) (rows : List Row) → AreTables buffer spans rows
    → txns_of_tables (buffer ++ more) spans rows ≡ txns_of_tables buffer spans rows
reported_kept buffer more spans rows tables =
    ap (λ ss. txns_of_tables (buffer ++ more) ss rows) (sym (append-nil spans))
    ∙ txns_kept buffer more spans [] 0 rows (length spans) tables.spans_within tables.rows_fit (omega arith)

-- the new tables, if the spans and the bytes of the row are appended
module _ (buffer : List ℕ) (spans : List Span) (rows : List Row) (tables : AreTables buffer spans rows)
    (more : List ℕ) (reads writes : List Span) (row : Row) (txn : TxnFields) (limits : TxnLimits txn)
    (lie : All (LiesWithin (length (buffer ++ more))) (reads ++ writes))
    (reads_reported : map (range_of_span (buffer ++ more)) reads ≡ txn.reads)
    (writes_reported : map (range_of_span (buffer ++ more)) writes ≡ txn.writes)
    (snapshot : row.snapshot ≡ txn.snapshot) (marked : row.marked ≡ txn.marked)
    (writes_are : row.writes ≡ length writes) (ends_at : row.end ≡ length spans + (length reads + length writes)) where
  row_reported : txn_of_row (buffer ++ more) (spans ++ (reads ++ writes)) (length spans) row ≡ txn
  row_reported =
      let reported = range_of_span (buffer ++ more) in
      let middle : row.end - row.writes ≡ length spans + length reads = omega (arith, writes_are, ends_at) in
      let first : slice_range (spans ++ (reads ++ writes)) (length spans) (row.end - row.writes) ≡ reads =
      slice_range-appended spans reads writes (row.end - row.writes) middle in
      let as_one : spans ++ (reads ++ writes) ≡ (spans ++ reads) ++ (writes ++ []) =
      sym (append_assoc spans reads writes) ∙ ap (λ ws. (spans ++ reads) ++ ws) (sym (append-nil writes)) in
      let from : row.end - row.writes ≡ length (spans ++ reads) = omega (arith, middle, length-append spans reads) in
      let second : slice_range (spans ++ (reads ++ writes)) (row.end - row.writes) row.end ≡ writes =
      ap₂ (λ ss n. slice_range ss n row.end) as_one from
      ∙ slice_range-appended (spans ++ reads) writes [] row.end (omega (arith, ends_at, length-append spans reads)) in
      λ i. record {
        snapshot = snapshot i;
        marked = marked i;
        reads = (ap (map reported) first ∙ reads_reported) i;
        writes = (ap (map reported) second ∙ writes_reported) i;
      }

  reported_put : txns_of_tables (buffer ++ more) (spans ++ (reads ++ writes)) (rows ++ row ∷ []) ≡ txns_of_tables buffer spans rows ++ txn ∷ []
  reported_put =
      reported_more (buffer ++ more) (spans ++ (reads ++ writes)) 0 rows (length spans) row tables.rows_fit
      ∙ ap₂ (λ txns last. txns ++ last ∷ [])
      (txns_kept buffer more spans (reads ++ writes) 0 rows (length spans) tables.spans_within tables.rows_fit (omega arith)) row_reported

  tables_put : AreTables (buffer ++ more) (spans ++ (reads ++ writes)) (rows ++ row ∷ [])
  tables_put = record {
    spans_within = All-append (LiesWithin (length (buffer ++ more))) spans (reads ++ writes)
        (within_kept buffer more spans tables.spans_within) lie;
    rows_fit = subst (AreRows 0 (rows ++ row ∷ []))
        (omega (arith, ends_at, length-append spans (reads ++ writes), length-append reads writes))
        (rows_more 0 rows (length spans) row tables.rows_fit (omega (arith, writes_are, ends_at)));
    holds = subst (All TxnLimits) (sym reported_put)
        (All-push TxnLimits (txns_of_tables buffer spans rows) txn tables.holds limits);
  }

-- a transaction whose ranges are put, those that it reads before those that it writes
pub txn_put : (buffer buffer₁ buffer₂ : List ℕ) (spans spans₁ spans₂ : List Span) (rows : List Row) (row : Row) (txn : TxnFields)
    → AreTables buffer spans rows → TxnLimits txn
    → ArePut buffer spans txn.reads buffer₁ spans₁ → ArePut buffer₁ spans₁ txn.writes buffer₂ spans₂
    → row.snapshot ≡ txn.snapshot → row.marked ≡ txn.marked
    → row.writes ≡ length txn.writes → row.end ≡ length spans₂
    → AreTables buffer₂ spans₂ (rows ++ row ∷ [])
    × (txns_of_tables buffer₂ spans₂ (rows ++ row ∷ []) ≡ txns_of_tables buffer spans rows ++ txn ∷ [])
txn_put buffer buffer₁ buffer₂ spans spans₁ spans₂ rows row txn tables limits first second snapshot marked writes end =
    let both = put_then buffer spans txn.reads buffer₁ spans₁ txn.writes buffer₂ spans₂ first second in
    let bytes : buffer₂ ≡ buffer ++ both.bytes = both.buffer_is in
    let places : spans₂ ≡ spans ++ (first.added ++ second.added) = both.spans_are in
    let lie : All (LiesWithin (length (buffer ++ both.bytes))) (first.added ++ second.added) =
    subst (λ bs. All (LiesWithin (length bs)) (first.added ++ second.added)) bytes both.within in
    let reads_reported : map (range_of_span (buffer ++ both.bytes)) first.added ≡ txn.reads =
    ap (λ bs. map (range_of_span bs) first.added) (sym bytes ∙ second.buffer_is)
    ∙ ranges_kept buffer₁ second.bytes first.added first.within ∙ first.reported in
    let writes_reported : map (range_of_span (buffer ++ both.bytes)) second.added ≡ txn.writes =
    ap (λ bs. map (range_of_span bs) second.added) (sym bytes) ∙ second.reported in
    let long = ap length first.spans_are ∙ length-append spans first.added in
    let longer = ap length second.spans_are ∙ length-append spans₁ second.added in
    let writes_are : row.writes ≡ length second.added =
    writes ∙ sym (ap length second.reported) ∙ length-map second.added (range_of_span buffer₂) in
    let ends_at : row.end ≡ length spans + (length first.added + length second.added) = omega (arith, end, long, longer) in
    subst₂ (λ bs ss. AreTables bs ss (rows ++ row ∷ [])
    × (txns_of_tables bs ss (rows ++ row ∷ []) ≡ txns_of_tables buffer spans rows ++ txn ∷ [])) (sym bytes) (sym places) (
      tables_put buffer spans rows tables both.bytes first.added second.added row txn limits lie reads_reported writes_reported
          snapshot marked writes_are ends_at,
      reported_put buffer spans rows tables both.bytes first.added second.added row txn limits lie reads_reported writes_reported
          snapshot marked writes_are ends_at,
    )
