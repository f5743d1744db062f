-- What tables tell to which those of other transactions are appended.
use Rattle.std.proofs.Common.{◌≡◌, ◌≤◌, ◌+◌, ◌-◌, ℕ, List, [], ◌∷◌, ◌++◌, length, map, refl, sym, ap, ap₂, ◌∙◌, subst, All, slice_range, take, drop, arith, length-append, drop-drop, drop_at}
use Rattle.std.proofs.lemmas.List.{length-map}
use Rattle.std.proofs.lemmas.List.Elements.{All-nil, All-cons, All-map, All-weaker, All-append, All-take, All-drop}
use Rattle.keyspace.specs.declared.span.Span.{Span}
use Rattle.keyspace.specs.declared.row.Row.{Row}
use Rattle.keyspace.specs.storage.Fields.{TxnFields, TxnLimits}
use Rattle.keyspace.specs.storage.Tables.{range_of_span, txn_of_row, txns_from, txns_of_tables, LiesWithin, AreRows, AreTables}
use Rattle.keyspace.proofs.callers.Rows.{rows_rise}
use Rattle.keyspace.proofs.callers.Putting.{ranges_kept, slice_range-append, slice_range-map}
use Rattle.archcaraway_c.specs.Moving.{span_moved, row_moved}

-- a part of what is appended
pub part_after : {X : Type 0} (xs ys : List X) (from to end : ℕ) → end ≡ length xs + to
    → slice_range (xs ++ ys) (length xs + from) end ≡ slice_range ys from to
part_after xs ys from to end is =
    let long : end - (length xs + from) ≡ to - from = omega (arith, is) in
    ap₂ take long (sym (drop-drop from (length xs) (xs ++ ys)) ∙ ap (drop from) (drop_at xs ys (length xs) refl))

-- rows after others
rows_then : (from : ℕ) (rows : List Row) (middle : ℕ) (others : List Row) (to : ℕ) → AreRows from rows middle
    → AreRows middle others to → AreRows from (rows ++ others) to
rows_then from [] middle others to are then' = subst (λ (n : ℕ). AreRows n others to) (sym are) then'
rows_then from (row ∷ rows) middle others to are then' = (are.0, rows_then row.end rows middle others to are.1 then')

-- each ends where the last one ends, or before
pub rows_end : (from : ℕ) (rows : List Row) (to : ℕ) → AreRows from rows to → All (λ row. row.end ≤ to) rows
rows_end from [] to are = All-nil (λ (row : Row). row.end ≤ to)
rows_end from (row ∷ rows) to are =
    All-cons (λ (r : Row). r.end ≤ to) row rows (rows_rise row.end rows to are.1) (rows_end row.end rows to are.1)

rows_moved : (spans from : ℕ) (rows : List Row) (to : ℕ) → AreRows from rows to
    → AreRows (spans + from) (map (row_moved spans) rows) (spans + to)
rows_moved spans from [] to are = ap (λ n. spans + n) are
rows_moved spans from (row ∷ rows) to are = (omega (arith, are.0), rows_moved spans row.end rows to are.1)

reported_then : (buffer : List ℕ) (spans : List Span) (from : ℕ) (rows : List Row) (middle : ℕ) (others : List Row)
    → AreRows from rows middle
    → txns_from buffer spans from (rows ++ others)
    ≡ txns_from buffer spans from rows ++ txns_from buffer spans middle others
reported_then buffer spans from [] middle others are = ap (λ (n : ℕ). txns_from buffer spans n others) are
reported_then buffer spans from (row ∷ rows) middle others are =
    ap (λ (txns : List TxnFields). txn_of_row buffer spans from row ∷ txns)
    (reported_then buffer spans row.end rows middle others are.1)

module _ (buffer : List ℕ) (spans : List Span) (bytes : List ℕ) (added : List Span) where
  -- what the first tables show stays
  part_kept : (from to : ℕ) → All (LiesWithin (length buffer)) spans → to ≤ length spans
      → map (range_of_span (buffer ++ bytes)) (slice_range (spans ++ added) from to)
      ≡ map (range_of_span buffer) (slice_range spans from to)
  part_kept from to lie within =
      ap (map (range_of_span (buffer ++ bytes))) (slice_range-append spans added from to within)
      ∙ ranges_kept buffer bytes (slice_range spans from to)
      (All-take (LiesWithin (length buffer)) (to - from) (drop from spans)
      (All-drop (LiesWithin (length buffer)) from spans lie))

  reported_kept : (from : ℕ) (rows : List Row) (to : ℕ) → All (LiesWithin (length buffer)) spans → AreRows from rows to
      → to ≤ length spans
      → txns_from (buffer ++ bytes) (spans ++ added) from rows ≡ txns_from buffer spans from rows
  reported_kept from [] to lie are within = refl
  reported_kept from (row ∷ rows) to lie are within =
      let middle = row.end - row.writes in
      let ends : row.end ≤ length spans = omega (arith, rows_rise row.end rows to are.1, within) in
      let reads = part_kept from middle lie (omega (arith, ends)) in
      let writes = part_kept middle row.end lie ends in
      let txn : txn_of_row (buffer ++ bytes) (spans ++ added) from row ≡ txn_of_row buffer spans from row =
      λ i. record { snapshot = row.snapshot; marked = row.marked; reads = reads i; writes = writes i } in
      ap₂ ◌∷◌ txn (reported_kept row.end rows to lie are.1 within)

module _ (buffer : List ℕ) (spans : List Span) (bytes : List ℕ) (others : List Span) where
  ranges_moved : (parts : List Span)
      → map (range_of_span (buffer ++ bytes)) (map (span_moved (length buffer)) parts) ≡ map (range_of_span bytes) parts
  ranges_moved [] = refl
  ranges_moved (span ∷ parts) =
      let begin = part_after buffer bytes span.begin (span.begin + span.begin_length) _ (omega arith) in
      let end = part_after buffer bytes span.end (span.end + span.end_length) _ (omega arith) in
      let range : range_of_span (buffer ++ bytes) (span_moved (length buffer) span) ≡ range_of_span bytes span =
      λ i. record { begin = begin i; end = end i } in
      ap₂ ◌∷◌ range (ranges_moved parts)

  part_moved : (from to end : ℕ) → end ≡ length spans + to
      → map (range_of_span (buffer ++ bytes))
      (slice_range (spans ++ map (span_moved (length buffer)) others) (length spans + from) end)
      ≡ map (range_of_span bytes) (slice_range others from to)
  part_moved from to end is =
      ap (map (range_of_span (buffer ++ bytes)))
      (part_after spans (map (span_moved (length buffer)) others) from to end is
      ∙ slice_range-map (span_moved (length buffer)) others from to)
      ∙ ranges_moved (slice_range others from to)

  -- what the others show stays
  reported_moved : (from : ℕ) (rows : List Row) (to : ℕ) → AreRows from rows to
      → txns_from (buffer ++ bytes) (spans ++ map (span_moved (length buffer)) others) (length spans + from)
      (map (row_moved (length spans)) rows)
      ≡ txns_from bytes others from rows
  reported_moved from [] to are = refl
  reported_moved from (row ∷ rows) to are =
      let middle = row.end - row.writes in
      let low : length spans + row.end - row.writes ≡ length spans + middle = omega (arith, are.0) in
      let reads = part_moved from middle (length spans + row.end - row.writes) low in
      let writes :
      map (range_of_span (buffer ++ bytes)) (slice_range (spans ++ map (span_moved (length buffer)) others)
      (length spans + row.end - row.writes) (length spans + row.end))
      ≡ map (range_of_span bytes) (slice_range others middle row.end) =
      ap (λ n. map (range_of_span (buffer ++ bytes)) (slice_range (spans ++ map (span_moved (length buffer)) others)
      n (length spans + row.end))) low ∙ part_moved middle row.end (length spans + row.end) refl in
      let txn : txn_of_row (buffer ++ bytes) (spans ++ map (span_moved (length buffer)) others) (length spans + from)
      (row_moved (length spans) row) ≡ txn_of_row bytes others from row =
      λ i. record { snapshot = row.snapshot; marked = row.marked; reads = reads i; writes = writes i } in
      ap₂ ◌∷◌ txn (reported_moved row.end rows to are.1)

-- the tables of the first transactions and then of the others
module _ (buffer : List ℕ) (spans : List Span) (rows : List Row) (tables : AreTables buffer spans rows)
    (bytes : List ℕ) (others : List Span) (more : List Row) (tables' : AreTables bytes others more) where
  abbrev moved : List Span
  moved = map (span_moved (length buffer)) others

  abbrev later : List Row
  later = map (row_moved (length spans)) more

  pub reported_joined : txns_of_tables (buffer ++ bytes) (spans ++ map (span_moved (length buffer)) others)
      (rows ++ map (row_moved (length spans)) more)
      ≡ txns_of_tables buffer spans rows ++ txns_of_tables bytes others more
  reported_joined =
      let start : length spans ≡ length spans + 0 = omega arith in
      reported_then (buffer ++ bytes) (spans ++ moved) 0 rows (length spans) later tables.rows_fit
      ∙ ap₂ ◌++◌ (reported_kept buffer spans bytes moved 0 rows (length spans) tables.spans_within tables.rows_fit (omega arith))
      (ap (λ (n : ℕ). txns_from (buffer ++ bytes) (spans ++ moved) n later) start
      ∙ reported_moved buffer spans bytes others 0 more (length others) tables'.rows_fit)

  pub tables_joined : AreTables (buffer ++ bytes) (spans ++ map (span_moved (length buffer)) others)
      (rows ++ map (row_moved (length spans)) more)
  tables_joined =
      let all = LiesWithin (length (buffer ++ bytes)) in
      let long = length-append buffer bytes in
      let start : length spans + 0 ≡ length spans = omega arith in
      let count : length spans + length others ≡ length (spans ++ moved) =
      omega (arith, length-append spans moved, length-map others (span_moved (length buffer))) in
      record {
        spans_within = All-append all spans moved
            (All-weaker (LiesWithin (length buffer)) all
            (λ span lies. record { begin = omega (arith, lies.begin, long); end = omega (arith, lies.end, long) })
            spans tables.spans_within)
            (All-map all (span_moved (length buffer)) others
            (All-weaker (LiesWithin (length bytes)) (λ span. all (span_moved (length buffer) span))
            (λ span lies. record { begin = omega (arith, lies.begin, long); end = omega (arith, lies.end, long) })
            others tables'.spans_within));
        rows_fit = subst (AreRows 0 (rows ++ later)) count
            (rows_then 0 rows (length spans) later (length spans + length others) tables.rows_fit
            (subst (λ (n : ℕ). AreRows n later (length spans + length others)) start
            (rows_moved (length spans) 0 more (length others) tables'.rows_fit)));
        holds = subst (All TxnLimits) (sym reported_joined)
            (All-append TxnLimits (txns_of_tables buffer spans rows) (txns_of_tables bytes others more) tables.holds tables'.holds);
      }

-- tables with the same contents
pub tables_same : (buffer bytes : List ℕ) (spans places : List Span) (rows others : List Row) → bytes ≡ buffer → places ≡ spans
    → others ≡ rows → AreTables buffer spans rows → AreTables bytes places others
tables_same buffer bytes spans places rows others b s r tables =
    subst (λ (bs : List ℕ). AreTables bs places others) (sym b)
    (subst (λ (ss : List Span). AreTables buffer ss others) (sym s)
    (subst (λ (rs : List Row). AreTables buffer spans rs) (sym r) tables))

pub reported_same : (buffer bytes : List ℕ) (spans places : List Span) (rows others : List Row) → bytes ≡ buffer → places ≡ spans
    → others ≡ rows → txns_of_tables bytes places others ≡ txns_of_tables buffer spans rows
reported_same buffer bytes spans places rows others b s r =
    ap (λ (bs : List ℕ). txns_of_tables bs places others) b ∙ ap₂ (λ (ss : List Span) (rs : List Row). txns_of_tables buffer ss rs) s r
