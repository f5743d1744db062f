-- Which ranges are write ranges, by the rows and by the transactions.
use Rattle.std.proofs.Common.{◌≡◌, ℕ, ◌-◌, ◌+◌, ◌<◌, ◌≤◌, Bool, true, false, List, [], ◌∷◌, ◌++◌, length, map, filter, take, drop, get_or, replicate, flat_map, slice_range, refl, sym, ap, ap₂, subst, ◌∙◌, arith, All, append-nil, append_assoc, length-append, length-drop, length-take}
use Rattle.std.proofs.lemmas.List.{length-map, length-replicate, take_all, take_more}
use Rattle.keys.specs.GapRuns.{AreChosenInOrder}
use Rattle.keys.specs.Singles.{is_marked, marked_ranges, HaveInOrder}
use Rattle.keys.specs.declared.range.Range.{Range}
use Rattle.keys.proofs.callers.Picked.{picked-append, picked-replicate}
use Rattle.keys.proofs.callers.GapRuns.{chosen_among}
use Rattle.keyspace.specs.declared.txn.Txn.{Txn}
use Rattle.keyspace.specs.declared.span.Span.{Span}
use Rattle.keyspace.specs.declared.row.Row.{Row}
use Rattle.keyspace.specs.storage.BatchRanges.{is_write_in, marks_of_txn, ranges_in, ranges_of_txn, write_marks, writes_in}
use Rattle.keyspace.specs.storage.Fields.{TxnFields, range_fields, txn_fields, TxnLimits, txns_with}
use Rattle.keyspace.specs.storage.Tables.{range_of_span, txns_from, txns_of_tables, AreRows, AreTables}
use Rattle.keyspace.specs.storage.RowMarks.{marks_from, marks_of_rows}
use Rattle.keyspace.proofs.callers.Rows.{rows_rise}
use Rattle.keyspace.proofs.FieldsBack.{fields_of_txns}
use Rattle.keyspace.proofs.RowsInTurn.{rows_up_to, row_at}

-- a mark for each span
pub length-marks : (from : ℕ) (rows : List Row) (to : ℕ) → AreRows from rows to → from + length (marks_from from rows) ≡ to
length-marks from [] to are = omega (arith, are)
length-marks from (row ∷ rows) to are =
    let reads = replicate (row.end - row.writes - from) false in
    let writes = replicate row.writes true in
    let others = marks_from row.end rows in
    omega (
      arith,
      are.0,
      length-marks row.end rows to are.1,
      length-append reads (writes ++ others),
      length-append writes others,
      length-replicate (row.end - row.writes - from) false,
      length-replicate row.writes true,
    )

-- the marks of one row more
pub marks_more : (from : ℕ) (rows : List Row) (at : ℕ) (row : Row) → AreRows from rows at
    → marks_from from (rows ++ row ∷ [])
    ≡ marks_from from rows ++ (replicate (row.end - row.writes - at) false ++ replicate row.writes true)
marks_more from [] at row are =
    ap₂ (λ n writes. replicate (row.end - row.writes - n) false ++ writes) are (append-nil (replicate row.writes true))
marks_more from (first ∷ rows) at row are =
    let reads = replicate (first.end - first.writes - from) false in
    let writes = replicate first.writes true in
    let others = marks_from first.end rows in
    let last = replicate (row.end - row.writes - at) false ++ replicate row.writes true in
    ap (λ marks. reads ++ (writes ++ marks)) (marks_more first.end rows at row are.1)
    ∙ ap (λ marks. reads ++ marks) (sym (append_assoc writes others last))
    ∙ sym (append_assoc reads (writes ++ others) last)

-- what filling them up leaves: the marks of one row more
pub marks_filled : (rows : List Row) (count index : ℕ) (row none : Row) (marks half entire : List Bool) → AreRows 0 rows count
    → index < length rows → row ≡ get_or rows index none
    → marks ≡ marks_of_rows (take index rows) → AreRows 0 (take index rows) (length marks)
    → half ≡ take (row.end - row.writes) marks ++ replicate (row.end - row.writes - length marks) false
    → entire ≡ take row.end half ++ replicate (row.end - length half) true
    → (entire ≡ marks_of_rows (take (index + 1) rows)) × AreRows 0 (take (index + 1) rows) (length entire)
marks_filled rows count index row none marks half entire are within is reported before first second =
    let middle = row.end - row.writes in
    let reads = replicate (middle - length marks) false in
    let writes = replicate row.writes true in
    let fits = row_at 0 rows count index (length marks) row none are before within is in
    let half_is : half ≡ marks ++ reads = first ∙ ap (λ kept. kept ++ reads) (take_all middle marks (omega (arith, fits.0))) in
    let half_long : length half ≡ middle =
    omega (arith, fits.0, ap length half_is, length-append marks reads, length-replicate (middle - length marks) false) in
    let count_writes : row.end - length half ≡ row.writes = omega (arith, fits.0, half_long) in
    let entire_is : entire ≡ half ++ writes =
    second ∙ ap₂ (λ kept n. kept ++ replicate n true) (take_all row.end half (omega (arith, half_long))) count_writes in
    let entire_long : row.end ≡ length entire =
    omega (arith, fits.0, half_long, ap length entire_is, length-append half writes, length-replicate row.writes true) in
    let taken : take (index + 1) rows ≡ take index rows ++ row ∷ [] =
    take_more rows index none within ∙ ap (λ r. take index rows ++ r ∷ []) (sym is) in (
      entire_is ∙ ap (λ front. front ++ writes) half_is ∙ append_assoc marks reads writes
          ∙ ap (λ front. front ++ (reads ++ writes)) reported
          ∙ sym (marks_more 0 (take index rows) (length marks) row before) ∙ ap marks_of_rows (sym taken),
      subst (AreRows 0 (take (index + 1) rows)) (ap (λ (r : Row). r.end) (sym is) ∙ entire_long)
          (rows_up_to 0 rows count index none are within),
    )

-- that many read ranges, and then that many write ranges
abbrev marks_for : ℕ → ℕ → List Bool
marks_for reads writes = replicate reads false ++ replicate writes true

-- the marks of the ranges of transactions, by their fields
abbrev marks_of_fields : List TxnFields → List Bool
marks_of_fields txns = flat_map (λ txn. marks_for (length txn.reads) (length txn.writes)) txns

by_fields : (txns : List Txn) → write_marks txns ≡ marks_of_fields (map txn_fields txns)
by_fields [] = refl
by_fields (txn ∷ txns) =
    ap₂ ◌++◌ (ap₂ marks_for (sym (length-map txn.reads range_fields)) (sym (length-map txn.writes range_fields))) (by_fields txns)

length-part : (spans : List Span) (from to : ℕ) → from ≤ to → to ≤ length spans → length (slice_range spans from to) ≡ to - from
length-part spans from to ordered within =
    omega (arith, ordered, within, length-take (to - from) (drop from spans), length-drop from spans)

by_rows : (buffer : List ℕ) (spans : List Span) (from : ℕ) (rows : List Row) (to : ℕ) → AreRows from rows to → to ≤ length spans
    → marks_from from rows ≡ marks_of_fields (txns_from buffer spans from rows)
by_rows buffer spans from [] to are within = refl
by_rows buffer spans from (row ∷ rows) to are within =
    let reported = range_of_span buffer in
    let middle = row.end - row.writes in
    let ends : row.end ≤ length spans = omega (arith, rows_rise row.end rows to are.1, within) in
    let reads = slice_range spans from middle in
    let writes = slice_range spans middle row.end in
    let part = length-part spans middle row.end (omega arith) ends in
    let count : length (map reported reads) ≡ middle - from =
    length-map reads reported ∙ length-part spans from middle (omega (arith, are.0)) (omega (arith, ends)) in
    let more : length (map reported writes) ≡ row.writes = length-map writes reported ∙ omega (arith, part, are.0) in
    sym (append_assoc (replicate (middle - from) false) (replicate row.writes true) (marks_from row.end rows))
    ∙ ap₂ ◌++◌ (ap₂ marks_for (sym count) (sym more)) (by_rows buffer spans row.end rows to are.1 within)

-- the write ranges are those whose marks are set
picked_of_txn : (t : Txn) → marked_ranges (marks_of_txn t) (ranges_of_txn t) ≡ t.writes
picked_of_txn t =
    picked-append (replicate (length t.reads) false) (replicate (length t.writes) true) t.reads t.writes
    (length-replicate (length t.reads) false)
    ∙ ap₂ ◌++◌ (picked-replicate false t.reads) (picked-replicate true t.writes)

marks_count : (t : Txn) → length (marks_of_txn t) ≡ length (ranges_of_txn t)
marks_count t = omega (
  arith,
  length-append (replicate (length t.reads) false) (replicate (length t.writes) true),
  length-replicate (length t.reads) false,
  length-replicate (length t.writes) true,
  length-append t.reads t.writes,
)

picked_writes : (txns : List Txn) → marked_ranges (write_marks txns) (ranges_in txns) ≡ writes_in txns
picked_writes [] = refl
picked_writes (t ∷ txns) =
    picked-append (marks_of_txn t) (write_marks txns) (ranges_of_txn t) (ranges_in txns) (marks_count t)
    ∙ ap₂ ◌++◌ (picked_of_txn t) (picked_writes txns)

module _ (buffer : List ℕ) (spans : List Span) (rows : List Row) (tables : AreTables buffer spans rows)
    (holds : All TxnLimits (txns_of_tables buffer spans rows)) where
  abbrev txns : List Txn
  txns = txns_with (txns_of_tables buffer spans rows) holds

  -- the marks of the rows are those of the transactions that the tables mean
  pub marks_reported : marks_of_rows rows ≡ write_marks txns
  marks_reported =
      by_rows buffer spans 0 rows (length spans) tables.rows_fit (omega arith)
      ∙ sym (ap marks_of_fields (fields_of_txns (txns_of_tables buffer spans rows) holds)) ∙ sym (by_fields txns)

  -- those listed that are marked are the write ranges of the transactions, in order
  pub writes_in_order : (marks : List Bool) (ranges : List Range) (order their_order writes : List ℕ)
      → marks ≡ marks_of_rows rows → ranges ≡ ranges_in txns → their_order ≡ order
      → HaveInOrder (is_marked marks) ranges order → writes ≡ filter (is_marked marks) their_order
      → AreChosenInOrder (is_write_in txns) (ranges_in txns) writes
  writes_in_order marks ranges order their_order writes same_marks same_ranges same_order have are =
      let chosen = chosen_among (is_marked marks) ranges order have in
      let reported = same_marks ∙ marks_reported in
      let moved = subst (λ (ms : List Bool). AreChosenInOrder (is_marked ms) ranges (filter (is_marked ms) order)) reported chosen in
      subst (AreChosenInOrder (is_write_in txns) (ranges_in txns))
      (sym (are ∙ ap (filter (is_marked marks)) same_order
      ∙ ap (λ (ms : List Bool). filter (is_marked ms) order) reported))
      (subst (λ (rs : List Range). AreChosenInOrder (is_write_in txns) rs (filter (is_write_in txns) order)) same_ranges moved)

  -- and those picked
  pub picked_reported : (marks : List Bool) (ranges : List Range) → marks ≡ marks_of_rows rows → ranges ≡ ranges_in txns
      → marked_ranges marks ranges ≡ writes_in txns
  picked_reported marks ranges same_marks same_ranges =
      ap₂ marked_ranges (same_marks ∙ marks_reported) same_ranges ∙ picked_writes txns
