-- Tables without their last rows.
use Rattle.std.proofs.Common.{◌≡◌, ◌≤◌, ◌-◌, ℕ, zero, suc, List, [], ◌∷◌, length, map, refl, sym, ap, ap₂, ◌∙◌, subst, All, slice_range, take, drop, arith}
use Rattle.std.proofs.lemmas.List.{take-take, length-take-le}
use Rattle.std.proofs.lemmas.List.Elements.{All-take}
use Rattle.std.proofs.lemmas.Slice.{between_is}
use Rattle.keyspace.specs.declared.span.Span.{Span}
use Rattle.keyspace.specs.declared.row.Row.{Row}
use Rattle.keyspace.specs.storage.Fields.{TxnFields, TxnLimits}
use Rattle.keyspace.specs.storage.Tables.{range_of_span, txn_of_row, txns_from, txns_of_tables, LiesWithin, AreRows, AreTables}
use Rattle.keyspace.proofs.callers.Rows.{rows_rise}

front_within : (from : ℕ) (rows : List Row) (count middle to : ℕ) → AreRows from (take count rows) middle
    → AreRows from rows to → middle ≤ to
front_within from [] zero middle to front all = omega (arith, front, all)
front_within from [] (suc count) middle to front all = omega (arith, front, all)
front_within from (row ∷ rows) zero middle to front all =
    omega (arith, front, all.0, rows_rise row.end rows to all.1)
front_within from (row ∷ rows) (suc count) middle to front all = front_within row.end rows count middle to front.1 all.1

part_of_front : (spans : List Span) (n from to : ℕ) → to ≤ n → slice_range (take n spans) from to ≡ slice_range spans from to
part_of_front spans n from to within =
    between_is (take n spans) from to ∙ ap (drop from) (take-take to n spans within) ∙ sym (between_is spans from to)

module _ (buffer : List ℕ) (spans : List Span) where
  reported_of_front : (n from : ℕ) (rows : List Row) (to : ℕ) → AreRows from rows to → to ≤ n
      → txns_from buffer (take n spans) from rows ≡ txns_from buffer spans from rows
  reported_of_front n from [] to are within = refl
  reported_of_front n from (row ∷ rows) to are within =
      let middle = row.end - row.writes in
      let ends : row.end ≤ n = omega (arith, rows_rise row.end rows to are.1, within) in
      let reads = ap (map (range_of_span buffer)) (part_of_front spans n from middle (omega (arith, ends))) in
      let writes = ap (map (range_of_span buffer)) (part_of_front spans n middle row.end ends) in
      let txn : txn_of_row buffer (take n spans) from row ≡ txn_of_row buffer spans from row =
      λ i. record { snapshot = row.snapshot; marked = row.marked; reads = reads i; writes = writes i } in
      ap₂ ◌∷◌ txn (reported_of_front n row.end rows to are.1 within)

  reported_before : (from : ℕ) (rows : List Row) (count : ℕ)
      → txns_from buffer spans from (take count rows) ≡ take count (txns_from buffer spans from rows)
  reported_before from [] zero = refl
  reported_before from [] (suc count) = refl
  reported_before from (row ∷ rows) zero = refl
  reported_before from (row ∷ rows) (suc count) =
      ap (λ (txns : List TxnFields). txn_of_row buffer spans from row ∷ txns) (reported_before row.end rows count)

  -- what the tables of the first rows show
  pub reported_front : (rows : List Row) (count middle : ℕ) → AreTables buffer spans rows → AreRows 0 (take count rows) middle
      → txns_of_tables buffer (take middle spans) (take count rows) ≡ take count (txns_of_tables buffer spans rows)
  reported_front rows count middle tables front =
      reported_of_front middle 0 (take count rows) middle front (omega arith) ∙ reported_before 0 rows count

  -- they are tables
  pub tables_front : (rows : List Row) (count middle : ℕ) → AreTables buffer spans rows → AreRows 0 (take count rows) middle
      → AreTables buffer (take middle spans) (take count rows)
  tables_front rows count middle tables front =
      let within = front_within 0 rows count middle (length spans) front tables.rows_fit in
      let exact : middle ≡ length (take middle spans) = sym (length-take-le middle spans within) in
      record {
        spans_within = All-take (LiesWithin (length buffer)) middle spans tables.spans_within;
        rows_fit = subst (AreRows 0 (take count rows)) exact front;
        holds = subst (All TxnLimits) (sym (reported_front rows count middle tables front))
            (All-take TxnLimits count (txns_of_tables buffer spans rows) tables.holds);
      }
