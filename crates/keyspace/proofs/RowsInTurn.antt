-- Rows whose spans lie in sequence, and the transactions that they show, by their indices.
use Rattle.std.proofs.Common.{◌≡◌, ℕ, zero, suc, pos, false, ◌+◌, ◌<◌, ◌≤◌, List, [], ◌∷◌, ◌++◌, length, take, get_or, refl, sym, ap, ◌∙◌, subst, arith}
use Rattle.keyspace.specs.declared.span.Span.{Span}
use Rattle.keyspace.specs.declared.row.Row.{Row}
use Rattle.keyspace.specs.storage.Fields.{TxnFields}
use Rattle.keyspace.specs.storage.Tables.{txn_of_row, txns_from, AreRows}
use Rattle.keyspace.proofs.callers.Rows.{rows_rise}

-- what an index past the rows reads
abbrev pub no_row : Row
no_row = record { snapshot = pos 0; end = 0; writes = 0; marked = false }

-- the rows before an index lie in sequence too
pub rows_before : (from : ℕ) (rows : List Row) (to index : ℕ) → AreRows from rows to
    → (at : ℕ) × AreRows from (take index rows) at
rows_before from [] to zero are = (from, refl)
rows_before from [] to (suc index) are = (from, refl)
rows_before from (row ∷ rows) to zero are = (from, refl)
rows_before from (row ∷ rows) to (suc index) are =
    let others = rows_before row.end rows to index are.1 in
    (others.0, (are.0, others.1))

-- and so do those up to the row at an index, and end where that row ends
pub rows_up_to : (from : ℕ) (rows : List Row) (to index : ℕ) (none : Row) → AreRows from rows to → index < length rows
    → AreRows from (take (index + 1) rows) (get_or rows index none).end
rows_up_to from [] to index none are within = absurd (omega (arith, within))
rows_up_to from (first ∷ rows) to zero none are within = (are.0, refl)
rows_up_to from (first ∷ rows) to (suc index) none are within =
    let more : suc (index + 1) ≡ suc index + 1 = omega arith in
    subst (λ (n : ℕ). AreRows from (take n (first ∷ rows)) (get_or rows index none).end) more
    (are.0, rows_up_to first.end rows to index none are.1 (omega (arith, within)))

-- the spans of a row lie after those of the rows before it
pub row_at : (from : ℕ) (rows : List Row) (to index at : ℕ) (row none : Row) → AreRows from rows to
    → AreRows from (take index rows) at → index < length rows → row ≡ get_or rows index none
    → (at + row.writes ≤ row.end) × (row.end ≤ to)
row_at from [] to index at row none are before within is = absurd (omega (arith, within))
row_at from (first ∷ rows) to zero at row none are before within is =
    subst (λ (r : Row). (at + r.writes ≤ r.end) × (r.end ≤ to)) (sym is)
    (omega (arith, before, are.0), rows_rise first.end rows to are.1)
row_at from (first ∷ rows) to (suc index) at row none are before within is =
    row_at first.end rows to index at row none are.1 before.1 (omega (arith, within)) is

module _ (buffer : List ℕ) (spans : List Span) where
  pub length-reported : (from : ℕ) (rows : List Row) → length (txns_from buffer spans from rows) ≡ length rows
  length-reported from [] = refl
  length-reported from (row ∷ rows) = ap suc (length-reported row.end rows)

  -- the transaction at an index, whose spans begin where those of the rows before it end
  pub reported_at : (from : ℕ) (rows : List Row) (index at : ℕ) (row : Row) (none : TxnFields) → AreRows from (take index rows) at
      → index < length rows → row ≡ get_or rows index row
      → get_or (txns_from buffer spans from rows) index none ≡ txn_of_row buffer spans at row
  reported_at from [] index at row none before within is = absurd (omega (arith, within))
  reported_at from (first ∷ rows) zero at row none before within is =
      ap (λ (n : ℕ). txn_of_row buffer spans n first) before ∙ ap (txn_of_row buffer spans at) (sym is)
  reported_at from (first ∷ rows) (suc index) at row none before within is =
      reported_at first.end rows index at row none before.1 (omega (arith, within)) is

  -- one row more
  pub reported_more : (from : ℕ) (rows : List Row) (at : ℕ) (row : Row) → AreRows from rows at
      → txns_from buffer spans from (rows ++ row ∷ []) ≡ txns_from buffer spans from rows ++ txn_of_row buffer spans at row ∷ []
  reported_more from [] at row are = ap (λ (n : ℕ). txn_of_row buffer spans n row ∷ []) are
  reported_more from (first ∷ rows) at row are =
      ap (λ (txns : List TxnFields). txn_of_row buffer spans from first ∷ txns) (reported_more first.end rows at row are.1)
