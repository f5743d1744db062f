-- The rows of a batch that are left, and the transactions that they show.
use Rattle.std.proofs.Common.{◌≡◌, ◌≤◌, ◌+◌, ℕ, zero, suc, List, [], ◌∷◌, length, map, drop, refl, sym, ap, ◌∙◌, subst, arith}
use Rattle.std.specs.Prelude.{Some, slice_get}
use Rattle.keyspace.specs.declared.txn.Txn.{Txn}
use Rattle.keyspace.specs.declared.span.Span.{Span}
use Rattle.keyspace.specs.declared.row.Row.{Row}
use Rattle.keyspace.specs.storage.Fields.{txn_fields}
use Rattle.keyspace.specs.storage.Tables.{txn_of_row, txns_from}
use Rattle.keyspace.proofs.callers.Rows.{rows_rise}
use Rattle.shards.specs.Built.{AreLeft}
use Rattle.shards.proofs.BuiltTables.{drop_next}

-- the element that what is left begins with
first_dropped : {X : Type 0} (xs : List X) (i : ℕ) (x : X) (rest : List X) → drop i xs ≡ x ∷ rest
    → (slice_get xs i ≡ Some x) × (drop (i + 1) xs ≡ rest)
first_dropped [] zero x rest is = absurd cc
first_dropped [] (suc i) x rest is = absurd cc
first_dropped (y ∷ xs) zero x rest is =
    let same : y ≡ x = cc in
    let others : xs ≡ rest = cc in
    (ap (λ z. Some z) same, others)
first_dropped (y ∷ xs) (suc i) x rest is =
    let more : suc i + 1 ≡ suc (i + 1) = omega arith in
    let next = first_dropped xs i x rest is in
    (next.0, ap (λ n. drop n (y ∷ xs)) more ∙ next.1)

module _ (buffer : List ℕ) (spans : List Span) where
  -- the transaction of the next row, and the rows after it
  next_kept : (from : ℕ) (row : Row) (rows : List Row) (t : Txn) (txns : List Txn) → AreLeft buffer spans from (row ∷ rows) (t ∷ txns)
      → (txn_of_row buffer spans from row ≡ txn_fields t) × AreLeft buffer spans row.end rows txns
      × (from + row.writes ≤ row.end) × (row.end ≤ length spans)
  next_kept from row rows t txns left =
      let both : txn_of_row buffer spans from row ∷ txns_from buffer spans row.end rows ≡ txn_fields t ∷ map txn_fields txns =
      left.reported in
      let first : txn_of_row buffer spans from row ≡ txn_fields t = cc in
      let others : txns_from buffer spans row.end rows ≡ map txn_fields txns = cc in (
        first,
        record { reported = others; fit = left.fit.1 },
        left.fit.0,
        rows_rise row.end rows (length spans) left.fit.1,
      )

  next_of : (from : ℕ) (rows : List Row) (txns : List Txn) (i : ℕ) (row : Row) (left : List Txn) → drop i txns ≡ left
      → AreLeft buffer spans from (row ∷ drop (i + 1) rows) left
      → (t : Txn) × (slice_get txns i ≡ Some t) × (txn_of_row buffer spans from row ≡ txn_fields t)
      × AreLeft buffer spans row.end (drop (i + 1) rows) (drop (i + 1) txns)
      × (from + row.writes ≤ row.end) × (row.end ≤ length spans)
  next_of from rows txns i row [] is left =
      let none : txn_of_row buffer spans from row ∷ txns_from buffer spans row.end (drop (i + 1) rows) ≡ [] = left.reported in
      absurd cc
  next_of from rows txns i row (t ∷ rest) is left =
      let parts = first_dropped txns i t rest is in
      let next = next_kept from row (drop (i + 1) rows) t rest left in (
        t,
        parts.0,
        next.0,
        subst (λ (ts : List Txn). AreLeft buffer spans row.end (drop (i + 1) rows) ts) (sym parts.1) next.1,
        next.2,
        next.3,
      )

  -- the same by the index of the row
  pub next_row : (from : ℕ) (rows : List Row) (txns : List Txn) (i : ℕ) (row : Row) → slice_get rows i ≡ Some row
      → AreLeft buffer spans from (drop i rows) (drop i txns)
      → (t : Txn) × (slice_get txns i ≡ Some t) × (txn_of_row buffer spans from row ≡ txn_fields t)
      × AreLeft buffer spans row.end (drop (i + 1) rows) (drop (i + 1) txns)
      × (from + row.writes ≤ row.end) × (row.end ≤ length spans)
  next_row from rows txns i row at left =
      next_of from rows txns i row (drop i txns) refl
      (subst (λ (rs : List Row). AreLeft buffer spans from rs (drop i txns)) (drop_next rows i row at) left)
