-- Lemmas for callers: rows whose spans lie in sequence.
use Rattle.std.proofs.Common.{ℕ, ◌+◌, ◌≤◌, List, [], ◌∷◌, ◌++◌, refl, arith}
use Rattle.keyspace.specs.declared.row.Row.{Row}
use Rattle.keyspace.specs.storage.Tables.{AreRows}

-- the last ones end after where the first ones begin
pub rows_rise : (from : ℕ) (rows : List Row) (to : ℕ) → AreRows from rows to → from ≤ to
rows_rise from [] to are = omega (arith, are)
rows_rise from (row ∷ rows) to are = omega (arith, are.0, rows_rise row.end rows to are.1)

-- one row more
pub rows_more : (from : ℕ) (rows : List Row) (middle : ℕ) (row : Row) → AreRows from rows middle → middle + row.writes ≤ row.end
    → AreRows from (rows ++ row ∷ []) row.end
rows_more from [] middle row are last = (omega (arith, are, last), refl)
rows_more from (first ∷ rows) middle row are last = (are.0, rows_more first.end rows middle row are.1 last)
