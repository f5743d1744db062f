-- Which of the ranges of rows are write ranges. This project's own.
use Rattle.std.specs.Prelude.{ℕ, ◌-◌, Bool, true, false, List, [], ◌∷◌, ◌++◌, replicate}
use Rattle.keyspace.specs.declared.row.Row.{Row}

-- for each range of rows, whether it is a write range, where the spans of the rows begin at an index
abbrev pub marks_from : ℕ → List Row → List Bool
marks_from from [] = []
marks_from from (row ∷ rows) =
    replicate (row.end - row.writes - from) false ++ (replicate row.writes true ++ marks_from row.end rows)

-- for each range of the rows, in order
abbrev pub marks_of_rows : List Row → List Bool
marks_of_rows rows = marks_from 0 rows
