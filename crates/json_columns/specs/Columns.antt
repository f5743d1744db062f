-- The columns of a line of JSON at which a fault can be.
use Rattle.std.specs.Prelude.{ℕ, ◌+◌, ◌<◌, ◌≤◌, List, length}

-- from 1, for the first byte, to one past the last one
abbrev pub IsColumnOf : List ℕ → ℕ → Type 0
IsColumnOf line column = (0 < column) × (column ≤ length line + 1)
