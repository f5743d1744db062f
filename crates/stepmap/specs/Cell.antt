-- A cell of a filter. This project's own.
use Rattle.std.specs.Prelude.{ℕ, ℤ, Bool, negsuc, ◌%◌, ◌==◌, if◌then◌else◌}
use Rattle.std.specs.Int.{bit_at, int_max}
use Rattle.stepmap.specs.declared.filter.cell.Cell.{Cell}

-- no key is written into it
abbrev pub empty_cell : Cell
empty_cell = record { version = negsuc 0; others = negsuc 0; hash = 0; marks = 0 }

-- the mark of the hash is set
abbrev pub is_marked : Cell → ℕ → Bool
is_marked cell hash = bit_at cell.marks (hash % 32) == 1

-- the cell's bound of the one hash that it has
abbrev pub own_of : Cell → ℕ → ℤ
own_of cell hash = if cell.hash == hash then cell.version else negsuc 0

-- its bound of others, by their mark
abbrev pub others_of : Cell → ℕ → ℤ
others_of cell hash = if is_marked cell hash then cell.others else negsuc 0

-- No version of a key of the hash is above it. It is the greater one of two: the version of the cell, if it has the hash, and that of the
-- others, if the mark of the hash is set. If neither is so, it is -1.
unfoldable pub bound_of : Cell → ℕ → ℤ
bound_of cell hash = int_max (own_of cell hash) (others_of cell hash)

-- the newest version that was written into it
abbrev pub newest_of : Cell → ℤ
newest_of cell = int_max cell.version cell.others
