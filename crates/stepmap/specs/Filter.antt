-- A filter of writes. This project's own.
use Rattle.std.specs.Prelude.{ℕ, ℤ, ◌*◌, ◌/◌, ◌^◌, List, [], ◌∷◌, length, get_or}
use Rattle.std.specs.List.{flat_map}
use Rattle.std.specs.Int.{int_max}
use Rattle.keys.specs.Hash.{hash_of}
use Rattle.stepmap.specs.Cell.{bound_of, empty_cell}
use Rattle.stepmap.specs.declared.filter.cell.Cell.{Cell}

pub record FilterState : Type 0 where
  pub cells : List Cell
  -- the version of the newest range
  pub newest_range : ℤ
  -- that of the newest key
  pub newest_key : ℤ

-- Which of n cells the keys of a hash fall into. The cells part the numbers of 32 bits in their order, so that each is two
-- where there are twice as many.
abbrev pub cell_at : ℕ → ℕ → ℕ
cell_at count hash = hash * count / 2 ^ 32

-- the bound of the keys of a hash: that of their cell, or the version of the newest range, whichever is greater
unfoldable pub bound_in : FilterState → ℕ → ℤ
bound_in f hash =
    int_max (bound_of (get_or f.cells (cell_at (length f.cells) hash) empty_cell) hash) f.newest_range

-- No write of the key is above it.
abbrev pub bound : FilterState → List ℕ → ℤ
bound f key = bound_in f (hash_of key)

-- each cell twice, in order: twice as many cells
abbrev pub each_twice : List Cell → List Cell
each_twice cells = flat_map (λ cell. cell ∷ cell ∷ []) cells
