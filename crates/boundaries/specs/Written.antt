-- Boundaries after a range was written. This project's own.
use Rattle.std.specs.Prelude.{ℕ, ℤ, if◌then◌else◌, List, [], ◌∷◌, ◌++◌}
use Rattle.keys.specs.Key.{is_before}
use Rattle.keys.specs.declared.range.Range.{Range}
use Rattle.boundaries.specs.Boundary.{Boundary, value_at, below, from_on}

-- the boundaries, none before the key, with one at the key itself, which has this version unless it was there
-- already
abbrev pub closed_at : List ℕ → ℤ → List Boundary → List Boundary
closed_at key version [] = record { key = key; version = version } ∷ []
closed_at key version (b ∷ bs) =
    if is_before key b.key then record { key = key; version = version } ∷ b ∷ bs
    else b ∷ bs

-- the boundaries after the version was written from one key up to another, where the version at the end is given
abbrev pub written_between : List ℕ → List ℕ → ℤ → ℤ → List Boundary → List Boundary
written_between start end version at_end bs =
    below start bs ++ record { key = start; version = version } ∷ closed_at end at_end (from_on end bs)

-- the boundaries after the range was written at the version, where the version at its end is given
abbrev pub written_to : Range → ℤ → ℤ → List Boundary → List Boundary
written_to range version at_end bs = written_between range.begin range.end version at_end bs

-- the boundaries after the range was written at the version
abbrev pub boundaries_after_write : Range → ℤ → List Boundary → List Boundary
boundaries_after_write range version bs = written_to range version (value_at bs range.end) bs
