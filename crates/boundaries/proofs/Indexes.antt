-- Where a key stands among boundaries.
use Rattle.std.specs.Prelude.{ℕ, not, List, filter}
use Rattle.keys.specs.Key.{is_before}
use Rattle.boundaries.specs.Boundary.{Boundary}

-- the boundaries whose keys aren't after the key
abbrev pub up_to : List ℕ → List Boundary → List Boundary
up_to key bs = filter (λ b. not (is_before key b.key)) bs

-- those whose keys are
abbrev pub after : List ℕ → List Boundary → List Boundary
after key bs = filter (λ b. is_before key b.key) bs
