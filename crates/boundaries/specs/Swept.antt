-- What a sweep leaves of boundaries: it removes those that say nothing at or above the edge. This project's own.
use Rattle.std.specs.Prelude.{ℕ, ℤ, negsuc, not, ◌&&◌, int_lt, if◌then◌else◌, List, [], ◌∷◌, ◌++◌, take, drop, filter, Bool}
use Rattle.keys.specs.Key.{is_before}
use Rattle.boundaries.specs.Boundary.{Boundary, last_version}

-- A boundary goes if its version and that of the boundary before it are both below the edge. The one before counts
-- as it stood when the sweep came by, also if it goes itself.
abbrev pub unexpired_boundaries : ℤ → ℤ → List Boundary → List Boundary
unexpired_boundaries edge before [] = []
unexpired_boundaries edge before (b ∷ bs) =
    if int_lt before edge && int_lt b.version edge then unexpired_boundaries edge b.version bs
    else b ∷ unexpired_boundaries edge b.version bs

-- what a sweep leaves that looks at every boundary but the empty key
abbrev pub unexpired_all : ℤ → List Boundary → List Boundary
unexpired_all edge [] = []
unexpired_all edge (b ∷ bs) = b ∷ unexpired_boundaries edge b.version bs

-- whether the sweep has still to look at the boundary: it isn't the empty key, and isn't before the cursor
abbrev pub is_left : List ℕ → Boundary → Bool
is_left cursor b = is_before [] b.key && not (is_before b.key cursor)

-- the boundaries that the sweep has still to look at, and the others
abbrev pub left_from : List ℕ → List Boundary → List Boundary
left_from cursor bs = filter (is_left cursor) bs

abbrev pub passed_to : List ℕ → List Boundary → List Boundary
passed_to cursor bs = filter (λ b. not (is_left cursor b)) bs

-- of those passed and those left, the boundaries that a sweep leaves that looks at n
abbrev pub boundaries_after_sweep : ℤ → ℕ → List Boundary → List Boundary → List Boundary
boundaries_after_sweep edge count passed left =
    passed ++ (unexpired_boundaries edge (last_version (negsuc 0) passed) (take count left) ++ drop count left)
