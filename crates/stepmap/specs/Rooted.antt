-- Boundaries come from the begins and ends of ranges written not too long ago, so they are few.
use Rattle.std.specs.Prelude.{◌≡◌, ◌≢◌, ℕ, ℤ, negsuc, ◌≤ℤ◌, ◌⊎◌, List, [], ◌∷◌, All, Any, IfSome}
use Rattle.std.specs.Int.{int_max}
use Rattle.keys.specs.Range.{IsEmpty}
use Rattle.keyspace.specs.Writes.{Write}
use Rattle.stepmap.specs.Boundary.{Boundary, below}
use Rattle.stepmap.specs.StepMap.{Steps}

-- the key is the begin or the end of some non-empty range written at or above the version
abbrev pub IsEndOf : List Write → ℤ → List ℕ → Type 0
IsEndOf ws version key =
    Any (λ w. ¬ IsEmpty w.range × ((w.range.begin ≡ key) ⊎ (w.range.end ≡ key)) × (version ≤ℤ w.version)) ws

-- every boundary but the empty key is the begin or the end of a range written at or above the edge
abbrev pub Ends : List Boundary → List Write → ℤ → Type 0
Ends bs ws edge = All (λ b. b.key ≢ [] → IsEndOf ws edge b.key) bs

-- Every boundary except the empty key is an end of a written range, if its version or that of the boundary before it is at or above the
-- edge. The range was written at the greater of the two versions, or above.
abbrev pub AreRooted : List Write → ℤ → ℤ → List Boundary → Type 0
AreRooted ws edge before [] = Unit {0}
AreRooted ws edge before (b ∷ bs) =
    (b.key ≢ [] → edge ≤ℤ int_max before b.version → IsEndOf ws (int_max before b.version) b.key)
    × AreRooted ws edge b.version bs

pub record Rooted (m : Steps) (ws : List Write) : Type 0 where
  pub each : AreRooted ws m.edge (negsuc 0) m.boundaries
  -- the boundaries that the round under way has passed are written at or above the edge with which it began
  pub passed : IfSome m.round (λ round. Ends (below round.cursor m.boundaries) ws round.edge)
