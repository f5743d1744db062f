-- The sweep removes boundaries that say nothing at or above the edge, some at a time. This project's own.
use Rattle.std.specs.Prelude.{ℕ, ℤ, List, [], ◌∷◌, length, drop, Option, Some, None}
use Rattle.stepmap.specs.Boundary.{Boundary}
use Rattle.stepmap.specs.StepMap.{Round, Steps}
pub use Rattle.boundaries.specs.Swept.{is_left, left_from, passed_to, boundaries_after_sweep, unexpired_boundaries}

-- the key from which on the round under way has still to look, or the empty key where none is
abbrev pub cursor_of : Option Round → List ℕ
cursor_of None = []
cursor_of (Some round) = round.cursor

-- the edge with which the round under way began, or the map's edge, with which one will begin
abbrev pub round_edge : ℤ → Option Round → ℤ
round_edge edge None = edge
round_edge edge (Some round) = round.edge

-- how many the round under way has still to look at, or a complete round if none is under way
abbrev pub rest : Steps → ℕ
rest m = length (left_from (cursor_of m.round) m.boundaries)

-- the round continues at the first that is left; if none is left, it has ended
abbrev pub round_at : ℤ → List Boundary → Option Round
round_at edge [] = None
round_at edge (b ∷ bs) = Some (record { cursor = b.key; edge = edge })

-- the step map with no round under way: the next sweep begins at the front
abbrev pub at_front : Steps → Steps
at_front m = record m { round = None }

-- the step map after a sweep that looks at n boundaries
abbrev pub after_sweep : ℕ → Steps → Steps
after_sweep count m =
    let left = left_from (cursor_of m.round) m.boundaries in
    record m {
      boundaries = boundaries_after_sweep m.edge count (passed_to (cursor_of m.round) m.boundaries) left;
      round = round_at (round_edge m.edge m.round) (drop count left);
    }
