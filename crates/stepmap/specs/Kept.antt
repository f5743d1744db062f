-- What a step map keeps beside what it is seen as.
use Rattle.std.specs.Prelude.{◌≡◌, ℕ, ◌+◌, ◌*◌, ◌≤◌, ℤ, List, length, Option, Some, None}
use Rattle.arena.specs.Arena.{HasRoomFor}
use Rattle.stepmap.specs.Filter.{FilterState}
use Rattle.keys.specs.declared.key.TheConstants.{MAX_KEY_LENGTH}
use Rattle.stepmap.specs.StepMap.{Round, Steps, AreSteps}
use Rattle.boundaries.specs.Stored.{Stored, spare_in, each_length}
use Rattle.stepmap.specs.Sweeping.{cursor_of}
use Rattle.stepmap.specs.Filtering.{BoundsSteps}

-- the round under way, of the cursor and the edge that are kept
abbrev pub round_of : List ℕ → Option ℤ → Option Round
round_of cursor None = None
round_of cursor (Some edge) = Some (record { cursor = cursor; edge = edge })

-- the step map of what is kept
abbrev pub steps_of : Stored → ℤ → List (ℕ × ℕ) → List ℕ → Option ℤ → ℕ → Steps
steps_of stored edge ready cursor round limit = record {
  boundaries = stored.boundaries;
  edge = edge;
  ready = ready;
  round = round_of cursor round;
  limit = limit;
}

-- there is room for the next writes, and the filter is right
pub record IsKept (m : Steps) (stored : Stored) (beside : FilterState) (cursor : List ℕ) (cursor_room : ℕ) : Type 0 where
  pub steps : AreSteps m
  pub determines : BoundsSteps beside m
  -- for two boundaries of each range that may be written
  pub boundaries : length m.boundaries + 2 * length m.ready ≤ stored.room
  pub keys : HasRoomFor (spare_in stored) (each_length m.ready)
  -- for a key of any length
  pub any_key : MAX_KEY_LENGTH ≤ cursor_room
  -- no bytes where no round is under way
  pub at_cursor : cursor_of m.round ≡ cursor
