-- How full a resolver was, as it is counted. This project's own.
use Rattle.std.specs.Prelude.{ℕ, max}
use Rattle.replay_summary.specs.declared.occupancy.Occupancy.{Occupancy}

-- later, when it holds this many batches, and its conflict set has this many boundaries
abbrev pub occupancy_after : ℕ → ℕ → Occupancy → Occupancy
occupancy_after held boundaries before = record {
  most_held = max before.most_held held;
  boundaries = boundaries;
  most_boundaries = max before.most_boundaries boundaries;
}
