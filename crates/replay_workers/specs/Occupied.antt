-- How full a resolver is over a log, beside the reference resolver. This project's own.
use Rattle.std.specs.Prelude.{◌≡◌, ℕ, ◌≤◌, ℤ, pos, ◌≤ℤ◌, ◌-ℤ◌, List, [], ◌∷◌, ◌++◌, length, take, Option, Some, None, IfSome}
use Rattle.std.specs.Int.{int_max}
use Rattle.keyspace.specs.Processed.{Processed, version_of}
use Rattle.keyspace.specs.Run.{Step, run}
use Rattle.keyspace.specs.Writes.{writes}
use Rattle.stepmap.specs.StepMap.{AreSteps}
use Rattle.conflict.specs.ConflictSet.{SetState, Remembers}
use Rattle.replay_summary.specs.declared.occupancy.Occupancy.{Occupancy}
use Rattle.limits.specs.declared.stop.Stop.{Stop}
use Rattle.resolver.specs.Observed.{HasSeen}
use Rattle.resolver.specs.Resolver.{ResolverState, StandsOver}
use Rattle.replay_workers.specs.Stops.{IsStopOf}

-- The greatest number of batches that the reference resolver holds at once over this log. After some number of its first steps it holds
-- that many, and after no number more.
pub record IsGreatestHeld (window : ℤ) (log : List Step) (most : ℕ) : Type 0 where
  pub none_more : (n : ℕ) → length (run window (take n log)).held ≤ most
  pub steps : ℕ
  pub reached : length (run window (take steps log)).held ≡ most

-- A conflict set with this limit, which remembers what was committed over this log as far back as the window, has this many boundaries.
-- They measure this project's conflict set: the reference resolver has none. A set may keep boundaries that it no longer needs, so the log
-- determines only how few there can be.
pub record HasBoundaries (limit : ℕ) (window : ℤ) (log : List Step) (count : ℕ) : Type 0 where
  pub set : SetState
  pub steps : AreSteps set.map
  pub edge : set.map.edge ≤ℤ int_max (version_of (run window log).processed -ℤ window) (pos 0)
  pub remembers : Remembers set (writes (run window log).processed)
  pub limit_is : set.map.limit ≡ limit
  pub count_is : length set.map.boundaries ≡ count

-- How full a resolver is over this log.
pub record IsOccupancyOver (limit : ℕ) (window : ℤ) (log : List Step) (occupancy : Occupancy) : Type 0 where
  pub held : IsGreatestHeld window log occupancy.most_held
  -- the boundaries at the end
  pub boundaries : HasBoundaries limit window log occupancy.boundaries
  -- as many as there were at most, there were after this number of steps
  pub steps : ℕ
  pub most_boundaries : HasBoundaries limit window (take steps log) occupancy.most_boundaries
  -- after each number of steps, some such set has at most that many
  pub none_more : (n : ℕ) → (count : ℕ) × HasBoundaries limit window (take n log) count × (count ≤ occupancy.most_boundaries)
  pub at_most : occupancy.boundaries ≤ occupancy.most_boundaries
  pub within : occupancy.most_boundaries ≤ limit

-- how full it is before the last step of this log
pub record IsOccupancyBeforeLast (limit : ℕ) (window : ℤ) (log : List Step) (occupancy : Occupancy) : Type 0 where
  pub before : List Step
  pub last : Step
  pub log_is : log ≡ before ++ last ∷ []
  pub over : IsOccupancyOver limit window before occupancy

-- How full it is over this log, by whether a stop was met. That is so in its last step, which isn't counted then.
abbrev pub IsOccupancyOf : Option Stop → ℕ → ℤ → List Step → Occupancy → Type 0
IsOccupancyOf None limit window log occupancy = IsOccupancyOver limit window log occupancy
IsOccupancyOf (Some stop) limit window log occupancy = IsOccupancyBeforeLast limit window log occupancy

-- The resolver represents a log, and the stop that it met, if any, is that of the log. An observer of which this is true has seen what is
-- processed over it, and this is how full the resolver was.
pub record IsMeasured (Seen : List Processed → Type 0) (occupancy : Occupancy) (r : ResolverState) : Type 0 where
  pub log : List Step
  pub stands : StandsOver r log
  pub met : IfSome r.core.stop (IsStopOf r.core.set.map.limit r.core.set.window log)
  pub seen : HasSeen Seen r.core.stop r.core.set.window log
  pub occupied : IsOccupancyOf r.core.stop r.core.set.map.limit r.core.set.window log occupancy
