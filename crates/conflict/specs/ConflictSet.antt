-- What a conflict set is seen as, and how few boundaries it keeps. This project's own.
use Rattle.std.specs.Prelude.{
  ◌≡◌,
  ℕ,
  ◌+◌,
  ◌*◌,
  ◌<◌,
  ◌≤◌,
  ℤ,
  pos,
  negsuc,
  ◌-ℤ◌,
  ◌≤ℤ◌,
  ◌⊎◌,
  List,
  length,
  Option,
  Some,
  None,
  IsSomeAnd,
}
use Rattle.std.specs.Int.{int_max}
use Rattle.keys.specs.declared.range.Range.{Range}
use Rattle.keyspace.specs.Writes.{Write}
use Rattle.keyspace.specs.Judged.{edge}
use Rattle.stepmap.specs.Boundary.{AreUpTo}
use Rattle.stepmap.specs.StepMap.{Steps, new_map}
use Rattle.stepmap.specs.Sweeping.{rest}
use Rattle.stepmap.specs.Covers.{MapCovers}
use Rattle.stepmap.specs.Rooted.{Ends, Rooted}
use Rattle.stepmap.specs.Counting.{live_count}
use Rattle.stepmap.specs.Limit.{HasRoomFor, made_room}
use Rattle.stepmap.specs.Uniting.{Unites}
use Rattle.stepmap.specs.declared.error.StepError.{StepError}
use Rattle.stepmap.specs.declared.error.StepError.TheVariants as step
use Rattle.limits.specs.declared.settings.TheConstants.{MAX_WINDOW}
use Rattle.conflict.specs.declared.error.SetStop.{SetStop}
use Rattle.conflict.specs.declared.error.SetStop.TheVariants.{Memory, ArenaFull}
use Rattle.conflict.specs.declared.when_full.WhenFull.{WhenFull}
use Rattle.conflict.specs.declared.when_full.WhenFull.TheVariants.{Stop, Refuse}

-- why a set stops if its step map refuses
abbrev pub stop_of : StepError → SetStop
stop_of step.Memory = Memory
stop_of step.Full = ArenaFull

-- why a set stops, if it does, when it doesn't resolve a batch for this reason
abbrev pub stop_after : WhenFull → SetStop → Option SetStop
stop_after Stop stop = Some stop
stop_after Refuse Memory = Some Memory
stop_after Refuse ArenaFull = None

-- a conflict set
pub record SetState : Type 0 where
  -- how far back it remembers writes, in versions
  pub window : ℤ
  -- the greatest version resolved, or -1
  pub resolved : ℤ
  -- the step function that remembers the writes
  pub map : Steps
  -- why it resolves no more
  pub stop : Option SetStop

-- a set that has resolved nothing
abbrev pub new_set : ℤ → ℕ → SetState
new_set window limit =
    record { window = window; resolved = negsuc 0; map = new_map limit; stop = None }

-- what holds of every conflict set
pub record IsSet (s : SetState) : Type 0 where
  pub least_window : pos 1 ≤ℤ s.window
  pub most_window : s.window ≤ℤ MAX_WINDOW
  pub resolved : negsuc 0 ≤ℤ s.resolved
  -- as long as it resolves, its edge is that of the greatest version resolved, and no write is above that version
  pub edge : s.stop ≡ None → s.map.edge ≡ int_max (s.resolved -ℤ s.window) (pos 0)
  pub newest : s.stop ≡ None → AreUpTo s.resolved s.map.boundaries

-- The set remembers these writes: its function covers them, and its boundaries come from them.
pub record Remembers (s : SetState) (ws : List Write) : Type 0 where
  pub covers : MapCovers s.map ws
  pub rooted : Rooted s.map ws

-- There are few boundaries, or fewer than before. Every boundary but the empty key is the begin or the end of a range
-- written at or above the edge; or at or above the edge of the round that was under way before, and that round has
-- ended; or the round under way has come nearer its end, by ten and by one for each range that unites what was committed.
abbrev pub IsSwept : ℤ → Steps → Steps → List Write → List Range → Type 0
IsSwept edge before now ws ranges =
    Ends now.boundaries ws edge
    ⊎ ((now.round ≡ None) × IsSomeAnd before.round (λ round. Ends now.boundaries ws round.edge))
    ⊎ ((united : List Range) × Unites united ranges × (rest now + (length united + 10) ≤ rest before))

-- two boundaries for each live write, and one, would exceed the limit
abbrev pub IsOverLimit : ℕ → ℤ → List Write → Type 0
IsOverLimit limit edge ws = limit < 1 + 2 * live_count edge ws

-- the same: two for each live write and for each of the ranges that unite these, and one
abbrev pub IsOverLimitUnited : ℕ → ℤ → List Write → List Range → Type 0
IsOverLimitUnited limit edge ws ranges =
    (united : List Range) × Unites united ranges × (limit < 1 + 2 * (live_count edge ws + length united))

-- the step map with its edge raised to this one
abbrev pub with_edge : ℤ → Steps → Steps
with_edge edge m = record m { edge = edge }

-- ranges that unite these can be written within the limit, at the latest after a complete round of the sweep
abbrev pub HasRoomToWrite : Steps → List Range → Type 0
HasRoomToWrite m ranges =
    (united : List Range) × Unites united ranges × HasRoomFor (length united) (made_room (length united) m)

-- they can't be, not even after a complete round
abbrev pub HasNoRoomToWrite : Steps → List Range → Type 0
HasNoRoomToWrite m ranges =
    (united : List Range) × Unites united ranges × (¬ HasRoomFor (length united) (made_room (length united) m))
