-- What the calls that resolve a batch ensure, a field for each fact. This project's own.
use Rattle.std.specs.Prelude.{◌≡◌, ℤ, ◌⊎◌, List, ◌++◌, None, IfSome}
use Rattle.keys.specs.declared.range.Range.{Range}
use Rattle.keyspace.specs.declared.batch.Batch.{Batch}
use Rattle.keyspace.specs.declared.reply.Reply.{Reply}
use Rattle.keyspace.specs.Writes.{Write, committed_ranges, writes_of}
use Rattle.keyspace.specs.Judged.{edge as oldest, Judged}
use Rattle.stepmap.specs.Boundary.{AreUpTo}
use Rattle.stepmap.specs.StepMap.{Steps}
use Rattle.stepmap.specs.Covers.{MapCovers}
use Rattle.stepmap.specs.Rooted.{Rooted}
use Rattle.conflict.specs.declared.error.SetStop.{SetStop}
use Rattle.conflict.specs.declared.error.SetStop.TheVariants.{Memory, ArenaFull}
use Rattle.conflict.specs.declared.when_full.WhenFull.{WhenFull}
use Rattle.conflict.specs.declared.when_full.WhenFull.TheVariants.{Refuse}
use Rattle.conflict.specs.ConflictSet.{
  SetState,
  IsSwept,
  IsOverLimit,
  IsOverLimitUnited,
  with_edge,
  HasRoomToWrite,
  HasNoRoomToWrite,
  stop_after,
}
use Rattle.conflict.specs.Pace.{IsPaced}

-- the write ranges that the reply commits
abbrev pub commits_of : Batch → Reply → List Range
commits_of batch reply = committed_ranges batch.txns reply.entries

-- The step map with its edge raised to that of the batch.
abbrev pub raised_for : ℤ → Batch → Steps → Steps
raised_for window batch m = with_edge (oldest window batch) m

-- The reply is the right one after all writes that the step map covers. Then the map also covers the
-- writes that the reply commits, which fit within the limit.
pub record Detects (window : ℤ) (old new : Steps) (batch : Batch) (reply : Reply) : Type 0 where
  pub judged : (ws : List Write) → MapCovers old ws → Judged window ws batch reply
  pub covers : (ws : List Write) → MapCovers old ws → MapCovers new (ws ++ writes_of batch reply)
  pub rooted : (ws : List Write) → Rooted old ws → Rooted new (ws ++ writes_of batch reply)
  pub swept :
      (ws : List Write) → Rooted old ws → IsSwept (oldest window batch) old new
      (ws ++ writes_of batch reply) (commits_of batch reply)
  pub paced : IsPaced (oldest window batch) batch.version old new (commits_of batch reply)
  pub room : HasRoomToWrite (raised_for window batch old) (commits_of batch reply)
  pub newest : AreUpTo batch.version new.boundaries
  pub edge : new.edge ≡ oldest window batch
  pub limit : new.limit ≡ old.limit

-- The ranges that the right reply to the batch commits don't fit within the limit.
pub record IsFull (window : ℤ) (old : Steps) (ws : List Write) (batch : Batch) (reply : Reply)
    : Type 0 where
  pub over : IsOverLimit old.limit (oldest window batch) (ws ++ writes_of batch reply)
  pub over_united :
      IsOverLimitUnited old.limit (oldest window batch) ws (commits_of batch reply)
  pub no_room : HasNoRoomToWrite (raised_for window batch old) (commits_of batch reply)

-- The batch isn't resolved, for this reason. The step map covers the same writes as before. A
-- refused batch leaves it unchanged. If the stop is for memory, the boundaries are unchanged, or the
-- committed ranges would have fitted.
pub record Fails (when_full : WhenFull) (window : ℤ) (old new : Steps) (batch : Batch)
    (stop : SetStop) : Type 0 where
  pub covers : (ws : List Write) → MapCovers old ws → MapCovers new ws
  pub rooted : (ws : List Write) → Rooted old ws → Rooted new ws
  pub limit : new.limit ≡ old.limit
  pub refused : when_full ≡ Refuse → stop ≡ ArenaFull → new ≡ old
  pub full :
      stop ≡ ArenaFull → (ws : List Write) (reply : Reply) → MapCovers old ws → Rooted old ws →
      Judged window ws batch reply → IsFull window old ws batch reply
  pub memory :
      stop ≡ Memory → (ws : List Write) (reply : Reply) → MapCovers old ws →
      Judged window ws batch reply → (new.boundaries ≡ old.boundaries)
      ⊎ HasRoomToWrite (raised_for window batch old) (commits_of batch reply)

-- A set that hasn't stopped resolves the batch with this reply.
pub record Resolves (old new : SetState) (batch : Batch) (reply : Reply) : Type 0 where
  pub map : Detects old.window old.map new.map batch reply
  pub resolved : new.resolved ≡ batch.version
  pub window : new.window ≡ old.window
  pub continues : (old.stop ≡ None) × (new.stop ≡ None)

-- A set doesn't resolve the batch, for this reason: the one that it stopped for before, or one that
-- it meets now.
pub record Stops (when_full : WhenFull) (old new : SetState) (batch : Batch) (stop : SetStop)
    : Type 0 where
  pub stopped : IfSome old.stop (λ was. (stop ≡ was) × (new ≡ old))
  pub now : old.stop ≡ None → new.stop ≡ stop_after when_full stop
  pub map : old.stop ≡ None → Fails when_full old.window old.map new.map batch stop
  pub refused : when_full ≡ Refuse → stop ≡ ArenaFull → new ≡ old
  pub resolved : new.resolved ≡ old.resolved
  pub window : new.window ≡ old.window
