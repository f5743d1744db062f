-- The answers of a conflict set that C holds by a handle. This project's own.
use Rattle.std.specs.Prelude.{◌≡◌, ◌<◌, ◌≤◌, ◌≤ℤ◌, ◌<ℤ◌, ◌⊎◌, ℕ, ℤ, List, ◌++◌, Option, Some, None}
use Rattle.keyspace.specs.declared.batch.Batch.{Batch}
use Rattle.keyspace.specs.declared.reply.Reply.{Reply}
use Rattle.keyspace.specs.Writes.{Write, committed_ranges, writes_of}
use Rattle.keyspace.specs.Judged.{edge, Judged}
use Rattle.stepmap.specs.Covers.{MapCovers}
use Rattle.conflict.specs.declared.error.SetStop.{SetStop}
use Rattle.conflict.specs.declared.error.SetStop.TheVariants.{Memory, ArenaFull}
use Rattle.conflict.specs.declared.when_full.WhenFull.{WhenFull}
use Rattle.conflict.specs.declared.when_full.WhenFull.TheVariants as when
use Rattle.conflict.specs.ConflictSet.{SetState, Remembers, IsOverLimit, with_edge, HasRoomToWrite, HasNoRoomToWrite}
use Rattle.limits.specs.declared.stop.Stop.{Stop as StopValue}
use Rattle.conflict.specs.Stop.{stop_at_set}
use Rattle.wire.specs.Spelling.{SpellsReply}
use Rattle.archcaraway_c.specs.declared.refusal.Refusal.{Refusal}
use Rattle.archcaraway_c.specs.declared.refusal.Refusal.TheVariants.{Stop, Wire, Version, Argument, Buffer, Behind}
use Rattle.archcaraway_c.specs.BatchFrame.{IsFrame, IsNoFrame}
use Rattle.archcaraway_c.specs.Bound.{most_reply_length}

-- The parts of a set that C holds: it knows the version resolved last, continues as long as there is no stop, and remembers some
-- list of writes.
pub record AreSetParts (set : SetState) (last : ℤ) (stop : Option SetStop) : Type 0 where
  pub resolved : stop ≡ None → set.resolved ≡ last
  pub continues : stop ≡ None → set.stop ≡ None
  pub remembers : (ws : List Write) × Remembers set ws

-- The set continues after the batch, and covers also the writes that the reply commits.
pub record Continues (old new : SetState) (batch : Batch) (reply : Reply) : Type 0 where
  pub resolved : new.resolved ≡ batch.version
  pub window : new.window ≡ old.window
  pub limit : new.map.limit ≡ old.map.limit
  pub stop : new.stop ≡ None
  pub covers : (ws : List Write) → MapCovers old.map ws → MapCovers new.map (ws ++ writes_of batch reply)

-- The bytes are the frame of the right reply to the batch, whatever writes the set covers, and the set continues after it.
pub record Replies (old new : SetState) (batch : Batch) (answer : List ℕ) : Type 0 where
  pub reply : Reply
  pub answered : SpellsReply answer reply
  pub judged : (ws : List Write) → MapCovers old.map ws → Judged old.window ws batch reply
  pub continues : Continues old new batch reply

-- the same of the batch of a frame
pub record Resolves (old new : SetState) (frame answer : List ℕ) : Type 0 where
  pub batch : Batch
  pub asked : IsFrame frame batch
  pub replies : Replies old new batch answer

-- The second frame is that of the right reply to the batch of the first, whatever writes the set covers.
pub record IsReplied (set : SetState) (frame answer : List ℕ) : Type 0 where
  pub batch : Batch
  pub reply : Reply
  pub asked : IsFrame frame batch
  pub answered : SpellsReply answer reply
  pub judged : (ws : List Write) → MapCovers set.map ws → Judged set.window ws batch reply

-- What a set is that doesn't resolve a batch for this reason: it has stopped, or it is as before.
abbrev pub MetNow : WhenFull → SetState → SetState → SetStop → Type 0
MetNow when.Stop old new met = new.stop ≡ Some met
MetNow when.Refuse old new Memory = new.stop ≡ Some Memory
MetNow when.Refuse old new ArenaFull = new ≡ old

-- The set meets this stop at the batch, or refuses the batch for it. The stop is `ArenaFull` only if the committed ranges can't
-- be written within the limit. Then the live writes, these included, have too many boundaries, and a complete round of the sweep
-- makes too little room. The stop is `Memory` before such a round, or if there is room.
pub record StopsAt (when_full : WhenFull) (old new : SetState) (batch : Batch) (met : SetStop) : Type 0 where
  pub met_now : MetNow when_full old new met
  pub window : new.window ≡ old.window
  pub limit : new.map.limit ≡ old.map.limit
  pub full :
      met ≡ ArenaFull → (ws : List Write) (reply : Reply) → Remembers old ws → Judged old.window ws batch reply →
      IsOverLimit old.map.limit (edge old.window batch) (ws ++ writes_of batch reply)
  pub no_room :
      met ≡ ArenaFull → (ws : List Write) (reply : Reply) → Remembers old ws → Judged old.window ws batch reply →
      HasNoRoomToWrite (with_edge (edge old.window batch) old.map) (committed_ranges batch.txns reply.entries)
  pub memory :
      met ≡ Memory → (ws : List Write) (reply : Reply) → Remembers old ws → Judged old.window ws batch reply →
      (new.map.boundaries ≡ old.map.boundaries)
      ⊎ HasRoomToWrite (with_edge (edge old.window batch) old.map) (committed_ranges batch.txns reply.entries)

-- The set meets this stop at the batch of the frame, or refuses the batch for it. The batch is above the one resolved last, and
-- its reply would have fitted.
pub record StopsNow (when_full : WhenFull) (old new : SetState) (frame : List ℕ) (capacity : ℕ) (stop : StopValue) : Type 0 where
  pub batch : Batch
  pub asked : IsFrame frame batch
  pub rising : old.resolved <ℤ batch.version
  pub fits : most_reply_length batch ≤ capacity
  pub met : SetStop
  pub stop_is : stop ≡ stop_at_set met
  pub at_batch : StopsAt when_full old new batch met

-- Why a set refuses a frame, given this number of bytes for the reply. The set is as before, unless it meets a stop now. It is
-- also as before if it refuses a batch that doesn't fit its limit.
abbrev pub SetRefuses : WhenFull → SetState → SetState → List ℕ → ℕ → Refusal → Type 0
SetRefuses when_full old new frame capacity (Stop stop) =
    ((met : SetStop) × (old.stop ≡ Some met) × (stop ≡ stop_at_set met) × (new ≡ old))
    ⊎ ((old.stop ≡ None) × StopsNow when_full old new frame capacity stop)
SetRefuses when_full old new frame capacity (Wire fault) = (old.stop ≡ None) × IsNoFrame frame (Wire fault) × (new ≡ old)
SetRefuses when_full old new frame capacity Behind = (old.stop ≡ None) × IsNoFrame frame Behind × (new ≡ old)
SetRefuses when_full old new frame capacity Version =
    (old.stop ≡ None) × ((batch : Batch) × IsFrame frame batch × (batch.version ≤ℤ old.resolved)) × (new ≡ old)
SetRefuses when_full old new frame capacity (Buffer needed) =
    (old.stop ≡ None)
    × ((batch : Batch) × IsFrame frame batch × (needed ≡ most_reply_length batch) × (capacity < needed))
    × (new ≡ old)
SetRefuses when_full old new frame capacity Argument = ⊥

-- the set stops, and refuses by that stop
abbrev pub Stops : SetState → Refusal → Type 0
Stops new refusal = (met : SetStop) × (new.stop ≡ Some met) × (refusal ≡ Stop (stop_at_set met))
