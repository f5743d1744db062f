-- What a set and a core answer to a batch that C gives without a frame. This project's own.
use Rattle.std.specs.Prelude.{◌≡◌, ◌≤◌, ◌<◌, ◌≤ℤ◌, ◌<ℤ◌, ◌⊎◌, ℕ, ℤ, pos, negsuc, List, length, map, Some, None}
use Rattle.keyspace.specs.declared.batch.Batch.{Batch}
use Rattle.keyspace.specs.declared.reply.Reply.{Reply}
use Rattle.keyspace.specs.declared.reply.Entry.{Entry}
use Rattle.keyspace.specs.declared.reply.Verdict.{Verdict}
use Rattle.keyspace.specs.declared.reply.Verdict.TheVariants.{Conflict, TooOld, Committed}
use Rattle.keyspace.specs.storage.Fields.{TxnFields}
use Rattle.keyspace.specs.Versions.{AreVersions}
use Rattle.keyspace.specs.Writes.{Write}
use Rattle.keyspace.specs.Judged.{Judged}
use Rattle.stepmap.specs.Covers.{MapCovers}
use Rattle.conflict.specs.declared.error.SetStop.{SetStop}
use Rattle.conflict.specs.declared.when_full.WhenFull.{WhenFull}
use Rattle.conflict.specs.ConflictSet.{SetState}
use Rattle.limits.specs.declared.stop.Stop.{Stop as StopValue}
use Rattle.conflict.specs.Stop.{stop_at_set}
use Rattle.wire.specs.declared.error.WireError.TheVariants as wire
use Rattle.archcaraway_c.specs.declared.refusal.Refusal.{Refusal}
use Rattle.archcaraway_c.specs.declared.refusal.Refusal.TheVariants.{Stop, Wire, Version, Argument, Buffer, Behind}
use Rattle.archcaraway_c.specs.BatchObject.{IsBatchOf}
use Rattle.archcaraway_c.specs.SetObject.{Continues, StopsAt}
use Rattle.archcaraway_c.specs.CoreObject.{CoreParts}
use Rattle.archcaraway_c.specs.CoreObject.{StopsAt as CoreStopsAt}

-- the number by which C sees a verdict, as in the frame of a reply
abbrev pub verdict_number : Verdict → ℕ
verdict_number Conflict = 0
verdict_number TooOld = 1
verdict_number Committed = 2

-- the numbers of the verdicts, in order
abbrev pub verdict_numbers : List Entry → List ℕ
verdict_numbers entries = map (λ entry. verdict_number entry.verdict) entries

-- The verdicts are those of the right reply to the batch, whatever writes the set covers, and the set continues after it.
pub record JudgesBatch (old new : SetState) (batch : Batch) (verdicts : List ℕ) : Type 0 where
  pub reply : Reply
  pub answered : verdicts ≡ verdict_numbers reply.entries
  pub judged : (ws : List Write) → MapCovers old.map ws → Judged old.window ws batch reply
  pub continues : Continues old new batch reply

-- the same of the batch of this version with these transactions
pub record Judges (old new : SetState) (version : ℤ) (txns : List TxnFields) (verdicts : List ℕ) : Type 0 where
  pub batch : Batch
  pub asked : IsBatchOf (negsuc 0) version (negsuc 0) txns batch
  pub judges : JudgesBatch old new batch verdicts

-- The verdicts are those of the right reply to the batch of this version with these transactions.
pub record AreVerdicts (set : SetState) (version : ℤ) (txns : List TxnFields) (verdicts : List ℕ) : Type 0 where
  pub batch : Batch
  pub reply : Reply
  pub asked : IsBatchOf (negsuc 0) version (negsuc 0) txns batch
  pub answered : verdicts ≡ verdict_numbers reply.entries
  pub judged : (ws : List Write) → MapCovers set.map ws → Judged set.window ws batch reply

-- the set meets this stop, or refuses for it, at the batch of this version with these transactions
pub record JudgeStops (when_full : WhenFull) (old new : SetState) (version : ℤ) (txns : List TxnFields) (stop : StopValue) : Type 0 where
  pub batch : Batch
  pub asked : IsBatchOf (negsuc 0) version (negsuc 0) txns batch
  pub rising : old.resolved <ℤ version
  pub met : SetStop
  pub stop_is : stop ≡ stop_at_set met
  pub at_batch : StopsAt when_full old new batch met

-- Why a set doesn't judge transactions at a version, given room for this number of verdicts. The set is as before, unless it
-- meets a stop now. It is also as before if it refuses a batch that doesn't fit its limit.
abbrev pub JudgeRefuses : WhenFull → SetState → SetState → ℤ → List TxnFields → ℕ → Refusal → Type 0
JudgeRefuses when_full old new version txns room (Stop stop) =
    ((met : SetStop) × (old.stop ≡ Some met) × (stop ≡ stop_at_set met) × (new ≡ old))
    ⊎ ((old.stop ≡ None) × JudgeStops when_full old new version txns stop)
JudgeRefuses when_full old new version txns room (Wire fault) = (old.stop ≡ None) × (fault ≡ wire.Memory) × (new ≡ old)
JudgeRefuses when_full old new version txns room Version =
    (old.stop ≡ None) × ((version <ℤ pos 0) ⊎ (version ≤ℤ old.resolved)) × (new ≡ old)
JudgeRefuses when_full old new version txns room (Buffer needed) =
    (old.stop ≡ None) × (needed ≡ length txns) × (room < needed) × (new ≡ old)
JudgeRefuses when_full old new version txns room Argument = ⊥
JudgeRefuses when_full old new version txns room Behind = ⊥

-- Why a core doesn't take transactions from a proxy as the batch of these versions, and what it is then: as before, unless it meets
-- a stop now.
abbrev pub AdmitRefuses : CoreParts → CoreParts → ℕ → ℤ → ℤ → ℤ → List TxnFields → Refusal → Type 0
AdmitRefuses old new proxy previous version received txns Argument =
    ((length old.waiting ≤ proxy) ⊎ (¬ AreVersions previous version received)) × (new ≡ old)
AdmitRefuses old new proxy previous version received txns (Stop stop) =
    (proxy < length old.waiting)
    × (((old.core.stop ≡ Some stop) × (new ≡ old))
    ⊎ ((old.core.stop ≡ None)
    × ((batch : Batch) × IsBatchOf previous version received txns batch × CoreStopsAt old.core new.core proxy batch stop)))
AdmitRefuses old new proxy previous version received txns (Wire fault) =
    (proxy < length old.waiting) × (old.core.stop ≡ None) × (fault ≡ wire.Memory) × (new ≡ old)
AdmitRefuses old new proxy previous version received txns Version = ⊥
AdmitRefuses old new proxy previous version received txns Behind = ⊥
AdmitRefuses old new proxy previous version received txns (Buffer needed) = ⊥
