-- Why a run stopped, beside the reference resolver: the last step of its log. This project's own.
use Rattle.std.specs.Prelude.{◌≡◌, ℕ, ℤ, ◌<ℤ◌, ◌⊎◌, List, [], ◌∷◌, ◌++◌, length, Some, IfSome}
use Rattle.keyspace.specs.declared.batch.Batch.{Batch}
use Rattle.keyspace.specs.Judged.{edge}
use Rattle.keyspace.specs.Leaving.{Held, next_due}
use Rattle.keyspace.specs.Processed.{version_of}
use Rattle.keyspace.specs.Run.{Step, Take, State, run, process, admit, leave}
use Rattle.keyspace.specs.Writes.{writes}
use Rattle.chain.specs.declared.gate.TheConstants.{MAX_HELD}
use Rattle.conflict.specs.ConflictSet.{IsOverLimit}
use Rattle.limits.specs.declared.stop.Stop.{Stop}
use Rattle.limits.specs.declared.stop.Stop.TheVariants as resolver
use Rattle.resolver.specs.Resolver.{ResolverState, StandsOver}

-- the last step of the log takes a batch
pub record TakesLast (log : List Step) : Type 0 where
  pub before : List Step
  pub proxy : ℕ
  pub batch : Batch
  pub log_is : log ≡ before ++ Take proxy batch ∷ []

-- The batch taken last has to be held, and as many as may be are held already.
pub record FillsGate (window : ℤ) (log : List Step) : Type 0 where
  pub last : TakesLast log
  pub ahead : version_of (run window last.before).processed <ℤ last.batch.previous
  pub full : length (run window last.before).held ≡ MAX_HELD

-- In this state the reference resolver processes the batch, which exceeds the limit: at its edge, the writes committed up
-- to it, its own included, may need too many boundaries.
pub record Exceeds (limit : ℕ) (window : ℤ) (now : State) (batch : Held) : Type 0 where
  pub next : batch.1.previous ≡ version_of now.processed
  pub over : IsOverLimit limit (edge window batch.1) (writes (process window batch.0 batch.1 now).processed)

-- While the batches held in this state leave, one that leaves exceeds the limit.
pub record ExceedsAsTheyLeave (limit : ℕ) (window : ℤ) (first : State) : Type 0 where
  -- how many have left before it
  pub turns : ℕ
  pub batch : Held
  pub others : List Held
  pub leaves :
      next_due (version_of (leave turns window first).processed) (leave turns window first).held
      ≡ Some (batch, others)
  pub exceeds : Exceeds limit window (leave turns window first) batch

-- The batch taken last exceeds the limit, or one that leaves after it.
pub record FillsArena (limit : ℕ) (window : ℤ) (log : List Step) : Type 0 where
  pub last : TakesLast log
  pub exceeds :
      Exceeds limit window (run window last.before) (last.proxy, last.batch)
      ⊎ ExceedsAsTheyLeave limit window (admit window last.proxy last.batch (run window last.before))

-- what a stop says of the log; if memory was refused, nothing
abbrev pub IsStopOf : ℕ → ℤ → List Step → Stop → Type 0
IsStopOf limit window log resolver.Memory = Unit {0}
IsStopOf limit window log resolver.GateFull = FillsGate window log
IsStopOf limit window log resolver.ArenaFull = FillsArena limit window log

-- the resolver represents a log, and the stop that it met, if any, is that of the log
pub record IsAccountedFor (r : ResolverState) : Type 0 where
  pub log : List Step
  pub stands : StandsOver r log
  pub met : IfSome r.core.stop (IsStopOf r.core.set.map.limit r.core.set.window log)
