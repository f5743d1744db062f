-- What an observer has seen of the batches that are processed. `Seen` is what is true of one that has seen a list of them, in
-- the order of processing. This project's own.
use Rattle.std.specs.Prelude.{◌≡◌, ℕ, ℤ, true, false, List, [], ◌∷◌, ◌++◌, length, Option, None}
use Rattle.keyspace.specs.declared.batch.Batch.{Batch}
use Rattle.keyspace.specs.Processed.{Processed}
use Rattle.keyspace.specs.Run.{Step, Take, Finish, run}
use Rattle.limits.specs.declared.stop.Stop.{Stop}
use Rattle.resolver.specs.Core.{IsPrefix}
use Rattle.resolver.specs.OpeningLog.{log_from}
use Rattle.resolver.specs.Lanes.{all_ended, TakesOne, TakesNone}
use Rattle.resolver.specs.Resolver.{ResolverState, StandsOverFrom}

-- the observer has seen all of the first list, and nothing beyond the second
pub record HasSeenBetween (Seen : List Processed → Type 0) (before after : List Processed) : Type 0 where
  pub list : List Processed
  pub seen : Seen list
  pub all_before : IsPrefix before list
  pub no_others : IsPrefix list after

-- What the observer has seen of the batches that the reference resolver processes over this log, by whether a stop was met.
pub record HasSeen (Seen : List Processed → Type 0) (stop : Option Stop) (window : ℤ) (log : List Step) : Type 0 where
  pub list : List Processed
  pub seen : Seen list
  pub no_others : IsPrefix list (run window log).processed
  -- all of them, unless a stop was met
  pub all : stop ≡ None → list ≡ (run window log).processed
  -- and in any case those of the log without its last step
  pub all_before_last :
      (before : List Step) (last : Step) → log ≡ before ++ last ∷ [] → IsPrefix (run window before).processed list

-- What the observer has seen follows the resolver's log as these steps are added to it.
abbrev pub Observes : (before after : List Processed → Type 0) (old new : ResolverState) (steps : List Step) → Type 0
Observes before after old new steps =
    (version : ℤ) (log : List Step) → StandsOverFrom version old log
    → HasSeen before old.core.stop old.core.set.window (log_from version (length old.lanes) log)
    → HasSeen after new.core.stop old.core.set.window (log_from version (length old.lanes) (log ++ steps))

-- It does so whichever step the lanes show: a batch was taken, the last request lane has ended, or neither.
pub record ObservesStep (before after : List Processed → Type 0) (old new : ResolverState) : Type 0 where
  pub taken :
      (proxy : ℕ) (batch : Batch) → TakesOne proxy batch old.lanes new.lanes
      → Observes before after old new (Take proxy batch ∷ [])
  pub finish :
      all_ended old.lanes ≡ false → all_ended new.lanes ≡ true → TakesNone old.lanes new.lanes
      → Observes before after old new (Finish ∷ [])
  pub nothing :
      all_ended new.lanes ≡ all_ended old.lanes → TakesNone old.lanes new.lanes → Observes before after old new []
