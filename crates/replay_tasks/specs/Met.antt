-- What a run met, beside the reference resolver. This project's own.
use Rattle.std.specs.Prelude.{◌≡◌, ◌⊎◌, ◌++◌, ℕ, ℤ, List, length, Option, Some, IfSome, slice_get}
use Rattle.keyspace.specs.declared.batch.Batch.{Batch}
use Rattle.keyspace.specs.Processed.{Processed, version_of}
use Rattle.keyspace.specs.Run.{Step, part}
use Rattle.limits.specs.declared.stop.Stop.{Stop}
use Rattle.resolver.specs.Core.{IsPrefix}
use Rattle.resolver.specs.Observed.{HasSeen}
use Rattle.resolver.specs.Resolver.{TakesOnlyFrom}
use Rattle.replay_output.specs.declared.failures.Ending.TheVariants.{Stopped}
use Rattle.replay_output.specs.declared.options.Options.{Options}
use Rattle.replay_output.specs.declared.options.reports.Reports.{Reports}
use Rattle.replay_output.specs.Failures.{ending_line}
use Rattle.replay_workers.specs.Stops.{IsStopOf}
use Rattle.replay_workers.specs.Reporting.{TakesFrames}
use Rattle.replay_tasks.specs.declared.met.Met.{Met}
use Rattle.replay_tasks.specs.declared.reached.Reached.{Reached}
use Rattle.replay_tasks.specs.Replayed.{HasFailed, Took, Written}

-- The other observer has seen these batches, and the version is that of the last one.
abbrev pub HasReached : {O : Type 0} → (O → List Processed → Type 0) → Reached O → List Processed → Type 0
HasReached has_seen reached processed =
    has_seen reached.observer processed × (reached.version ≡ Some (version_of processed))

-- The bytes begin with the frames of some batches, and these are the first of those that are resolved for them.
abbrev pub BeginsWith : Reports → Option (List ℕ) → List Batch → Type 0
BeginsWith reports bytes batches =
    (read : List Batch) × (left : Option (List ℕ)) × TakesFrames reports bytes left read × IsPrefix batches read

-- The resolver met this stop in a replay of files with these bytes: it is that of a log which takes the first batches of each file, in
-- order. If the version is known, it is that of the last batch that was processed over this log. In its last step, which met the stop,
-- one that was processed may not be counted.
pub record MetStop (options : Options) (files : List (Option (List ℕ))) (stop : Stop) (version : Option ℤ) : Type 0 where
  pub log : List Step
  pub proxies : TakesOnlyFrom (length files) log
  pub each_file :
      (proxy : ℕ) (bytes : Option (List ℕ)) → slice_get files proxy ≡ Some bytes → BeginsWith options.reports bytes (part log proxy)
  pub met : IsStopOf options.limit options.window log stop
  pub reached : IfSome version (λ v. HasSeen (λ seen. v ≡ version_of seen) (Some stop) options.window log)

-- The last line that standard error was given names this stop, unless standard error has failed.
abbrev pub ReportsStop : Stop → Written → Type 0
ReportsStop stop error = HasFailed error ⊎ ((others : List ℕ) × Took error (others ++ ending_line (Stopped stop)))

-- If there is a stop, a replay of these files met it, at this version, and standard error says so.
abbrev pub HasMet : Options → List (Option (List ℕ)) → Met → Written → Type 0
HasMet options files met error =
    IfSome met.stop (λ stop. MetStop options files stop met.version × ReportsStop stop error)
