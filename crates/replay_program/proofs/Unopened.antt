-- Several resolvers, whose files were not opened.
use Rattle.std.specs.Prelude.{◌≡◌, ℕ, Bool, true, false, List, Option, None, Some, IfSome}
use Rattle.std.proofs.Common.{inl, refl, sym, subst, ◌∙◌}
use Rattle.std.proofs.lemmas.Bool.{false≢true}
use Rattle.limits.specs.declared.stop.Stop.{Stop}
use Rattle.replay_arguments.specs.declared.arguments.CommandLine.{CommandLine}
use Rattle.replay_stream.specs.Sinks.{SinkState}
use Rattle.replay_tasks.specs.declared.met.Met.{Met}
use Rattle.replay_program.specs.declared.program.several_resolvers.opened.ShardingError.{ShardingError}
use Rattle.replay_program.specs.declared.report.RunReport.{RunReport}
use Rattle.replay_program.specs.Program.{NamedFiles, SaysFurther, ReportsLine, bytes_of, texts}
use Rattle.replay_tasks.specs.Replayed.{Written, written}
use Rattle.replay_tasks.specs.Sharded.{HasMetByShards, MetStopByShards}
use Rattle.replay_program.specs.ShardedProgram.{ArePointsOf, IsWhyNotSharded, LineFailsAndSaysByShards, RegularFiles, ReportsCause}

-- nothing more is said
pub says_nothing : (verbose : Bool) (contents : List ℕ → Option (List ℕ)) (cannot_open : List ℕ → Type 0) (line : CommandLine) (met : Met)
    (given : Option (List ℕ)) (failures : ℕ) → SaysFurther verbose contents cannot_open line met (written given given failures failures)
says_nothing false contents cannot_open line met given failures = (refl, refl)
says_nothing true contents cannot_open line met given failures = inl refl

-- the cause was reported, and nothing was printed: so the command line has failed
pub not_sharded : {W : Type 0} (state_of : W → SinkState) (regular : RegularFiles) (files : NamedFiles) (line : CommandLine)
    (report : RunReport W) (standard error : Written) (given : Option (List ℕ)) (failures : ℕ) (cause : ShardingError)
    → IsWhyNotSharded regular.is_regular regular.is_irregular files.has_opened files.cannot_open (texts line.files.items) cause
    → standard.after ≡ standard.before → ReportsCause cause (ReportsLine (written error.before given error.failures_before failures))
    → report.met.stop ≡ None → report.met.output_failed ≡ false
    → SaysFurther line.verbose files.contents files.cannot_open line report.met (written given error.after failures error.failures_after)
    → LineFailsAndSaysByShards state_of regular files line report standard error
not_sharded state_of regular files line report standard error given failures cause why nothing reported none not_failed further = record {
  given = given;
  failures = failures;
  failed = inl (record { cause = cause; because = why; nothing_printed = nothing; reported = reported });
  met = subst
      (λ (met : Option Stop). IfSome met
      (λ stop. (points : List (List ℕ)) × ArePointsOf files.contents line points
      × MetStopByShards points line.options (bytes_of files line) stop report.met.version
      (written error.before given error.failures_before failures)))
      (sym none) tt;
  output_failed = λ is. absurd (false≢true (sym not_failed ∙ is));
  further = further;
}

-- the stop that was met by the shards between these split points, which are those of the command line
pub met_by_line : (contents : List ℕ → Option (List ℕ)) (line : CommandLine) (bytes : List (Option (List ℕ))) (met : Met) (error : Written)
    (points : List (List ℕ)) → ArePointsOf contents line points → HasMetByShards points line.options bytes met error
    → IfSome met.stop
    (λ stop. (points : List (List ℕ)) × ArePointsOf contents line points
    × MetStopByShards points line.options bytes stop met.version error)
met_by_line contents line bytes met error points are has = go met.stop has
  where
    go : (stop : Option Stop) → IfSome stop (λ s. MetStopByShards points line.options bytes s met.version error)
        → IfSome stop
        (λ s. (points : List (List ℕ)) × ArePointsOf contents line points
        × MetStopByShards points line.options bytes s met.version error)
    go None has = tt
    go (Some s) has = (points, are, has)
