-- How the program ends, beside the words of its command line: by one resolver or by several. This project's own.
use Rattle.std.specs.Prelude.{◌≡◌, ◌⊎◌, ◌≤◌, ℕ, List, Option}
use Rattle.std.specs.Io.KnownBytes.{Keeps}
use Rattle.replay_arguments.specs.declared.arguments.CommandLine.{CommandLine}
use Rattle.replay_arguments.specs.Asks.{Asks}
use Rattle.replay_arguments.specs.Arguments.{AsksForText}
use Rattle.replay_output.specs.declared.start.StartError.TheVariants as start
use Rattle.replay_output.specs.Start.{start_line}
use Rattle.replay_stream.specs.Sinks.{SinkState}
use Rattle.replay_program.specs.declared.report.RunReport.{RunReport}
use Rattle.replay_program.specs.Program.{EndsQuietly, IsLineDone, LineFailsAndSays, LineFindsDifferences, NamedFiles, ReportsLine}
use Rattle.replay_tasks.specs.Replayed.{HasFailed, Took, Written}
use Rattle.replay_program.specs.ShardedProgram.{
  IsLineDoneByShards,
  LineFailsAndSaysByShards,
  LineFindsDifferencesByShards,
  RegularFiles,
}

-- help or the version was asked for, and shown
abbrev pub HasShown : List (List ℕ) → Written → Type 0
HasShown words standard = AsksForText words × ((text : List ℕ) × Took standard text)

-- help or the version was asked for, and standard output failed
abbrev pub HasNotShown : List (List ℕ) → Written → Type 0
HasNotShown words standard = AsksForText words × HasFailed standard

-- memory was refused before anything was done
abbrev pub HasNoMemory : Written → Written → Type 0
HasNoMemory standard error = (standard.after ≡ standard.before) × ReportsLine error (start_line start.Memory)

-- what a command line asks for comes to one end with one resolver, and to another with several
pub record EndsAs (line : CommandLine) (One Several : Type 0) : Type 0 where
  pub one : line.sharding.resolvers ≡ 1 → One
  pub several : 2 ≤ line.sharding.resolvers → Several

-- The program is done: it has shown help or the version, or done what the words ask for.
abbrev pub IsDone : {W : Type 0} → (W → SinkState) → NamedFiles → List (List ℕ) → RunReport W → Written → Type 0
IsDone state_of files words report standard =
    HasShown words standard
    ⊎ ((line : CommandLine) × Asks words line
    × EndsAs line (IsLineDone state_of files line report standard) (IsLineDoneByShards state_of files line report standard))

-- the words ask for a comparison, and there are differences
abbrev pub HasDifferences : {W : Type 0} → (W → SinkState) → NamedFiles → List (List ℕ) → RunReport W → Written → Type 0
HasDifferences state_of files words report standard =
    (line : CommandLine) × Asks words line
    × EndsAs line (LineFindsDifferences state_of files line report standard)
    (LineFindsDifferencesByShards state_of files line report standard)

-- A program that didn't fail left standard error as it was, or with `--verbose` said at most that all batches of its files are held.
abbrev pub IsQuiet : (List ℕ → Option (List ℕ)) → List (List ℕ) → Written → Type 0
IsQuiet contents words error =
    Keeps error.before error.after ⊎ ((line : CommandLine) × Asks words line × EndsQuietly contents line error)

-- The program failed: an allocation for the arguments failed, help or the version was not shown, or what the arguments ask for failed.
abbrev pub IsFailed : {W : Type 0} → (W → SinkState) → RegularFiles → NamedFiles → List (List ℕ) → RunReport W → Written → Written → Type 0
IsFailed state_of regular files words report standard error =
    HasNoMemory standard error
    ⊎ (HasNotShown words standard
    ⊎ ((line : CommandLine) × Asks words line
    × EndsAs line (LineFailsAndSays state_of files line report standard error)
    (LineFailsAndSaysByShards state_of regular files line report standard error)))
