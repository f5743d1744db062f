-- The line of standard error where a run could not start.
use Rattle.std.specs.Prelude.{ℕ, List, codes}
use Rattle.replay_output.specs.declared.start.StartError.{StartError}
use Rattle.replay_output.specs.declared.start.StartError.TheVariants.{Memory, Thread}

abbrev pub start_line : StartError → List ℕ
start_line Memory = codes "replay: start 1 Memory\n"
start_line Thread = codes "replay: start 2 Thread\n"
