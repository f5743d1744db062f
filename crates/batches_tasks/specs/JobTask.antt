-- A task that is done.
use Rattle.std.specs.Prelude.{ℕ, List, Option}
use Rattle.batches_tasks.specs.Lines.{BecomesFrame, BecomesLine, IsShown}
use Rattle.batches_tasks.specs.Turned.{TurnsAll}
use Rattle.batches_arguments.specs.declared.kind.Kind.{Kind}
use Rattle.batches_arguments.specs.declared.task.JobTask.{JobTask}
use Rattle.batches_arguments.specs.declared.task.JobTask.TheVariants.{Encode, Decode, Show}

-- what a part of the input becomes
abbrev pub Becomes : JobTask → Kind → List ℕ → List ℕ → Type 0
Becomes Encode = BecomesFrame
Becomes Decode = BecomesLine
Becomes (Show full) = IsShown

-- all of the input was turned into output
abbrev pub IsDone : JobTask → Kind → Option (List ℕ) → Option (List ℕ) → Option (List ℕ) → Type 0
IsDone task kind left before after = TurnsAll (Becomes task kind) left before after
