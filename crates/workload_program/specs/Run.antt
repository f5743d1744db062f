-- What the words of a command line ask to be written.
use Rattle.std.specs.Prelude.{ℕ, List, Option}
use Rattle.workload_program.specs.declared.plan.Plan.{Plan}
use Rattle.workload_program.specs.Chain.{AreFrames, BreaksOff}
use Rattle.workload_program.specs.Arguments.{AskFor}

-- the bytes are the frames that the words ask for
abbrev pub AreAskedFor : List (List ℕ) → List ℕ → Type 0
AreAskedFor words bytes =
    (plan : Plan) × AskFor plan words × AreFrames plan.shape plan.transactions plan.batches bytes

-- between these bytes of a sink a prefix of the frames was written that the arguments ask for
abbrev pub BreakOffAsked : List (List ℕ) → Option (List ℕ) → Option (List ℕ) → Type 0
BreakOffAsked words before after =
    (plan : Plan) × AskFor plan words × BreaksOff plan.shape plan.transactions plan.batches before after

-- no plan is asked for
abbrev pub AskForNothing : List (List ℕ) → Type 0
AskForNothing words = (plan : Plan) → ¬ AskFor plan words
