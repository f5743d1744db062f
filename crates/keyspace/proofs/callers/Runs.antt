-- Lemmas for callers: the run of a log that is one step longer.
use Rattle.std.proofs.Common.{◌≡◌, List, [], ◌∷◌, ◌++◌, refl}
use Rattle.std.specs.Prelude.{ℤ}
use Rattle.keyspace.specs.Run.{State, Step, step, run_from}

pub run_from_more : (window : ℤ) (log : List Step) (x : Step) (s : State)
    → run_from window (log ++ x ∷ []) s ≡ step window x (run_from window log s)
run_from_more window [] x s = refl
run_from_more window (y ∷ log) x s = run_from_more window log x (step window y s)
