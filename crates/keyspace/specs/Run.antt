-- The reference resolver. Source: `Resolver.actor.cpp`, FoundationDB 7.1; the order of leaving, and the answers `Never` and
-- `Held`, are this project's own.
use Rattle.std.specs.Prelude.{
  ℕ,
  zero,
  suc,
  ℤ,
  ◌==◌,
  int_lt,
  if◌then◌else◌,
  List,
  [],
  ◌∷◌,
  ◌++◌,
  length,
  map,
  filter,
  Option,
  Some,
  None,
}
use Rattle.keyspace.specs.declared.batch.Batch.{Batch}
use Rattle.keyspace.specs.declared.answer.Answer.{Answer}
use Rattle.keyspace.specs.declared.answer.Answer.TheVariants as reported
use Rattle.keyspace.specs.Processed.{Processed, version_of}
use Rattle.keyspace.specs.Writes.{writes}
use Rattle.keyspace.specs.Judge.{judge}
use Rattle.keyspace.specs.Found.{found}
use Rattle.keyspace.specs.Leaving.{Held, next_due}

pub record State : Type 0 where
  -- in order of processing
  pub processed : List Processed
  -- in order of arrival
  pub held : List Held
  -- each with its proxy, in the order given
  pub answered : List (ℕ × Answer)

abbrev pub start : State
start = record { processed = []; held = []; answered = [] }

pub data Step : Type 0 where
  Take : (proxy : ℕ) (batch : Batch) → Step
  Finish : Step

abbrev pub answer : ℕ → Answer → State → State
answer proxy a s = record s { answered = s.answered ++ (proxy, a) ∷ [] }

-- the batch is held, for its previous version is still to come
abbrev pub hold : ℕ → Batch → State → State
hold proxy b s = record s { held = s.held ++ (proxy, b) ∷ [] }

-- the batch is judged and joins what was processed
abbrev pub process : ℤ → ℕ → Batch → State → State
process window proxy b s =
    let reply = judge window (writes s.processed) b in
    answer proxy (reported.Reply reply)
    (record s { processed = s.processed ++ record { proxy = proxy; batch = b; reply = reply } ∷ [] })

-- by the batch's previous version: above the version it is held, below it is a repeat, else it is processed
abbrev pub admit : ℤ → ℕ → Batch → State → State
admit window proxy b s =
    if int_lt (version_of s.processed) b.previous then hold proxy b s
    else (if int_lt b.previous (version_of s.processed)
    then answer proxy (found s.processed proxy b.version) s
    else process window proxy b s)

-- if a batch is due, it leaves and is admitted anew, and then the others are considered
abbrev pub leave_then : (State → State) → ℤ → State → Option (Held × List Held) → State
leave_then continue_with window s None = s
leave_then continue_with window s (Some l) = continue_with (admit window l.0.0 l.0.1 (record s { held = l.1 }))

-- Held batches leave one at a time, the choice made anew each time, until none is due. With each there is one fewer held,
-- so as many turns as batches are held are enough.
abbrev pub leave : ℕ → ℤ → State → State
leave zero window s = s
leave (suc turns) window s =
    leave_then (leave turns window) window s (next_due (version_of s.processed) s.held)

abbrev pub leave_all : ℤ → State → State
leave_all window s = leave (length s.held) window s

abbrev pub step : ℤ → Step → State → State
step window (Take proxy b) s = leave_all window (admit window proxy b s)
step window Finish s =
    record s { held = []; answered = s.answered ++ map (λ h. (h.0, reported.Held h.1.version)) s.held }

abbrev pub run_from : ℤ → List Step → State → State
run_from window [] s = s
run_from window (x ∷ xs) s = run_from window xs (step window x s)

-- the state after the steps of a log
abbrev pub run : ℤ → List Step → State
run window log = run_from window log start

abbrev pub answers_to : ℕ → List (ℕ × Answer) → List Answer
answers_to proxy answered = map (λ a. a.1) (filter (λ a. a.0 == proxy) answered)

-- the answers to the proxy
abbrev pub answers : ℤ → List Step → ℕ → List Answer
answers window log proxy = answers_to proxy (run window log).answered

-- the batches that the log takes from the proxy
abbrev pub part : List Step → ℕ → List Batch
part [] proxy = []
part (Take p b ∷ log) proxy = if p == proxy then b ∷ part log proxy else part log proxy
part (Finish ∷ log) proxy = part log proxy
