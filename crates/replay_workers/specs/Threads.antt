-- The task of each worker, and what the workers return. This project's own.
use Rattle.std.specs.Prelude.{◌≡◌, ℕ, ◌+◌, true, false, List, [], ◌∷◌, map, None, Some, slice_get}
use Rattle.std.specs.List.{All}
use Rattle.keyspace.specs.declared.batch.Batch.{Batch}
use Rattle.wire.specs.declared.error.WireError.{WireError}
use Rattle.resolver.specs.declared.client.Client.{Client}
use Rattle.replay_output.specs.declared.failures.ProxyFailure.{ProxyFailure}
use Rattle.replay_output.specs.declared.options.style.Style.{Style}
use Rattle.replay_workers.specs.declared.outcome.RunOutcome.{RunOutcome}
use Rattle.replay_workers.specs.declared.worker.Finished.{Finished}
use Rattle.replay_workers.specs.declared.threads.WorkerTask.{WorkerTask}
use Rattle.replay_workers.specs.declared.threads.Work.{Work}
use Rattle.replay_workers.specs.declared.threads.StartedWorkers.{StartedWorkers}
use Rattle.replay_workers.specs.declared.threads.Worked.{Worked}
use Rattle.wire.specs.Batches.{EndsWith}
use Rattle.replay_workers.specs.Worker.{HasWorkedOver}

-- the task of a worker
pub record Given (B : Type 0) : Type 0 where
  pub style : Style
  pub share : ℕ
  pub proxy : ℕ
  pub client : Client
  pub batches : B

module _ {B : Type 0} where
  -- from this proxy on, each worker is given the client and the stream at its place
  abbrev pub given_each : Style → ℕ → ℕ → List Client → List B → List (Given B)
  given_each style share proxy (client ∷ clients) (batches ∷ streams) =
      record { style = style; share = share; proxy = proxy; client = client; batches = batches }
      ∷ given_each style share (proxy + 1) clients streams
  given_each style share proxy (client ∷ clients) [] = []
  given_each style share proxy [] streams = []

  -- the values that the worker of a task must get
  abbrev pub given_by : {G : Type 0} → WorkerTask B G → Given B
  given_by task = record {
    style = task.assignment.style;
    share = task.assignment.share;
    proxy = task.assignment.proxy;
    client = task.client;
    batches = task.batches;
  }

  -- the values of a worker that was promised this work
  abbrev pub given_for : Work B → Given B
  given_for work = record {
    style = work.assignment.style;
    share = work.assignment.share;
    proxy = work.assignment.proxy;
    client = work.client.value;
    batches = work.batches.value;
  }

  -- the values of a worker that was started
  abbrev pub given_to : StartedWorkers B → Given B
  given_to worker = given_for worker.handle.promise

  -- a worker has worked on what it was given
  abbrev pub HasWorkedOn : (B → B → Batch → Type 0) → (B → Type 0) → (B → WireError → Type 0) → (B → B → Type 0) → Given B
      → Worked B → Type 0
  HasWorkedOn Gives IsEnd IsFault Stays given worked =
      HasWorkedOver Gives IsEnd IsFault (λ left. EndsWith Stays left worked.batches) given.style given.proxy given.batches
      given.client worked.finished

  -- what each worker returned
  abbrev pub finished_of : List (Worked B) → List Finished
  finished_of each = map (λ worked. worked.finished) each

  -- and the streams that it was given
  abbrev pub streams_of : List (Worked B) → List B
  streams_of each = map (λ worked. worked.batches) each

-- what failed of the proxy
abbrev pub failure_of : Finished → ProxyFailure
failure_of finished = record { fault = finished.fault; lost = finished.lost }

-- one of them hands a batch back that could not be sent
pub record ReturnsBatch (finished : List Finished) : Type 0 where
  pub place : ℕ
  pub worker : Finished
  pub at : slice_get finished place ≡ Some worker
  pub batch : Batch
  pub unsent : worker.unsent ≡ Some batch

-- the outcome has the results of these workers, each at its index, whatever clients it has
pub record HasResultsOf (finished : List Finished) (outcome : RunOutcome) : Type 0 where
  pub lines : outcome.lines.items ≡ map (λ f. f.lines) finished
  pub failures : outcome.failures.items ≡ map failure_of finished
  pub all_sent : outcome.all_sent ≡ true → All (λ f. f.unsent ≡ None) finished
  pub unsent : outcome.all_sent ≡ false → ReturnsBatch finished

-- the outcome is of what was handed back, each at its place
pub record IsOutcomeOf (finished : List Finished) (outcome : RunOutcome) : Type 0 where
  pub clients : outcome.clients.items ≡ map (λ f. f.client) finished
  pub results : HasResultsOf finished outcome
