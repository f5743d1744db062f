-- How a run ends: what its workers returned, and what the account says of their clients. This project's own.
use Rattle.std.specs.Prelude.{◌≡◌, ℕ, ℤ, true, List, [], map, None, IfSome}
use Rattle.std.specs.List.{AllZip}
use Rattle.keyspace.specs.declared.batch.Batch.{Batch}
use Rattle.keyspace.specs.Processed.{Processed}
use Rattle.keyspace.specs.Run.{Step}
use Rattle.wire.specs.declared.error.WireError.{WireError}
use Rattle.resolver.specs.declared.client.Client.{Client}
use Rattle.resolver.specs.declared.turn.Account.{Account}
use Rattle.resolver.specs.Lanes.{Lanes}
use Rattle.resolver.specs.Observed.{HasSeen}
use Rattle.resolver.specs.Resolver.{ResolverState, SameClients, StandsOver}
use Rattle.resolver.specs.Settled.{Settled}
use Rattle.replay_summary.specs.declared.occupancy.Occupancy.{Occupancy}
use Rattle.replay_workers.specs.declared.outcome.RunOutcome.{RunOutcome}
use Rattle.replay_workers.specs.declared.threads.Worked.{Worked}
use Rattle.replay_workers.specs.declared.worker.Finished.{Finished}
use Rattle.replay_workers.specs.Threads.{Given, HasResultsOf, HasWorkedOn, finished_of, streams_of}
use Rattle.replay_workers.specs.Occupied.{IsOccupancyOf}
use Rattle.replay_workers.specs.Stops.{IsAccountedFor, IsStopOf}

-- the clients that these workers returned
abbrev pub returned_clients : {B : Type 0} → List (Worked B) → List Client
returned_clients each = map (λ (f : Finished). f.client) (finished_of each)

-- All workers of these tasks were joined. The outcome has their results and their clients, which may have looked at their lanes since.
pub record HasJoined {B : Type 0} (Gives : B → B → Batch → Type 0) (IsEnd : B → Type 0) (IsFault : B → WireError → Type 0)
    (Stays : B → B → Type 0) (given : List (Given B)) (outcome : RunOutcome) (streams : List B) : Type 0 where
  pub workers : List (Worked B)
  pub worked : AllZip (HasWorkedOn Gives IsEnd IsFault Stays) given workers
  pub results : HasResultsOf (finished_of workers) outcome
  pub clients : SameClients (returned_clients workers) outcome.clients.items
  pub streams_are : streams ≡ streams_of workers

-- These clients are settled by the log, and the stop, if any, is that of the log.
pub record IsAccountOf (limit : ℕ) (window : ℤ) (clients : List Client) (account : Account) (log : List Step) : Type 0 where
  pub lanes : List Lanes
  pub settled : Settled window log lanes clients account
  pub met : IfSome account.stop (IsStopOf limit window log)

-- The account is of some log. An observer of which this is true has seen what is processed over it, and this is how full the resolver was.
pub record IsMeasuredAccount (Seen : List Processed → Type 0) (occupancy : Occupancy) (limit : ℕ) (window : ℤ) (clients : List Client)
    (account : Account) : Type 0 where
  pub log : List Step
  pub of_log : IsAccountOf limit window clients account log
  pub seen : HasSeen Seen account.stop window log
  pub occupied : IsOccupancyOf account.stop limit window log occupancy

-- The account of a resolver that was first in this state. `SawNone` is true if the observer had seen nothing then.
pub record IsAccountFrom (first : ResolverState) (SawNone : Type 0) (Seen : List Processed → Type 0) (occupancy : Occupancy)
    (clients : List Client) (account : Account) : Type 0 where
  pub complete : account.stop ≡ None → account.complete ≡ true
  pub accounted :
      IsAccountedFor first
      → (log : List Step) × IsAccountOf first.core.set.map.limit first.core.set.window clients account log
  pub measured :
      StandsOver first [] → first.core.stop ≡ None → SawNone
      → IsMeasuredAccount Seen occupancy first.core.set.map.limit first.core.set.window clients account
