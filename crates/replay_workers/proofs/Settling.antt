-- A run over streams, put together of how its resolver was opened, what its workers returned and what its account says.
use Rattle.std.specs.Prelude.{◌≡◌, ℕ, ℤ, negsuc, List, length, map, vec_items}
use Rattle.std.specs.List.{All}
use Rattle.std.proofs.Common.{sym, ap, subst, ◌∙◌}
use Rattle.std.proofs.lemmas.List.{length-map}
use Rattle.keyspace.specs.declared.batch.Batch.{Batch}
use Rattle.keyspace.specs.Processed.{Processed}
use Rattle.keyspace.specs.Run.{Step}
use Rattle.wire.specs.declared.error.WireError.{WireError}
use Rattle.resolver.specs.declared.client.Client.{Client}
use Rattle.resolver.specs.declared.turn.Account.{Account}
use Rattle.resolver.specs.Observed.{HasSeen}
use Rattle.resolver.specs.Opens.{Opens}
use Rattle.resolver.specs.Resolver.{ResolverState}
use Rattle.replay_output.specs.declared.options.Options.{Options}
use Rattle.replay_workers.specs.declared.outcome.RunOutcome.{RunOutcome}
use Rattle.replay_workers.specs.declared.threads.Worked.{Worked}
use Rattle.replay_workers.specs.Ended.{HasJoined, IsAccountFrom, IsAccountOf, returned_clients}
use Rattle.replay_workers.specs.Occupied.{IsOccupancyOf}
use Rattle.replay_workers.specs.Run.{EndsAt, HasCapacity, IsMeasuredRunOver, IsRunOver, is_complete}
use Rattle.replay_workers.specs.Threads.{given_each}
use Rattle.replay_workers.proofs.callers.Stopping.{accounted_new}
use Rattle.replay_workers.proofs.Runs.{is_run, is_run_log}
use Rattle.replay_workers.proofs.Working.{capacities, capacities_stay, clients_back, finished_count}

module _ {B : Type 0} (Gives : B → B → Batch → Type 0) (IsEnd : B → Type 0) (IsFault : B → WireError → Type 0)
    (Stays : B → B → Type 0) (options : Options) (share proxies : ℕ) (streams : List B) (clients : List Client) (first : ResolverState)
    (SawNone : Type 0) (Seen : List Processed → Type 0) (outcome : RunOutcome) (ended : List B) (account : Account)
    (same : length streams ≡ length clients)
    (opens : Opens (negsuc 0) proxies options.capacity options.window options.limit first clients)
    (joined : HasJoined Gives IsEnd IsFault Stays (given_each options.style share 0 clients streams) outcome ended)
    (accounts : IsAccountFrom first SawNone Seen outcome.occupancy (returned_clients joined.workers) account) where
  of_options : (log : List Step)
      → IsAccountOf first.core.set.map.limit first.core.set.window (returned_clients joined.workers) account log
      → IsAccountOf options.limit options.window (returned_clients joined.workers) account log
  of_options log of =
      subst (λ (limit : ℕ). IsAccountOf limit options.window (returned_clients joined.workers) account log) opens.limit
      (subst (λ (window : ℤ). IsAccountOf first.core.set.map.limit window (returned_clients joined.workers) account log) opens.window of)

  pub ran : IsRunOver Gives IsEnd IsFault (EndsAt Stays ended) options streams (map vec_items outcome.lines.items) outcome.failures.items
      (is_complete outcome account) account.stop
  ran =
      let reported = accounts.accounted (accounted_new first opens.stands opens.no_stop) in
      let of = of_options reported.0 reported.1 in
      is_run Gives IsEnd IsFault Stays options share streams clients joined.workers outcome ended reported.0 of.lanes account same
      opens.new_clients joined.worked joined.results joined.streams_are of.settled accounts.complete of.met

  pub measured : SawNone
      → IsMeasuredRunOver Gives IsEnd IsFault (EndsAt Stays ended) Seen outcome.occupancy options streams
      (map vec_items outcome.lines.items) outcome.failures.items (is_complete outcome account) account.stop
  measured saw_none =
      let saw = accounts.measured opens.stands opens.no_stop saw_none in
      let of = of_options saw.log saw.of_log in
      let log_is = is_run_log Gives IsEnd IsFault Stays options share streams clients joined.workers outcome ended saw.log of.lanes account
      same opens.new_clients joined.worked joined.results joined.streams_are of.settled accounts.complete of.met in
      record {
        observed = record {
          run = is_run Gives IsEnd IsFault Stays options share streams clients joined.workers outcome ended saw.log of.lanes account same
              opens.new_clients joined.worked joined.results joined.streams_are of.settled accounts.complete of.met;
          seen = subst (λ (log : List Step). HasSeen Seen account.stop options.window log) (sym log_is)
              (subst (λ (window : ℤ). HasSeen Seen account.stop window saw.log) opens.window saw.seen);
        };
        occupied = subst (λ (log : List Step). IsOccupancyOf account.stop options.limit options.window log outcome.occupancy) (sym log_is)
            (subst (λ (limit : ℕ). IsOccupancyOf account.stop limit options.window saw.log outcome.occupancy) opens.limit
            (subst (λ (window : ℤ). IsOccupancyOf account.stop first.core.set.map.limit window saw.log outcome.occupancy)
            opens.window saw.occupied));
      }

  pub all_streams : length ended ≡ length streams
  all_streams =
      ap length joined.streams_are ∙ length-map joined.workers (λ (w : Worked B). w.batches)
      ∙ finished_count Gives IsEnd IsFault Stays options.style share 0 clients streams joined.workers same joined.worked ∙ sym same

  pub with_capacity : All (HasCapacity options.capacity) outcome.clients.items
  with_capacity =
      capacities_stay options.capacity (returned_clients joined.workers) outcome.clients.items joined.clients
      (capacities options.capacity clients (returned_clients joined.workers) opens.new_clients
      (clients_back Gives IsEnd IsFault Stays options.style share 0 clients streams joined.workers same joined.worked))
