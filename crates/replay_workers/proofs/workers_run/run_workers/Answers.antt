use Rattle.std.proofs.Common.{◌≡◌, ℕ, List, ap, sym, subst, ◌∙◌, ℤ, arith, length}
use Rattle.std.specs.Prelude.{negsuc, Option, IfSome, slice_get, vec_len}
use Rattle.std.specs.List.{AllZip}
use Rattle.resolver.specs.declared.client.Client.{Client}
use Rattle.limits.specs.declared.stop.Stop.{Stop}
use Rattle.keyspace.specs.Run.{Step}
use Rattle.resolver.specs.Observed.{HasSeen}
use Rattle.resolver.specs.Resolver.{AreClients, SameClients, StandsOver}
use Rattle.resolver.specs.Settled.{Settled}
use Rattle.resolver.specs.Share.{share_of}
use Rattle.resolver.proofs.callers.Lists.{written_back}
use Rattle.replay_workers.specs.Ended.{returned_clients}
use Rattle.replay_workers.specs.Occupied.{IsOccupancyOf}
use Rattle.replay_workers.specs.Stops.{IsStopOf}
use Rattle.replay_workers.specs.Threads.{HasWorkedOn, given_each}
use Rattle.replay_workers.proofs.callers.SameLanes.{clients_continue}
use Rattle.replay_workers.proofs.Working.{clients_back, clients_ended, started_count}
use Rattle.replay_workers.proofs.workers_run.run_workers.Goals as goal

pub join_all-outcome-requires-clause-room : goal.join_all-outcome-requires-clause-room
join_all-outcome-requires-clause-room g c =
    let streams = c.args.streams.items in
    let clients = c.args.clients.items in
    let same : length streams ≡ length clients = omega (arith, c.requires.each, c.args.streams.ok.0, c.args.clients.ok.0) in
    let count = started_count c.args.style (share_of (vec_len c.args.streams)) clients streams c.in_ok-workers.workers.items same
    c.in_ok-workers.ensures.given in
    omega (arith, count, c.in_ok-outcome.ensures.room, c.len.ensures)

pub join_all-outcome-requires-clause-streams_room : goal.join_all-outcome-requires-clause-streams_room
join_all-outcome-requires-clause-streams_room g c =
    let streams = c.args.streams.items in
    let clients = c.args.clients.items in
    let same : length streams ≡ length clients = omega (arith, c.requires.each, c.args.streams.ok.0, c.args.clients.ok.0) in
    let count = started_count c.args.style (share_of (vec_len c.args.streams)) clients streams c.in_ok-workers.workers.items same
    c.in_ok-workers.ensures.given in
    omega (arith, count, c.in_ok-outcome.ensures.streams_room, c.len.ensures)

pub settle-account-requires : goal.settle-account-requires
settle-account-requires g c =
    let streams = c.args.streams.items in
    let clients = c.args.clients.items in
    let same : length streams ≡ length clients = omega (arith, c.requires.each, c.args.streams.ok.0, c.args.clients.ok.0) in
    let lanes = c.turn_to_end-occupancy.new.resolver.lanes in
    let worked = c.join_all-outcome.ensures.worked in
    let all_returned = subst (λ given. AllZip (HasWorkedOn g.B.Batches.gives g.B.Batches.is_at_end g.B.Batches.is_at_fault g.B.Batches.stays) given worked.0)
    c.in_ok-workers.ensures.given worked.1 in
    record {
      clients = subst (λ (clients : List Client). AreClients lanes clients)
          (sym (c.as_mut_slice.ensures.value ∙ worked.2.clients))
          (clients_continue c.args.resolver.now.lanes lanes clients (returned_clients worked.0) c.requires.clients
          c.turn_to_end-occupancy.ensures.lanes
          (clients_back g.B.Batches.gives g.B.Batches.is_at_end g.B.Batches.is_at_fault g.B.Batches.stays c.args.style
          (share_of (vec_len c.args.streams)) 0 clients streams worked.0 same all_returned));
    }

pub returns-clause-ended : goal.returns-clause-ended
returns-clause-ended g c =
    let worked = c.join_all-outcome.ensures.worked in
    let given = given_each c.args.style (share_of (vec_len c.args.streams)) 0 c.args.clients.items c.args.streams.items in
    let all_returned = subst (λ given. AllZip (HasWorkedOn g.B.Batches.gives g.B.Batches.is_at_end g.B.Batches.is_at_fault g.B.Batches.stays) given worked.0)
    c.in_ok-workers.ensures.given worked.1 in
    let first = c.args.resolver.now in
    let resolver = c.turn_to_end-occupancy.new.resolver in
    let account = c.settle-account.result in
    let back = returned_clients worked.0 in
    let limit = first.core.set.map.limit in
    let window = first.core.set.window in
    let window_is = c.turn_to_end-occupancy.ensures.continues.window in
    let limit_is = c.turn_to_end-occupancy.ensures.continues.limit in
    let returned = c.as_mut_slice.ensures.value ∙ worked.2.clients in
    let outcome = c.join_all-outcome.result.0 in
    let now = c.settle-account.new.clients in
    let same_clients = subst (λ (l : List Client). SameClients l now) returned c.settle-account.ensures.clients in
    let all_ended = clients_ended g.B.Batches.gives g.B.Batches.is_at_end g.B.Batches.is_at_fault g.B.Batches.stays
    given worked.0 all_returned in
    let settled : (log : List Step) → StandsOver resolver log → Settled window log resolver.lanes back account =
    λ log stands. subst (λ (back : List Client). Settled window log resolver.lanes back account) returned
    (subst (λ (window : ℤ). Settled window log resolver.lanes c.as_mut_slice.result.now account) window_is
    (c.settle-account.ensures.settled (negsuc 0) log stands)) in
    let met : (log : List Step) → IfSome resolver.core.stop (IsStopOf resolver.core.set.map.limit resolver.core.set.window log)
    → IfSome account.stop (IsStopOf limit window log) = λ log is.
    subst (λ (limit : ℕ). IfSome account.stop (IsStopOf limit window log)) limit_is
    (subst (λ (window : ℤ). IfSome account.stop (IsStopOf resolver.core.set.map.limit window log)) window_is
    (subst (λ (stop : Option Stop). IfSome stop (IsStopOf resolver.core.set.map.limit resolver.core.set.window log))
    (sym c.settle-account.ensures.stop) is)) in
    let Seen = g.O.Observer.has_seen c.turn_to_end-occupancy.new.observer in
    let occupancy = c.turn_to_end-occupancy.result in (
      record {
        workers = worked.0;
        worked = all_returned;
        results = record {
          lines = worked.2.results.lines;
          failures = worked.2.results.failures;
          all_sent = worked.2.results.all_sent;
          unsent = worked.2.results.unsent;
        };
        clients = subst (SameClients back)
            (sym (written_back outcome.clients.len now outcome.clients.items
            (same_clients.count ∙ sym (ap length worked.2.clients)) outcome.clients.ok.0))
            same_clients;
        streams_are = worked.3;
      },
      record {
        complete = λ none.
            c.settle-account.ensures.complete.1 (record {
              no_stop = sym c.settle-account.ensures.stop ∙ none;
              closed = c.turn_to_end-occupancy.ensures.closed;
              taken = λ proxy client at.
                  c.settle-account.ensures.ended proxy client at
                  (all_ended proxy client (ap (λ (l : List Client). slice_get l proxy) (sym returned) ∙ at));
            });
        accounted = λ stands.
            let later = c.turn_to_end-occupancy.ensures.accounted stands in (
              later.log,
              record { lanes = resolver.lanes; settled = settled later.log later.stands; met = met later.log later.met },
            );
        measured = λ stands no_stop first_seen.
            let saw = c.turn_to_end-occupancy.ensures.measured stands no_stop first_seen in
            record {
              log = saw.log;
              of_log = record { lanes = resolver.lanes; settled = settled saw.log saw.stands; met = met saw.log saw.met };
              seen = subst (λ (window : ℤ). HasSeen Seen account.stop window saw.log) window_is
                  (subst (λ (stop : Option Stop). HasSeen Seen stop resolver.core.set.window saw.log)
                  (sym c.settle-account.ensures.stop) saw.seen);
              occupied = subst (λ (limit : ℕ). IsOccupancyOf account.stop limit window saw.log occupancy) limit_is
                  (subst (λ (window : ℤ). IsOccupancyOf account.stop resolver.core.set.map.limit window saw.log occupancy) window_is
                  (subst (λ (stop : Option Stop). IsOccupancyOf stop resolver.core.set.map.limit resolver.core.set.window saw.log occupancy)
                  (sym c.settle-account.ensures.stop) saw.occupied));
            };
      },
    )
