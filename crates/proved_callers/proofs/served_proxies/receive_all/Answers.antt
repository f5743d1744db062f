use Rattle.std.proofs.Common.{[], ◌∷◌, List, set, refl, sym, ◌∙◌, arith}
use Rattle.std.proofs.lemmas.List.{length-set}
use Rattle.std.proofs.lemmas.Option.{slice_get-get_or}
use Rattle.std.specs.Prelude.{negsuc, slice_index_or}
use Rattle.keyspace.specs.declared.batch.Batch.{Batch}
use Rattle.keyspace.specs.declared.TheConstants.{WINDOW}
use Rattle.resolver.specs.declared.client.Client.{Client}
use Rattle.proved_callers.specs.Served.{AreServing}
use Rattle.resolver.proofs.callers.Lists.{slice_get-set_other}
use Rattle.proved_callers.proofs.TwoProxies.{serving_turned, serving_received}
use Rattle.proved_callers.proofs.served_proxies.receive_all.Given.{Over}
use Rattle.proved_callers.proofs.served_proxies.receive_all.Goals as goal
use Rattle.proved_callers.proofs.served_proxies.receive_all.Goals.{In_ok-receive-2}

pub receive-requires : goal.receive-requires
receive-requires g c =
    let clients = c.loop.clients in
    let two = c.loop.invariant.taken_count in
    record {
      so_far =
          (c.loop.invariant.each 0 (slice_index_or clients 0 c.index-clients-0.result) g.sent.0 c.loop.first.items
          (slice_get-get_or clients 0 c.index-clients-0.result (omega (arith, two))) refl refl).taken;
    }

pub receive-requires-in-loop : goal.receive-requires-in-loop
receive-requires-in-loop g c =
    let clients = c.loop.clients in
    let now = set clients 0 c.receive.new.client in
    let two = c.loop.invariant.taken_count in
    let same = length-set clients 0 c.receive.new.client in
    record {
      so_far =
          (c.loop.invariant.each 1 (slice_index_or now 1 c.index-clients-1.result) g.sent.1 c.loop.second.items
          (sym (slice_get-set_other clients 0 1 c.receive.new.client (omega arith))
          ∙ slice_get-get_or now 1 c.index-clients-1.result (omega (arith, two, same)))
          refl refl).taken;
    }

module _ (g : Over) (c : In_ok-receive-2 g) where
  abbrev sent : List (List Batch)
  sent = g.sent.0 ∷ g.sent.1 ∷ []

  abbrev before : List Client
  before = c.loop.clients

  abbrev between : List Client
  between = set before 0 c.receive.new.client

  turned : AreServing WINDOW c.turn.new.self before sent (c.loop.first.items ∷ c.loop.second.items ∷ [])
  turned =
      let is = c.turn.ensures.turns in
      serving_turned WINDOW c.loop.resolver before sent (c.loop.first.items ∷ c.loop.second.items ∷ [])
      c.loop.invariant c.turn.new.self (is.resolving (negsuc 0) c.loop.invariant.resolving) is.steps.continues is.steps.lanes

  first_received : AreServing WINDOW c.turn.new.self between sent
      (c.receive.new.received.items ∷ c.loop.second.items ∷ [])
  first_received =
      let is = c.in_ok-receive.ensures in
      let two = turned.taken_count in
      serving_received WINDOW c.turn.new.self before sent (c.loop.first.items ∷ c.loop.second.items ∷ []) turned 0
      (slice_index_or before 0 c.index-clients-0.result) c.receive.new.client g.sent.0 c.loop.first.items
      c.receive.new.received.items
      (slice_get-get_or before 0 c.index-clients-0.result (omega (arith, two)))
      refl refl is.intake is.taken is.requests

  both_received : AreServing WINDOW c.turn.new.self (set between 1 c.receive-in-loop.new.client) sent
      (c.receive.new.received.items ∷ c.receive-in-loop.new.received.items ∷ [])
  both_received =
      let is = c.in_ok-receive-2.ensures in
      let two = first_received.taken_count in
      serving_received WINDOW c.turn.new.self between sent
      (c.receive.new.received.items ∷ c.loop.second.items ∷ []) first_received 1
      (slice_index_or between 1 c.index-clients-1.result) c.receive-in-loop.new.client g.sent.1 c.loop.second.items
      c.receive-in-loop.new.received.items
      (slice_get-get_or between 1 c.index-clients-1.result (omega (arith, two)))
      refl refl is.intake is.taken is.requests

pub loop-preserved : goal.loop-preserved
loop-preserved g c = both_received g c
