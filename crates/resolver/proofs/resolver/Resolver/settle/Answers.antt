use Rattle.std.proofs.Common.{◌≡◌, ◌++◌, ℕ, ℤ, List, true, length, take, drop, Some, ap, sym, subst, subst₂, ◌∙◌}
use Rattle.std.specs.Prelude.{◌↔◌, slice_get}
use Rattle.std.proofs.lemmas.List.{length-map}
use Rattle.keyspace.specs.Run.{Step}
use Rattle.lane.specs.Lane.{HasEnded}
use Rattle.resolver.specs.declared.client.Client.{Client}
use Rattle.resolver.specs.Resolver.{ResolverState, StandsOverFrom, AreClients}
use Rattle.resolver.specs.Lanes.{Each, LanesContinue, AreSameLists, sent_to}
use Rattle.resolver.specs.Parts.{ProxyLanesView, Parts, AreParts, EachSettled, lanes_of, owed_with, resolver_of}
use Rattle.resolver.specs.Settled.{SettledFrom, IsComplete}
use Rattle.resolver.proofs.Resolving.{stands_settled}
use Rattle.resolver.proofs.Settling.{written_back}
use Rattle.resolver.proofs.Unchanged.{owed_with-settled, lanes_hold, lanes_settled, clients_settled, with_all_lanes, AreParts-settled}
use Rattle.resolver.proofs.Accounts.{EachTaken, settled, takes_all, complete_from, complete_then}
use Rattle.resolver.proofs.resolver.Resolver.settle.Goals as goal
use Rattle.resolver.proofs.resolver.Resolver.settle.Goals.{After-new}

module _ (c : After-new) where
  abbrev parts : Parts
  parts = record {
    core = c.self.inside.core;
    all_lanes = c.self.inside.all_lanes.items;
    next = c.self.inside.next;
    finished = c.self.inside.finished;
    closed = c.self.inside.closed;
  }

  abbrev new : List ProxyLanesView
  new = c.settle-all_taken.new.all_lanes

  each : EachSettled parts.all_lanes c.args.clients.now new c.settle-all_taken.new.clients
  each =
      subst (λ all_lanes. EachSettled all_lanes c.args.clients.now new c.settle-all_taken.new.clients)
      c.deref_mut.ensures.value c.settle-all_taken.ensures.each

  clients_are : AreClients (lanes_of parts.all_lanes) c.args.clients.now
  clients_are =
      subst (λ (r : ResolverState). AreClients r.lanes c.args.clients.now) (sym c.self.view_is) c.requires.clients

  all_lanes_are : take c.self.inside.all_lanes.len (new ++ drop (length new) parts.all_lanes) ≡ new
  all_lanes_are = written_back c.self.inside.all_lanes.len new parts.all_lanes each.count c.self.inside.all_lanes.ok.0

  taken_is : (c.settle-all_taken.result ≡ true) ↔ EachTaken parts.all_lanes c.args.clients.now
  taken_is =
      subst (λ all_lanes. (c.settle-all_taken.result ≡ true) ↔ EachTaken all_lanes c.args.clients.now)
      c.deref_mut.ensures.value c.settle-all_taken.ensures.all_taken

  many : length c.args.clients.now ≡ length parts.all_lanes
  many = clients_are.count ∙ length-map parts.all_lanes (λ l. l.lanes)

  complete_is : (c.new.result.complete ≡ true) ↔ IsComplete (resolver_of parts) c.args.clients.now
  complete_is = (
    λ all.
        let each = c.new.ensures.complete.0 all in
        complete_from parts c.self.invariant c.args.clients.now many (sym c.stop.ensures.stop ∙ each.0) each.1
        (taken_is.0 each.2),
    λ complete.
        let then = complete_then parts c.self.invariant c.args.clients.now many complete in
        c.new.ensures.complete.1 (c.stop.ensures.stop ∙ then.0, then.1, taken_is.1 then.2),
  )

pub invariant_of-self : goal.invariant_of-self
invariant_of-self c =
    let d = (goal.at.invariant_of-self c).After-new in
    subst (λ all_lanes. AreParts (with_all_lanes (parts d) all_lanes)) (sym (all_lanes_are d))
    (AreParts-settled (parts d) (new d) c.args.clients.now c.settle-all_taken.new.clients (each d)
    (clients_are d).count c.self.invariant)

pub returns-clause-settled : goal.returns-clause-settled
returns-clause-settled c =
    let clients = c.args.clients.now in
    subst
    (λ (r : ResolverState). (version : ℤ) (log : List Step) → StandsOverFrom version r log
    → SettledFrom version r.core.set.window log r.lanes clients c.new.result)
    c.self.view_is
    (λ version log stands. settled (parts c) c.self.invariant clients (many c) version log stands
    (lanes_hold (parts c).all_lanes (new c) clients c.settle-all_taken.new.clients (each c)
    (clients_are c).count)
    c.runs_are_chains.ensures.chain c.each_batch_is_answered.ensures.once
    c.each_batch_is_answered.ensures.none_held c.chains_are_serializable.ensures.chains
    c.answers_report_verdicts.ensures.known_verdicts _ (complete_is c).0 (c.new.ensures.stop ∙ c.stop.ensures.stop))

pub returns-clause-settled_for_some : goal.returns-clause-settled_for_some
returns-clause-settled_for_some c = λ version before.
    (before.log, returns-clause-settled c version before.log before.stands)

pub returns-clause-complete : goal.returns-clause-complete
returns-clause-complete c =
    subst (λ (r : ResolverState). (c.new.result.complete ≡ true) ↔ IsComplete r c.args.clients.now) c.self.view_is
    (complete_is c)

pub returns-clause-ended : goal.returns-clause-ended
returns-clause-ended c =
    let clients = c.args.clients.now in
    subst
    (λ (r : ResolverState). (proxy : ℕ) (client : Client) → slice_get clients proxy ≡ Some client
    → HasEnded client.replies → client.replies.taken ≡ sent_to r.lanes proxy)
    c.self.view_is
    (takes_all (parts c) c.self.invariant clients (many c)
    (lanes_hold (parts c).all_lanes (new c) clients c.settle-all_taken.new.clients (each c)
    (clients_are c).count))

pub returns-clause-core : goal.returns-clause-core
returns-clause-core c =
    let core = c.self.inside.core in
    ap (λ owed. record core { owed = owed })
    (ap (λ all_lanes. owed_with all_lanes core.owed) (all_lanes_are c)
    ∙ owed_with-settled (parts c).all_lanes (new c) c.args.clients.now c.settle-all_taken.new.clients (each c)
    (clients_are c).count core.owed)
    ∙ ap (λ (r : ResolverState). r.core) c.self.view_is

pub returns-clause-lanes : goal.returns-clause-lanes
returns-clause-lanes c =
    subst₂ (Each (λ _ l m. LanesContinue l m × AreSameLists l m)) (ap (λ (r : ResolverState). r.lanes) c.self.view_is)
    (ap lanes_of (sym (all_lanes_are c)))
    (lanes_settled (parts c).all_lanes (new c) c.args.clients.now c.settle-all_taken.new.clients (each c)
    (clients_are c).count)

pub returns-clause-clients : goal.returns-clause-clients
returns-clause-clients c =
    clients_settled (parts c).all_lanes (new c) c.args.clients.now c.settle-all_taken.new.clients (each c)
    (clients_are c).count

pub returns-clause-stands : goal.returns-clause-stands
returns-clause-stands c =
    stands_settled c.args.self.now _ (returns-clause-core c) (returns-clause-lanes c)
