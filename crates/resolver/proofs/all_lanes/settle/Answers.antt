use Rattle.std.proofs.Common.{◌≡◌, Some, slice_get, slice_index_or, arith}
use Rattle.std.proofs.lemmas.Option.{slice_get-get_or, slice_get_within}
use Rattle.std.proofs.lemmas.List.{length-map}
use Rattle.lane.specs.Lane.{SameLane}
use Rattle.resolver.specs.declared.client.Client.{Client}
use Rattle.resolver.specs.Parts.{ProxyLanesView}
use Rattle.resolver.proofs.Settling.{same_lanes, settled_more, taken_more, settled_all}
use Rattle.resolver.proofs.all_lanes.settle.Goals as goal
use Rattle.resolver.proofs.all_lanes.settle.Goals.{After-index-clients-proxy}

module _ (c : After-index-clients-proxy) where
  abbrev proxy_lanes : ProxyLanesView
  proxy_lanes = slice_index_or c.loop-proxy.all_lanes c.loop-proxy.proxy c.index-all_lanes-proxy.result

  abbrev client : Client
  client = slice_index_or c.loop-proxy.clients c.loop-proxy.proxy c.index-clients-proxy.result

  proxy_lanes_at : slice_get c.loop-proxy.all_lanes c.loop-proxy.proxy ≡ Some proxy_lanes
  proxy_lanes_at =
      slice_get-get_or c.loop-proxy.all_lanes c.loop-proxy.proxy c.index-all_lanes-proxy.result (omega arith)

  client_at : slice_get c.loop-proxy.clients c.loop-proxy.proxy ≡ Some client
  client_at =
      let many = length-map c.args.all_lanes.now (λ k. k.lanes) in
      slice_get-get_or c.loop-proxy.clients c.loop-proxy.proxy c.index-clients-proxy.result (omega arith)

  ends : SameLane client.requests proxy_lanes.lanes.requests × SameLane proxy_lanes.lanes.replies client.replies
  ends =
      same_lanes c.loop-proxy.proxy c.args.all_lanes.now c.args.clients.now c.loop-proxy.all_lanes c.loop-proxy.clients
      proxy_lanes client c.loop-proxy.invariant.settled proxy_lanes_at client_at c.requires.clients

pub settle-all_taken-requires-clause-requests : goal.settle-all_taken-requires-clause-requests
settle-all_taken-requires-clause-requests c = (ends c).0

pub settle-all_taken-requires-clause-replies : goal.settle-all_taken-requires-clause-replies
settle-all_taken-requires-clause-replies c = (ends c).1

pub loop-proxy-preserved : goal.loop-proxy-preserved
loop-proxy-preserved c =
    let d = (goal.at.loop-proxy-preserved c).After-index-clients-proxy in
    record {
      settled =
          settled_more c.loop-proxy.proxy c.args.all_lanes.now c.args.clients.now c.loop-proxy.all_lanes
          c.loop-proxy.clients (proxy_lanes d) (client d) c.loop-proxy.invariant.settled (proxy_lanes_at d)
          (client_at d) c.settle-all_taken.new.self c.settle-all_taken.new.client
          c.settle-all_taken.ensures.settles;
      taken =
          taken_more c.loop-proxy.proxy c.args.all_lanes.now c.args.clients.now c.loop-proxy.all_lanes
          c.loop-proxy.clients (proxy_lanes d) (client d) c.loop-proxy.invariant.settled (proxy_lanes_at d)
          (client_at d) c.loop-proxy.all_taken c.settle-all_taken.result c.loop-proxy.invariant.taken
          c.settle-all_taken.ensures.all_taken;
    }

pub returns-clause-each : goal.returns-clause-each
returns-clause-each c =
    settled_all c.loop-proxy.proxy c.args.all_lanes.now c.args.clients.now c.loop-proxy.all_lanes c.loop-proxy.clients
    (omega arith) c.loop-proxy.invariant.settled

pub returns-clause-all_taken : goal.returns-clause-all_taken
returns-clause-all_taken c = (
  λ all proxy l d l_at.
      let inside = slice_get_within _ proxy l l_at in
      c.loop-proxy.invariant.taken.0 all proxy l d (omega (arith, inside)) l_at,
  λ taken. c.loop-proxy.invariant.taken.1 (λ proxy l d _. taken proxy l d),
)
