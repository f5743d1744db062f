use Rattle.std.proofs.Common.{◌+◌, refl, sym, ap, subst, subst₂, ◌∙◌, arith}
use Rattle.keyspace.specs.declared.answer.Answer.{Answer}
use Rattle.keyspace.specs.declared.batch.Batch.{Batch}
use Rattle.lane.specs.Lane.{LaneId, PortView, IntakeView, SameLane, new_intake}
use Rattle.resolver.specs.declared.client.Client.{Client}
use Rattle.resolver.proofs.Connected.{connected_more}
use Rattle.resolver.specs.Resolver.{IsNewClient}
use Rattle.resolver.specs.Parts.{ProxyLanesView, AreNewLanes, AreConnected}
use Rattle.resolver.proofs.resolver_opening.connect_all.Goals as goal

pub loop-preserved : goal.loop-preserved
loop-preserved c =
    let requests = c.in_ok-send_requests in
    let replies = c.in_ok-send_replies in
    let client : Client = record { requests = requests.send_requests; replies = replies.take_replies } in
    let same_requests : SameLane requests.send_requests c.new.result.lanes.requests =
    subst (λ (l : ProxyLanesView). SameLane requests.send_requests l.lanes.requests) (sym c.new.ensures.proxy_lanes)
    requests.ensures.same_lane in
    let same_replies : SameLane c.new.result.lanes.replies replies.take_replies =
    subst (λ (l : ProxyLanesView). SameLane l.lanes.replies replies.take_replies) (sym c.new.ensures.proxy_lanes)
    replies.ensures.same_lane in
    let new_lanes : AreNewLanes c.new.result =
    subst AreNewLanes (sym c.new.ensures.proxy_lanes) (record {
      taken = ap (λ (intake : IntakeView Batch). intake.taken) requests.ensures.intake;
      sent = ap (λ (port : PortView Answer). port.sent) replies.ensures.port;
      closed = ap (λ (port : PortView Answer). port.closed) replies.ensures.port;
      ended = refl;
      waiting = refl;
    }) in
    let new_client : IsNewClient c.args.capacity client =
    record {
      requests = requests.ensures.port;
      replies =
          replies.ensures.intake
          ∙ ap (λ (k : LaneId). new_intake {T = Answer} k c.args.capacity)
          (sym (ap (λ (intake : IntakeView Answer). intake.lane) replies.ensures.intake));
    } in
    record {
      connected =
          subst₂ (AreConnected c.args.capacity (c.loop.counter + 1)) (sym c.push_reserved.ensures.items)
          (sym c.push_reserved-in-loop.ensures.items)
          (connected_more c.args.capacity c.loop.counter c.loop.all_lanes.items c.loop.clients.items c.new.result
          client c.loop.invariant.connected same_requests same_replies new_lanes new_client);
      room_all_lanes = omega arith;
      room_clients = omega arith;
    }
