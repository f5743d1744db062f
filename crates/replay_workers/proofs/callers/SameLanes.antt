-- The ends of lanes, later.
use Rattle.std.proofs.Common.{List, sym, ◌∙◌, arith}
use Rattle.std.specs.List.{AllZip}
use Rattle.std.proofs.lemmas.Slice.Zip.{AllZip-long}
use Rattle.keys.proofs.callers.Lists.{AllZip-get}
use Rattle.lane.specs.Lane.{PortView, IntakeView, PortContinues, IntakeContinues}
use Rattle.resolver.specs.declared.client.Client.{Client}
use Rattle.resolver.specs.Lanes.{Lanes, Each, LanesContinue}
use Rattle.resolver.specs.Resolver.{AreClients}
use Rattle.replay_workers.specs.declared.ends.Ends.{Ends}
use Rattle.replay_workers.specs.Ends.{EndsContinue}
use Rattle.replay_workers.specs.Worker.{ClientContinues}
use Rattle.replay_workers.proofs.callers.Lists.{found}

pub port_continues : {T : Type 0} (a b c : PortView T) → PortContinues a b → PortContinues b c → PortContinues a c
port_continues a b c first second = record {
  lane = second.lane ∙ first.lane;
  capacity = second.capacity ∙ first.capacity;
  seen_taken = omega (arith, first.seen_taken, second.seen_taken);
  looks = omega (arith, first.looks, second.looks);
}

pub intake_continues : {T : Type 0} (a b c : IntakeView T) → IntakeContinues a b → IntakeContinues b c → IntakeContinues a c
intake_continues a b c first second = record {
  lane = second.lane ∙ first.lane;
  capacity = second.capacity ∙ first.capacity;
  seen_sent = omega (arith, first.seen_sent, second.seen_sent);
  seen_close = λ seen. second.seen_close (first.seen_close seen);
  looks = omega (arith, first.looks, second.looks);
}

pub ends_continue : (a b c : Ends) → EndsContinue a b → EndsContinue b c → EndsContinue a c
ends_continue a b c first second = record {
  requests = port_continues a.requests b.requests c.requests first.requests second.requests;
  replies = intake_continues a.replies b.replies c.replies first.replies second.replies;
  given = second.given ∙ first.given;
  proxy = second.proxy ∙ first.proxy;
  share = second.share ∙ first.share;
}

pub lanes_continue : (a b c : List Lanes) → Each (λ _ l m. LanesContinue l m) a b → Each (λ _ l m. LanesContinue l m) b c
    → Each (λ _ l m. LanesContinue l m) a c
lanes_continue a b c first second = record {
  count = second.count ∙ first.count;
  each = λ proxy l n at there.
      let between = found a b proxy l first.count at in
      let one = first.each proxy l between.0 at between.1 in
      let two = second.each proxy between.0 n between.1 there in
      record {
        requests = intake_continues l.requests between.0.requests n.requests one.requests two.requests;
        replies = port_continues l.replies between.0.replies n.replies one.replies two.replies;
        ended = λ ended. two.ended (one.ended ended);
      };
}

-- the clients are still those of the lanes
pub clients_continue : (lanes later : List Lanes) (clients back : List Client) → AreClients lanes clients
    → Each (λ _ l m. LanesContinue l m) lanes later → AllZip ClientContinues clients back → AreClients later back
clients_continue lanes later clients back of_lanes turned all_returned = record {
  count = AllZip-long ClientContinues clients back all_returned ∙ of_lanes.count ∙ sym turned.count;
  requests = λ proxy m d at there.
      let l = found later lanes proxy m (sym turned.count) at in
      let c = found back clients proxy d (sym (AllZip-long ClientContinues clients back all_returned)) there in
      let lane = of_lanes.requests proxy l.0 c.0 l.1 c.1 in
      let turns = (turned.each proxy l.0 m l.1 at).requests in
      let goes = (AllZip-get ClientContinues clients back proxy c.0 d all_returned c.1 there).requests in
      record {
        lane = goes.lane ∙ lane.lane ∙ sym turns.lane;
        capacity = goes.capacity ∙ lane.capacity ∙ sym turns.capacity;
      };
  replies = λ proxy m d at there.
      let l = found later lanes proxy m (sym turned.count) at in
      let c = found back clients proxy d (sym (AllZip-long ClientContinues clients back all_returned)) there in
      let lane = of_lanes.replies proxy l.0 c.0 l.1 c.1 in
      let turns = (turned.each proxy l.0 m l.1 at).replies in
      let goes = (AllZip-get ClientContinues clients back proxy c.0 d all_returned c.1 there).replies in
      record {
        lane = turns.lane ∙ lane.lane ∙ sym goes.lane;
        capacity = turns.capacity ∙ lane.capacity ∙ sym goes.capacity;
      };
}
