use Rattle.resolver.specs.Owed.{owed_to}
use Rattle.resolver.proofs.DeliveryLoop.{Delivers-all}
use Rattle.resolver.proofs.proxy_lanes.ProxyLanes.deliver.Goals as goal

pub returns-clause-delivers : goal.returns-clause-delivers
returns-clause-delivers c =
    Delivers-all c.args.self.now c.loop-answer.self c.next_answer.new.self
    (owed_to c.args.proxy c.args.core.now.owed) (owed_to c.args.proxy c.loop-answer.core.owed)
    (owed_to c.args.proxy c.next_answer.new.core.owed) c.loop-answer.invariant.0
    c.in_default.ensures.next c.in_default.ensures.waiting c.in_default.ensures.none
