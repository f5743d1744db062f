use Rattle.std.proofs.Common.{◌∙◌, ◌<◌, length, arith}
use Rattle.resolver.specs.Owed.{owed_to}
use Rattle.resolver.specs.Parts.{Delivers}
use Rattle.resolver.proofs.Each.{EachProxy-also}
use Rattle.resolver.proofs.DeliveryLoop.{DeliveredBelow, EachProxy-delivered, OwesOnly-then}
use Rattle.resolver.proofs.all_lanes.deliver.Goals as goal

pub loop-proxy-preserved : goal.loop-proxy-preserved
loop-proxy-preserved c =
    let i = c.loop-proxy.proxy in
    let so_far = c.loop-proxy.invariant in
    let done = c.deliver.ensures in
    let inside : i < length c.loop-proxy.all_lanes = omega (arith, so_far.0.count) in (
      EachProxy-delivered i c.deliver.new.self c.index-all_lanes-proxy.result c.args.core.now.owed
          c.loop-proxy.core.owed c.deliver.new.core.owed inside so_far.1 done.others done.delivers
          so_far.0,
      λ q past. done.others q (omega arith) ∙ so_far.1 q (omega arith),
      OwesOnly-then so_far.2 done.core,
    )

pub returns-clause-each : goal.returns-clause-each
returns-clause-each c =
    let before = c.args.core.now.owed in
    let after = c.loop-proxy.core.owed in
    EachProxy-also (DeliveredBelow c.loop-proxy.proxy before after)
    (λ q l m. Delivers l m (owed_to q before) (owed_to q after))
    (λ q l m inside delivered. delivered.0 (omega (arith, c.loop-proxy.invariant.0.count))) c.loop-proxy.invariant.0
