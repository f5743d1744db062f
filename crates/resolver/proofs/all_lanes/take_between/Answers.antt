use Rattle.std.proofs.Common.{◌<◌, length, arith}
use Rattle.resolver.proofs.Finding.{FindsNone-as, FindsNone-more, FindsOne-here}
use Rattle.resolver.proofs.all_lanes.take_between.Goals as goal

pub returns-in-Some-clause-found : goal.returns-in-Some-clause-found
returns-in-Some-clause-found c =
    let i = c.loop-proxy.proxy in
    let inside : i < length c.loop-proxy.all_lanes = omega (arith, c.loop-proxy.invariant.0.looked.count) in (
      omega arith,
      omega arith,
      FindsOne-here c.args.first i c.take.new.self c.index-all_lanes-proxy.result (omega arith) inside
          c.in-Some.batch c.in-Some.ensures.takes c.loop-proxy.invariant.0,
    )

pub loop-proxy-preserved : goal.loop-proxy-preserved
loop-proxy-preserved c =
    let i = c.loop-proxy.proxy in
    let inside : i < length c.loop-proxy.all_lanes = omega (arith, c.loop-proxy.invariant.0.looked.count) in (
      FindsNone-more c.args.first i c.take.new.self c.index-all_lanes-proxy.result (omega arith) inside
          c.in_default.ensures.takes c.loop-proxy.invariant.0,
      λ _. omega arith,
    )

pub returns-clause-none : goal.returns-clause-none
returns-clause-none c =
    FindsNone-as _ _ (λ q inside. (λ b. (b.0, omega arith), λ b. (b.0, omega arith))) c.loop-proxy.invariant.0
