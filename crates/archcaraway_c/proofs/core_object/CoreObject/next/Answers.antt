use Rattle.std.proofs.Common.{rules, length, arith, ap, subst}
use Rattle.archcaraway_c.specs.CoreObject.{CoreParts, AreCoreParts}
use Rattle.archcaraway_c.proofs.NextOwed.{none_owed, none_below_next, none_at_all}
use Rattle.archcaraway_c.proofs.core_object.CoreObject.next.Goals as goal

pub loop-proxy-preserved : goal.loop-proxy-preserved
loop-proxy-preserved c =
    none_below_next c.loop-proxy.proxy c.args.self.now c.loop-proxy.invariant
    (none_owed _ (λ is. search rules))

pub returns : goal.returns
returns c =
    let count = ap (λ (parts : CoreParts). length parts.waiting) c.self.view_is in
    record {
      next = none_at_all c.loop-proxy.proxy c.args.self.now
          (subst AreCoreParts c.self.view_is c.self.invariant)
          (omega (arith, count)) c.loop-proxy.invariant;
    }
