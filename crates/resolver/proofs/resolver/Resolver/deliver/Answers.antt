use Rattle.std.proofs.Common.{◌≡◌, ap, length, arith}
use Rattle.std.proofs.lemmas.List.{with_items_is}
use Rattle.resolver.proofs.DeliveryStep.{delivered}
use Rattle.resolver.proofs.resolver.Resolver.deliver.Goals as goal

pub invariant_of-self : goal.invariant_of-self
invariant_of-self c =
    let done = c.deliver.ensures in
    let seen = c.deref_mut.ensures.value in
    let before = c.self.inside.all_lanes in
    let now = c.deliver.new.all_lanes in
    let long : length now ≡ before.len = omega (arith, done.each.count, ap length seen, before.ok.0) in
    (delivered c.self.invariant c.self.view_is done.core seen done.each (with_items_is before now long)).0

pub returns : goal.returns
returns c =
    let done = c.deliver.ensures in
    let seen = c.deref_mut.ensures.value in
    let before = c.self.inside.all_lanes in
    let now = c.deliver.new.all_lanes in
    let long : length now ≡ before.len = omega (arith, done.each.count, ap length seen, before.ok.0) in
    (delivered c.self.invariant c.self.view_is done.core seen done.each (with_items_is before now long)).1
