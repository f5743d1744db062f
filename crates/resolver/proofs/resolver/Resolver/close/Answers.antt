use Rattle.std.proofs.Common.{◌≡◌, ap, length, arith}
use Rattle.std.proofs.lemmas.List.{with_items_is}
use Rattle.resolver.proofs.Closing.{closed_all, as_many_seen}
use Rattle.resolver.proofs.resolver.Resolver.close.Goals as goal

pub invariant_of-self : goal.invariant_of-self
invariant_of-self c =
    let done = c.close.ensures.closed in
    let seen = c.deref_mut.ensures.value in
    let before = c.self.inside.all_lanes in
    let now = c.close.new.all_lanes in
    let long : length now ≡ before.len = omega (arith, done.count, ap length seen, before.ok.0) in
    let through = c.is_through.ensures.through.0 c.if-is_through.true in
    (closed_all c.self.invariant c.self.view_is through seen done (with_items_is before now long)).0

pub returns-then-is_through : goal.returns-then-is_through
returns-then-is_through c =
    let done = c.close.ensures.closed in
    let seen = c.deref_mut.ensures.value in
    let before = c.self.inside.all_lanes in
    let now = c.close.new.all_lanes in
    let long : length now ≡ before.len = omega (arith, done.count, ap length seen, before.ok.0) in
    let through = c.is_through.ensures.through.0 c.if-is_through.true in
    (closed_all c.self.invariant c.self.view_is through seen done (with_items_is before now long)).1

pub returns-else-not-self-clause-count : goal.returns-else-not-self-clause-count
returns-else-not-self-clause-count c = as_many_seen c.self.invariant c.self.view_is
