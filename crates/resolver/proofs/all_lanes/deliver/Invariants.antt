use Rattle.std.proofs.Common.{◌≡◌, ℕ, ◌≤◌}
use Rattle.resolver.specs.Owed.{owed_to}
use Rattle.resolver.specs.Parts.{EachProxy, OwesOnly}
use Rattle.resolver.proofs.DeliveryLoop.{DeliveredBelow}
use Rattle.resolver.proofs.all_lanes.deliver.Given as goal

abbrev pub invariant-loop-proxy : goal.invariant-loop-proxy
invariant-loop-proxy l =
    EachProxy (DeliveredBelow l.proxy l.initial.core.owed l.core.owed) l.initial.all_lanes l.all_lanes
    × ((q : ℕ) → l.proxy ≤ q → owed_to q l.core.owed ≡ owed_to q l.initial.core.owed)
    × OwesOnly l.initial.core l.core
