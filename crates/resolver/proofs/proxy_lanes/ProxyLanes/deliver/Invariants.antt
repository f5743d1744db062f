use Rattle.std.proofs.Common.{◌≡◌, ◌≢◌, ℕ, ◌+◌, length}
use Rattle.std.specs.Prelude.{option_to_list}
use Rattle.resolver.specs.Owed.{owed_to}
use Rattle.resolver.specs.Parts.{OwesOnly}
use Rattle.resolver.proofs.DeliveryLoop.{DeliversOn}
use Rattle.resolver.proofs.proxy_lanes.ProxyLanes.deliver.Given as goal

abbrev pub invariant-loop-answer : goal.invariant-loop-answer
invariant-loop-answer l =
    DeliversOn l.initial.self l.self (owed_to l.proxy l.initial.core.owed)
    (owed_to l.proxy l.core.owed)
    × OwesOnly l.initial.core l.core
    × ((other : ℕ) → other ≢ l.proxy
    → owed_to other l.core.owed ≡ owed_to other l.initial.core.owed)

abbrev pub decreases-loop-answer : goal.decreases-loop-answer
decreases-loop-answer l =
    length (option_to_list l.self.waiting) + length (owed_to l.proxy l.core.owed)
