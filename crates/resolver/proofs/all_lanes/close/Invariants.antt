use Rattle.std.proofs.Common.{◌≡◌, ◌<◌, ◌≤◌}
use Rattle.resolver.specs.Parts.{EachProxy, closed_proxy_lanes}
use Rattle.resolver.proofs.all_lanes.close.Given as goal

abbrev pub invariant-loop-proxy_lanes : goal.invariant-loop-proxy_lanes
invariant-loop-proxy_lanes l =
    EachProxy (λ q old now. (q < l.proxy_lanes-index → now ≡ closed_proxy_lanes old) × (l.proxy_lanes-index ≤ q → now ≡ old))
    l.initial.proxy_lanes-items l.proxy_lanes-items
