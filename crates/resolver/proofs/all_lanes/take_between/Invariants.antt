use Rattle.std.proofs.Common.{◌<◌, ◌≤◌}
use Rattle.resolver.specs.Parts.{FindsNone}
use Rattle.resolver.proofs.Finding.{Between}
use Rattle.resolver.proofs.all_lanes.take_between.Given as goal

abbrev pub invariant-loop-proxy : goal.invariant-loop-proxy
invariant-loop-proxy l =
    FindsNone (Between l.first l.proxy) l.initial.all_lanes l.all_lanes × (l.first < l.proxy → l.proxy ≤ l.end)
