use Rattle.std.proofs.Common.{length}
use Rattle.resolver.specs.Core.{core_of}
use Rattle.resolver.proofs.Finishing.{Reports}
use Rattle.resolver.proofs.resolver_core.Core.answer_held.Given as goal

abbrev pub invariant-loop-proxy : goal.invariant-loop-proxy
invariant-loop-proxy l =
    let old = l.initial.self-inside in
    let now = l.self-inside in
    Reports (core_of old.set old.version old.gate old.replies old.owed old.stop)
    (core_of now.set now.version now.gate now.replies now.owed now.stop)

abbrev pub decreases-loop-proxy : goal.decreases-loop-proxy
decreases-loop-proxy l = length l.self-inside.gate
