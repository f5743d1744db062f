use Rattle.std.proofs.lemmas.Result.{on_ok_weaker}
use Rattle.replay_output.specs.Failures.{proxy_lines, ending_line}
use Rattle.wire.proofs.callers.Given.{appends_then}
use Rattle.replay_output.proofs.Clean.{Keeps-from_clean}
use Rattle.replay_output.proofs.failures.print_failures.Goals as goal

pub returns-clause-nothing : goal.returns-clause-nothing
returns-clause-nothing g c =
    λ nothing. on_ok_weaker c.print_ending.result
    (λ last. Keeps-from_clean _ _ c.args.failures.now c.args.ending nothing
    (appends_then _ _ _ (proxy_lines c.args.failures.now) (ending_line c.args.ending)
    c.in_ok-print_proxies.ensures.text last))
    c.print_ending.ensures.text
