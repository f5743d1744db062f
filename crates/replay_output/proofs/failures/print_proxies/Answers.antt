use Rattle.std.proofs.Common.{rules, sym, subst, ◌∙◌, arith}
use Rattle.std.specs.Io.KnownBytes.{Appends}
use Rattle.wire.proofs.callers.Given.{appends_then}
use Rattle.replay_output.specs.Failures.{lines_of_failure}
use Rattle.replay_output.proofs.Numbered.{numbered-more}
use Rattle.replay_output.proofs.failures.print_proxies.Goals as goal

pub loop-proxy-preserved : goal.loop-proxy-preserved
loop-proxy-preserved g c =
    let failures = c.args.failures.now in
    let proxy = c.loop-proxy.proxy in
    let given = g.W.Sink.given in
    record {
      text = subst (Appends (given c.args.error.now) (given c.print_failure.new.error))
          (sym (numbered-more lines_of_failure failures proxy _ (omega arith) (search rules)))
          (appends_then _ _ _ _ _ c.loop-proxy.invariant.text c.in_ok-print_failure.ensures.text);
      ok = c.in_ok-print_failure.ensures.ok ∙ c.loop-proxy.invariant.ok;
    }
