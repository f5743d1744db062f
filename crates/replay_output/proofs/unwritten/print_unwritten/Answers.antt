use Rattle.std.proofs.Common.{rules, sym, subst, ◌∙◌, arith}
use Rattle.std.specs.Io.KnownBytes.{Appends}
use Rattle.wire.proofs.callers.Given.{appends_then}
use Rattle.replay_output.specs.Unwritten.{unwritten_line}
use Rattle.replay_output.proofs.Numbered.{numbered-more}
use Rattle.replay_output.proofs.unwritten.print_unwritten.Goals as goal

pub loop-proxy-preserved : goal.loop-proxy-preserved
loop-proxy-preserved g c =
    let unwritten = c.args.unwritten.now in
    let proxy = c.loop-proxy.proxy in
    let given = g.W.Sink.given in
    record {
      text = subst (Appends (given c.args.error.now) (given c.print_proxy.new.error))
          (sym (numbered-more unwritten_line unwritten proxy _ (omega arith) (search rules)))
          (appends_then _ _ _ _ _ c.loop-proxy.invariant.text c.in_ok-print_proxy.ensures.text);
      ok = c.in_ok-print_proxy.ensures.ok ∙ c.loop-proxy.invariant.ok;
    }
