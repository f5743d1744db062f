use Rattle.std.proofs.Common.{◌≡◌, Bool, true, rules, sym, subst}
use Rattle.std.proofs.lemmas.Result.{on_ok_weaker}
use Rattle.std.specs.Io.KnownBytes.{Appends}
use Rattle.wire.proofs.callers.Given.{appends_then}
use Rattle.replay_output.specs.Failures.{loss_line}
use Rattle.replay_output.proofs.failures.print_loss.Goals as goal

pub returns-clause-text : goal.returns-clause-text
returns-clause-text g c =
    let given = g.W.Sink.given in
    let is_lost : c.args.lost ≡ true = search rules in
    on_ok_weaker c.write_all.result
    (λ end. subst (λ (lost : Bool). Appends (given c.args.error.now) (given c.write_all.new.writer) (loss_line c.args.proxy lost))
    (sym is_lost)
    (appends_then _ _ _ _ _ c.in_ok-begin_line.ensures.text end))
    c.write_all.ensures.entire
