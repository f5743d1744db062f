use Rattle.std.proofs.Common.{sym, subst}
use Rattle.std.proofs.lemmas.Result.{on_ok_weaker}
use Rattle.std.specs.Io.KnownBytes.{Appends}
use Rattle.replay_output.specs.declared.start.StartError.{StartError}
use Rattle.replay_output.specs.Start.{start_line}
use Rattle.replay_output.proofs.start.print_start_error.Goals as goal

pub returns-in-Thread-clause-text : goal.returns-in-Thread-clause-text
returns-in-Thread-clause-text g c =
    let given = g.W.Sink.given in
    on_ok_weaker c.write_all-in-Thread.result
    (subst (λ (cause : StartError). Appends (given c.args.error.now) (given c.write_all-in-Thread.new.writer) (start_line cause))
    (sym c.in-Thread.is))
    c.write_all-in-Thread.ensures.entire
