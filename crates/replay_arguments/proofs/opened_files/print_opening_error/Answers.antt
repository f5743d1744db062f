use Rattle.std.proofs.Common.{sym, subst}
use Rattle.std.proofs.lemmas.Result.{on_ok_weaker}
use Rattle.std.specs.Io.KnownBytes.{Appends}
use Rattle.wire.proofs.callers.Given.{appends_then}
use Rattle.replay_arguments.specs.declared.opened_files.OpeningError.{OpeningError}
use Rattle.replay_arguments.specs.Opening.{opening_line}
use Rattle.replay_arguments.proofs.opened_files.print_opening_error.Goals as goal

pub returns-in_ok-begin_line-in-CannotOpen-clause-text : goal.returns-in_ok-begin_line-in-CannotOpen-clause-text
returns-in_ok-begin_line-in-CannotOpen-clause-text g c =
    let given = g.W.Sink.given in
    on_ok_weaker c.write_all.result
    (λ end. subst (λ (cause : OpeningError). Appends (given c.args.error.now) (given c.write_all.new.writer) (opening_line cause))
    (sym c.in-CannotOpen.is)
    (appends_then _ _ _ _ _ c.in_ok-begin_line-in-CannotOpen.ensures.text end))
    c.write_all.ensures.entire
