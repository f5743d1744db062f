use Rattle.std.proofs.Common.{vec_items, map, length, sym, subst}
use Rattle.std.proofs.Math.Seq.{take-length}
use Rattle.std.proofs.lemmas.Result.{on_err_weaker}
use Rattle.std.specs.Io.KnownBytes.{Appends}
use Rattle.wire.proofs.callers.Given.{prefix}
use Rattle.replay_output.specs.Line.{texts}
use Rattle.replay_tasks.proofs.summary.beside.print_and_flush.Goals as goal

pub returns-clause-prefix : goal.returns-clause-prefix
returns-clause-prefix g c =
    let given = g.W.Sink.given in
    let text = texts (map vec_items c.args.sorted.now) in
    on_err_weaker c.flush.result
    (prefix (given c.args.out.now) (given c.print_sorted.new.out) (given c.flush.new.self) text (length text)
    (subst (Appends (given c.args.out.now) (given c.print_sorted.new.out)) (sym (take-length text)) c.in_ok-print_sorted.ensures.entire))
    c.flush.ensures.kept
