use Rattle.std.proofs.Common.{vec_items, map, length, sym, subst}
use Rattle.std.proofs.Math.Seq.{take-length}
use Rattle.std.specs.Io.KnownBytes.{Appends}
use Rattle.wire.proofs.callers.Given.{prefix}
use Rattle.replay_output.specs.Line.{answers_of}
use Rattle.replay_output.specs.Lines.{lines_by}
use Rattle.replay_output.proofs.Results.{at_err_also}
use Rattle.replay_output.proofs.report.print_and_flush.Goals as goal

pub returns-clause-prefix : goal.returns-clause-prefix
returns-clause-prefix g c = λ print are failed.
    let given = g.W.Sink.given in
    let text = lines_by print (map answers_of (map vec_items c.args.received.now)) in
    prefix (given c.args.out.now) (given c.print_answers.new.out) (given c.flush.new.self) text (length text)
    (subst (Appends (given c.args.out.now) (given c.print_answers.new.out)) (sym (take-length text))
    (c.in_ok-print_answers.ensures.lines print are))
    (at_err_also c.flush.result c.map_err.result _ c.map_err.ensures.variant failed c.flush.ensures.kept)
