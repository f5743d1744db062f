use Rattle.std.proofs.Common.{vec_items, map, ap, subst, ◌∙◌}
use Rattle.std.specs.Io.KnownBytes.{Appends}
use Rattle.replay_output.specs.Line.{texts}
use Rattle.replay_output.proofs.Known.{Begins}
use Rattle.replay_output.proofs.Results.{on_ok_also, at_err_also}
use Rattle.replay_output.proofs.LineTexts.{texts_are_lines}
use Rattle.replay_output.proofs.report.lines.print_answers.Goals as goal

pub returns-clause-lines : goal.returns-clause-lines
returns-clause-lines g c = λ print are.
    let text = ap texts c.in_default.ensures.ok ∙ texts_are_lines print (map vec_items c.args.received.now) are in
    let given = g.W.Sink.given in
    on_ok_also c.print_sorted.result c.map_err.result c.map_err.ensures.variant
    (subst (Appends (given c.args.out.now) (given c.print_sorted.new.out)) text) c.print_sorted.ensures.entire

pub returns-clause-prefix : goal.returns-clause-prefix
returns-clause-prefix g c = λ print are failed.
    let text = ap texts c.in_default.ensures.ok ∙ texts_are_lines print (map vec_items c.args.received.now) are in
    let given = g.W.Sink.given in
    subst (Begins (given c.args.out.now) (given c.print_sorted.new.out)) text
    (at_err_also c.print_sorted.result c.map_err.result _ c.map_err.ensures.variant failed c.print_sorted.ensures.prefix)
