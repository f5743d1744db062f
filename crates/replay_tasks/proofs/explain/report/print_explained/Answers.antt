use Rattle.std.proofs.Common.{◌<◌, ℕ, List, map, take, vec_items, sym, ap, subst, inl, ◌∙◌}
use Rattle.std.specs.Prelude.{IfSome, OnOk}
use Rattle.std.specs.Io.KnownBytes.{Appends}
use Rattle.keyspace.specs.declared.answer.Answer.{Answer}
use Rattle.replay_explanations.specs.Explainer.{text_of}
use Rattle.replay_output.specs.Line.{AreLinesBy, answers_of}
use Rattle.replay_output.specs.Lines.{lines_by}
use Rattle.replay_tasks.specs.Explained.{explained_line}
use Rattle.replay_tasks.proofs.Noting.{noted_answers, noted_lines, same_counts}
use Rattle.replay_tasks.proofs.explain.report.print_explained.Goals as goal

pub returns-clause-lines : goal.returns-clause-lines
returns-clause-lines g c = λ style same are.
    let form = c.args.explainer.now.form in
    let explained = text_of c.args.explainer.now.texts in
    let received = map vec_items c.args.received.now in
    let print = explained_line style explained in
    let by = subst (AreLinesBy print) (sym c.in_default.ensures.noted) (noted_lines form explained style same received are) in
    subst (λ (answers : List (List Answer)). OnOk c.print_report.result.printed
    (Appends (g.O.Sink.given c.args.out.now) (g.O.Sink.given c.print_report.new.out) (lines_by print answers)))
    (ap (map answers_of) c.in_default.ensures.noted ∙ noted_answers form explained received)
    (c.print_report.ensures.lines print by)

pub returns-clause-takes : goal.returns-clause-takes
returns-clause-takes g c = λ proxy memory.
    let form = c.args.explainer.now.form in
    let explained = text_of c.args.explainer.now.texts in
    let received = map vec_items c.args.received.now in
    inl (subst (λ (n : ℕ). 20 < n)
    (same_counts (map vec_items c.explain_lines.new.lines) received proxy
    (ap (map answers_of) c.in_default.ensures.noted ∙ noted_answers form explained received))
    (c.print_report.ensures.takes proxy memory))

pub returns-clause-prefix : goal.returns-clause-prefix
returns-clause-prefix g c = λ style same are wrote.
    let form = c.args.explainer.now.form in
    let explained = text_of c.args.explainer.now.texts in
    let received = map vec_items c.args.received.now in
    let print = explained_line style explained in
    let by = subst (AreLinesBy print) (sym c.in_default.ensures.noted) (noted_lines form explained style same received are) in
    subst (λ (answers : List (List Answer)). IfSome (g.O.Sink.given c.print_report.new.out) (λ _. (n : ℕ)
    × Appends (g.O.Sink.given c.args.out.now) (g.O.Sink.given c.print_report.new.out) (take n (lines_by print answers))))
    (ap (map answers_of) c.in_default.ensures.noted ∙ noted_answers form explained received)
    (c.print_report.ensures.prefix print by wrote)
