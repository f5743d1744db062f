use Rattle.std.proofs.Common.{map, vec_items, ap, ◌∙◌}
use Rattle.replay_tasks.specs.Checked.{count_lines}
use Rattle.std.proofs.lemmas.Result.{IfOk-weaker}
use Rattle.replay_tasks.proofs.KeptReplies.{check_of_lines}
use Rattle.replay_tasks.proofs.check.report.check_received.Goals as goal

pub returns-clause-text : goal.returns-clause-text
returns-clause-text c = λ are.
    let is = check_of_lines (map vec_items c.args.received.items) c.in-Some.batches (map vec_items c.in_ok-kept.kept.items)
    (map vec_items c.args.recorded.items) are (c.in-Some.ensures.count ∙ ap (λ l. count_lines (map vec_items l)) c.deref.ensures.value) c.in_ok-kept.ensures.kept in
    IfOk-weaker c.check_all.result _ _ (λ checked text. text ∙ is.0) c.check_all.ensures.text

pub returns-clause-differences : goal.returns-clause-differences
returns-clause-differences c = λ are.
    let is = check_of_lines (map vec_items c.args.received.items) c.in-Some.batches (map vec_items c.in_ok-kept.kept.items)
    (map vec_items c.args.recorded.items) are (c.in-Some.ensures.count ∙ ap (λ l. count_lines (map vec_items l)) c.deref.ensures.value) c.in_ok-kept.ensures.kept in
    IfOk-weaker c.check_all.result _ _ (λ checked count. count ∙ is.1) c.check_all.ensures.differences
