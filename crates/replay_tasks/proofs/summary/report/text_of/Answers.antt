use Rattle.std.proofs.Common.{◌∙◌, ℕ, List, ap, map, subst, sym, vec_items}
use Rattle.std.specs.List.{All}
use Rattle.keyspace.specs.storage.InOrder.{Rise}
use Rattle.replay_output.specs.declared.line.Line.{Line}
use Rattle.replay_output.specs.Line.{counted_of_line, version_of_line}
use Rattle.replay_output.proofs.callers.Counting.{counted_in_order, lines_rise}
use Rattle.replay_summary.specs.Summary.{summary_of}
use Rattle.replay_summary.specs.Text.{text}
use Rattle.replay_tasks.specs.Summarized.{with_ranges}
use Rattle.replay_tasks.proofs.summary.report.text_of.Goals as goal

pub text_of_sorted-requires : goal.text_of_sorted-requires
text_of_sorted-requires c = record {
  rise = subst (All (Rise version_of_line)) (sym c.in_ok-sort_lines.ensures.ok) (lines_rise (map vec_items c.args.received.now));
}

pub returns-in-Ok-clause-text : goal.returns-in-Ok-clause-text
returns-in-Ok-clause-text c = λ style are.
    let received = map vec_items c.args.received.now in
    c.in-Ok.ensures.text
    ∙ ap (λ (summary : List ℕ). with_ranges c.args.form summary c.args.ranges.now)
    (ap (λ (sorted : List (List Line)). text c.args.form c.args.occupancy (map (λ lines. summary_of (map counted_of_line lines)) sorted))
    c.in_ok-sort_lines.ensures.ok
    ∙ ap (text c.args.form c.args.occupancy) (counted_in_order summary_of style received are))
