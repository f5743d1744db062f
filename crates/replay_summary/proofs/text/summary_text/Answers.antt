use Rattle.std.proofs.Common.{ap, ◌∙◌}
use Rattle.replay_summary.proofs.Texts.{json_text, once_ok, words_text}
use Rattle.replay_summary.proofs.text.summary_text.Goals.{in-Words, in-Json}
use Rattle.replay_summary.proofs.text.summary_text.Goals as goal

pub returns-in-Ok-clause-text : goal.returns-in-Ok-clause-text
returns-in-Ok-clause-text c = elim c.match-form.branch [
  | in-Words w ↦
      words_text c.match-form.out.items c.new-out.result.items c.args.summaries.now c.in-Some.total c.args.occupancy c.args.form
      (ap (λ v. v.items) w.out-is ∙ once_ok w.put_lines_of_run-put.result c.match-form.put _ w.put-is c.in-Ok.is w.put_lines_of_run-put.ensures.text)
      c.new-out.ensures.items c.in-Some.ensures.total w.in-Words.is
  | in-Json w ↦
      json_text c.match-form.out.items c.new-out.result.items c.args.summaries.now c.in-Some.total c.args.occupancy c.args.form
      (ap (λ v. v.items) w.out-is ∙ once_ok w.put_object-put.result c.match-form.put _ w.put-is c.in-Ok.is w.put_object-put.ensures.text)
      c.new-out.ensures.items c.in-Some.ensures.total w.in-Json.is
]
