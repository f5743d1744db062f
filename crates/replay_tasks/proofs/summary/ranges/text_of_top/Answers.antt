use Rattle.std.proofs.Common.{ap, sym, ◌∙◌}
use Rattle.std.proofs.lemmas.Result.{IfOk-weaker}
use Rattle.replay_summary.specs.declared.text.SummaryForm.{SummaryForm}
use Rattle.replay_tasks.specs.Summarized.{text_of_top}
use Rattle.replay_tasks.proofs.summary.ranges.text_of_top.Goals as goal

pub returns-in-Words : goal.returns-in-Words
returns-in-Words c = record {
  text =
      IfOk-weaker c.hot_lines.result _ _
      (λ made is ps seen chain. record {
        top = c.in_ok-top.top;
        is_top = c.in_ok-top.ensures.top ps seen chain;
        is_text = is ∙ ap (λ (form : SummaryForm). text_of_top form c.in_ok-top.top) (sym c.in-Words.is);
      })
      c.hot_lines.ensures.text;
}

pub returns : goal.returns
returns c = record {
  text =
      IfOk-weaker c.hot_members.result _ _
      (λ made is ps seen chain. record {
        top = c.in_ok-top.top;
        is_top = c.in_ok-top.ensures.top ps seen chain;
        is_text = is ∙ ap (λ (form : SummaryForm). text_of_top form c.in_ok-top.top) (sym c.in-Json.is);
      })
      c.hot_members.ensures.text;
}
