use Rattle.std.proofs.Common.{◌≡◌, ◌+◌, take, get_or, sym, ap, subst, ◌∙◌, arith}
use Rattle.std.proofs.lemmas.List.{take_more}
use Rattle.replay_summary.specs.declared.summary.Summary.{Summary}
use Rattle.replay_summary.specs.Adding.{nothing, plus}
use Rattle.replay_summary.specs.Summary.{Fits, total_of}
use Rattle.replay_summary.proofs.Fitting.{fewer_fit_in_total, if_none}
use Rattle.replay_summary.proofs.Summing.{total_next}
use Rattle.replay_summary.proofs.summary.total.Goals as goal

pub returns-in_err-total-clause-none : goal.returns-in_err-total-clause-none
returns-in_err-total-clause-none c =
    let summaries = c.args.summaries.now in
    let i = c.loop-summary.summary-index in
    let next = get_or summaries i nothing in
    let sum : plus c.loop-summary.total next ≡ total_of (take (i + 1) summaries) =
    ap (λ (s : Summary). plus s next) c.loop-summary.invariant ∙ sym (total_next (take i summaries) next)
    ∙ sym (ap total_of (take_more summaries i nothing (omega arith))) in
    if_none c.from_residual.result
    (λ all. c.in_err-total.ensures.none (subst Fits (sym sum) (fewer_fit_in_total summaries (i + 1) all)))
