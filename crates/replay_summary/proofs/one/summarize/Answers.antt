use Rattle.std.proofs.Common.{◌+◌, ℤ, sym, ap, subst, ◌∙◌, arith, w64, SFits, rules}
use Rattle.std.proofs.lemmas.Int.{to_z-of_z}
use Rattle.replay_summary.specs.Adding.{is_last}
use Rattle.replay_summary.specs.Summary.{Fits}
use Rattle.replay_summary.proofs.Fitting.{if_none}
use Rattle.replay_summary.proofs.CountedItems.{fits_reported, next_reported}
use Rattle.replay_summary.proofs.one.summarize.Goals as goal

pub loop-answer-preserved : goal.loop-answer-preserved
loop-answer-preserved g c =
    let fits : SFits w64 c.counted-counted.result.version = search rules in
    let same = to_z-of_z w64 c.counted-counted.result.version fits in
    c.in_ok-summary.ensures.sum
    ∙ next_reported g.T.HasCounted.item_counted c.args.answers.now c.loop-answer.answer-index c.answer-item.result
    c.counted-counted.result c.is_last.result c.part_of-part.result c.loop-answer.summary c.requires.rises (omega arith) c.answer-item.is
    c.counted-counted.ensures.counted c.loop-answer.invariant
    (c.is_last.ensures.last ∙ ap (λ (v : ℤ). is_last v c.loop-answer.summary.versions) same)
    c.part_of-part.ensures.part

pub returns-in_err-summary-clause-none : goal.returns-in_err-summary-clause-none
returns-in_err-summary-clause-none g c =
    let fits : SFits w64 c.counted-counted.result.version = search rules in
    let same = to_z-of_z w64 c.counted-counted.result.version fits in
    let reported = g.T.HasCounted.item_counted in
    let answers = c.args.answers.now in
    let i = c.loop-answer.answer-index in
    let sum = next_reported reported answers i c.answer-item.result c.counted-counted.result c.is_last.result c.part_of-part.result
    c.loop-answer.summary c.requires.rises (omega arith) c.answer-item.is c.counted-counted.ensures.counted c.loop-answer.invariant
    (c.is_last.ensures.last ∙ ap (λ (v : ℤ). is_last v c.loop-answer.summary.versions) same) c.part_of-part.ensures.part in
    if_none c.from_residual.result (λ all. c.in_err-summary.ensures.none (subst Fits (sym sum) (fits_reported reported answers (i + 1) all)))
