use Rattle.std.proofs.Common.{ℤ, List, subst}
use Rattle.keys.specs.declared.range.Range.{Range}
use Rattle.conflict.specs.Lookup.{AreAnswers}
use Rattle.conflict.proofs.Named.{queries_of}
use Rattle.conflict.proofs.lookup.answer.Goals as goal

pub returns : goal.returns
returns c = record {
  answers = λ queries is.
      subst (λ (qs : List (Range × ℤ)). AreAnswers c.args.steps.now qs c.exceeds_each.new.answers.items)
      (queries_of c.args.batch.now.txns c.args.asked.now queries is) c.in_ok-exceeds_each.ensures.above;
}
