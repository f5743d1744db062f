use Rattle.std.proofs.Common.{List, All, subst, take_all}
use Rattle.std.proofs.lemmas.List.Elements.{All-more}
use Rattle.archcaraway_c.specs.declared.key_span.KeySpan.{KeySpan}
use Rattle.archcaraway_c.specs.BatchObject.{IsRangeOf}
use Rattle.archcaraway_c.proofs.given_range.check_ranges.Goals as goal

pub loop-span-preserved : goal.loop-span-preserved
loop-span-preserved c =
    All-more (IsRangeOf c.args.keys.now) c.args.given.now c.loop-span.span-index _ c.loop-span-test.true
    c.loop-span.invariant c.in_ok-check_range.ensures.range

pub returns-clause-ranges : goal.returns-clause-ranges
returns-clause-ranges c =
    subst (λ (given : List KeySpan). All (IsRangeOf c.args.keys.now) given)
    (take_all c.loop-span.span-index c.args.given.now c.loop-span-test.false) c.loop-span.invariant
