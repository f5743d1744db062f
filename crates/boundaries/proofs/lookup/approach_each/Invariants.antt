use Rattle.std.proofs.Common.{take}
use Rattle.std.specs.List.{AllZip}
use Rattle.boundaries.specs.Question.{IsApproach}
use Rattle.boundaries.specs.declared.approach.Rest.TheVariants as rest
use Rattle.boundaries.proofs.lookup.approach_each.Given as goal

abbrev pub invariant-loop-question : goal.invariant-loop-question
invariant-loop-question l =
    AllZip (IsApproach l.store l.root.height l.root.slot rest.Clear) (take l.question-index l.questions) l.approaches.items
