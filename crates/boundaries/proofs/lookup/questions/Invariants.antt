use Rattle.std.proofs.Common.{IsSomeAnd, slice_get, take}
use Rattle.std.specs.List.{AllZip}
use Rattle.boundaries.specs.Question.{AsksFor}
use Rattle.boundaries.proofs.lookup.questions.Given as goal

abbrev pub invariant-loop-place : goal.invariant-loop-place
invariant-loop-place g l =
    AllZip (λ place question. IsSomeAnd (slice_get (g.L.QueryList.queries l.queries) place) (λ q. AsksFor q question))
    (take l.place-index l.places) l.questions.items
