use Rattle.std.proofs.Common.{◌≡◌, length, map, take}
use Rattle.std.specs.List.{AllZip}
use Rattle.boundaries.specs.Question.{IsLooked}
use Rattle.boundaries.proofs.lookup.look_each.Given as goal

abbrev pub invariant-loop-question : goal.invariant-loop-question
invariant-loop-question l =
    (map (λ k. k.approach) l.looks.items ≡ take (length l.yielded) l.approaches)
    × AllZip (IsLooked l.store) (take (length l.yielded) l.questions) l.looks.items
