use Rattle.std.proofs.Common.{IsTrue, length, take, ◌↔◌}
use Rattle.std.specs.List.{AllZip}
use Rattle.boundaries.specs.Question.{Exceeds}
use Rattle.boundaries.proofs.Words.{items_in}
use Rattle.boundaries.proofs.lookup.answer_looks.Given as goal

abbrev pub invariant-loop-question : goal.invariant-loop-question
invariant-loop-question l =
    AllZip (λ q above. IsTrue above ↔ Exceeds l.store.keys q (items_in l.store.nodes l.root.height l.root.slot))
    (take (length l.yielded) l.questions) l.answers.items
