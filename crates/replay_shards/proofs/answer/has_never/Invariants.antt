use Rattle.std.proofs.Common.{take, All}
use Rattle.replay_shards.specs.Answers.{IsNever}
use Rattle.replay_shards.proofs.answer.has_never.Given as goal

abbrev pub invariant-loop-answer : goal.invariant-loop-answer
invariant-loop-answer l = All (λ a. IsNever a → ⊥) (take l.answer-index l.answers)
