use Rattle.std.proofs.Common.{ℕ, rules, tests}
use Rattle.std.proofs.lemmas.Iterator.{IsFirst-from_position, YieldsList-from_slice}
use Rattle.conflict.specs.Gaps.{SomeMarked}
use Rattle.conflict.proofs.FirstMet.{first_marked}
use Rattle.conflict.proofs.in_batch.first_met.Goals as goal

pub returns-clause-first : goal.returns-clause-first
returns-clause-first c = λ keys written ranges determine determined have.
    let marks = c.args.gaps.now in
    first_marked keys c.runs.ensures.overlap marks written determined have c.args.runs.now ranges determine c.position.result
    (IsFirst-from_position _ _ _ (λ (r : ℕ × ℕ). SomeMarked marks r.0 r.1)
    (λ (r : ℕ × ℕ). ¬ SomeMarked marks r.0 r.1) c.position.ensures.ran
    (YieldsList-from_slice _ c.iter.ensures.rest) (λ x q k. search (rules, tests)) (λ x q k. search (rules, tests)))
