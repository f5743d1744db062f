use Rattle.std.proofs.Common.{◌≡◌, arith, subst}
use Rattle.keys.specs.Hash.{IsHashOf}
use Rattle.keys.proofs.callers.SingleRanges.{apart_by_hashes}
use Rattle.explanations.proofs.question.ReadQuestion.may_overlap.Goals as goal

pub returns-in-Some-Some : goal.returns-in-Some-Some
returns-in-Some-Some c =
    let own = c.in-Some-Some.own in
    let other = c.in-Some-Some.other in
    let range = c.args.self.now.range in
    record {
      apart = λ differ other_range of_other.
          apart_by_hashes range other_range own other (subst (IsHashOf range) c.in-Some-Some.is-0 c.hash.ensures.hash)
          (subst (IsHashOf other_range) c.in-Some-Some.is-1 of_other) (λ (same : own ≡ other). grind (arith, same, differ));
    }
