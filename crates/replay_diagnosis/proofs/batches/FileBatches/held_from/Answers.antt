use Rattle.std.proofs.Common.{◌≡◌, ℤ, negsuc, ◌≤ℤ◌, ◌<ℤ◌, Some, inr, sym, subst, w64, to_z, of_z, rules, arith}
use Rattle.std.proofs.lemmas.Int.{ints, to_z-of_z}
use Rattle.replay_diagnosis.specs.Following.{Follows, HasLeast, NoneBegins, NoneFollowsBelow}
use Rattle.replay_diagnosis.proofs.Following.{follows_start, none_begins}
use Rattle.replay_diagnosis.proofs.batches.FileBatches.held_from.Goals as goal

pub returns-in-Some-clause-held : goal.returns-in-Some-clause-held
returns-in-Some-clause-held c batches has =
    let previous = c.in-Some.previous in
    let same : to_z w64 (of_z w64 previous) ≡ previous = to_z-of_z w64 previous (search rules) in
    let later : negsuc 0 <ℤ previous = grind (arith, ints, c.if-previous-gt-CHAIN_START.true, same) in
    let is : HasLeast batches (Some previous) = subst (HasLeast batches) c.in-Some.is has in
    subst (λ (v : ℤ). NoneBegins batches × Follows v batches × NoneFollowsBelow v batches) (sym same)
    (none_begins previous batches later is.0, is.1, is.0)

pub returns-in_default-clause-begun : goal.returns-in_default-clause-begun
returns-in_default-clause-begun c batches has =
    let previous = c.in-Some.previous in
    let same : to_z w64 (of_z w64 previous) ≡ previous = to_z-of_z w64 previous (search rules) in
    let low : previous ≤ℤ negsuc 0 = grind (arith, ints, c.if-previous-gt-CHAIN_START.false, same) in
    let is : HasLeast batches (Some previous) = subst (HasLeast batches) c.in-Some.is has in
    inr (follows_start previous batches low is.1)
