use Rattle.std.proofs.Common.{◌≡◌, ◌≤◌, ℕ, zero, suc, get_or, replicate, set, refl, arith}
use Rattle.boundaries.proofs.Words.{FAN_OUT, PADDING}
use Rattle.boundaries.proofs.node.Node.of.Goals as goal

-- Each element of as many of the same is that one, and so is each after the last.
all_same : (n d i : ℕ) → get_or (replicate n d) i d ≡ d
all_same zero d i = refl
all_same (suc n) d zero = refl
all_same (suc n) d (suc i) = all_same n d i

-- So are those after the first, where that is set.
others_same : (n d x i : ℕ) → 1 ≤ i → get_or (set (replicate n d) 0 x) i d ≡ d
others_same zero d x i some = refl
others_same (suc n) d x zero some = absurd (omega (arith, some))
others_same (suc n) d x (suc i) some = all_same n d i

pub invariant_of-result-clause-padded : goal.invariant_of-result-clause-padded
invariant_of-result-clause-padded c = λ index some. others_same FAN_OUT PADDING 0 index some
