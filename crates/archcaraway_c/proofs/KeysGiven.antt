-- Keys that lie one by one among bytes.
use Rattle.std.proofs.Common.{◌≡◌, ℕ, suc, ◌+◌, ◌<◌, List, [], ◌∷◌, length, drop, get_or, refl, ap, ◌∙◌, arith}
use Rattle.std.proofs.lemmas.List.Sums.{sum_by-cons}
use Rattle.std.proofs.Math.Seq.{drop-cons}
use Rattle.std.specs.Prelude.{sum}
use Rattle.archcaraway_c.specs.Points.{keys_given}

-- as many keys as lengths
pub length-given : (bytes lengths : List ℕ) → length (keys_given bytes lengths) ≡ length lengths
length-given bytes [] = refl
length-given bytes (count ∷ counts) = ap suc (length-given (drop count bytes) counts)

-- the lengths from an index on are the one there and those after it
pub drop_step : (lengths : List ℕ) (i : ℕ) → i < length lengths → drop i lengths ≡ get_or lengths i 0 ∷ drop (i + 1) lengths
drop_step lengths i inside =
    let next : suc i ≡ i + 1 = omega arith in
    drop-cons lengths i 0 inside ∙ ap (λ n. get_or lengths i 0 ∷ drop n lengths) next

pub sum_step : (lengths : List ℕ) (i : ℕ) → i < length lengths
    → sum (drop i lengths) ≡ get_or lengths i 0 + sum (drop (i + 1) lengths)
sum_step lengths i inside =
    ap sum (drop_step lengths i inside) ∙ sum_by-cons (λ (n : ℕ). n) (get_or lengths i 0) (drop (i + 1) lengths)
