-- Lemmas for callers: the ranges whose marks are set.
use Rattle.std.proofs.Common.{◌≡◌, Bool, true, false, cond, List, [], ◌∷◌, ◌++◌, length, replicate, refl, ap, arith}
use Rattle.keys.specs.Singles.{marked_ranges}
use Rattle.keys.specs.declared.range.Range.{Range}

-- of two lists that are picked from in sequence
pub picked-append : (marks more : List Bool) (ranges others : List Range) → length marks ≡ length ranges
    → marked_ranges (marks ++ more) (ranges ++ others) ≡ marked_ranges marks ranges ++ marked_ranges more others
picked-append [] more [] others same = refl
picked-append [] more (r ∷ ranges) others same = absurd (omega (arith, same))
picked-append (mark ∷ marks) more [] others same = absurd (omega (arith, same))
picked-append (mark ∷ marks) more (r ∷ ranges) others same =
    let rest = picked-append marks more ranges others (omega (arith, same)) in
    elim mark as (λ b. cond b (r ∷ marked_ranges (marks ++ more) (ranges ++ others)) (marked_ranges (marks ++ more) (ranges ++ others))
    ≡ cond b (r ∷ marked_ranges marks ranges) (marked_ranges marks ranges) ++ marked_ranges more others) [
      | true ↦ ap (λ rs. r ∷ rs) rest
      | false ↦ rest
    ]

-- all or none
pub picked-replicate : (mark : Bool) (ranges : List Range)
    → marked_ranges (replicate (length ranges) mark) ranges ≡ cond mark ranges []
picked-replicate true [] = refl
picked-replicate false [] = refl
picked-replicate true (r ∷ ranges) = ap (λ rs. r ∷ rs) (picked-replicate true ranges)
picked-replicate false (r ∷ ranges) = picked-replicate false ranges
