-- Lemmas for callers: how many elements of a list pass a test.
use Rattle.std.proofs.Common.{◌≡◌, ℕ, ◌+◌, Bool, true, false, cond, List, [], ◌∷◌, ◌++◌, length, refl, ap, ◌∙◌}
use Rattle.std.specs.Prelude.{filter}
use Rattle.std.proofs.lemmas.List.{length-append}
use Rattle.std.proofs.lemmas.List.Elements.{filter-append}

-- one if the test passes, else none
abbrev pub one_if : Bool → ℕ
one_if passes = cond passes 1 0

abbrev pub count_of : {X : Type 0} → (X → Bool) → List X → ℕ
count_of test xs = length (filter test xs)

count_one : {X : Type 0} (test : X → Bool) (x : X) → count_of test (x ∷ []) ≡ one_if (test x)
count_one test x =
    elim (test x) as (λ passes. length (cond passes (x ∷ []) []) ≡ one_if passes) [ true ↦ refl | false ↦ refl ]

pub count_both : {X : Type 0} (test : X → Bool) (xs ys : List X)
    → count_of test (xs ++ ys) ≡ count_of test xs + count_of test ys
count_both test xs ys = ap length (filter-append test xs ys) ∙ length-append (filter test xs) (filter test ys)

pub count_last : {X : Type 0} (test : X → Bool) (xs : List X) (x : X)
    → count_of test (xs ++ x ∷ []) ≡ count_of test xs + one_if (test x)
count_last test xs x = count_both test xs (x ∷ []) ∙ ap (λ n. count_of test xs + n) (count_one test x)

pub count_first : {X : Type 0} (test : X → Bool) (x : X) (xs : List X)
    → count_of test (x ∷ xs) ≡ one_if (test x) + count_of test xs
count_first test x xs = count_both test (x ∷ []) xs ∙ ap (λ n. n + count_of test xs) (count_one test x)
