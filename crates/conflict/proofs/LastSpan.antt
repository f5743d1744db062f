-- The last of the spans, by its index.
use Rattle.std.proofs.Common.{◌≡◌, ℕ, suc, ◌+◌, ◌-◌, ◌<◌, ◌≤◌, true, false, List, [], ◌∷◌, ◌++◌, length, get_or, set, take, refl, sym, ap, ◌∙◌, arith}
use Rattle.std.proofs.Math.Seq.{take-suc-set}
use Rattle.std.proofs.lemmas.List.{length-set, take_all, take_more}
use Rattle.conflict.specs.declared.union.UnitedSpan.{UnitedSpan}

-- the spans before the last, and that one
pub last_of : (spans : List UnitedSpan) (n : ℕ) (last : UnitedSpan) → n ≡ length spans → 0 < n → last ≡ get_or spans (n - 1) last
    → spans ≡ take (n - 1) spans ++ last ∷ []
last_of spans n last count some is =
    let all : length spans ≤ n - 1 + 1 = omega (arith, count, some) in
    sym (take_all (n - 1 + 1) spans all) ∙ take_more spans (n - 1) last (omega (arith, count, some))
    ∙ ap (λ x. take (n - 1) spans ++ x ∷ []) (sym is)

-- another one in its place
pub set_last : (spans : List UnitedSpan) (n : ℕ) (last : UnitedSpan) → n ≡ length spans → 0 < n
    → set spans (n - 1) last ≡ take (n - 1) spans ++ last ∷ []
set_last spans n last count some =
    let all : length (set spans (n - 1) last) ≤ suc (n - 1) =
    omega (arith, count, some, length-set spans (n - 1) last) in
    sym (take_all (suc (n - 1)) (set spans (n - 1) last) all)
    ∙ take-suc-set spans (n - 1) last (omega (arith, count, some))

-- there is none
pub no_spans : (spans : List UnitedSpan) (n : ℕ) → n ≡ length spans → (0 < n → false ≡ true) → spans ≡ []
no_spans [] n count none = refl
no_spans (x ∷ spans) n count none = let e : false ≡ true = none (omega (arith, count)) in cc
