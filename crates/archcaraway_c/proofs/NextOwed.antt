-- The proxies to which a core still owes nothing.
use Rattle.std.proofs.Common.{◌≡◌, ℕ, ◌+◌, ◌<◌, ◌≤◌, List, [], ◌∷◌, ◌++◌, length, None}
use Rattle.std.proofs.Common.{option_to_list, refl, subst, ap₂, inl, inr, arith}
use Rattle.std.proofs.lemmas.Bool.{cases_lt}
use Rattle.std.proofs.lemmas.List.{get_or_past}
use Rattle.keyspace.specs.declared.answer.Answer.{Answer}
use Rattle.archcaraway_c.specs.CoreObject.{CoreParts, AreCoreParts, still_owed}

-- none of the proxies below this number is owed an answer
abbrev pub OwesNoneBelow : ℕ → CoreParts → Type 0
OwesNoneBelow proxy parts = (other : ℕ) → other < proxy → still_owed other parts ≡ []

pub none_owed : (answers : List Answer) → ¬ (0 < length answers) → answers ≡ []
none_owed [] empty = refl
none_owed (answer ∷ answers) empty = absurd (empty (omega arith))

-- nor is this one
pub none_below_next : (proxy : ℕ) (parts : CoreParts) → OwesNoneBelow proxy parts
    → still_owed proxy parts ≡ [] → OwesNoneBelow (proxy + 1) parts
none_below_next proxy parts below none other within =
    elim (cases_lt other proxy) [
      | inl before ↦ below other before
      | inr not_before ↦
          let same : proxy ≡ other = omega arith in
          subst (λ (n : ℕ). still_owed n parts ≡ []) same none
    ]

-- A proxy that isn't there is owed nothing.
pub none_past : (proxy : ℕ) (parts : CoreParts) → AreCoreParts parts → length parts.waiting ≤ proxy
    → still_owed proxy parts ≡ []
none_past proxy parts are past =
    ap₂ (λ first rest. option_to_list first ++ rest)
    (get_or_past parts.waiting proxy None past)
    (get_or_past parts.core.owed proxy [] (omega (arith, are.count, past)))

pub none_at_all : (proxy : ℕ) (parts : CoreParts) → AreCoreParts parts
    → length parts.waiting ≤ proxy → OwesNoneBelow proxy parts
    → (other : ℕ) → still_owed other parts ≡ []
none_at_all proxy parts are past below other =
    elim (cases_lt other proxy) [
      | inl before ↦ below other before
      | inr not_before ↦ none_past other parts are (omega arith)
    ]
