-- The answers made, once there is one more.
use Rattle.std.proofs.Common.{
  ◌≡◌,
  ℕ,
  ◌<◌,
  Bool,
  true,
  false,
  ◌==◌,
  cond,
  List,
  [],
  ◌∷◌,
  ◌++◌,
  length,
  map,
  filter,
  append-nil,
  append_assoc,
  sym,
  ap,
  subst,
  ◌∙◌,
  refl,
  inl,
  inr,
  arith,
}
use Rattle.std.proofs.lemmas.Bool.{cases_Bool, eqb-true, eqb-false}
use Rattle.std.proofs.lemmas.List.{get_or-set_same, get_or-set_other, length-set, map-append}
use Rattle.std.proofs.lemmas.List.Elements.{filter-append}
use Rattle.keyspace.specs.declared.answer.Answer.{Answer}
use Rattle.keyspace.specs.Run.{State, answer, answers_to}
use Rattle.resolver.specs.Owed.{owed_to, owed_also}
use Rattle.resolver.specs.Core.{CoreState, Given, IsIn, made_to}

-- what is answered to a proxy of two lists joined
pub answers_to-append : (proxy : ℕ) (xs ys : List (ℕ × Answer))
    → answers_to proxy (xs ++ ys) ≡ answers_to proxy xs ++ answers_to proxy ys
answers_to-append proxy xs ys =
    let own : ℕ × Answer → Bool = λ a. a.0 == proxy in
    ap (map (λ (a : ℕ × Answer). a.1)) (filter-append own xs ys)
    ∙ map-append (λ (a : ℕ × Answer). a.1) (filter own xs) (filter own ys)

module _ (proxy : ℕ) (a : Answer) where
  -- the answer, if it is to that proxy
  abbrev only_to : ℕ → List Answer
  only_to other = cond (proxy == other) (a ∷ []) []

  pub answers_to-one : (other : ℕ) → answers_to other ((proxy, a) ∷ []) ≡ only_to other
  answers_to-one other =
      elim (proxy == other) as
      (λ own. map (λ (x : ℕ × Answer). x.1) (cond own ((proxy, a) ∷ []) []) ≡ cond own (a ∷ []) []) [
        | true ↦ refl
        | false ↦ refl
      ]

  answers_to-more : (other : ℕ) (answered : List (ℕ × Answer))
      → answers_to other (answered ++ (proxy, a) ∷ []) ≡ answers_to other answered ++ only_to other
  answers_to-more other answered =
      answers_to-append other answered ((proxy, a) ∷ [])
      ∙ ap (λ more. answers_to other answered ++ more) (answers_to-one other)

  pub length-owed_also : (owed : List (List Answer)) → length (owed_also proxy a owed) ≡ length owed
  length-owed_also owed = length-set owed proxy (owed_to proxy owed ++ a ∷ [])

  -- what is owed to a proxy
  owed_to-also : (owed : List (List Answer)) → proxy < length owed → (other : ℕ)
      → owed_to other (owed_also proxy a owed) ≡ owed_to other owed ++ only_to other
  owed_to-also owed known other =
      elim (cases_Bool (proxy == other)) [
        | inl own ↦
            subst (λ q. owed_to q (owed_also proxy a owed) ≡ owed_to q owed ++ a ∷ [])
            (eqb-true proxy other own)
            (get_or-set_same owed proxy (owed_to proxy owed ++ a ∷ []) [] known)
            ∙ ap (λ own. owed_to other owed ++ cond own (a ∷ []) []) (sym own)
        | inr own ↦
            get_or-set_other owed proxy other (owed_to proxy owed ++ a ∷ []) []
            (λ same. eqb-false proxy other own (sym same))
            ∙ sym (append-nil (owed_to other owed))
            ∙ ap (λ own. owed_to other owed ++ cond own (a ∷ []) []) (sym own)
      ]

  -- and so what was made to it
  pub made_also : (given : Given) (state : State) (core : CoreState) (owed : List (List Answer))
      → proxy < length core.owed → owed ≡ owed_also proxy a core.owed
      → ((p : ℕ) → p < length core.owed → made_to p given core ≡ answers_to p state.answered)
      → (p : ℕ) → p < length owed
      → given p ++ owed_to p owed ≡ answers_to p (answer proxy a state).answered
  made_also given state core owed known is made p inside =
      let many = ap length is ∙ length-owed_also core.owed in
      ap (λ xs. given p ++ owed_to p xs) is
      ∙ ap (λ xs. given p ++ xs) (owed_to-also core.owed known p)
      ∙ sym (append_assoc (given p) (owed_to p core.owed) (only_to p))
      ∙ ap (λ xs. xs ++ only_to p) (made p (omega (arith, many)))
      ∙ sym (answers_to-more p state.answered)

-- the core after an answer that changes nothing else
pub IsIn-answer : (state : State) (given : Given) (core : CoreState) (proxy : ℕ) (a : Answer)
    (owed : List (List Answer))
    → IsIn state given core → proxy < length core.owed → owed ≡ owed_also proxy a core.owed
    → IsIn (answer proxy a state) given (record core { owed = owed })
IsIn-answer state given core proxy a owed are known is = record {
  version = are.version;
  held = are.held;
  kept = are.kept;
  remembers = are.remembers;
  answers = made_also proxy a given state core owed known is are.answers;
}
