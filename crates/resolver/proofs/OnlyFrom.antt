-- A log that takes batches of that many proxies alone takes nothing from any other, and the other way round.
use Rattle.std.proofs.Common.{◌≡◌, ℕ, ◌≤◌, ◌==◌, cond, Bool, List, [], ◌∷◌, length, sym, ap, ◌∙◌, refl, inl, inr, arith}
use Rattle.std.specs.Prelude.{ℤ}
use Rattle.std.proofs.lemmas.Bool.{cases_lt, ne_eqb, eq-eqb}
use Rattle.keyspace.specs.declared.batch.Batch.{Batch}
use Rattle.keyspace.specs.Run.{Step, Take, Finish, part}
use Rattle.resolver.specs.Resolver.{ResolverState, TakesOnlyFrom, StandsOverFrom}
use Rattle.resolver.proofs.AtIndex.{field_past}

-- the part of a proxy, by whether the first batch is its own
part_first : (log : List Step) (p : ℕ) (batch : Batch) (proxy : ℕ) (own : Bool) → (p == proxy) ≡ own
    → part (Take p batch ∷ log) proxy ≡ cond own (batch ∷ part log proxy) (part log proxy)
part_first log p batch proxy own is = ap (λ o. cond o (batch ∷ part log proxy) (part log proxy)) is

pub none_of_others : (proxies : ℕ) (log : List Step) → TakesOnlyFrom proxies log → (proxy : ℕ) → proxies ≤ proxy
    → part log proxy ≡ []
none_of_others proxies [] only proxy other = refl
none_of_others proxies (Finish ∷ log) only proxy other = none_of_others proxies log only proxy other
none_of_others proxies (Take p batch ∷ log) only proxy other =
    part_first log p batch proxy _ (ne_eqb p proxy (λ same. omega (arith, same, other, only.0)))
    ∙ none_of_others proxies log only.1 proxy other

pub takes_only : (proxies : ℕ) (log : List Step) → ((proxy : ℕ) → proxies ≤ proxy → part log proxy ≡ [])
    → TakesOnlyFrom proxies log
takes_only proxies [] none = tt
takes_only proxies (Finish ∷ log) none = takes_only proxies log none
takes_only proxies (Take p batch ∷ log) none = elim (cases_lt p proxies) [
  | inl known ↦ (
    omega (arith, known),
    takes_only proxies log (λ proxy other.
        sym (part_first log p batch proxy _ (ne_eqb p proxy (λ same. omega (arith, same, other, known))))
        ∙ none proxy other),
  )
  | inr past ↦
      let some = ap length (sym (part_first log p batch p _ (eq-eqb p p refl)) ∙ none p past) in
      absurd (omega (arith, some))
]

-- that for which a resolver stands takes from the proxies of its lanes alone
pub stands_only : (version : ℤ) (r : ResolverState) (log : List Step) → StandsOverFrom version r log
    → TakesOnlyFrom (length r.lanes) log
stands_only version r log stands =
    takes_only (length r.lanes) log (λ proxy past.
    stands.parts proxy ∙ field_past (λ l. l.requests.taken) r.lanes proxy past)
