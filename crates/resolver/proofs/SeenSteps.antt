-- What an observer has seen, as a resolver over lanes takes a step. The lanes show which.
use Rattle.std.proofs.Common.{◌≡◌, ℕ, ◌==◌, cond, Bool, true, false, List, [], ◌∷◌, ◌++◌, length, length-append, append-nil, refl, sym, ap, subst, ◌∙◌, inl, inr, arith}
use Rattle.std.proofs.lemmas.Bool.{cases_Bool, eqb-true, eq-eqb, true≢false}
use Rattle.std.proofs.lemmas.List.{same_from_push}
use Rattle.keyspace.specs.declared.batch.Batch.{Batch}
use Rattle.keyspace.specs.Processed.{Processed}
use Rattle.keyspace.specs.Run.{Step, Take, Finish}
use Rattle.resolver.specs.Lanes.{Lanes, taken_from, all_ended, TakesOne, TakesNone}
use Rattle.resolver.specs.OpeningLog.{log_from}
use Rattle.resolver.specs.Resolver.{ResolverState}
use Rattle.resolver.specs.Observed.{HasSeen, Observes, ObservesStep}

-- from the proxy of which a batch was taken, one more was taken
one_more : (proxy : ℕ) (batch : Batch) (old new : List Lanes) → TakesOne proxy batch old new
    → taken_from new proxy ≡ taken_from old proxy ++ batch ∷ []
one_more proxy batch old new one =
    one proxy
    ∙ ap (λ own. cond own (taken_from old proxy ++ batch ∷ []) (taken_from old proxy)) (eq-eqb proxy proxy refl)

-- so what was taken from it isn't the same
not_same : (proxy : ℕ) (batch : Batch) (old new : List Lanes) → TakesOne proxy batch old new
    → taken_from new proxy ≡ taken_from old proxy → ⊥
not_same proxy batch old new one same =
    let long = ap length (sym same ∙ one_more proxy batch old new one)
    ∙ length-append (taken_from old proxy) (batch ∷ []) in
    omega (arith, long)

-- one batch was taken, of one proxy
same_one : (p : ℕ) (b : Batch) (q : ℕ) (d : Batch) (old new : List Lanes) → TakesOne p b old new → TakesOne q d old new
    → (p ≡ q) × (b ≡ d)
same_one p b q d old new one other =
    let taken : Bool → List Batch = λ own. cond own (taken_from old p ++ d ∷ []) (taken_from old p) in
    elim (cases_Bool (q == p)) [
      | inl own ↦
          let both = sym (one_more p b old new one) ∙ other p ∙ ap taken own in
          (sym (eqb-true q p own), (same_from_push (taken_from old p) (taken_from old p) b d both).1)
      | inr apart ↦ absurd (not_same p b old new one (other p ∙ ap taken apart))
    ]

module _ (before after : List Processed → Type 0) (old new : ResolverState) where
  -- a batch was taken
  pub step_taken : (proxy : ℕ) (batch : Batch) → TakesOne proxy batch old.lanes new.lanes
      → Observes before after old new (Take proxy batch ∷ []) → ObservesStep before after old new
  step_taken proxy batch one observes = record {
    taken = λ p b other.
        let same = same_one proxy batch p b old.lanes new.lanes one other in
        subst (λ q. Observes before after old new (Take q b ∷ [])) same.0
        (subst (λ d. Observes before after old new (Take proxy d ∷ [])) same.1 observes);
    finish = λ _ _ none. absurd (not_same proxy batch old.lanes new.lanes one (none proxy));
    nothing = λ _ none. absurd (not_same proxy batch old.lanes new.lanes one (none proxy));
  }

  -- the last request lane has ended
  pub step_finished : all_ended old.lanes ≡ false → all_ended new.lanes ≡ true → TakesNone old.lanes new.lanes
      → Observes before after old new (Finish ∷ []) → ObservesStep before after old new
  step_finished some all none observes = record {
    taken = λ p b one. absurd (not_same p b old.lanes new.lanes one (none p));
    finish = λ _ _ _. observes;
    nothing = λ same _. absurd (true≢false (sym all ∙ same ∙ some));
  }

  -- neither
  pub step_none : all_ended new.lanes ≡ all_ended old.lanes → TakesNone old.lanes new.lanes
      → Observes before after old new [] → ObservesStep before after old new
  step_none same none observes = record {
    taken = λ p b one. absurd (not_same p b old.lanes new.lanes one (none p));
    finish = λ some all _. absurd (true≢false (sym all ∙ same ∙ some));
    nothing = λ _ _. observes;
  }

-- no step was added, and nothing was seen
pub observes_nothing : (Seen : List Processed → Type 0) (old new : ResolverState) → new.core.stop ≡ old.core.stop
    → Observes Seen Seen old new []
observes_nothing Seen old new same version log s seen =
    let window = old.core.set.window in
    let proxies = length old.lanes in
    subst (λ stop. HasSeen Seen stop window (log_from version proxies (log ++ []))) (sym same)
    (subst (λ (steps : List Step). HasSeen Seen old.core.stop window (log_from version proxies steps))
    (sym (append-nil log)) seen)

pub step_unchanged : (Seen : List Processed → Type 0) (r : ResolverState) → ObservesStep Seen Seen r r
step_unchanged Seen r = step_none Seen Seen r r refl (λ p. refl) (observes_nothing Seen r r refl)
