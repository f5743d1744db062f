-- A resolver that stands for some log, after a turn, and after it was settled.
use Rattle.std.proofs.Common.{◌≡◌, ℕ, length, List, [], ◌∷◌, ◌++◌, Option, Some, None, refl, sym, ap, subst, ◌∙◌, inl, inr}
use Rattle.std.specs.Prelude.{ℤ, ◌⊎◌, IsSome}
use Rattle.keyspace.specs.Run.{Step, Take, Finish}
use Rattle.limits.specs.declared.stop.Stop.{Stop}
use Rattle.resolver.specs.Owed.{owed_to}
use Rattle.resolver.specs.Core.{CoreState}
use Rattle.resolver.specs.Stands.{Stands}
use Rattle.resolver.specs.Lanes.{Lanes, Each, LanesContinue, AreSameLists, TakesNone, all_ended, sent_to}
use Rattle.resolver.specs.OpeningLog.{log_from}
use Rattle.resolver.specs.Resolver.{ResolverState, StandsOverFrom, IsResolvingFrom, TakesFrom, Finishes, TakesNoStep, StepsFor}
use Rattle.resolver.proofs.AtIndex.{field_same}
use Rattle.resolver.proofs.DeliveredAnswers.{StandsBy-moved}
use Rattle.resolver.proofs.DeliveryStep.{list_all-same}
use Rattle.resolver.proofs.Logged.{was_closed, stands_same}

module _ (version : ℤ) (old new : ResolverState) (before : IsResolvingFrom version old) where
  taken : (proxy : ℕ) → TakesFrom proxy old new → IsResolvingFrom version new
  taken proxy takes = record {
    log = before.log ++ Take proxy takes.batch ∷ [];
    stands = takes.adds version before.log before.stands;
  }

  finished : Finishes old new → IsResolvingFrom version new
  finished finishes = record {
    log = before.log ++ Finish ∷ [];
    stands = finishes.adds version before.log before.stands;
  }

  unchanged : TakesNoStep old new → IsResolvingFrom version new
  unchanged none = record { log = before.log; stands = none.adds version before.log before.stands }

  -- by what was taken
  pub resolving_turned : (taken : Option ℕ) → StepsFor taken old new → IsResolvingFrom version new
  resolving_turned (Some proxy) takes = taken proxy takes
  resolving_turned None (inl finishes) = finished finishes
  resolving_turned None (inr none) = unchanged none

  last_step : (((proxy : ℕ) × TakesFrom proxy old new) ⊎ Finishes old new) → IsResolvingFrom version new
  last_step (inl takes) = taken takes.0 takes.1
  last_step (inr finishes) = finished finishes

  -- and where it met a stop, or one was met before
  pub resolving_stopped : (stop : Option Stop)
      → (stop ≡ None → ((proxy : ℕ) × TakesFrom proxy old new) ⊎ Finishes old new)
      → (IsSome stop → TakesNoStep old new) → IsResolvingFrom version new
  resolving_stopped None met stopped = last_step (met refl)
  resolving_stopped (Some s) met stopped = unchanged (stopped refl)

-- the same core, and lanes with the same lists
module _ (old new : ResolverState) (core : new.core ≡ old.core)
    (lanes : Each (λ _ l m. LanesContinue l m × AreSameLists l m) old.lanes new.lanes) where
  none_taken : TakesNone old.lanes new.lanes
  none_taken =
      field_same (λ (l : Lanes). l.requests.taken) old.lanes new.lanes lanes.count
      (λ p l m was is. (lanes.each p l m was is).1.taken)

  none_sent : (p : ℕ) → sent_to new.lanes p ≡ sent_to old.lanes p
  none_sent =
      field_same (λ (l : Lanes). l.replies.sent) old.lanes new.lanes lanes.count
      (λ p l m was is. (lanes.each p l m was is).1.sent)

  ended_same : all_ended new.lanes ≡ all_ended old.lanes
  ended_same =
      list_all-same (λ l. l.ended) old.lanes new.lanes lanes.count
      (λ p l m was is. (lanes.each p l m was is).1.ended)

  stop_same : new.core.stop ≡ old.core.stop
  stop_same = ap (λ (c : CoreState). c.stop) core

  core_stands : (version : ℤ) (log : List Step) → StandsOverFrom version old log
      → Stands new.core (log_from version (length old.lanes) log) (sent_to new.lanes)
  core_stands version log stands =
      let entire = log_from version (length old.lanes) log in
      subst (λ (c : CoreState). Stands c entire (sent_to new.lanes)) (sym core)
      (StandsBy-moved (sent_to old.lanes) (sent_to new.lanes) old.core old.core.owed refl
      (λ p _. ap (λ sent. sent ++ owed_to p old.core.owed) (none_sent p)) old.core.stop entire stands.core)

  pub stands_settled : (version : ℤ) (log : List Step) → StandsOverFrom version old log → StandsOverFrom version new log
  stands_settled version log stands =
      stands_same old new version log lanes.count stop_same ended_same none_taken stands (core_stands version log stands)
      (λ running p m at closed.
      ended_same
      ∙ was_closed old new version log lanes.count (λ q l n was is. (lanes.each q l n was is).1.closed)
      (sym stop_same ∙ running) stands p m at closed)
