-- What an observer has seen, as a core takes a step.
use Rattle.std.proofs.Common.{◌≡◌, List, [], ◌∷◌, ◌++◌, Option, Some, None, sym, subst, refl}
use Rattle.std.specs.Prelude.{ℤ}
use Rattle.std.proofs.lemmas.List.{same_from_push}
use Rattle.keyspace.specs.Processed.{Processed}
use Rattle.keyspace.specs.Run.{State, Step, step, run}
use Rattle.limits.specs.declared.stop.Stop.{Stop}
use Rattle.resolver.specs.Core.{IsPrefix}
use Rattle.resolver.specs.Observed.{HasSeenBetween, HasSeen}
use Rattle.resolver.proofs.Growing.{Grows, begins_itself, begins_then, grows_itself, grows_step}
use Rattle.resolver.proofs.Standing.{run-more}

some_is_none : {X P : Type 0} (x : X) → ◌≡◌ {A = Option X} (Some x) None → P
some_is_none x is = cc

module _ (Seen : List Processed → Type 0) where
  -- what is processed in a state was seen, between what was processed in an earlier one and what is in a later one
  pub seen_between : (before now after : State) → Grows before now → Grows now after → Seen now.processed
      → HasSeenBetween Seen before.processed after.processed
  seen_between before now after more rest seen = record {
    list = now.processed;
    seen = seen;
    all_before = more.processed;
    no_others = rest.processed;
  }

  -- nothing was seen of a step
  pub seen_none : (window : ℤ) (x : Step) (state : State) → Seen state.processed
      → HasSeenBetween Seen state.processed (step window x state).processed
  seen_none window x state = seen_between state state (step window x state) (grows_itself state) (grows_step window x state)

  -- and from an earlier state on
  pub seen_earlier : (earlier before after : State) → Grows earlier before
      → HasSeenBetween Seen before.processed after.processed → HasSeenBetween Seen earlier.processed after.processed
  seen_earlier earlier before after more between = record {
    list = between.list;
    seen = between.seen;
    all_before = begins_then earlier.processed before.processed between.list more.processed between.all_before;
    no_others = between.no_others;
  }

  -- all of a log was seen
  pub seen_log : (stop : Option Stop) (window : ℤ) (log : List Step) → Seen (run window log).processed
      → HasSeen Seen stop window log
  seen_log stop window log seen = record {
    list = (run window log).processed;
    seen = seen;
    no_others = begins_itself (run window log).processed;
    all = λ _. refl;
    all_before_last = λ before last is.
        let earlier = (run window before).processed in
        subst (λ (steps : List Step). IsPrefix earlier (run window steps).processed) (sym is)
        (subst (λ (s : State). IsPrefix earlier s.processed) (sym (run-more window before last))
        (grows_step window last (run window before)).processed);
  }

  pub seen_more : (stop : Option Stop) (window : ℤ) (log : List Step) (x : Step)
      → Seen (step window x (run window log)).processed → HasSeen Seen stop window (log ++ x ∷ [])
  seen_more stop window log x seen =
      seen_log stop window (log ++ x ∷ []) (subst (λ (s : State). Seen s.processed) (sym (run-more window log x)) seen)

  -- a stop was met in the last step
  pub seen_stopped : (stop : Stop) (window : ℤ) (log : List Step) (x : Step)
      → HasSeenBetween Seen (run window log).processed (step window x (run window log)).processed
      → HasSeen Seen (Some stop) window (log ++ x ∷ [])
  seen_stopped stop window log x between = record {
    list = between.list;
    seen = between.seen;
    no_others =
        subst (λ (s : State). IsPrefix between.list s.processed) (sym (run-more window log x)) between.no_others;
    all = λ none. some_is_none stop none;
    all_before_last = λ before last is.
        subst (λ (steps : List Step). IsPrefix (run window steps).processed between.list)
        (same_from_push log before x last is).0 between.all_before;
  }
