-- A resolver from turn to turn, with what the stop that it meets says of its log.
use Rattle.std.specs.Prelude.{◌≡◌, ℕ, ℤ, negsuc, ◌<ℤ◌, ◌⊎◌, List, [], ◌∷◌, ◌++◌, length, Option, None, Some, IsSome, IfSome, Result, Ok, Err, is_some}
use Rattle.std.proofs.Common.{refl, sym, ap, subst, ◌∙◌, inl, inr}
use Rattle.keyspace.specs.declared.batch.Batch.{Batch}
use Rattle.keyspace.specs.Run.{Step, Take, Finish, run}
use Rattle.chain.specs.declared.gate.TheConstants.{MAX_HELD}
use Rattle.limits.specs.declared.stop.Stop.{Stop}
use Rattle.limits.specs.declared.stop.Stop.TheVariants as resolver
use Rattle.resolver.specs.declared.turn.Turn.{Turn}
use Rattle.resolver.specs.declared.turn.Turn.TheVariants as turn
use Rattle.resolver.specs.Core.{CoreState, Given, Continues, StopsAtLimit}
use Rattle.resolver.specs.Lanes.{sent_to}
use Rattle.resolver.specs.Resolver.{ResolverState, StandsOver, TakesFrom, Finishes, TakesNoStep, StepsFor, taken_by}
use Rattle.resolver.specs.Turns.{Turns}
use Rattle.resolver.proofs.callers.Standing.{IsIn-standing}
use Rattle.replay_workers.specs.Stops.{FillsArena, IsStopOf, IsAccountedFor}

-- a resolver that has taken nothing
pub accounted_new : (r : ResolverState) → StandsOver r [] → r.core.stop ≡ None → IsAccountedFor r
accounted_new r stands none = record {
  log = [];
  stands = stands;
  met = subst (λ (stop : Option Stop). IfSome stop (IsStopOf r.core.set.map.limit r.core.set.window [])) (sym none) tt;
}

at_limit : (limit : ℕ) (window : ℤ) (before : List Step) (proxy : ℕ) (batch : Batch) (given : Given) (core : CoreState)
    → StopsAtLimit limit window proxy batch (run window before) given core
    → FillsArena limit window (before ++ Take proxy batch ∷ [])
at_limit limit window before proxy batch given core stops = record {
  last = record { before = before; proxy = proxy; batch = batch; log_is = refl };
  exceeds = elim stops [
    | inl here ↦ inl (record { next = here.next; over = here.exceeds })
    | inr later ↦ inr (record {
      turns = later.turns;
      batch = later.batch;
      others = later.others;
      leaves = later.leaves;
      exceeds = record { next = later.stops.next; over = later.stops.exceeds };
    })
  ];
}

-- the resolver represents a log of which something else is true too, and the stop that it met, if any, is that of the log
pub record IsAccountedWith (Also : List Step → Type 0) (r : ResolverState) : Type 0 where
  pub log : List Step
  pub stands : StandsOver r log
  pub met : IfSome r.core.stop (IsStopOf r.core.set.map.limit r.core.set.window log)
  pub also : Also log

-- a turn that took no stop was not stopped before
unstopped : (did : Turn) (was : Option Stop) → IfSome was (λ (stop : Stop). ◌≡◌ {A = Result Turn Stop} (Ok did) (Err stop)) → was ≡ None
unstopped did None stays = refl
unstopped did (Some stop) stays = let both = stays in cc

-- A step, and what it makes true of the log with it. A step is taken only where no stop was met before; where none is taken, none is met.
module _ (old new : ResolverState) (goes : Continues old.core new.core) (Before After : List Step → Type 0)
    (takes : old.core.stop ≡ None → (proxy : ℕ) (took : TakesFrom proxy old new) (log : List Step) → StandsOver old log → Before log
    → After (log ++ Take proxy took.batch ∷ []))
    (finishes : old.core.stop ≡ None → Finishes old new → (log : List Step) → StandsOver old log → Before log
    → After (log ++ Finish ∷ []))
    (rests : new.core.stop ≡ old.core.stop → TakesNoStep old new → (log : List Step) → StandsOver old log → Before log
    → After log) where
  abbrev Met : List Step → Option Stop → Type 0
  Met log stop = IfSome stop (IsStopOf old.core.set.map.limit old.core.set.window log)

  -- the new one stands for this log, by the window and the limit of the old
  accounted : (log : List Step) → StandsOver new log → (stop : Option Stop) → new.core.stop ≡ stop → Met log stop
      → After log → IsAccountedWith After new
  accounted log stands stop is met also = record {
    log = log;
    stands = stands;
    met =
        subst (λ (limit : ℕ). IfSome new.core.stop (IsStopOf limit new.core.set.window log)) (sym goes.limit)
        (subst (λ (window : ℤ). IfSome new.core.stop (IsStopOf old.core.set.map.limit window log)) (sym goes.window)
        (subst (Met log) (sym is) met));
    also = also;
  }

  -- no step, or the last
  finished_or_none : old.core.stop ≡ None → Finishes old new ⊎ TakesNoStep old new → new.core.stop ≡ None → IsAccountedWith Before old
      → IsAccountedWith After new
  finished_or_none was (inl step) none before =
      accounted (before.log ++ Finish ∷ []) (step.adds (negsuc 0) before.log before.stands) None none tt
      (finishes was step before.log before.stands before.also)
  finished_or_none was (inr step) none before =
      accounted before.log (step.adds (negsuc 0) before.log before.stands) None none tt
      (rests (none ∙ sym was) step before.log before.stands before.also)

  turned : (t : Turn) → old.core.stop ≡ None → StepsFor (taken_by t) old new → new.core.stop ≡ None → IsAccountedWith Before old
      → IsAccountedWith After new
  turned (turn.Took proxy) was step none before =
      accounted (before.log ++ Take proxy step.batch ∷ []) (step.adds (negsuc 0) before.log before.stands) None none tt
      (takes was proxy step before.log before.stands before.also)
  turned turn.Idle was step none before = finished_or_none was step none before
  turned turn.Done was step none before = finished_or_none was step none before

  -- the gate's and the arena's stops, as a turn shows them
  abbrev AtFullGate : Type 0
  AtFullGate =
      (proxy : ℕ) × (took : TakesFrom proxy old new)
      × (old.core.version <ℤ took.batch.previous) × (length old.core.held ≡ MAX_HELD)

  abbrev AtFullArena : List Step → Type 0
  AtFullArena log =
      (proxy : ℕ) × (took : TakesFrom proxy old new)
      × StopsAtLimit old.core.set.map.limit old.core.set.window proxy took.batch
      (run old.core.set.window log) (sent_to new.lanes) new.core

  stopped_now : (stop : Stop) → new.core.stop ≡ Some stop → old.core.stop ≡ None
      → ((proxy : ℕ) × TakesFrom proxy old new) ⊎ Finishes old new
      → (stop ≡ resolver.GateFull → AtFullGate)
      → (stop ≡ resolver.ArenaFull → (log : List Step) → StandsOver old log → AtFullArena log)
      → IsAccountedWith Before old → IsAccountedWith After new
  stopped_now resolver.Memory is was (inl took) gate arena before =
      accounted (before.log ++ Take took.0 took.1.batch ∷ []) (took.1.adds (negsuc 0) before.log before.stands)
      (Some resolver.Memory) is tt (takes was took.0 took.1 before.log before.stands before.also)
  stopped_now resolver.Memory is was (inr step) gate arena before =
      accounted (before.log ++ Finish ∷ []) (step.adds (negsuc 0) before.log before.stands)
      (Some resolver.Memory) is tt (finishes was step before.log before.stands before.also)
  stopped_now resolver.GateFull is was met gate arena before =
      let at = gate refl in
      let state = IsIn-standing old.core.stop before.log (sent_to old.lanes) old.core was before.stands.core in
      let log = before.log ++ Take at.0 at.1.batch ∷ [] in
      accounted log (at.1.adds (negsuc 0) before.log before.stands) (Some resolver.GateFull) is (record {
        last = record { before = before.log; proxy = at.0; batch = at.1.batch; log_is = refl };
        ahead = subst (λ (version : ℤ). version <ℤ at.1.batch.previous) state.version at.2;
        full = ap length (sym state.held) ∙ at.3;
      }) (takes was at.0 at.1 before.log before.stands before.also)
  stopped_now resolver.ArenaFull is was met gate arena before =
      let at = arena refl before.log before.stands in
      let log = before.log ++ Take at.0 at.1.batch ∷ [] in
      accounted log (at.1.adds (negsuc 0) before.log before.stands) (Some resolver.ArenaFull) is
      (at_limit old.core.set.map.limit old.core.set.window before.log at.0 at.1.batch (sent_to new.lanes)
      new.core at.2) (takes was at.0 at.1 before.log before.stands before.also)

  -- after a stop nothing is taken, and the stop is the same
  stopped_before : (was : Option Stop) → old.core.stop ≡ was → IsSome was → (TakesNoStep old new)
      → new.core.stop ≡ was → IsAccountedWith Before old → IsAccountedWith After new
  stopped_before was is some step stays before =
      accounted before.log (step.adds (negsuc 0) before.log before.stands) was stays (subst (Met before.log) is before.met)
      (rests (stays ∙ sym is) step before.log before.stands before.also)

  erred : (stop : Stop) → (was : Option Stop) → old.core.stop ≡ was → new.core.stop ≡ Some stop
      → (old.core.stop ≡ None → ((proxy : ℕ) × TakesFrom proxy old new) ⊎ Finishes old new)
      → (IsSome old.core.stop → TakesNoStep old new)
      → IfSome was (λ (met : Stop). ◌≡◌ {A = Result Turn Stop} (Err stop) (Err met))
      → (old.core.stop ≡ None → stop ≡ resolver.GateFull → AtFullGate)
      → (old.core.stop ≡ None → stop ≡ resolver.ArenaFull → (log : List Step) → StandsOver old log → AtFullArena log)
      → IsAccountedWith Before old → IsAccountedWith After new
  erred stop None is now met no_step stays gate arena before =
      stopped_now stop now is (met is) (gate is) (arena is) before
  erred stop (Some first) is now met no_step stays gate arena before =
      let both = stays in
      let same : stop ≡ first = cc in
      stopped_before (Some first) is refl (no_step (ap is_some is)) (now ∙ ap (λ (s : Stop). Some s) same) before

  pub after_turn : (result : Result Turn Stop) → Turns result old new → IsAccountedWith Before old
      → IsAccountedWith After new
  after_turn (Ok turn) turns before =
      let steps = turns.steps in
      turned turn (unstopped turn old.core.stop steps.stop_stays) steps.log steps.no_stop before
  after_turn (Err stop) turns before =
      let steps = turns.steps in
      erred stop old.core.stop refl steps.stop steps.stop_met turns.stopped steps.stop_stays
      (λ was is. steps.gate_full was (ap Err is)) (λ was is. steps.arena_full was (ap Err is) (negsuc 0)) before

-- nothing else is true of the log
pub accounted_turn : (old new : ResolverState) (result : Result Turn Stop) → Turns result old new → IsAccountedFor old
    → IsAccountedFor new
accounted_turn old new result turns before =
    let also : IsAccountedWith (λ _. Unit {0}) new =
    after_turn old new turns.steps.continues (λ _. Unit {0}) (λ _. Unit {0}) (λ _ _ _ _ _ _. tt) (λ _ _ _ _ _. tt)
    (λ _ _ _ _ _. tt) result turns
    (record { log = before.log; stands = before.stands; met = before.met; also = tt }) in
    record { log = also.log; stands = also.stands; met = also.met }
