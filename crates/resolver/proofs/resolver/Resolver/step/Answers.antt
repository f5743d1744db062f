use Rattle.std.proofs.Common.{◌≡◌, ℕ, ◌+◌, ◌<◌, length, Option, Some, None, Result, Err, sym, ap, subst, ◌∙◌, refl, inl, inr, true, false}
use Rattle.std.specs.Prelude.{◌<ℤ◌}
use Rattle.std.proofs.lemmas.Bool.{false≢true}
use Rattle.chain.specs.declared.gate.TheConstants.{MAX_HELD}
use Rattle.std.specs.Vec.{with_items}
use Rattle.keyspace.specs.Run.{run}
use Rattle.limits.specs.declared.stop.Stop.{Stop}
use Rattle.limits.specs.declared.stop.Stop.TheVariants.{Memory, GateFull, ArenaFull}
use Rattle.resolver.specs.Core.{Continues, StopsAtLimit}
use Rattle.resolver.specs.Lanes.{Each, LanesContinue, IsLookedThrough, ComesBefore, all_ended, sent_to}
use Rattle.resolver.specs.OpeningLog.{log_from}
use Rattle.resolver.specs.Observed.{ObservesStep}
use Rattle.resolver.specs.Resolver.{ResolverState, StandsOverFrom, TakesFrom, Finishes, TakesNoStep}
use Rattle.resolver.specs.Turns.{TurnSteps}
use Rattle.resolver.specs.Parts.{Parts, resolver_of, lanes_of, AreParts, FindsOne, FindsNone}
use Rattle.resolver.proofs.Stops.{residual_is, same_error, none_stays, not_some}
use Rattle.resolver.proofs.Stepping.{
  none_of,
  same_bools,
  other_than_false,
  newly_ended,
  continue_itself,
  found_in,
  none_found_in,
  parts_taken,
  takes_from,
  takes_when,
  takes_over,
  stops_at_limit,
  steps_stopped,
  was_running,
  replies_taken,
  lanes_taken,
  passed_taken,
  some_after,
  continues_taken,
  parts_looked,
  replies_looked,
  lanes_looked,
  all_looked,
  continues_looked,
  open_before,
  finishes_now,
  through_still,
  takes_no_step,
  sees_taken,
  sees_finish,
  sees_nothing,
}
use Rattle.resolver.proofs.SeenSteps.{step_unchanged}
use Rattle.resolver.proofs.resolver.Resolver.step.Given.{Over}
use Rattle.resolver.proofs.resolver.Resolver.step.Goals as goal

-- a batch was found, and a stop was met as it was admitted
module _ (g : Over) (c : goal.After-from_residual g) where
  abbrev stopped_old : Parts
  stopped_old = record {
    core = c.self.inside.core;
    all_lanes = c.self.inside.all_lanes.items;
    next = c.self.inside.next;
    finished = c.self.inside.finished;
    closed = c.self.inside.closed;
  }

  abbrev stopped_new : Parts
  stopped_new = record {
    core = c.admit_observed.new.self;
    all_lanes = (with_items c.self.inside.all_lanes c.take_from.new.all_lanes).items;
    next = c.in-Some-take_from.proxy + 1;
    finished = c.self.inside.finished;
    closed = c.self.inside.closed;
  }

  stopped_running : c.self.inside.core.stop ≡ None
  stopped_running = sym c.stop.ensures.stop ∙ none_of c.stop.result c.in_default.not-Some

  stopped_found :
      FindsOne (λ p. ComesBefore c.self.inside.next p c.in-Some-take_from.proxy) c.in-Some-take_from.proxy
      c.in-Some-take_from.batch c.self.inside.all_lanes.items (with_items c.self.inside.all_lanes c.take_from.new.all_lanes).items
  stopped_found =
      found_in c.self.inside.all_lanes c.take_from.new.all_lanes c.deref_mut.result.now c.deref_mut.ensures.value
      c.self.inside.next c.in-Some-take_from.proxy c.in-Some-take_from.batch c.in-Some-take_from.ensures.found

  stopped_takes : TakesFrom c.in-Some-take_from.proxy c.args.self.now (resolver_of stopped_new)
  stopped_takes =
      subst (λ r. TakesFrom c.in-Some-take_from.proxy r (resolver_of stopped_new)) c.self.view_is
      (takes_from stopped_old stopped_new c.self.inside.next c.in-Some-take_from.proxy c.in-Some-take_from.batch
      stopped_found c.self.invariant stopped_running c.admit_observed.ensures.admits.adds.continues refl refl refl
      (c.admit_observed.ensures.admits.adds.stands stopped_running))

-- a batch was found, and it was admitted
module _ (g : Over) (c : goal.In_ok-admit_observed-in-Some-take_from g) where
  abbrev admitted_old : Parts
  admitted_old = record {
    core = c.self.inside.core;
    all_lanes = c.self.inside.all_lanes.items;
    next = c.self.inside.next;
    finished = c.self.inside.finished;
    closed = c.self.inside.closed;
  }

  abbrev admitted_new : Parts
  admitted_new = record {
    core = c.admit_observed.new.self;
    all_lanes = (with_items c.self.inside.all_lanes c.take_from.new.all_lanes).items;
    next = c.in-Some-take_from.proxy + 1;
    finished = c.self.inside.finished;
    closed = c.self.inside.closed;
  }

  admitted_running : c.self.inside.core.stop ≡ None
  admitted_running = sym c.stop.ensures.stop ∙ none_of c.stop.result c.in_default.not-Some

  admitted_found :
      FindsOne (λ p. ComesBefore c.self.inside.next p c.in-Some-take_from.proxy) c.in-Some-take_from.proxy
      c.in-Some-take_from.batch c.self.inside.all_lanes.items (with_items c.self.inside.all_lanes c.take_from.new.all_lanes).items
  admitted_found =
      found_in c.self.inside.all_lanes c.take_from.new.all_lanes c.deref_mut.result.now c.deref_mut.ensures.value
      c.self.inside.next c.in-Some-take_from.proxy c.in-Some-take_from.batch c.in-Some-take_from.ensures.found

  admitted_takes : TakesFrom c.in-Some-take_from.proxy c.args.self.now (resolver_of admitted_new)
  admitted_takes =
      subst (λ r. TakesFrom c.in-Some-take_from.proxy r (resolver_of admitted_new)) c.self.view_is
      (takes_from admitted_old admitted_new c.self.inside.next c.in-Some-take_from.proxy c.in-Some-take_from.batch
      admitted_found c.self.invariant admitted_running c.admit_observed.ensures.admits.adds.continues refl refl refl
      (c.admit_observed.ensures.admits.adds.stands admitted_running))

pub invariant_of-self : goal.invariant_of-self
invariant_of-self g c =
    parts_taken (stopped_old g c) (stopped_new g c) c.self.inside.next c.in-Some-take_from.proxy c.in-Some-take_from.batch
    (stopped_found g c) c.self.invariant (stopped_running g c) c.admit_observed.ensures.admits.adds.continues refl refl refl

pub invariant_of-self-in-Some-take_from : goal.invariant_of-self-in-Some-take_from
invariant_of-self-in-Some-take_from g c =
    parts_taken (admitted_old g c) (admitted_new g c) c.self.inside.next c.in-Some-take_from.proxy c.in-Some-take_from.batch
    (admitted_found g c) c.self.invariant (admitted_running g c) c.admit_observed.ensures.admits.adds.continues refl refl refl

-- the step, if a stop was met as the batch was admitted
admitted_stop : (g : Over) (c : goal.After-from_residual g)
    → TurnSteps {T = Option ℕ} (λ taken. taken) (Err c.in_err-admit_observed-in-Some-take_from.field-0.0)
    c.args.self.now (resolver_of (stopped_new g c))
admitted_stop g c = record {
  log = tt;
  stop_met = λ _. inl (c.in-Some-take_from.proxy, stopped_takes g c);
  stop = c.in_err-admit_observed-in-Some-take_from.ensures.admits.adds.stops;
  stop_stays = none_stays c.args.self.now.core.stop _ (was_running c.self.view_is (stopped_running g c));
  no_stop = tt;
  looked_through = tt;
  passed = tt;
  next = tt;
  next_stays = tt;
  gate_full =
      λ running is.
      let stop = c.in_err-admit_observed-in-Some-take_from.field-0.0 in
      let met = same_error stop GateFull is in
      let full = (c.admit_observed.ensures.admits.gate_full (stopped_running g c)).0 (c.in_err-admit_observed-in-Some-take_from.was ∙ ap Err met) in
      let took = takes_when (stopped_old g c) (stopped_new g c) c.self.inside.next c.in-Some-take_from.proxy c.in-Some-take_from.batch
      (stopped_found g c) c.self.invariant (stopped_running g c) c.admit_observed.ensures.admits.adds.continues refl refl refl (λ b. (c.self.inside.core.version <ℤ b.previous) × (length c.self.inside.core.held ≡ MAX_HELD)) full
      (c.admit_observed.ensures.admits.adds.stands (stopped_running g c)) in
      subst (λ (r : ResolverState). (p : ℕ) × (t : TakesFrom p r (resolver_of (stopped_new g c)))
      × (r.core.version <ℤ t.batch.previous) × (length r.core.held ≡ MAX_HELD)) c.self.view_is
      (took.0, took.1, took.2.0, took.2.1);
  arena_full =
      λ running is version log s.
      let stop = c.in_err-admit_observed-in-Some-take_from.field-0.0 in
      let met = same_error stop ArenaFull is in
      let limit = c.self.inside.core.set.map.limit in
      let window = c.self.inside.core.set.window in
      let given = sent_to (lanes_of (stopped_new g c).all_lanes) in
      let core = (resolver_of (stopped_new g c)).core in
      let entire = log_from version (length (lanes_of (stopped_old g c).all_lanes)) log in
      subst (λ (r : ResolverState). (p : ℕ) × (t : TakesFrom p r (resolver_of (stopped_new g c)))
      × StopsAtLimit r.core.set.map.limit r.core.set.window p t.batch
      (run r.core.set.window (log_from version (length r.lanes) log)) given core)
      c.self.view_is
      (takes_over (stopped_old g c) (stopped_new g c) c.self.inside.next c.in-Some-take_from.proxy c.in-Some-take_from.batch
      (stopped_found g c) c.self.invariant (stopped_running g c) c.admit_observed.ensures.admits.adds.continues refl refl refl (λ p b. StopsAtLimit limit window p b (run window entire) given core)
      (stops_at_limit (stopped_old g c) (stopped_new g c) c.self.inside.next c.in-Some-take_from.proxy c.in-Some-take_from.batch
      (stopped_found g c) c.self.invariant (stopped_running g c) c.admit_observed.ensures.admits.adds.continues refl refl refl version log
      (subst (λ (r : ResolverState). StandsOverFrom version r log) (sym c.self.view_is) s)
      (c.admit_observed.ensures.admits.arena_full (stopped_running g c) (c.in_err-admit_observed-in-Some-take_from.was ∙ ap Err met)))
      (c.admit_observed.ensures.admits.adds.stands (stopped_running g c)));
  lanes =
      subst (λ (r : ResolverState). Each (λ p l m. LanesContinue l m) r.lanes (lanes_of (stopped_new g c).all_lanes)) c.self.view_is
      (lanes_taken (stopped_old g c) (stopped_new g c) c.self.inside.next c.in-Some-take_from.proxy c.in-Some-take_from.batch
      (stopped_found g c) c.self.invariant (stopped_running g c) c.admit_observed.ensures.admits.adds.continues refl refl refl);
  continues =
      subst (λ (r : ResolverState). Continues r.core (resolver_of (stopped_new g c)).core) c.self.view_is
      (continues_taken (stopped_old g c) (stopped_new g c) c.self.inside.next c.in-Some-take_from.proxy c.in-Some-take_from.batch
      (stopped_found g c) c.self.invariant (stopped_running g c) c.admit_observed.ensures.admits.adds.continues refl refl refl);
}

pub returns-in_err-admit_observed-in-Some-take_from-clause-steps : goal.returns-in_err-admit_observed-in-Some-take_from-clause-steps
returns-in_err-admit_observed-in-Some-take_from-clause-steps g c =
    let stop = c.in_err-admit_observed-in-Some-take_from.field-0.0 in
    subst (λ (r : Result (Option ℕ) Stop). TurnSteps (λ taken. taken) r c.args.self.now (resolver_of (stopped_new g c)))
    (sym (residual_is c.from_residual.result stop c.from_residual.ensures.1)) (admitted_stop g c)

pub returns-in_err-admit_observed-in-Some-take_from-clause-replies : goal.returns-in_err-admit_observed-in-Some-take_from-clause-replies
returns-in_err-admit_observed-in-Some-take_from-clause-replies g c =
    subst (λ (r : ResolverState). Each (λ p l m. m.replies ≡ l.replies) r.lanes (lanes_of (stopped_new g c).all_lanes)) c.self.view_is
    (replies_taken (stopped_old g c) (stopped_new g c) c.self.inside.next c.in-Some-take_from.proxy c.in-Some-take_from.batch
    (stopped_found g c) c.self.invariant (stopped_running g c) c.admit_observed.ensures.admits.adds.continues refl refl refl)

pub returns-in_ok-admit_observed-in-Some-take_from-clause-replies : goal.returns-in_ok-admit_observed-in-Some-take_from-clause-replies
returns-in_ok-admit_observed-in-Some-take_from-clause-replies g c =
    subst (λ (r : ResolverState). Each (λ p l m. m.replies ≡ l.replies) r.lanes (lanes_of (admitted_new g c).all_lanes)) c.self.view_is
    (replies_taken (admitted_old g c) (admitted_new g c) c.self.inside.next c.in-Some-take_from.proxy c.in-Some-take_from.batch
    (admitted_found g c) c.self.invariant (admitted_running g c) c.admit_observed.ensures.admits.adds.continues refl refl refl)

pub returns-in_ok-admit_observed-in-Some-take_from-clause-steps : goal.returns-in_ok-admit_observed-in-Some-take_from-clause-steps
returns-in_ok-admit_observed-in-Some-take_from-clause-steps g c = record {
  log = admitted_takes g c;
  stop_met = tt;
  stop = tt;
  stop_stays = none_stays c.args.self.now.core.stop _ (was_running c.self.view_is (admitted_running g c));
  no_stop = c.in_ok-admit_observed-in-Some-take_from.ensures.admits.adds.«open».1;
  looked_through = tt;
  passed =
      subst (λ (r : ResolverState). Each (λ q l m. ComesBefore r.next q c.in-Some-take_from.proxy → IsLookedThrough l m) r.lanes
      (lanes_of (admitted_new g c).all_lanes)) c.self.view_is
      (passed_taken (admitted_old g c) (admitted_new g c) c.self.inside.next c.in-Some-take_from.proxy c.in-Some-take_from.batch
      (admitted_found g c) c.self.invariant (admitted_running g c) c.admit_observed.ensures.admits.adds.continues refl refl refl);
  next = refl;
  next_stays = tt;
  gate_full = λ running is. absurd cc;
  arena_full = λ running is. absurd cc;
  lanes =
      subst (λ (r : ResolverState). Each (λ p l m. LanesContinue l m) r.lanes (lanes_of (admitted_new g c).all_lanes)) c.self.view_is
      (lanes_taken (admitted_old g c) (admitted_new g c) c.self.inside.next c.in-Some-take_from.proxy c.in-Some-take_from.batch
      (admitted_found g c) c.self.invariant (admitted_running g c) c.admit_observed.ensures.admits.adds.continues refl refl refl);
  continues =
      subst (λ (r : ResolverState). Continues r.core (resolver_of (admitted_new g c)).core) c.self.view_is
      (continues_taken (admitted_old g c) (admitted_new g c) c.self.inside.next c.in-Some-take_from.proxy c.in-Some-take_from.batch
      (admitted_found g c) c.self.invariant (admitted_running g c) c.admit_observed.ensures.admits.adds.continues refl refl refl);
}

-- no batch was found, and nothing was finished
module _ (g : Over) (c : goal.Then-ended-self g) where
  abbrev same_old : Parts
  same_old = record {
    core = c.self.inside.core;
    all_lanes = c.self.inside.all_lanes.items;
    next = c.self.inside.next;
    finished = c.self.inside.finished;
    closed = c.self.inside.closed;
  }

  abbrev same_new : Parts
  same_new = record {
    core = c.self.inside.core;
    all_lanes = (with_items c.self.inside.all_lanes c.take_from.new.all_lanes).items;
    next = c.self.inside.next;
    finished = c.self.inside.finished;
    closed = c.self.inside.closed;
  }

  same_running : c.self.inside.core.stop ≡ None
  same_running = sym c.stop.ensures.stop ∙ none_of c.stop.result c.in_default.not-Some

  same_found : FindsNone (λ p. p < length c.self.inside.all_lanes.items) c.self.inside.all_lanes.items (with_items c.self.inside.all_lanes c.take_from.new.all_lanes).items
  same_found =
      none_found_in c.self.inside.all_lanes c.take_from.new.all_lanes c.deref_mut.result.now c.deref_mut.ensures.value c.in-None.ensures.none

  same_continues : Continues c.self.inside.core (c.self.inside.core)
  same_continues = continue_itself c.self.inside.core

  same_ended : c.have_ended-ended.result ≡ all_ended (lanes_of (with_items c.self.inside.all_lanes c.take_from.new.all_lanes).items)
  same_ended = c.have_ended-ended.ensures.all ∙ ap (λ all_lanes. all_ended (lanes_of all_lanes)) c.deref.ensures.value

  same_all : all_ended (lanes_of (with_items c.self.inside.all_lanes c.take_from.new.all_lanes).items) ≡ c.self.inside.finished
  same_all = sym same_ended ∙ same_bools c.have_ended-ended.result c.self.inside.finished c.if-ended-self.true

-- no batch was found, and a stop was met as the core was finished
module _ (g : Over) (c : goal.After-from_residual-in_err-finish-in-None g) where
  abbrev refused_old : Parts
  refused_old = record {
    core = c.self.inside.core;
    all_lanes = c.self.inside.all_lanes.items;
    next = c.self.inside.next;
    finished = c.self.inside.finished;
    closed = c.self.inside.closed;
  }

  abbrev refused_new : Parts
  refused_new = record {
    core = c.finish.new.self;
    all_lanes = (with_items c.self.inside.all_lanes c.take_from.new.all_lanes).items;
    next = c.self.inside.next;
    finished = true;
    closed = c.self.inside.closed;
  }

  refused_running : c.self.inside.core.stop ≡ None
  refused_running = sym c.stop.ensures.stop ∙ none_of c.stop.result c.in_default.not-Some

  refused_found : FindsNone (λ p. p < length c.self.inside.all_lanes.items) c.self.inside.all_lanes.items (with_items c.self.inside.all_lanes c.take_from.new.all_lanes).items
  refused_found =
      none_found_in c.self.inside.all_lanes c.take_from.new.all_lanes c.deref_mut.result.now c.deref_mut.ensures.value c.in-None.ensures.none

  refused_continues : Continues c.self.inside.core (c.finish.new.self)
  refused_continues = c.finish.ensures.adds.continues

  refused_ended : c.have_ended-ended.result ≡ all_ended (lanes_of (with_items c.self.inside.all_lanes c.take_from.new.all_lanes).items)
  refused_ended = c.have_ended-ended.ensures.all ∙ ap (λ all_lanes. all_ended (lanes_of all_lanes)) c.deref.ensures.value

  refused_before : c.self.inside.finished ≡ false
  refused_before =
      newly_ended refused_old refused_new refused_found c.self.invariant refused_running refused_continues refl refl
      c.have_ended-ended.result refused_ended c.if-ended-self.false

  refused_after : all_ended (lanes_of (with_items c.self.inside.all_lanes c.take_from.new.all_lanes).items) ≡ true
  refused_after = sym refused_ended ∙ other_than_false c.have_ended-ended.result c.self.inside.finished refused_before c.if-ended-self.false

  refused_finishes : Finishes c.args.self.now (resolver_of refused_new)
  refused_finishes =
      subst (λ r. Finishes r (resolver_of refused_new)) c.self.view_is
      (finishes_now refused_old refused_new refused_found c.self.invariant refused_running refused_continues refl refl refused_before
      refused_after (c.finish.ensures.adds.stands refused_running))

  refused_parts : AreParts refused_new
  refused_parts =
      parts_looked refused_old refused_new refused_found c.self.invariant refused_running refused_continues refl refl
      (λ _. sym refused_after)
      (open_before refused_old refused_new refused_found c.self.invariant refused_running refused_continues refl refl refused_before refused_after)

-- no batch was found, and the core was finished
module _ (g : Over) (c : goal.In_ok-finish-in-None g) where
  abbrev finished_old : Parts
  finished_old = record {
    core = c.self.inside.core;
    all_lanes = c.self.inside.all_lanes.items;
    next = c.self.inside.next;
    finished = c.self.inside.finished;
    closed = c.self.inside.closed;
  }

  abbrev finished_new : Parts
  finished_new = record {
    core = c.finish.new.self;
    all_lanes = (with_items c.self.inside.all_lanes c.take_from.new.all_lanes).items;
    next = c.self.inside.next;
    finished = true;
    closed = c.self.inside.closed;
  }

  finished_running : c.self.inside.core.stop ≡ None
  finished_running = sym c.stop.ensures.stop ∙ none_of c.stop.result c.in_default.not-Some

  finished_found : FindsNone (λ p. p < length c.self.inside.all_lanes.items) c.self.inside.all_lanes.items (with_items c.self.inside.all_lanes c.take_from.new.all_lanes).items
  finished_found =
      none_found_in c.self.inside.all_lanes c.take_from.new.all_lanes c.deref_mut.result.now c.deref_mut.ensures.value c.in-None.ensures.none

  finished_continues : Continues c.self.inside.core (c.finish.new.self)
  finished_continues = c.finish.ensures.adds.continues

  finished_ended : c.have_ended-ended.result ≡ all_ended (lanes_of (with_items c.self.inside.all_lanes c.take_from.new.all_lanes).items)
  finished_ended = c.have_ended-ended.ensures.all ∙ ap (λ all_lanes. all_ended (lanes_of all_lanes)) c.deref.ensures.value

  finished_before : c.self.inside.finished ≡ false
  finished_before =
      newly_ended finished_old finished_new finished_found c.self.invariant finished_running finished_continues refl refl
      c.have_ended-ended.result finished_ended c.if-ended-self.false

  finished_after : all_ended (lanes_of (with_items c.self.inside.all_lanes c.take_from.new.all_lanes).items) ≡ true
  finished_after = sym finished_ended ∙ other_than_false c.have_ended-ended.result c.self.inside.finished finished_before c.if-ended-self.false

  finished_finishes : Finishes c.args.self.now (resolver_of finished_new)
  finished_finishes =
      subst (λ r. Finishes r (resolver_of finished_new)) c.self.view_is
      (finishes_now finished_old finished_new finished_found c.self.invariant finished_running finished_continues refl refl finished_before
      finished_after (c.finish.ensures.adds.stands finished_running))

  finished_parts : AreParts finished_new
  finished_parts =
      parts_looked finished_old finished_new finished_found c.self.invariant finished_running finished_continues refl refl
      (λ _. sym finished_after)
      (open_before finished_old finished_new finished_found c.self.invariant finished_running finished_continues refl refl finished_before finished_after)

pub invariant_of-self-then-ended-self : goal.invariant_of-self-then-ended-self
invariant_of-self-then-ended-self g c =
    parts_looked (same_old g c) (same_new g c) (same_found g c) c.self.invariant (same_running g c) (same_continues g c) refl refl (λ _. sym (same_all g c))
    (through_still (same_old g c) (same_new g c) (same_found g c) c.self.invariant (same_running g c) (same_continues g c) refl refl refl refl (same_all g c))

pub invariant_of-self-in_err-finish-in-None : goal.invariant_of-self-in_err-finish-in-None
invariant_of-self-in_err-finish-in-None g c =
    refused_parts g c

pub invariant_of-self-in-None : goal.invariant_of-self-in-None
invariant_of-self-in-None g c =
    finished_parts g c

pub returns-then-ended-self-clause-steps : goal.returns-then-ended-self-clause-steps
returns-then-ended-self-clause-steps g c = record {
  log =
      inr (subst (λ r. TakesNoStep r (resolver_of (same_new g c))) c.self.view_is
      (takes_no_step (same_old g c) (same_new g c) (same_found g c) c.self.invariant (same_running g c) (same_continues g c) refl refl refl refl (same_all g c)));
  stop_met = tt;
  stop = tt;
  stop_stays = none_stays c.args.self.now.core.stop _ (was_running c.self.view_is (same_running g c));
  no_stop = same_running g c;
  looked_through =
      subst (λ (r : ResolverState). Each (λ p l m. IsLookedThrough l m) r.lanes (lanes_of (same_new g c).all_lanes)) c.self.view_is
      (all_looked (same_old g c) (same_new g c) (same_found g c) c.self.invariant (same_running g c) (same_continues g c) refl refl);
  passed = tt;
  next = tt;
  next_stays = ap (λ (r : ResolverState). r.next) c.self.view_is;
  gate_full = λ running is. absurd cc;
  arena_full = λ running is. absurd cc;
  lanes =
      subst (λ (r : ResolverState). Each (λ p l m. LanesContinue l m) r.lanes (lanes_of (same_new g c).all_lanes)) c.self.view_is
      (lanes_looked (same_old g c) (same_new g c) (same_found g c) c.self.invariant (same_running g c) (same_continues g c) refl refl);
  continues =
      subst (λ (r : ResolverState). Continues r.core (resolver_of (same_new g c)).core) c.self.view_is
      (continues_looked (same_old g c) (same_new g c) (same_found g c) c.self.invariant (same_running g c) (same_continues g c) refl refl);
}

-- the step, if a stop was met as the core was finished
refused_stop : (g : Over) (c : goal.After-from_residual-in_err-finish-in-None g)
    → TurnSteps {T = Option ℕ} (λ taken. taken) (Err c.in_err-finish-in-None.field-0.0) c.args.self.now
    (resolver_of (refused_new g c))
refused_stop g c = record {
  log = tt;
  stop_met = λ _. inr (refused_finishes g c);
  stop = c.in_err-finish-in-None.ensures.adds.stops;
  stop_stays = none_stays c.args.self.now.core.stop _ (was_running c.self.view_is (refused_running g c));
  no_stop = tt;
  looked_through = tt;
  passed = tt;
  next = tt;
  next_stays = tt;
  gate_full = λ running is.
      let met = same_error c.in_err-finish-in-None.field-0.0 GateFull is in
      let memory : c.in_err-finish-in-None.field-0.0 ≡ Memory = c.in_err-finish-in-None.ensures.memory (refused_running g c) in
      absurd cc;
  arena_full = λ running is.
      let met = same_error c.in_err-finish-in-None.field-0.0 ArenaFull is in
      let memory : c.in_err-finish-in-None.field-0.0 ≡ Memory = c.in_err-finish-in-None.ensures.memory (refused_running g c) in
      absurd cc;
  lanes =
      subst (λ (r : ResolverState). Each (λ p l m. LanesContinue l m) r.lanes (lanes_of (refused_new g c).all_lanes)) c.self.view_is
      (lanes_looked (refused_old g c) (refused_new g c) (refused_found g c) c.self.invariant (refused_running g c) (refused_continues g c) refl refl);
  continues =
      subst (λ (r : ResolverState). Continues r.core (resolver_of (refused_new g c)).core) c.self.view_is
      (continues_looked (refused_old g c) (refused_new g c) (refused_found g c) c.self.invariant (refused_running g c) (refused_continues g c) refl refl);
}

pub returns-in_err-finish-in-None-clause-steps : goal.returns-in_err-finish-in-None-clause-steps
returns-in_err-finish-in-None-clause-steps g c =
    let stop = c.in_err-finish-in-None.field-0.0 in
    subst (λ (r : Result (Option ℕ) Stop). TurnSteps (λ taken. taken) r c.args.self.now (resolver_of (refused_new g c)))
    (sym (residual_is c.from_residual-in_err-finish-in-None.result stop c.from_residual-in_err-finish-in-None.ensures.1))
    (refused_stop g c)

pub returns-in_ok-finish-in-None-clause-steps : goal.returns-in_ok-finish-in-None-clause-steps
returns-in_ok-finish-in-None-clause-steps g c = record {
  log = inl (finished_finishes g c);
  stop_met = tt;
  stop = tt;
  stop_stays = none_stays c.args.self.now.core.stop _ (was_running c.self.view_is (finished_running g c));
  no_stop = c.in_ok-finish-in-None.ensures.adds.«open».1;
  looked_through =
      subst (λ (r : ResolverState). Each (λ p l m. IsLookedThrough l m) r.lanes (lanes_of (finished_new g c).all_lanes)) c.self.view_is
      (all_looked (finished_old g c) (finished_new g c) (finished_found g c) c.self.invariant (finished_running g c) (finished_continues g c) refl refl);
  passed = tt;
  next = tt;
  next_stays = ap (λ (r : ResolverState). r.next) c.self.view_is;
  gate_full = λ running is. absurd cc;
  arena_full = λ running is. absurd cc;
  lanes =
      subst (λ (r : ResolverState). Each (λ p l m. LanesContinue l m) r.lanes (lanes_of (finished_new g c).all_lanes)) c.self.view_is
      (lanes_looked (finished_old g c) (finished_new g c) (finished_found g c) c.self.invariant (finished_running g c) (finished_continues g c) refl refl);
  continues =
      subst (λ (r : ResolverState). Continues r.core (resolver_of (finished_new g c)).core) c.self.view_is
      (continues_looked (finished_old g c) (finished_new g c) (finished_found g c) c.self.invariant (finished_running g c) (finished_continues g c) refl refl);
}

-- a stop had been met before
pub returns-in-Some-clause-steps : goal.returns-in-Some-clause-steps
returns-in-Some-clause-steps g c =
    let met : c.args.self.now.core.stop ≡ Some c.in-Some.stop =
    sym (ap (λ (r : ResolverState). r.core.stop) c.self.view_is) ∙ sym c.stop.ensures.stop ∙ c.in-Some.is in
    steps_stopped c.in-Some.stop c.args.self.now met

pub returns-in-Some-clause-stopped : goal.returns-in-Some-clause-stopped
returns-in-Some-clause-stopped g c = λ some. refl

pub returns-in_err-admit_observed-in-Some-take_from-clause-stopped :
    goal.returns-in_err-admit_observed-in-Some-take_from-clause-stopped
returns-in_err-admit_observed-in-Some-take_from-clause-stopped g c = λ some.
    absurd (not_some c.args.self.now.core.stop (was_running c.self.view_is (stopped_running g c)) some)

pub returns-in_ok-admit_observed-in-Some-take_from-clause-stopped :
    goal.returns-in_ok-admit_observed-in-Some-take_from-clause-stopped
returns-in_ok-admit_observed-in-Some-take_from-clause-stopped g c = λ some.
    absurd (not_some c.args.self.now.core.stop (was_running c.self.view_is (admitted_running g c)) some)

pub returns-then-ended-self-clause-stopped : goal.returns-then-ended-self-clause-stopped
returns-then-ended-self-clause-stopped g c = λ some.
    absurd (not_some c.args.self.now.core.stop (was_running c.self.view_is (same_running g c)) some)

pub returns-in_err-finish-in-None-clause-stopped : goal.returns-in_err-finish-in-None-clause-stopped
returns-in_err-finish-in-None-clause-stopped g c = λ some.
    absurd (not_some c.args.self.now.core.stop (was_running c.self.view_is (refused_running g c)) some)

pub returns-in_ok-finish-in-None-clause-stopped : goal.returns-in_ok-finish-in-None-clause-stopped
returns-in_ok-finish-in-None-clause-stopped g c = λ some.
    absurd (not_some c.args.self.now.core.stop (was_running c.self.view_is (finished_running g c)) some)

pub returns-then-ended-self-clause-replies : goal.returns-then-ended-self-clause-replies
returns-then-ended-self-clause-replies g c =
    subst (λ (r : ResolverState). Each (λ p l m. m.replies ≡ l.replies) r.lanes (lanes_of (same_new g c).all_lanes)) c.self.view_is
    (replies_looked (same_old g c) (same_new g c) (same_found g c) c.self.invariant (same_running g c) (same_continues g c) refl refl)

pub returns-in_err-finish-in-None-clause-replies : goal.returns-in_err-finish-in-None-clause-replies
returns-in_err-finish-in-None-clause-replies g c =
    subst (λ (r : ResolverState). Each (λ p l m. m.replies ≡ l.replies) r.lanes (lanes_of (refused_new g c).all_lanes)) c.self.view_is
    (replies_looked (refused_old g c) (refused_new g c) (refused_found g c) c.self.invariant (refused_running g c) (refused_continues g c) refl refl)

pub returns-in_ok-finish-in-None-clause-replies : goal.returns-in_ok-finish-in-None-clause-replies
returns-in_ok-finish-in-None-clause-replies g c =
    subst (λ (r : ResolverState). Each (λ p l m. m.replies ≡ l.replies) r.lanes (lanes_of (finished_new g c).all_lanes)) c.self.view_is
    (replies_looked (finished_old g c) (finished_new g c) (finished_found g c) c.self.invariant (finished_running g c) (finished_continues g c) refl refl)

pub returns-in_ok-admit_observed-in-Some-take_from-clause-still_open :
    goal.returns-in_ok-admit_observed-in-Some-take_from-clause-still_open
returns-in_ok-admit_observed-in-Some-take_from-clause-still_open g c = λ _.
    some_after (admitted_old g c) (admitted_new g c) c.self.inside.next c.in-Some-take_from.proxy
    c.in-Some-take_from.batch (admitted_found g c) c.self.invariant (admitted_running g c) c.admit_observed.ensures.admits.adds.continues refl
    refl refl

pub returns-then-ended-self-clause-still_open : goal.returns-then-ended-self-clause-still_open
returns-then-ended-self-clause-still_open g c = λ some. absurd (false≢true some)

pub returns-in_ok-finish-in-None-clause-still_open : goal.returns-in_ok-finish-in-None-clause-still_open
returns-in_ok-finish-in-None-clause-still_open g c = λ some. absurd (false≢true some)

pub returns-in-Some-clause-sees : goal.returns-in-Some-clause-sees
returns-in-Some-clause-sees g c = step_unchanged (g.O.Observer.has_seen c.args.observer.now) c.args.self.now

pub returns-in_err-admit_observed-in-Some-take_from-clause-sees :
    goal.returns-in_err-admit_observed-in-Some-take_from-clause-sees
returns-in_err-admit_observed-in-Some-take_from-clause-sees g c =
    let before = g.O.Observer.has_seen c.args.observer.now in
    let after = g.O.Observer.has_seen c.admit_observed.new.observer in
    subst (λ r. ObservesStep before after r (resolver_of (stopped_new g c))) c.self.view_is
    (sees_taken (stopped_old g c) (stopped_new g c) c.self.inside.next c.in-Some-take_from.proxy c.in-Some-take_from.batch
    (stopped_found g c) c.self.invariant (stopped_running g c) c.admit_observed.ensures.admits.adds.continues refl refl refl
    before after (c.admit_observed.ensures.seen (stopped_running g c)))

pub returns-in_ok-admit_observed-in-Some-take_from-clause-sees :
    goal.returns-in_ok-admit_observed-in-Some-take_from-clause-sees
returns-in_ok-admit_observed-in-Some-take_from-clause-sees g c =
    let before = g.O.Observer.has_seen c.args.observer.now in
    let after = g.O.Observer.has_seen c.admit_observed.new.observer in
    subst (λ r. ObservesStep before after r (resolver_of (admitted_new g c))) c.self.view_is
    (sees_taken (admitted_old g c) (admitted_new g c) c.self.inside.next c.in-Some-take_from.proxy
    c.in-Some-take_from.batch (admitted_found g c) c.self.invariant (admitted_running g c)
    c.admit_observed.ensures.admits.adds.continues refl refl refl before after
    (c.admit_observed.ensures.seen (admitted_running g c)))

pub returns-then-ended-self-clause-sees : goal.returns-then-ended-self-clause-sees
returns-then-ended-self-clause-sees g c =
    let seen = g.O.Observer.has_seen c.args.observer.now in
    subst (λ r. ObservesStep seen seen r (resolver_of (same_new g c))) c.self.view_is
    (sees_nothing (same_old g c) (same_new g c) (same_found g c) c.self.invariant (same_running g c) (same_continues g c)
    refl refl refl refl (same_all g c) seen)

pub returns-in_err-finish-in-None-clause-sees : goal.returns-in_err-finish-in-None-clause-sees
returns-in_err-finish-in-None-clause-sees g c =
    let seen = g.O.Observer.has_seen c.args.observer.now in
    subst (λ r. ObservesStep seen seen r (resolver_of (refused_new g c))) c.self.view_is
    (sees_finish (refused_old g c) (refused_new g c) (refused_found g c) c.self.invariant (refused_running g c)
    (refused_continues g c) refl refl (refused_before g c) (refused_after g c) seen)

pub returns-in_ok-finish-in-None-clause-sees : goal.returns-in_ok-finish-in-None-clause-sees
returns-in_ok-finish-in-None-clause-sees g c =
    let seen = g.O.Observer.has_seen c.args.observer.now in
    subst (λ r. ObservesStep seen seen r (resolver_of (finished_new g c))) c.self.view_is
    (sees_finish (finished_old g c) (finished_new g c) (finished_found g c) c.self.invariant (finished_running g c)
    (finished_continues g c) refl refl (finished_before g c) (finished_after g c) seen)
