use Rattle.std.proofs.Common.{rules, ◌≡◌, false, Result, refl, sym, ap, ◌∙◌, Ok, Err, subst, arith}
use Rattle.std.specs.Prelude.{IsSome, is_some}
use Rattle.std.proofs.lemmas.Grind.{common_steps}
use Rattle.limits.specs.declared.stop.Stop.{Stop}
use Rattle.resolver.specs.declared.turn.Turn.{Turn}
use Rattle.resolver.specs.Parts.{Parts}
use Rattle.resolver.specs.Resolver.{TakesNoStep, IsThrough, taken_by}
use Rattle.resolver.specs.Turns.{TurnSteps}
use Rattle.resolver.proofs.Turning.{
  answers_over,
  full_on,
  stopped_on,
  stop_met_on,
  reported_turn,
  steps_on,
  closed_by,
  done_means,
  done_where,
  sees_taken_on,
  sees_finish_on,
  sees_nothing_on,
}
use Rattle.resolver.proofs.Resolving.{resolving_turned, resolving_stopped}
use Rattle.resolver.proofs.HeldShares.{beyond_share}
use Rattle.resolver.proofs.Stops.{residual_is, not_some}
use Rattle.resolver.proofs.resolver.Resolver.turn_observed.Given.{Over}
use Rattle.resolver.proofs.resolver.Resolver.turn_observed.Goals as goal
use Rattle.resolver.proofs.resolver.Resolver.turn_observed.Goals.{Joined-branch-2, in-Some, in-None, in-None-2}

-- a stop was met, now or before
pub returns-in_err-proxy-clause-turns : goal.returns-in_err-proxy-clause-turns
returns-in_err-proxy-clause-turns g c =
    let old = c.args.self.now in
    let new = c.close.new.self in
    let h = c.deliver.ensures in
    let k = c.close.ensures in
    let step = c.in_err-proxy.ensures in
    let met = c.in_err-proxy.field-0.0 in
    let steps : TurnSteps taken_by c.from_residual.result old new =
    subst (λ (r : Result Turn Stop). TurnSteps taken_by r old new)
    (sym (residual_is c.from_residual.result met c.from_residual.ensures.1))
    (steps_on old c.step-stepped.new.self c.deliver.new.self new h k false (Err met) step.steps) in
    let stopped : IsSome old.core.stop → TakesNoStep old new =
    λ some. stopped_on h k (c.step-stepped.ensures.stopped some) in
    record {
      steps = steps;
      stopped = stopped;
      resolving = λ version before.
          resolving_stopped version old new before old.core.stop (stop_met_on h k step.steps.stop_met) stopped;
      owed = full_on h k c.step-stepped.ensures.replies;
      closed = k.closed;
      done = first_of (search rules, grind (arith, common_steps));
      beyond_share = λ running is version before.
          let full = steps.gate_full running is in
          beyond_share version old new steps.lanes.count steps.continues.window k.count running before full.0 full.1
          full.2 full.3;
    }

pub returns-in_err-proxy-clause-sees_taken : goal.returns-in_err-proxy-clause-sees_taken
returns-in_err-proxy-clause-sees_taken g c = sees_taken_on c.deliver.ensures c.close.ensures c.step-stepped.ensures.sees

pub returns-in_err-proxy-clause-sees_finish : goal.returns-in_err-proxy-clause-sees_finish
returns-in_err-proxy-clause-sees_finish g c = sees_finish_on c.deliver.ensures c.close.ensures c.step-stepped.ensures.sees

pub returns-in_err-proxy-clause-sees_nothing : goal.returns-in_err-proxy-clause-sees_nothing
returns-in_err-proxy-clause-sees_nothing g c =
    sees_nothing_on c.deliver.ensures c.close.ensures c.step-stepped.ensures.sees

pub returns-clause-sees_taken : goal.returns-clause-sees_taken
returns-clause-sees_taken g c = sees_taken_on c.deliver.ensures c.close.ensures c.step-stepped.ensures.sees

pub returns-clause-sees_finish : goal.returns-clause-sees_finish
returns-clause-sees_finish g c = sees_finish_on c.deliver.ensures c.close.ensures c.step-stepped.ensures.sees

pub returns-clause-sees_nothing : goal.returns-clause-sees_nothing
returns-clause-sees_nothing g c = sees_nothing_on c.deliver.ensures c.close.ensures c.step-stepped.ensures.sees

same_Ok : {x y : Turn} → ◌≡◌ {A = Result Turn Stop} (Ok x) (Ok y) → x ≡ y
same_Ok is = cc

result_is : (g : Over) (c : Joined-branch-2 g) → c.match-branch-2.result ≡ reported_turn c.in_ok-proxy.field-0 c.self.inside.closed
result_is g c = elim c.match-branch-2.branch [
  | in-Some w ↦ w.result-is ∙ ap (λ t. reported_turn t c.self.inside.closed) (sym w.in-Some.is)
  | in-None w ↦ rw (w.in-None.is, w.if-self.true) w.result-is
  | in-None-2 w ↦ rw (w.in-None.is, w.if-self.false) w.result-is
]

pub returns-clause-turns : goal.returns-clause-turns
returns-clause-turns g c =
    let old = c.args.self.now in
    let new = c.close.new.self in
    let h = c.deliver.ensures in
    let k = c.close.ensures in
    let step = c.in_ok-proxy.ensures in
    let taken = c.in_ok-proxy.field-0 in
    let is = result_is g c in
    let steps : TurnSteps taken_by (Ok c.match-branch-2.result) old new =
    subst (λ did. TurnSteps taken_by (Ok did) old new) (sym is)
    (steps_on old c.step-stepped.new.self c.deliver.new.self new h k c.self.inside.closed (Ok taken) step.steps) in
    record {
      steps = steps;
      stopped = λ some. absurd (not_some old.core.stop step.«open» some);
      resolving = λ version before.
          resolving_turned version old new before (taken_by c.match-branch-2.result) steps.log;
      owed = full_on h k c.step-stepped.ensures.replies;
      closed = k.closed;
      done =
          let inside = c.self.inside in
          let parts : Parts = record { core = inside.core; all_lanes = inside.all_lanes.items; next = inside.next; finished = inside.finished; closed = inside.closed } in
          let mid = c.step-stepped.new.self in
          let a = answers_over mid c.deliver.new.self new h k in (
            λ done.
                let both = done_means mid new a taken inside.closed step.steps.no_stop
                (λ closed. subst IsThrough c.self.view_is (c.self.invariant.through closed)) (sym is ∙ same_Ok done) in
                (refl, both.0, both.1),
            λ both.
                ap Ok (is ∙ done_where mid new a taken inside.closed step.steps.no_stop
                (closed_by parts new c.self.invariant c.self.view_is k.closed)
                (λ proxy some. step.still_open (ap is_some some)) (both.1, both.2)),
          );
      beyond_share = λ running full. absurd cc;
    }
