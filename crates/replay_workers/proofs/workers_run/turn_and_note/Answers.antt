use Rattle.std.proofs.Common.{◌≡◌, ℕ, ap, length, subst, sym, ◌∙◌, refl, arith}
use Rattle.replay_summary.specs.declared.occupancy.Occupancy.{Occupancy}
use Rattle.replay_summary.specs.Occupancy.{occupancy_after}
use Rattle.replay_workers.proofs.Occupying.{measured_turn, stopped_if, unstopped_if}
use Rattle.replay_workers.proofs.workers_run.turn_and_note.Goals as goal

pub returns-then-is_err-clause-measured : goal.returns-then-is_err-clause-measured
returns-then-is_err-clause-measured g c =
    let turned = c.turn_observed-turn.ensures in
    let now = c.turn_observed-turn.new.self in
    measured_turn c.args.resolver.now now c.turn_observed-turn.result turned.turns (g.O.Observer.has_seen c.args.observer.now)
    (g.O.Observer.has_seen c.turn_observed-turn.new.observer) turned.sees_taken turned.sees_finish turned.sees_nothing
    c.args.occupancy.now c.args.occupancy.now
    (λ none. stopped_if c.turn_observed-turn.result now.core.stop (sym c.is_err.ensures.value ∙ c.if-is_err.true) turned.turns.steps.stop none)
    (λ stop is. refl)

pub returns-then-is_err-clause-boundaries : goal.returns-then-is_err-clause-boundaries
returns-then-is_err-clause-boundaries g c =
    stopped_if c.turn_observed-turn.result c.turn_observed-turn.new.self.core.stop (sym c.is_err.ensures.value ∙ c.if-is_err.true)
    c.turn_observed-turn.ensures.turns.steps.stop

pub returns-clause-measured : goal.returns-clause-measured
returns-clause-measured g c =
    let turned = c.turn_observed-turn.ensures in
    let now = c.turn_observed-turn.new.self in
    let before = c.args.occupancy.now in
    let after = c.note.new.self in
    measured_turn c.args.resolver.now now c.turn_observed-turn.result turned.turns (g.O.Observer.has_seen c.args.observer.now)
    (g.O.Observer.has_seen c.turn_observed-turn.new.observer) turned.sees_taken turned.sees_finish turned.sees_nothing before after
    (λ none. (
      subst (λ (n : ℕ). after ≡ occupancy_after n (length now.core.set.map.boundaries) before) c.held.ensures.count
          (subst (λ (n : ℕ). after ≡ occupancy_after c.held.result n before) c.boundaries.ensures.count c.note.ensures.noted),
      omega (arith, c.boundaries.ensures.count, c.boundaries.ensures.within),
      c.boundaries.ensures.steps,
      c.boundaries.ensures.window,
    ))
    (unstopped_if c.turn_observed-turn.result now.core.stop (sym c.is_err.ensures.value ∙ c.if-is_err.false) turned.turns.steps.no_stop)

pub returns-clause-boundaries : goal.returns-clause-boundaries
returns-clause-boundaries g c = λ none. ap (λ (o : Occupancy). o.boundaries) c.note.ensures.noted ∙ c.boundaries.ensures.count
