use Rattle.std.specs.Prelude.{negsuc}
use Rattle.std.proofs.Common.{refl, subst, sym, ◌∙◌}
use Rattle.replay_summary.specs.declared.occupancy.Occupancy.{Occupancy}
use Rattle.resolver.proofs.callers.Later.{lanes_same, Continues-then}
use Rattle.replay_workers.specs.Occupied.{IsMeasured}
use Rattle.replay_workers.proofs.Occupying.{measured_new}
use Rattle.replay_workers.proofs.callers.SameLanes.{lanes_continue}
use Rattle.replay_workers.proofs.callers.Stopping.{accounted_turn}
use Rattle.replay_workers.proofs.workers_run.turn_to_end.Goals as goal

pub loop-init : goal.loop-init
loop-init g c = record {
  resolving = λ first. first;
  accounted = λ first. first;
  measured = λ stands none first.
      subst (λ (o : Occupancy). IsMeasured (g.O.Observer.has_seen c.args.observer.now) o c.args.resolver.now)
      (sym c.new-occupancy.ensures.new)
      (measured_new (g.O.Observer.has_seen c.args.observer.now) c.args.resolver.now stands none first c.boundaries.ensures.steps
      c.boundaries.ensures.window c.boundaries.result
      c.boundaries.ensures.count c.boundaries.ensures.within);
  setting = refl;
  continues = record { window = refl; limit = refl; proxies = refl };
  lanes = lanes_same c.args.resolver.now.lanes;
}

pub loop-preserved-in-Ok-Took : goal.loop-preserved-in-Ok-Took
loop-preserved-in-Ok-Took g c =
    let turns = c.turn_and_note.ensures.turns in
    record {
      resolving = λ first. turns.resolving (negsuc 0) (c.loop.invariant.resolving first);
      accounted = λ first.
          accounted_turn c.loop.resolver c.turn_and_note.new.resolver c.turn_and_note.result turns (c.loop.invariant.accounted first);
      measured = λ stands none first. c.turn_and_note.ensures.measured (c.loop.invariant.measured stands none first);
      setting = c.turn_and_note.ensures.setting ∙ c.loop.invariant.setting;
      continues = Continues-then _ c.loop.resolver.core _ c.loop.invariant.continues turns.steps.continues;
      lanes = lanes_continue _ c.loop.resolver.lanes _ c.loop.invariant.lanes turns.steps.lanes;
    }

pub loop-preserved-in-Ok-Idle : goal.loop-preserved-in-Ok-Idle
loop-preserved-in-Ok-Idle g c =
    let turns = c.turn_and_note.ensures.turns in
    record {
      resolving = λ first. turns.resolving (negsuc 0) (c.loop.invariant.resolving first);
      accounted = λ first.
          accounted_turn c.loop.resolver c.turn_and_note.new.resolver c.turn_and_note.result turns (c.loop.invariant.accounted first);
      measured = λ stands none first. c.turn_and_note.ensures.measured (c.loop.invariant.measured stands none first);
      setting = c.turn_and_note.ensures.setting ∙ c.loop.invariant.setting;
      continues = Continues-then _ c.loop.resolver.core _ c.loop.invariant.continues turns.steps.continues;
      lanes = lanes_continue _ c.loop.resolver.lanes _ c.loop.invariant.lanes turns.steps.lanes;
    }

pub loop-preserved : goal.loop-preserved
loop-preserved g c =
    let turns = c.turn_and_note.ensures.turns in
    record {
      resolving = λ first. turns.resolving (negsuc 0) (c.loop.invariant.resolving first);
      accounted = λ first.
          accounted_turn c.loop.resolver c.turn_and_note.new.resolver c.turn_and_note.result turns (c.loop.invariant.accounted first);
      measured = λ stands none first. c.turn_and_note.ensures.measured (c.loop.invariant.measured stands none first);
      setting = c.turn_and_note.ensures.setting ∙ c.loop.invariant.setting;
      continues = Continues-then _ c.loop.resolver.core _ c.loop.invariant.continues turns.steps.continues;
      lanes = lanes_continue _ c.loop.resolver.lanes _ c.loop.invariant.lanes turns.steps.lanes;
    }

pub returns-in-Ok-Done-clause-accounted : goal.returns-in-Ok-Done-clause-accounted
returns-in-Ok-Done-clause-accounted g c = λ first.
    let turns = c.turn_and_note.ensures.turns in
    accounted_turn c.loop.resolver c.turn_and_note.new.resolver c.turn_and_note.result turns (c.loop.invariant.accounted first)

pub returns-in-Ok-Done-clause-measured : goal.returns-in-Ok-Done-clause-measured
returns-in-Ok-Done-clause-measured g c = λ stands none first. c.turn_and_note.ensures.measured (c.loop.invariant.measured stands none first)

pub returns-in-Ok-Done-clause-resolving : goal.returns-in-Ok-Done-clause-resolving
returns-in-Ok-Done-clause-resolving g c = λ first. c.turn_and_note.ensures.turns.resolving (negsuc 0) (c.loop.invariant.resolving first)

pub returns-in-Ok-Done-clause-lanes : goal.returns-in-Ok-Done-clause-lanes
returns-in-Ok-Done-clause-lanes g c =
    lanes_continue _ c.loop.resolver.lanes _ c.loop.invariant.lanes c.turn_and_note.ensures.turns.steps.lanes

pub returns-in-Err-clause-accounted : goal.returns-in-Err-clause-accounted
returns-in-Err-clause-accounted g c = λ first.
    let turns = c.turn_and_note.ensures.turns in
    accounted_turn c.loop.resolver c.turn_and_note.new.resolver c.turn_and_note.result turns (c.loop.invariant.accounted first)

pub returns-in-Err-clause-measured : goal.returns-in-Err-clause-measured
returns-in-Err-clause-measured g c = λ stands none first. c.turn_and_note.ensures.measured (c.loop.invariant.measured stands none first)

pub returns-in-Err-clause-resolving : goal.returns-in-Err-clause-resolving
returns-in-Err-clause-resolving g c = λ first. c.turn_and_note.ensures.turns.resolving (negsuc 0) (c.loop.invariant.resolving first)

pub returns-in-Err-clause-lanes : goal.returns-in-Err-clause-lanes
returns-in-Err-clause-lanes g c =
    lanes_continue _ c.loop.resolver.lanes _ c.loop.invariant.lanes c.turn_and_note.ensures.turns.steps.lanes

pub returns-in-Ok-Done-clause-boundaries : goal.returns-in-Ok-Done-clause-boundaries
returns-in-Ok-Done-clause-boundaries g c = c.turn_and_note.ensures.boundaries

pub returns-in-Err-clause-boundaries : goal.returns-in-Err-clause-boundaries
returns-in-Err-clause-boundaries g c = c.turn_and_note.ensures.boundaries
