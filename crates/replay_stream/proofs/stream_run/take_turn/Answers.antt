use Rattle.std.proofs.Common.{ap, sym, ◌∙◌}
use Rattle.std.proofs.lemmas.Bool.{eqb-true}
use Rattle.std.specs.Prelude.{Ok}
use Rattle.replay_stream.proofs.Ending.{resolver_turned, runs_done, runs_stopped}
use Rattle.replay_stream.proofs.stream_run.take_turn.Goals as goal

pub returns-in-Ok-Took-clause-continues : goal.returns-in-Ok-Took-clause-continues
returns-in-Ok-Took-clause-continues g c = resolver_turned c.args.resolver.now c.turn.new.self c.turn.result c.turn.ensures.turns

pub returns-in-Ok-Idle-clause-continues : goal.returns-in-Ok-Idle-clause-continues
returns-in-Ok-Idle-clause-continues g c = resolver_turned c.args.resolver.now c.turn.new.self c.turn.result c.turn.ensures.turns

pub returns-in-Ok-Done-clause-continues : goal.returns-in-Ok-Done-clause-continues
returns-in-Ok-Done-clause-continues g c = resolver_turned c.args.resolver.now c.turn.new.self c.turn.result c.turn.ensures.turns

pub returns-in-Ok-Done-clause-through : goal.returns-in-Ok-Done-clause-through
returns-in-Ok-Done-clause-through g c = λ _.
    runs_done c.args.resolver.now c.turn.new.self c.turn.result c.turn.ensures.turns
    (c.in-Ok-Done.is ∙ ap Ok c.in-Ok-Done.field-0-is)

pub returns-in-Err-clause-continues : goal.returns-in-Err-clause-continues
returns-in-Err-clause-continues g c = resolver_turned c.args.resolver.now c.turn.new.self c.turn.result c.turn.ensures.turns

pub returns-in-Err-clause-through : goal.returns-in-Err-clause-through
returns-in-Err-clause-through g c = λ none.
    runs_stopped c.args.resolver.now c.turn.new.self c.turn.result c.in-Err.field-0 c.turn.ensures.turns c.in-Err.is
    (sym c.owed.ensures.count ∙ eqb-true c.owed.result 0 none)
