use Rattle.std.proofs.Common.{sym, ◌∙◌, w64}
use Rattle.std.proofs.lemmas.Int.{to_z-of_z}
use Rattle.stepmap.proofs.RoomAnswered.{answered_at_once, answered_by_round, answered_bound}
use Rattle.stepmap.proofs.step_map.StepMap.can_make_room.Goals as goal

pub returns-then-has_room_for-clause-room : goal.returns-then-has_room_for-clause-room
returns-then-has_room_for-clause-room c =
    let m = record c.args.self.now { edge = c.args.edge } in
    (λ _. answered_at_once c.args.ranges m (sym c.has_room_for.ensures.room ∙ c.if-has_room_for.true), λ _. cc)

pub returns-clause-room : goal.returns-clause-room
returns-clause-room c =
    answered_by_round c.args.ranges (record c.args.self.now { edge = c.args.edge })
    (sym c.has_room_for.ensures.room ∙ c.if-has_room_for.false) c.has_room_after_round.result
    (rw (to_z-of_z w64 c.args.edge c.ranges.edge) at c.has_room_after_round.ensures.room)

pub returns-clause-bound : goal.returns-clause-bound
returns-clause-bound c = λ none ws rooted.
    let answered =
    answered_by_round c.args.ranges (record c.args.self.now { edge = c.args.edge })
    (sym c.has_room_for.ensures.room ∙ c.if-has_room_for.false) c.has_room_after_round.result
    (rw (to_z-of_z w64 c.args.edge c.ranges.edge) at c.has_room_after_round.ensures.room) in
    answered_bound c.args.ranges c.args.self.now c.args.edge c.has_room_for.ensures.steps c.requires.late
    (λ room. none (answered.1 room)) ws rooted
