use Rattle.std.proofs.Common.{◌≡◌, length, arith, tests, w64}
use Rattle.std.proofs.lemmas.Int.{to_z-of_z}
use Rattle.stepmap.specs.Limit.{unexpired_all}
use Rattle.boundaries.proofs.callers.Unexpired.{all_shorter}
use Rattle.stepmap.proofs.step_map.StepMap.has_room_after_round.Goals as goal
use Rattle.stepmap.proofs.step_map.StepMap.has_room_after_round.Goals.{After-count_unexpired}

-- what a complete round would leave
stay : (c : After-count_unexpired)
    → c.count_unexpired.result ≡ length (unexpired_all c.args.edge c.self.inside.boundaries.boundaries)
stay c = rw (to_z-of_z w64 c.args.edge c.ranges.edge) at c.count_unexpired.ensures.count

pub overflow_sub-result : goal.overflow_sub-result
overflow_sub-result c =
    omega (
      arith,
      stay (goal.at.overflow_sub-result c).After-count_unexpired,
      all_shorter c.args.edge c.self.inside.boundaries.boundaries,
      c.self.invariant.steps.within,
    )

pub returns : goal.returns
returns c =
    let count = stay (goal.at.returns c).After-count_unexpired in
    let shorter = all_shorter c.args.edge c.self.inside.boundaries.boundaries in
    record { room = rw (← c.self.view_is) (grind (arith, tests, count, shorter, c.self.invariant.steps.within)) }
