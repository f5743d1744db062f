use Rattle.std.specs.Prelude.{vec_capacity}
use Rattle.stepmap.proofs.NoneReady.{kept_with_none_ready}
use Rattle.stepmap.proofs.step_map.StepMap.reserve.Goals as goal

-- where memory was refused, no range is ready
pub invariant_of-self : goal.invariant_of-self
invariant_of-self c =
    let i = c.self.inside in
    let taken = c.take_memory-reserved in
    rw c.clear.ensures.items
    (kept_with_none_ready i.boundaries taken.new.boundaries i.filter taken.new.filter i.edge i.ready.items i.cursor.items
    i.round i.limit (vec_capacity i.cursor) c.self.invariant taken.ensures.boundaries taken.ensures.room taken.ensures.bounds)
