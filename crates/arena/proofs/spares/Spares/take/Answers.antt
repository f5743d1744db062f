use Rattle.std.proofs.Common.{◌<◌, length}
use Rattle.arena.proofs.Lists.{within_lists, taken_lists}
use Rattle.arena.proofs.spares.Spares.take.Goals as goal

pub returns-clause-taken : goal.returns-clause-taken
returns-clause-taken g c =
    let some = rw (← c.self.view_is) at c.requires.some in
    let within : c.args.size < length c.self.inside.lists.items =
    within_lists _ c.args.size c.self.invariant c.requires.size some in
    rw (← c.self.view_is)
    (taken_lists c.self.inside.lists.items c.args.size c.take.result c.take.new.self _ within
    c.index_mut-list.ensures.value c.take.ensures.taken)
