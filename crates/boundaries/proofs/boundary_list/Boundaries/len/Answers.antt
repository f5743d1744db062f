use Rattle.std.proofs.Common.{arith}
use Rattle.std.proofs.lemmas.List.{length-map}
use Rattle.boundaries.specs.Stored.{boundary_of}
use Rattle.boundaries.specs.Walk.{items_of_tree}
use Rattle.boundaries.proofs.boundary_list.Boundaries.len.Goals as goal

pub returns-clause-len : goal.returns-clause-len
returns-clause-len c =
    let tree = c.self.inside.tree in
    rw (← c.self.view_is)
    (omega (arith, c.live.ensures.count, c.self.invariant.counted, length-map (items_of_tree tree) (boundary_of tree.store.keys)))

pub returns-clause-within : goal.returns-clause-within
returns-clause-within c =
    rw (← c.self.view_is) (omega (arith, c.live.ensures.count, c.self.invariant.counted, c.self.invariant.tree_is.within))
