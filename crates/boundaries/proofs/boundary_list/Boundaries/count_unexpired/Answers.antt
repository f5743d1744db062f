use Rattle.std.proofs.Common.{rules, ◌<◌, ◌^◌, length, sym, ap, ◌∙◌, arith, w64}
use Rattle.std.proofs.lemmas.Int.{to_z-of_z}
use Rattle.std.proofs.lemmas.List.{length-map}
use Rattle.boundaries.specs.Items.{unexpired_items}
use Rattle.boundaries.specs.Stored.{boundary_of, boundaries_of}
use Rattle.boundaries.specs.Walk.{items_of_tree}
use Rattle.boundaries.proofs.UnexpiredRun.{boundaries_unexpired}
use Rattle.boundaries.proofs.callers.Unexpired.{all_unexpired}
use Rattle.boundaries.proofs.boundary_list.Boundaries.count_unexpired.Goals as goal

pub count_unexpired-requires : goal.count_unexpired-requires
count_unexpired-requires c =
    let few : length (items_of_tree c.self.inside.tree) < 2 ^ 64 =
    omega (arith, c.self.invariant.tree_is.within, c.self.invariant.few) in
    search (rules, c.self.invariant.tree_is.rooted.subtree, few)

pub returns : goal.returns
returns c =
    let tree = c.self.inside.tree in
    let keys = tree.store.keys in
    let items = items_of_tree tree in
    let edge = c.args.edge in
    let given = ap (λ e. length (unexpired_items e e items)) (to_z-of_z w64 edge c.ranges.edge) in
    let many = length-map (unexpired_items edge edge items) (boundary_of keys) in
    let swept = ap length (boundaries_unexpired keys edge edge items) in
    record {
      count = rw (← c.self.view_is) (c.count_unexpired.ensures.count ∙ given ∙ sym many ∙ swept
          ∙ ap length (all_unexpired edge (boundaries_of tree)));
    }
