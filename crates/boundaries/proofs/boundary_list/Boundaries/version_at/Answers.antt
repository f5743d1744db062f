use Rattle.std.proofs.Common.{rules, ◌∙◌, ap, w64}
use Rattle.std.specs.Prelude.{FitsSigned}
use Rattle.std.proofs.lemmas.Int.{to_z-of_z}
use Rattle.boundaries.specs.Boundary.{value_at}
use Rattle.boundaries.specs.Stored.{Stored}
use Rattle.boundaries.specs.Walk.{items_of_tree}
use Rattle.boundaries.proofs.LastAndInside.{value_of_version}
use Rattle.boundaries.proofs.StoredItems.{kept_items}
use Rattle.boundaries.proofs.StoredTrees.{can_reach_after}
use Rattle.boundaries.proofs.boundary_list.Boundaries.version_at.Goals as goal

pub version_and_next-version-requires : goal.version_and_next-version-requires
version_and_next-version-requires c = record {
  can_reach = can_reach_after c.self.invariant c.after.result (ap (λ b. b.up_to) c.after.ensures.bound);
}

pub returns : goal.returns
returns c =
    let tree = c.self.inside.tree in
    let key = c.args.key.now in
    let v = c.version_and_next-version.result.0 in
    let last = rw c.after.ensures.bound at c.version_and_next-version.ensures.last in
    let fits : FitsSigned w64 v = search rules in
    record {
      value = to_z-of_z w64 v fits
          ∙ value_of_version tree.store.keys (items_of_tree tree) (kept_items c.self.invariant) key v last
          ∙ ap (λ (s : Stored). value_at s.boundaries key) c.self.view_is;
    }
