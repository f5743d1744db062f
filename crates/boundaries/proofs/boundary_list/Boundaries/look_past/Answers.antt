use Rattle.std.proofs.Common.{arith, rules, ◌≤◌, ℕ, true, [], length, not, All, IfSome, unwrap_or, option_map, ◌∙◌, ap, sym, subst, w64, vec_capacity}
use Rattle.std.specs.Prelude.{FitsSigned}
use Rattle.std.proofs.lemmas.Int.{to_z-of_z}
use Rattle.std.proofs.lemmas.List.Elements.{All-filter, All-weaker}
use Rattle.arena.specs.Arena.{IsLive}
use Rattle.keys.specs.Key.{IsKey}
use Rattle.boundaries.specs.Item.{Item}
use Rattle.boundaries.specs.Path.{items_not_below}
use Rattle.boundaries.specs.Boundary.{first_key, value_at}
use Rattle.boundaries.specs.Bound.{bytes_at, slot_is_below}
use Rattle.boundaries.specs.Copying.{boundaries_after as after_key}
use Rattle.boundaries.specs.Stored.{Stored, boundaries_of}
use Rattle.boundaries.specs.Walk.{items_of_tree}
use Rattle.boundaries.proofs.CopiedOn.{after_stored}
use Rattle.boundaries.proofs.LastAndInside.{value_of_version}
use Rattle.boundaries.proofs.Passed.{first_bytes, first_has, keys_have}
use Rattle.boundaries.proofs.StoredItems.{kept_items}
use Rattle.boundaries.proofs.StoredTrees.{can_reach_after}
use Rattle.boundaries.proofs.boundary_list.Boundaries.look_past.Goals as goal

pub version_and_next-version-requires : goal.version_and_next-version-requires
version_and_next-version-requires c = record {
  can_reach = can_reach_after c.self.invariant c.after.result (ap (λ b. b.up_to) c.after.ensures.bound);
}

pub move_to-requires-clause-live : goal.move_to-requires-clause-live
move_to-requires-clause-live c =
    let keys = c.self.inside.tree.store.keys in
    let p = slot_is_below keys true c.args.key.now in
    let items = items_of_tree c.self.inside.tree in
    let next = rw c.after.ensures.bound at c.version_and_next-version.ensures.next in
    subst (λ o. IfSome o (IsLive keys)) (sym next)
    (first_has keys (IsLive keys) (items_not_below p items)
    (All-filter (λ x. not (p x.key)) (λ x. IsLive keys x.key) items c.self.invariant.live))

pub move_to-requires-clause-fits : goal.move_to-requires-clause-fits
move_to-requires-clause-fits c =
    let keys = c.self.inside.tree.store.keys in
    let p = slot_is_below keys true c.args.key.now in
    let items = items_of_tree c.self.inside.tree in
    let next = rw c.after.ensures.bound at c.version_and_next-version.ensures.next in
    let all : All (λ b. IsKey b.key) (boundaries_of c.self.inside.tree) = rw (← c.self.view_is) at c.requires.keys in
    let fit = λ (slot : ℕ). length (bytes_at keys slot) ≤ vec_capacity c.args.next.now in
    let each = All-weaker (λ (x : Item). IsKey (bytes_at keys x.key)) (λ x. fit x.key) (λ x k. let short = k.short in omega (arith, c.requires.any_key))
    items (keys_have keys IsKey items all) in
    subst (λ o. IfSome o fit) (sym next) (first_has keys fit (items_not_below p items) (All-filter (λ x. not (p x.key)) (λ x. fit x.key) items each))

pub returns-clause-version : goal.returns-clause-version
returns-clause-version c =
    let tree = c.self.inside.tree in
    let key = c.args.key.now in
    let v = c.version_and_next-version.result.0 in
    let last = rw c.after.ensures.bound at c.version_and_next-version.ensures.last in
    let fits : FitsSigned w64 v = search rules in
    to_z-of_z w64 v fits ∙ value_of_version tree.store.keys (items_of_tree tree) (kept_items c.self.invariant) key v last
    ∙ ap (λ (s : Stored). value_at s.boundaries key) c.self.view_is

pub returns-clause-next : goal.returns-clause-next
returns-clause-next c =
    let keys = c.self.inside.tree.store.keys in
    let key = c.args.key.now in
    let items = items_of_tree c.self.inside.tree in
    let next = rw c.after.ensures.bound at c.version_and_next-version.ensures.next in
    c.move_to.ensures.cursor ∙ ap (λ o. unwrap_or (option_map (bytes_at keys) o) []) next
    ∙ first_bytes keys (items_not_below (slot_is_below keys true key) items)
    ∙ ap first_key (after_stored keys items (kept_items c.self.invariant) key)
    ∙ ap (λ (v : Stored). first_key (after_key key v.boundaries)) c.self.view_is
