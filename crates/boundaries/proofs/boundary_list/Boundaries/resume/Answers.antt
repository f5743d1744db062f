use Rattle.std.proofs.Common.{arith, rules, ℕ, ◌≤◌, negsuc, [], length, not, All, IfSome, unwrap_or, option_map, ◌∙◌, ap, sym, subst, w64, SFits, vec_capacity}
use Rattle.std.proofs.lemmas.Int.{to_z-of_z}
use Rattle.std.proofs.lemmas.List.Elements.{All-filter, All-weaker}
use Rattle.arena.specs.Arena.{IsLive}
use Rattle.keys.specs.Key.{IsKey}
use Rattle.boundaries.specs.declared.key_bound.KeyBound.{KeyBound}
use Rattle.boundaries.specs.Item.{Item}
use Rattle.boundaries.specs.Path.{items_below, items_not_below}
use Rattle.boundaries.specs.Boundary.{first_key, last_version}
use Rattle.boundaries.specs.Bound.{bytes_at, slot_is_below}
use Rattle.boundaries.specs.Stored.{boundaries_of}
use Rattle.boundaries.specs.Swept.{left_from, passed_to}
use Rattle.boundaries.specs.Walk.{items_of_tree}
use Rattle.boundaries.proofs.Passed.{ArePassed, are_passed, first_bytes, first_has, keys_have, last_of_versions, passes_empty}
use Rattle.boundaries.proofs.StoredItems.{kept_items}
use Rattle.boundaries.proofs.StoredTrees.{can_reach}
use Rattle.boundaries.proofs.boundary_list.Boundaries.resume.Goals.{After-version_and_next-version}
use Rattle.boundaries.proofs.boundary_list.Boundaries.resume.Goals as goal

-- what the bound does
passed : (c : After-version_and_next-version)
    → ArePassed c.self.inside.tree.store.keys (items_of_tree c.self.inside.tree) c.is_empty.result c.deref.result.now c.args.cursor.now.items
passed c =
    are_passed c.self.inside.tree.store.keys (items_of_tree c.self.inside.tree) (kept_items c.self.invariant) c.is_empty.result
    c.deref.result.now c.args.cursor.now.items _ c.deref.ensures.value c.deref.ensures.len c.is_empty.ensures

pub version_and_next-version-requires : goal.version_and_next-version-requires
version_and_next-version-requires c =
    let bound : KeyBound = record { key = c.deref.result; up_to = c.is_empty.result } in
    record {
      can_reach = can_reach c.self.invariant bound (passes_empty c.is_empty.result c.deref.result.now c.args.cursor.now.items _
          c.deref.ensures.value c.deref.ensures.len c.is_empty.ensures);
    }

pub move_to-requires-clause-live : goal.move_to-requires-clause-live
move_to-requires-clause-live c =
    let keys = c.self.inside.tree.store.keys in
    let p = slot_is_below keys c.is_empty.result c.deref.result.now in
    let items = items_of_tree c.self.inside.tree in
    subst (λ o. IfSome o (IsLive keys)) (sym c.version_and_next-version.ensures.next)
    (first_has keys (IsLive keys) (items_not_below p items)
    (All-filter (λ x. not (p x.key)) (λ x. IsLive keys x.key) items c.self.invariant.live))

pub move_to-requires-clause-fits : goal.move_to-requires-clause-fits
move_to-requires-clause-fits c =
    let keys = c.self.inside.tree.store.keys in
    let p = slot_is_below keys c.is_empty.result c.deref.result.now in
    let items = items_of_tree c.self.inside.tree in
    let all : All (λ b. IsKey b.key) (boundaries_of c.self.inside.tree) = rw (← c.self.view_is) at c.requires.keys in
    let fit = λ (slot : ℕ). length (bytes_at keys slot) ≤ vec_capacity c.args.cursor.now in
    let each = All-weaker (λ (x : Item). IsKey (bytes_at keys x.key)) (λ x. fit x.key) (λ x k. let short = k.short in omega (arith, c.requires.any_key))
    items (keys_have keys IsKey items all) in
    subst (λ o. IfSome o fit) (sym c.version_and_next-version.ensures.next)
    (first_has keys fit (items_not_below p items) (All-filter (λ x. not (p x.key)) (λ x. fit x.key) items each))

pub returns-clause-version : goal.returns-clause-version
returns-clause-version c =
    let keys = c.self.inside.tree.store.keys in
    let cursor = c.args.cursor.now.items in
    let v = c.version_and_next-version.result.0 in
    let p = passed (goal.at.returns-clause-version c).After-version_and_next-version in
    let items = items_below (slot_is_below keys c.is_empty.result c.deref.result.now) (items_of_tree c.self.inside.tree) in
    let last = c.version_and_next-version.ensures.last in
    let fits : SFits w64 v = search rules in
    to_z-of_z w64 v fits ∙ sym (last_of_versions keys items last.0 (negsuc 0) v last.1)
    ∙ ap (last_version (negsuc 0)) (p.passed ∙ ap (λ v. passed_to cursor v.boundaries) c.self.view_is)

pub returns-clause-cursor : goal.returns-clause-cursor
returns-clause-cursor c =
    let keys = c.self.inside.tree.store.keys in
    let cursor = c.args.cursor.now.items in
    let p = passed (goal.at.returns-clause-cursor c).After-version_and_next-version in
    let items = items_not_below (slot_is_below keys c.is_empty.result c.deref.result.now) (items_of_tree c.self.inside.tree) in
    c.move_to.ensures.cursor ∙ ap (λ o. unwrap_or (option_map (bytes_at keys) o) []) c.version_and_next-version.ensures.next
    ∙ first_bytes keys items ∙ ap first_key (p.left ∙ ap (λ v. left_from cursor v.boundaries) c.self.view_is)
