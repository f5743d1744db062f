use Rattle.std.proofs.Common.{arith, ◌≡◌, ℕ, ◌+◌, ◌≤◌, ◌<◌, ◌^◌, Bool, List, [], length, All, Any, true, sym, ◌∙◌, ap, subst, unwrap_or, option_map, w64, rules, vec_capacity}
use Rattle.std.specs.Prelude.{ℤ}
use Rattle.std.proofs.lemmas.Int.{to_z-of_z}
use Rattle.std.proofs.lemmas.List.Elements.{All-weaker}
use Rattle.std.specs.List.{Contains}
use Rattle.std.specs.FinMap as finite
use Rattle.arena.specs.Arena.{IsLive, record_at}
use Rattle.keys.specs.Key.{IsKey}
use Rattle.boundaries.specs.Item.{Item}
use Rattle.boundaries.specs.Boundary.{Boundary}
use Rattle.boundaries.specs.Bound.{Keys, bytes_at, slot_is_below}
use Rattle.boundaries.specs.Stored.{boundaries_of}
use Rattle.boundaries.specs.Walk.{items_of_tree}
use Rattle.boundaries.specs.declared.expiry.Removal.{Removal}
use Rattle.boundaries.specs.declared.store.Store.{Store}
use Rattle.boundaries.specs.declared.tree.Tree.{Tree}
use Rattle.boundaries.proofs.Inserting.{can_change}
use Rattle.boundaries.proofs.Passed.{keys_have}
use Rattle.boundaries.proofs.PartUnexpired.{unexpired_all}
use Rattle.boundaries.proofs.StoredItems.{AreKept, gone_distinct, gone_live, kept_items}
use Rattle.boundaries.proofs.StoredTrees.{can_reach_after, stored_again}
use Rattle.boundaries.proofs.Unlinked.{slots_of}
use Rattle.boundaries.proofs.UnexpiredRun.{RunExpired, run, run_expired, parted, some_stays, looked_within, last_looked, next_has, next_bytes, passed_are_unexpired, unexpired_kept, unexpired_record}
use Rattle.boundaries.proofs.boundary_list.Boundaries.remove_expired.Goals.{After-change, After-release_removed}
use Rattle.boundaries.proofs.boundary_list.Boundaries.remove_expired.Goals as goal

pub change-requires : goal.change-requires
change-requires c =
    let few : length (items_of_tree c.self.inside.tree) < 2 ^ 64 = omega (arith, c.self.invariant.tree_is.within, c.self.invariant.few) in
    let up = ap (λ b. b.up_to) (c.new-expiring.ensures.bound ∙ c.after.ensures.bound) in
    record {
      can_change = can_change {Wants = λ (keys : Keys) (items : List Item). Unit {0}} c.self.invariant.tree_is few
          (can_reach_after c.self.invariant c.new-expiring.result.bound up) tt c.self.invariant.none_removed;
    }

-- the same run, where numbers are given in another way
run_of_same : {p : ℕ → Bool} {count many : ℕ} {edge edge_is before last : ℤ} {removal : Removal} {out : List ℕ} {was now : List Item}
    → count ≡ many → edge ≡ edge_is → before ≡ last → RunExpired p count edge before removal out was now
    → RunExpired p many edge_is last removal out was now
run_of_same {p} {count} {many} {edge} {edge_is} {before} {last} {removal} {out} {was} {now} counts edges befores r =
    subst (λ n. RunExpired p n edge_is last removal out was now) counts (subst (λ v. RunExpired p count v last removal out was now) edges
    (subst (λ v. RunExpired p count edge v removal out was now) befores r))

-- the run that was looked at, and what is gone of it
module _ (c : After-change) where
  abbrev old : Tree
  old = c.self.inside.tree

  abbrev mid : Tree
  mid = c.change.new.self

  abbrev keys : Keys
  keys = old.store.keys

  abbrev items : List Item
  items = items_of_tree old

  abbrev next : List Item
  next = items_of_tree mid

  abbrev key : List ℕ
  key = c.args.cursor.now.items

  kept : AreKept keys items
  kept = kept_items c.self.invariant

  there : Any (λ (b : Boundary). b.key ≡ key) (boundaries_of old)
  there = rw (← c.self.view_is) at c.requires.there

  run_of : RunExpired (slot_is_below keys true key) c.args.count c.args.edge c.args.before c.change.new.change.removal
      mid.store.removed.items items next
  run_of =
      let e = c.new-expiring.ensures in
      let is = e.bound ∙ c.after.ensures.bound in
      let edge = e.versions.0 ∙ to_z-of_z w64 c.args.edge c.ranges.edge in
      let before = e.versions.1 ∙ to_z-of_z w64 c.args.before c.ranges.before in
      run_of_same e.count edge before (run_expired key (ap (λ b. b.up_to) is) (ap (λ b. b.key.now) is ∙ c.deref.ensures.value)
      (unexpired_all c.change.ensures.changed.items))

  same_keys : mid.store.keys ≡ keys
  same_keys = (unexpired_all c.change.ensures.changed.items).keys

  abbrev gone : List Item
  gone = run keys items kept key c.requires.later there c.args.count c.args.edge c.args.before c.change.new.change.removal
      mid.store.removed.items next run_of

pub move_to-requires-clause-live : goal.move_to-requires-clause-live
move_to-requires-clause-live c =
    let h = (goal.at.move_to-requires-clause-live c).After-change in
    rw (same_keys h) (next_has (keys h) (items h) (kept h) (key h) c.requires.later (there h) c.args.count c.args.edge c.args.before
    c.change.new.change.removal _ (next h) (run_of h) (IsLive (keys h)) c.self.invariant.live)

pub move_to-requires-clause-fits : goal.move_to-requires-clause-fits
move_to-requires-clause-fits c =
    let h = (goal.at.move_to-requires-clause-fits c).After-change in
    let all : All (λ b. IsKey b.key) (boundaries_of (old h)) = rw (← c.self.view_is) at c.requires.keys in
    rw (same_keys h) (next_has (keys h) (items h) (kept h) (key h) c.requires.later (there h) c.args.count c.args.edge c.args.before
    c.change.new.change.removal _ (next h) (run_of h) (λ slot. length (bytes_at (keys h) slot) ≤ vec_capacity c.args.cursor.now)
    (All-weaker (λ (x : Item). IsKey (bytes_at (keys h) x.key))
    (λ x. length (bytes_at (keys h) x.key) ≤ vec_capacity c.args.cursor.now)
    (λ x k. let short = k.short in omega (arith, c.requires.any_key)) (items h) (keys_have (keys h) IsKey (items h) all)))

pub release_removed-requires : goal.release_removed-requires
release_removed-requires c =
    let h = (goal.at.release_removed-requires c).After-change in
    let parts = parted (keys h) (items h) (kept h) (key h) c.requires.later (there h) c.args.count c.args.edge c.args.before
    c.change.new.change.removal _ (next h) (run_of h) in
    rw (same_keys h, (run_of h).gone_is) (search (rules, gone_live (kept h) parts, gone_distinct (kept h) parts))

-- the keys of what is gone are released
module _ (c : After-release_removed) where
  abbrev at : After-change
  at = (goal.at.After-release_removed c).After-change

  abbrev store : Store
  store = c.release_removed.new.self

  released : (slot : ℕ) → ¬ Contains (slots_of (gone at)) slot → record_at store.keys slot ≡ record_at (keys at) slot
  released slot without =
      c.release_removed.ensures.others slot (rw (run_of at).gone_is without) ∙ ap (λ k. record_at k slot) (same_keys at)

  less : finite.len store.keys.records + length (slots_of (gone at)) ≡ finite.len (keys at).records
  less =
      let gone_is = (run_of at).gone_is in
      (rw gone_is at c.release_removed.ensures.counted) ∙ ap (λ (ks : Keys). finite.len ks.records) (same_keys at)

pub invariant_of-self : goal.invariant_of-self
invariant_of-self c =
    let t = goal.at.invariant_of-self c in
    let h = t.After-change in
    let r = t.After-release_removed in
    let parts = parted (keys h) (items h) (kept h) (key h) c.requires.later (there h) c.args.count c.args.edge c.args.before
    c.change.new.change.removal _ (next h) (run_of h) in
    let some = some_stays (keys h) (items h) (kept h) (key h) c.requires.later (there h) c.args.count c.args.edge c.args.before
    c.change.new.change.removal _ (next h) (run_of h) in
    let records = unexpired_record (keys h) (items h) (kept h) (key h) c.requires.later (there h) c.args.count c.args.edge c.args.before
    c.change.new.change.removal _ (next h) (run_of h) (store r).keys (released r) in
    stored_again (old h) (mid h) (store r) c.self.inside.room c.self.invariant c.release_removed.ensures.nodes
    c.release_removed.ensures.none c.change.ensures.changed.tree
    (unexpired_kept (keys h) (items h) (kept h) (key h) c.requires.later (there h) c.args.count c.args.edge c.args.before
    c.change.new.change.removal _ (next h) (run_of h) (store r).keys (released r) (less r))
    (λ s here. records s here ∙ sym (ap (λ k. record_at k s) (same_keys h))) some
    (omega (arith, parts.count, c.self.invariant.tree_is.within))

pub returns-clause-count : goal.returns-clause-count
returns-clause-count c = let r = run_of (goal.at.returns-clause-count c).After-change in (r.some, r.few)

pub returns-clause-within : goal.returns-clause-within
returns-clause-within c =
    let h = (goal.at.returns-clause-within c).After-change in
    rw (← c.self.view_is) (looked_within (keys h) (items h) (kept h) (key h) c.requires.later (there h) c.args.count c.args.edge
    c.args.before c.change.new.change.removal _ (next h) (run_of h))

pub returns-clause-last : goal.returns-clause-last
returns-clause-last c =
    let h = (goal.at.returns-clause-last c).After-change in
    rw (← c.self.view_is) (last_looked (keys h) (items h) (kept h) (key h) c.requires.later (there h) c.args.count
    c.args.edge c.args.before c.change.new.change.removal _ (next h) (run_of h))

pub returns-clause-boundaries : goal.returns-clause-boundaries
returns-clause-boundaries c =
    let t = goal.at.returns-clause-boundaries c in
    let h = t.After-change in
    let r = t.After-release_removed in
    rw (← c.self.view_is, c.release_removed.ensures.nodes) (passed_are_unexpired (keys h) (items h) (kept h) (key h) c.requires.later (there h)
    c.args.count c.args.edge c.args.before c.change.new.change.removal _ (next h) (run_of h) (store r).keys (released r))

pub returns-clause-cursor : goal.returns-clause-cursor
returns-clause-cursor c =
    let h = (goal.at.returns-clause-cursor c).After-change in
    rw (← c.self.view_is) (c.move_to.ensures.cursor
    ∙ ap (λ k. unwrap_or (option_map (bytes_at k) c.change.new.change.removal.next) []) (same_keys h)
    ∙ next_bytes (keys h) (items h) (kept h) (key h) c.requires.later (there h) c.args.count c.args.edge c.args.before
    c.change.new.change.removal _ (next h) (run_of h))
