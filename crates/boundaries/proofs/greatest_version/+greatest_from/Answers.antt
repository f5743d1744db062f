use Rattle.std.proofs.Common.{rules, ◌≡◌, ℕ, Bool, ◌+◌, ◌-◌, ◌<◌, ◌≤ℤ◌, true, length, length-drop, filter, slice_get, Some, drop, take_all, flat_map, ◌++◌, append-nil, refl, sym, ap, ap₂, ◌∙◌, SFits, w64, arith}
use Rattle.std.proofs.lemmas.List.Elements.{All-drop}
use Rattle.std.proofs.lemmas.Option.{slice_get_read}
use Rattle.boundaries.specs.Greatest.{IsSought}
use Rattle.boundaries.specs.Item.{IsMost, item_version}
use Rattle.boundaries.proofs.Words.{HALF_FULL, Describes, Item, NodeEntry, IsPartitioned, is_below, entries_of, items_in}
use Rattle.boundaries.proofs.Above.{at_most_tested}
use Rattle.boundaries.proofs.FirstKeys.{knows_child}
use Rattle.boundaries.proofs.Found.{entries_read}
use Rattle.boundaries.proofs.Frames.{IsRight}
use Rattle.boundaries.proofs.FromLast.{from_last_of}
use Rattle.boundaries.proofs.Halves.{from_index}
use Rattle.boundaries.proofs.Looks.{IsLook, can_step_at, child_is, child_reached, look_answers, leaf_from_last}
use Rattle.boundaries.proofs.Most.{least_kept, most_kept, most_leaf, most_children, most_of_two, most_passed}
use Rattle.boundaries.proofs.callers.Partitions.{none_fail}
use Rattle.boundaries.proofs.greatest_version.+greatest_from.Goals as goal
use Rattle.boundaries.proofs.greatest_version.+greatest_from.Goals.{After-step-step, After-index-entries-step}

pub step-step-requires : goal.step-step-requires
step-step-requires t c = search (rules, can_step_at c.args.store.now c.args.from.bound c.requires.from.searchable c.header_ref-node.ensures.header c.requires.from.known)

-- the bound, and one that is after all items
module _ (t : ℕ) (c : After-step-step t) where
  abbrev p : ℕ → Bool
  p = is_below c.args.store.now.keys c.args.from.bound

  all_below : IsPartitioned (λ (x : Item). true) (items_in c.args.store.now.nodes c.args.height c.args.slot)
  all_below =
      let all = none_fail (λ (x : Item). true) (items_in c.args.store.now.nodes c.args.height c.args.slot) (λ i d inside. refl) in
      sym (append-nil _) ∙ sym (ap₂ (λ a b. a ++ b) all.0 all.1)

  look : IsLook c.args.store.now.nodes HALF_FULL c.args.height c.args.slot p (λ x. true) c.entries-entries.result.now
      (length (filter (λ e. p e.key) (entries_of c.header_ref-node.result.now))) (length c.entries-entries.result.now)
  look = record {
    subtree = c.requires.from.searchable.subtree;
    from = c.requires.from.searchable.partitioned;
    to = all_below;
    nested = λ key below. refl;
    read = entries_read c.args.store.now.nodes c.args.slot c.header_ref-node.result.now _ c.header_ref-node.ensures.header
        c.entries-entries.ensures.entries;
    begin_is = rw c.entries-entries.ensures.entries refl;
    end_is = sym (ap length (none_fail (λ (e : NodeEntry). true) c.entries-entries.result.now (λ i d inside. refl)).0);
  }

pub returns-then-height-eq0 : goal.returns-then-height-eq0
returns-then-height-eq0 t c =
    let s = (goal.at.returns-then-height-eq0 t c).After-step-step in
    let items = leaf_from_last _ _ _ _ _ _ _ _ _ (look t s) c.if-height-eq0.true c.step-step.result.index
    c.step-step.ensures.step.index_is in
    let fits : SFits w64 c.args.least = search rules in
    let kept : SFits w64 c.greatest_of.result = search rules in
    let leaf = most_leaf c.args.least c.greatest_of.result _ (least_kept fits c.greatest_of.ensures.most) in
    record { most = most_kept kept (rw items leaf) }

-- the child that the search goes on in
module _ (t : ℕ) (c : After-index-entries-step t) where
  abbrev at : After-step-step t
  at = (goal.at.After-index-entries-step t c).After-step-step

  abbrev entry : NodeEntry
  entry = c.index-entries-step.result

  within : c.step-step.result.index < length c.entries-entries.result.now
  within = omega (arith, c.step-step.ensures.step.within, ap length c.entries-entries.ensures.entries)

  there : slice_get (entries_of c.header_ref-node.result.now) c.step-step.result.index ≡ Some entry
  there = slice_get_read _ _ _ entry refl c.step-step.ensures.step.within
      (rw c.entries-entries.ensures.entries at c.index-entries-step.is)

  child : IsRight c.args.store.now.nodes HALF_FULL (c.args.height - 1) entry
  child = child_is _ _ _ _ _ _ _ _ _ (look t at) c.if-height-eq0.false _ entry within c.index-entries-step.is

  below : IsSought c.args.store.now (record { bound = c.args.from.bound; common_prefix_len = c.step-step.result.common_prefix_len })
      (c.args.height - 1) entry.child
  below = record {
    searchable = child_reached _ _ _ _ _ _ _ _ _ (look t at) c.if-height-eq0.false _ entry within c.index-entries-step.is
        c.requires.from.searchable (omega arith);
    known = knows_child _ _ _ _ entry.child _ (p t at) c.args.from.bound.key.now _ child refl (c.step-step.ensures.step.knows entry there);
  }

  -- the items of the child, and those after them
  items : from_last_of (λ x. p t at x.key) (λ x. true) (items_in c.args.store.now.nodes c.args.height c.args.slot)
      ≡ from_last_of (λ x. p t at x.key) (λ x. true) (items_in c.args.store.now.nodes (c.args.height - 1) entry.child)
      ++ flat_map (λ e. items_in c.args.store.now.nodes (c.args.height - 1) e.child)
      (drop (c.step-step.result.index + 1) c.entries-entries.result.now)
  items =
      let index_is = rw (← c.entries-entries.ensures.entries) at c.step-step.ensures.step.index_is in
      from_index _ _ _ _ _ _ _ _ _ (look t at) c.if-height-eq0.false (p t at) c.requires.from.searchable.partitioned _ index_is entry
      within c.index-entries-step.is (c.step-step.ensures.step.knows entry there).0

  later : IsMost item_version c.args.least (flat_map (λ e. items_in c.args.store.now.nodes (c.args.height - 1) e.child)
      (drop (c.step-step.result.index + 1) c.entries-entries.result.now)) c.greatest_of-most.result
  later =
      let es = c.entries-entries.result.now in
      let n = c.step-step.result.index + 1 in
      let tell = All-drop (λ e. Describes e (items_in c.args.store.now.nodes (c.args.height - 1) e.child)) n es
      (look_answers _ _ _ _ _ _ _ _ _ (look t at) c.if-height-eq0.false) in
      let fits : SFits w64 c.args.least = search rules in
      let all = take_all (length es - n) (drop n es) (omega (arith, length-drop n es)) in
      most_children c.args.least c.greatest_of-most.result _ (drop n es) tell
      (rw all at (least_kept fits c.greatest_of-most.ensures.most))

pub greatest_from-requires : goal.greatest_from-requires
greatest_from-requires t c =
    (search rules, rw c.new-from.ensures.sought (below t (goal.at.greatest_from-requires t c).After-index-entries-step))

pub returns-then-entry-most : goal.returns-then-entry-most
returns-then-entry-most t c =
    let s = (goal.at.returns-then-entry-most t c).After-index-entries-step in
    let le : entry.version ≤ℤ most = at_most_tested entry.version most (search rules) (search rules) c.if-entry-most.true in
    let fits : SFits w64 most = search rules in
    record {
      most = most_kept fits (most_of_two c.args.least _ _ _ _ _ (items t s) (later t s)
          (most_passed most entry _ _ (λ (x : Item). true) (child t s).describes le));
    }
  where
    open c use {index-entries-step.{result as entry}, greatest_of-most.{result as most}}

pub returns : goal.returns
returns t c =
    let s = (goal.at.returns t c).After-index-entries-step in
    let fits : SFits w64 c.greatest_of-most.result = search rules in
    let below = least_kept fits (rw c.new-from.ensures.sought at c.greatest_from.ensures.most) in
    let kept : SFits w64 c.greatest_from.result = search rules in
    record { most = most_kept kept (most_of_two c.args.least _ _ _ _ _ (items t s) (later t s) below) }
