use Rattle.std.proofs.Common.{rules, ◌≡◌, ℕ, Bool, ◌+◌, ◌-◌, ◌<◌, ◌≤ℤ◌, length, filter, flat_map, slice_get, Some, map, take, ◌++◌, List, refl, sym, ap, ◌∙◌, SFits, w64, arith}
use Rattle.std.proofs.lemmas.List.Elements.{All-take}
use Rattle.std.proofs.lemmas.Option.{slice_get_read}
use Rattle.boundaries.specs.Greatest.{IsSought}
use Rattle.boundaries.specs.Item.{IsMost, item_version}
use Rattle.boundaries.proofs.Words.{HALF_FULL, Describes, Item, NodeEntry, is_below, item_of, entries_of, items_in}
use Rattle.boundaries.proofs.Above.{at_most_tested}
use Rattle.boundaries.proofs.AnsweredKeys.{some_pass}
use Rattle.boundaries.proofs.FirstKeys.{knows_child}
use Rattle.boundaries.proofs.Found.{entries_read}
use Rattle.boundaries.proofs.Frames.{IsRight}
use Rattle.boundaries.proofs.Halves.{before_index}
use Rattle.boundaries.proofs.Keys.{filter-items}
use Rattle.boundaries.proofs.LeafChange.{parted}
use Rattle.boundaries.proofs.Looks.{IsLook, can_step_at, child_is, child_reached, look_answers}
use Rattle.boundaries.proofs.Most.{least_kept, most_kept, most_leaf, most_children, most_append, most_passed}
use Rattle.boundaries.proofs.greatest_version.+greatest_to.Goals as goal
use Rattle.boundaries.proofs.greatest_version.+greatest_to.Goals.{After-step-step, After-index-entries-step}

pub step-step-requires : goal.step-step-requires
step-step-requires t c = search (rules, can_step_at c.args.store.now c.args.to.bound c.requires.to.searchable c.header_ref-node.ensures.header c.requires.to.known)

-- the bound of the node
module _ (t : ℕ) (c : After-step-step t) where
  abbrev p : ℕ → Bool
  p = is_below c.args.store.now.keys c.args.to.bound

  look : IsLook c.args.store.now.nodes HALF_FULL c.args.height c.args.slot p p c.entries-entries.result.now
      (length (filter (λ e. p e.key) c.entries-entries.result.now)) (length (filter (λ e. p e.key) c.entries-entries.result.now))
  look = record {
    subtree = c.requires.to.searchable.subtree;
    from = c.requires.to.searchable.partitioned;
    to = c.requires.to.searchable.partitioned;
    nested = λ key below. below;
    read = entries_read c.args.store.now.nodes c.args.slot c.header_ref-node.result.now _ c.header_ref-node.ensures.header
        c.entries-entries.ensures.entries;
    begin_is = refl;
    end_is = refl;
  }

pub returns-then-height-eq0 : goal.returns-then-height-eq0
returns-then-height-eq0 t c =
    let s = (goal.at.returns-then-height-eq0 t c).After-step-step in
    let es = c.entries-entries.result.now in
    let n = c.step-step.result.index + 1 in
    let below = p t s in
    let can = can_step_at c.args.store.now c.args.to.bound c.requires.to.searchable c.header_ref-node.ensures.header c.requires.to.known in
    let some = some_pass below (entries_of c.header_ref-node.result.now) can.can_find.some (λ e there. (can.known e there).0) in
    let count : n ≡ length (filter (λ e. below e.key) (entries_of c.header_ref-node.result.now)) =
    omega (arith, some, c.step-step.ensures.step.index_is) in
    let front = (parted below es n (rw (← c.entries-entries.ensures.entries) at can.can_find.partitioned)
    (rw (← c.entries-entries.ensures.entries) at count)).0 in
    let items : filter (λ x. below x.key) (items_in c.args.store.now.nodes c.args.height c.args.slot) ≡ map item_of (take n es) =
    ap (λ h. filter (λ (x : Item). below x.key) (items_in c.args.store.now.nodes h c.args.slot)) c.if-height-eq0.true
    ∙ ap (λ (l : List NodeEntry). filter (λ (x : Item). below x.key) (map item_of l)) (look t s).read
    ∙ filter-items (λ x. below x.key) es ∙ ap (map item_of) (sym front) in
    let fits : SFits w64 c.args.least = search rules in
    let kept : SFits w64 c.greatest_of.result = search rules in
    let leaf = most_leaf c.args.least c.greatest_of.result _ (least_kept fits c.greatest_of.ensures.most) in
    record { most = most_kept kept (rw items leaf) }

-- the child that the search goes on in
module _ (t : ℕ) (c : After-index-entries-step t) where
  abbrev at : After-step-step t
  at = (goal.at.After-index-entries-step t c).After-step-step

  abbrev entry : NodeEntry
  entry = c.index-entries-step.result

  within : c.step-step.result.index < length c.entries-entries.result.now
  within = omega (arith, c.step-step.ensures.step.within, ap length c.entries-entries.ensures.entries)

  there : slice_get (entries_of c.header_ref-node.result.now) c.step-step.result.index ≡ Some entry
  there = slice_get_read _ _ _ entry refl c.step-step.ensures.step.within
      (rw c.entries-entries.ensures.entries at c.index-entries-step.is)

  child : IsRight c.args.store.now.nodes HALF_FULL (c.args.height - 1) entry
  child = child_is _ _ _ _ _ _ _ _ _ (look t at) c.if-height-eq0.false _ entry within c.index-entries-step.is

  below : IsSought c.args.store.now (record { bound = c.args.to.bound; common_prefix_len = c.step-step.result.common_prefix_len })
      (c.args.height - 1) entry.child
  below = record {
    searchable = child_reached _ _ _ _ _ _ _ _ _ (look t at) c.if-height-eq0.false _ entry within c.index-entries-step.is
        c.requires.to.searchable (omega arith);
    known = knows_child _ _ _ _ entry.child _ (p t at) c.args.to.bound.key.now _ child refl (c.step-step.ensures.step.knows entry there);
  }

  -- the items before the child's, and its own
  items : filter (λ x. p t at x.key) (items_in c.args.store.now.nodes c.args.height c.args.slot)
      ≡ flat_map (λ e. items_in c.args.store.now.nodes (c.args.height - 1) e.child)
      (take c.step-step.result.index c.entries-entries.result.now)
      ++ filter (λ x. p t at x.key) (items_in c.args.store.now.nodes (c.args.height - 1) entry.child)
  items =
      let index_is = rw (← c.entries-entries.ensures.entries) at c.step-step.ensures.step.index_is in
      before_index _ _ _ _ _ _ _ _ _ (look t at) c.if-height-eq0.false (p t at) c.requires.to.searchable.partitioned _ index_is entry
      within c.index-entries-step.is (c.step-step.ensures.step.knows entry there).0

  sooner : IsMost item_version c.args.least (flat_map (λ e. items_in c.args.store.now.nodes (c.args.height - 1) e.child)
      (take c.step-step.result.index c.entries-entries.result.now)) c.greatest_of-most.result
  sooner =
      let es = c.entries-entries.result.now in
      let n = c.step-step.result.index in
      let tell = All-take (λ e. Describes e (items_in c.args.store.now.nodes (c.args.height - 1) e.child)) n es
      (look_answers _ _ _ _ _ _ _ _ _ (look t at) c.if-height-eq0.false) in
      let fits : SFits w64 c.args.least = search rules in
      most_children c.args.least c.greatest_of-most.result _ (take n es) tell
      (least_kept fits c.greatest_of-most.ensures.most)

pub greatest_to-requires : goal.greatest_to-requires
greatest_to-requires t c =
    (search rules, rw c.new-to.ensures.sought (below t (goal.at.greatest_to-requires t c).After-index-entries-step))

pub returns-then-entry-most : goal.returns-then-entry-most
returns-then-entry-most t c =
    let s = (goal.at.returns-then-entry-most t c).After-index-entries-step in
    let le : entry.version ≤ℤ most = at_most_tested entry.version most (search rules) (search rules) c.if-entry-most.true in
    let fits : SFits w64 most = search rules in
    let passed = most_passed most entry _ 0 (λ (x : Item). p t (at t s) x.key) (child t s).describes le in
    record { most = most_kept fits (rw (items t s) (most_append c.args.least most most _ _ (sooner t s) passed)) }
  where
    open c use {index-entries-step.{result as entry}, greatest_of-most.{result as most}}

pub returns : goal.returns
returns t c =
    let s = (goal.at.returns t c).After-index-entries-step in
    let fits : SFits w64 c.greatest_of-most.result = search rules in
    let below = least_kept fits (rw c.new-to.ensures.sought at c.greatest_to.ensures.most) in
    let kept : SFits w64 c.greatest_to.result = search rules in
    record { most = most_kept kept (rw (items t s) (most_append c.args.least _ _ _ _ (sooner t s) below)) }
