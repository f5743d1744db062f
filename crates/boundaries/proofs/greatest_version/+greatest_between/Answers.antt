use Rattle.std.proofs.Common.{rules, ◌≡◌, ℕ, Bool, ◌+◌, ◌-◌, ◌≤◌, ◌≤ℤ◌, ℤ, true, length, filter, slice_get, Some, refl, subst, SFits, w64, to_z, arith}
use Rattle.std.proofs.lemmas.Int.{ints}
use Rattle.std.proofs.lemmas.Option.{slice_get_read}
use Rattle.boundaries.specs.Greatest.{IsSought}
use Rattle.boundaries.specs.Item.{IsMost, item_version}
use Rattle.boundaries.proofs.Words.{HALF_FULL, Item, is_below, entries_of, items_in}
use Rattle.boundaries.proofs.Above.{at_most_tested}
use Rattle.boundaries.proofs.AnsweredKeys.{some_pass}
use Rattle.boundaries.proofs.FirstKeys.{knows_child}
use Rattle.boundaries.proofs.Found.{entries_read}
use Rattle.boundaries.proofs.Looks.{IsLook, can_step_at, look_ordered, leaf_from_last}
use Rattle.boundaries.proofs.FromLast.{from_last_of}
use Rattle.boundaries.proofs.Halves.{AreHalves, p, q, left_items, right_items, middle_items, left_from_last, right_before, left_is, right_is, middle_describes, left_reached, right_reached, apart, in_one, in_two}
use Rattle.boundaries.proofs.Most.{least_kept, most_kept, most_leaf, most_children, most_of_three, most_passed}
use Rattle.boundaries.proofs.greatest_version.+greatest_between.Goals as goal
use Rattle.boundaries.proofs.greatest_version.+greatest_between.Goals.{After-step-last, After-index-entries-last, Joined-left-most, then-left-most, else-left-most}

pub step-first-requires : goal.step-first-requires
step-first-requires t c = search (rules, can_step_at c.args.store.now c.args.from.bound c.requires.from.searchable c.header_ref-node.ensures.header c.requires.from.known)

pub step-last-requires : goal.step-last-requires
step-last-requires t c = search (rules, can_step_at c.args.store.now c.args.to.bound c.requires.to.searchable c.header_ref-node.ensures.header c.requires.to.known)

-- the two bounds of the node
module _ (t : ℕ) (c : After-step-last t) where
  abbrev f : ℕ → Bool
  f = is_below c.args.store.now.keys c.args.from.bound

  abbrev u : ℕ → Bool
  u = is_below c.args.store.now.keys c.args.to.bound

  look : IsLook c.args.store.now.nodes HALF_FULL c.args.height c.args.slot f u c.entries-entries.result.now
      (length (filter (λ e. f e.key) (entries_of c.header_ref-node.result.now)))
      (length (filter (λ e. u e.key) (entries_of c.header_ref-node.result.now)))
  look = record {
    subtree = c.requires.from.searchable.subtree;
    from = c.requires.from.searchable.partitioned;
    to = c.requires.to.searchable.partitioned;
    nested = c.requires.nested;
    read = entries_read c.args.store.now.nodes c.args.slot c.header_ref-node.result.now _ c.header_ref-node.ensures.header
        c.entries-entries.ensures.entries;
    begin_is = rw c.entries-entries.ensures.entries refl;
    end_is = rw c.entries-entries.ensures.entries refl;
  }

  -- the last entry below the second bound is the last of those that are looked at
  end_is : c.step-last.result.index + 1 ≡ length (filter (λ e. u e.key) (entries_of c.header_ref-node.result.now))
  end_is =
      let can = can_step_at c.args.store.now c.args.to.bound c.requires.to.searchable c.header_ref-node.ensures.header c.requires.to.known in
      let some = some_pass u (entries_of c.header_ref-node.result.now) can.can_find.some (λ e there. (can.known e there).0) in
      omega (arith, some, c.step-last.ensures.step.index_is)

  ordered : c.step-first.result.index ≤ c.step-last.result.index
  ordered = omega (arith, look_ordered _ _ _ _ _ _ _ _ _ look, c.step-first.ensures.step.index_is, c.step-last.ensures.step.index_is)

pub slice_bounds-greatest_of-count : goal.slice_bounds-greatest_of-count
slice_bounds-greatest_of-count t c =
    omega (arith, ordered t (goal.at.slice_bounds-greatest_of-count t c).After-step-last)

pub slice_bounds-greatest_of-start : goal.slice_bounds-greatest_of-start
slice_bounds-greatest_of-start t c =
    omega (arith, ordered t (goal.at.slice_bounds-greatest_of-start t c).After-step-last)

pub returns-then-height-eq0 : goal.returns-then-height-eq0
returns-then-height-eq0 t c =
    let s = (goal.at.returns-then-height-eq0 t c).After-step-last in
    let items = leaf_from_last _ _ _ _ _ _ _ _ _ (look t s) c.if-height-eq0.true c.step-first.result.index c.step-first.ensures.step.index_is in
    let fits : SFits w64 c.args.least = search rules in
    let leaf = most_leaf c.args.least c.greatest_of.result _ (least_kept fits c.greatest_of.ensures.most) in
    let kept : SFits w64 c.greatest_of.result = search rules in
    record { most = most_kept kept (rw (items, ← end_is t s) leaf) }

-- the two children that the search goes on in
module _ (t : ℕ) (c : After-index-entries-last t) where
  abbrev at : After-step-last t
  at = (goal.at.After-index-entries-last t c).After-step-last

  abbrev halves : AreHalves c.args.store.now.nodes HALF_FULL c.args.height c.args.slot (f t at) (u t at)
  halves = record {
    es = c.entries-entries.result.now;
    begin = length (filter (λ e. f t at e.key) (entries_of c.header_ref-node.result.now));
    end = length (filter (λ e. u t at e.key) (entries_of c.header_ref-node.result.now));
    look = look t at;
    some = c.if-height-eq0.false;
    first = c.step-first.result.index;
    last = c.step-last.result.index;
    first_is = c.step-first.ensures.step.index_is;
    last_is = c.step-last.ensures.step.index_is;
    left = c.index-entries-first.result;
    right = c.index-entries-last.result;
    left_at = c.index-entries-first.is;
    right_at = c.index-entries-last.is;
  }

  left_there : slice_get (entries_of c.header_ref-node.result.now) c.step-first.result.index ≡ Some c.index-entries-first.result
  left_there = slice_get_read _ _ _ c.index-entries-first.result refl c.step-first.ensures.step.within
      (rw c.entries-entries.ensures.entries at c.index-entries-first.is)

  right_there : slice_get (entries_of c.header_ref-node.result.now) c.step-last.result.index ≡ Some c.index-entries-last.result
  right_there = slice_get_read _ _ _ c.index-entries-last.result refl c.step-last.ensures.step.within
      (rw c.entries-entries.ensures.entries at c.index-entries-last.is)

  -- what the searches in them ask
  left_from : IsSought c.args.store.now (record { bound = c.args.from.bound; common_prefix_len = c.step-first.result.common_prefix_len })
      (c.args.height - 1) c.index-entries-first.result.child
  left_from = record {
    searchable = left_reached halves c.requires.from.searchable (omega arith);
    known = knows_child _ _ _ _ c.index-entries-first.result.child _ (f t at) c.args.from.bound.key.now _ (left_is halves) refl
        (c.step-first.ensures.step.knows c.index-entries-first.result left_there);
  }

  left_to : c.step-first.result.index ≡ c.step-last.result.index
      → IsSought c.args.store.now (record { bound = c.args.to.bound; common_prefix_len = c.step-last.result.common_prefix_len })
      (c.args.height - 1) c.index-entries-first.result.child
  left_to same = record {
    searchable = left_reached halves c.requires.to.searchable (omega arith);
    known = knows_child _ _ _ _ c.index-entries-first.result.child _ (u t at) c.args.to.bound.key.now _ (left_is halves) refl
        (c.step-last.ensures.step.knows c.index-entries-first.result (subst (λ i. slice_get (entries_of c.header_ref-node.result.now) i ≡ Some c.index-entries-first.result) same left_there));
  }

  right_to : IsSought c.args.store.now (record { bound = c.args.to.bound; common_prefix_len = c.step-last.result.common_prefix_len })
      (c.args.height - 1) c.index-entries-last.result.child
  right_to = record {
    searchable = right_reached halves c.requires.to.searchable (omega arith);
    known = knows_child _ _ _ _ c.index-entries-last.result.child _ (u t at) c.args.to.bound.key.now _ (right_is halves) refl
        (c.step-last.ensures.step.knows c.index-entries-last.result right_there);
  }

pub greatest_between-requires : goal.greatest_between-requires
greatest_between-requires t c =
    let s = (goal.at.greatest_between-requires t c).After-index-entries-last in (
      search rules,
      rw (c.new-from.ensures.sought, c.new-to.ensures.sought)
          (left_from t s, (left_to t s c.if-first-last.true, c.requires.nested)),
    )

pub slice_bounds-greatest_of-count-2 : goal.slice_bounds-greatest_of-count-2
slice_bounds-greatest_of-count-2 t c =
    (apart (halves t (goal.at.slice_bounds-greatest_of-count-2 t c).After-index-entries-last) c.if-first-last.false).0

pub slice_bounds-greatest_of-start-2 : goal.slice_bounds-greatest_of-start-2
slice_bounds-greatest_of-start-2 t c =
    (apart (halves t (goal.at.slice_bounds-greatest_of-start-2 t c).After-index-entries-last) c.if-first-last.false).0

pub greatest_from-most-requires : goal.greatest_from-most-requires
greatest_from-most-requires t c =
    let s = (goal.at.greatest_from-most-requires t c).After-index-entries-last in
    record { from = rw c.new-from.ensures.sought (left_from t s) }

pub greatest_to-most-requires : goal.greatest_to-most-requires
greatest_to-most-requires t c =
    let s = (goal.at.greatest_to-most-requires t c).After-index-entries-last in
    record { to = rw c.new-to.ensures.sought (right_to t s) }

pub returns-then-left-least : goal.returns-then-left-least
returns-then-left-least t c =
    let s = (goal.at.returns-then-left-least t c).After-index-entries-last in
    let h = halves t s in
    let le = at_most_tested c.index-entries-first.result.version c.args.least (search rules) (search rules) c.if-left-least.true in
    let fits : SFits w64 c.args.least = search rules in
    let passed = most_passed c.args.least _ (left_items h) _ _ (left_is h).describes le in
    record { most = most_kept fits (rw (in_one h c.if-first-last.true) passed) }

pub returns-then-first-last : goal.returns-then-first-last
returns-then-first-last t c =
    let h = halves t (goal.at.returns-then-first-last t c).After-index-entries-last in
    let most = rw (c.new-from.ensures.sought, c.new-to.ensures.sought) at c.greatest_between.ensures.most in
    let fits : SFits w64 c.args.least = search rules in
    let kept : SFits w64 c.greatest_between.result = search rules in
    record { most = most_kept kept (rw (in_one h c.if-first-last.true) (least_kept fits most)) }

-- the greatest version once the left child is looked at, too
sooner : (t : ℕ) (c : Joined-left-most t) → (let h = halves t (goal.at.Joined-left-most t c).After-index-entries-last in
    IsMost item_version c.greatest_of-most.result (left_from_last h) c.if-left-most.most)
sooner t c =
    let h = halves t (goal.at.Joined-left-most t c).After-index-entries-last in
    let fits : SFits w64 c.greatest_of-most.result = search rules in
    rw (← c.if-left-most.most-is) (elim c.if-left-most.branch [
      | then-left-most w ↦
          let kept : SFits w64 w.greatest_from-most.result = search rules in
          rw w.most-is (most_kept kept (least_kept fits (rw c.new-from.ensures.sought at w.greatest_from-most.ensures.most)))
      | else-left-most w ↦
          let le : c.index-entries-first.result.version ≤ℤ c.greatest_of-most.result = grind (arith, ints, w.if-left-most.false) in
          rw w.most-is (most_kept fits (most_passed _ _ (left_items h) _ (λ (x : Item). true) (left_is h).describes le))
    ])

-- all parts, by what is told of the right child
entire : (t : ℕ) (c : Joined-left-most t) (most : ℤ) → (let h = halves t (goal.at.Joined-left-most t c).After-index-entries-last in
    IsMost item_version c.if-left-most.most (right_before h) most
    → IsMost item_version c.args.least (from_last_of (p h) (q h) (items_in c.args.store.now.nodes c.args.height c.args.slot)) most)
entire t c most later =
    let h = halves t (goal.at.Joined-left-most t c).After-index-entries-last in
    let fits : SFits w64 c.args.least = search rules in
    let middle = most_children c.args.least _ _ _ (middle_describes h) (least_kept fits c.greatest_of-most.ensures.most) in
    most_of_three _ _ _ _ _ (left_from_last h) (middle_items h) (right_before h) (in_two h c.if-first-last.false) middle
    (sooner t c) later

pub returns-then-right-most : goal.returns-then-right-most
returns-then-right-most t c =
    let at = (goal.at.returns-then-right-most t c).Joined-left-most in
    let h = halves t (goal.at.returns-then-right-most t c).After-index-entries-last in
    let later : IsMost item_version (to_z w64 c.if-left-most.most-bits) (right_before h) c.greatest_to-most.result =
    rw c.new-to.ensures.sought at c.greatest_to-most.ensures.most in
    let kept : SFits w64 c.greatest_to-most.result = search rules in
    record { most = most_kept kept (entire t at _ (rw c.if-left-most.most-is at later)) }

pub returns-else-right-most : goal.returns-else-right-most
returns-else-right-most t c =
    let at = (goal.at.returns-else-right-most t c).Joined-left-most in
    let h = halves t (goal.at.returns-else-right-most t c).After-index-entries-last in
    let le : c.index-entries-last.result.version ≤ℤ c.if-left-most.most = grind (arith, ints, c.if-right-most.false) in
    record { most = rw c.if-left-most.most-is (entire t at _ (most_passed _ _ (right_items h) 0 _ (right_is h).describes le)) }
