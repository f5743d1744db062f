use Rattle.std.proofs.Common.{rules, w64, ◌≡◌, ℕ, ◌+◌, ◌-◌, ◌*◌, ◌<◌, ◌≤◌, ◌^◌, ◌++◌, List, drop, length, sym, ap, ap₂, subst, ◌∙◌, arith, get_or}
use Rattle.std.proofs.lemmas.Int.{to_z-of_z}
use Rattle.std.proofs.lemmas.List.{length-append}
use Rattle.boundaries.proofs.Words.{Arena, FAN_OUT, HALF_FULL, Node, NodeEntry, Item, IsCounted, items_from, entries_at}
use Rattle.boundaries.proofs.Placing.{entries_from_header}
use Rattle.boundaries.proofs.StillCounted.{both_counted, fewer_counted, items_of_root, next_items, children_are, steps_down}
use Rattle.boundaries.proofs.unexpired.+count_in.Goals as goal
use Rattle.boundaries.proofs.unexpired.+count_in.Goals.{After-index-entries-index}

module _ (t : ℕ) (c : After-index-entries-index t) where
  abbrev nodes : Arena Node
  nodes = c.args.store.now.nodes

  -- the entries that were read
  read : entries_at nodes c.args.slot ≡ c.entries-entries.result.now
  read = entries_from_header nodes c.args.slot _ c.header_ref.ensures.header ∙ sym c.entries-entries.ensures.entries

  inside : c.args.index < length c.entries-entries.result.now
  inside = omega (arith, c.if-index-entries.false, c.requires.within, ap length read)

  -- that of the child
  abbrev here : NodeEntry
  here = get_or c.entries-entries.result.now c.args.index c.index-entries-index.result

  -- the items of the child, and those behind it
  abbrev below : List Item
  below = items_from nodes (c.args.height - 1) (entries_at nodes here.child)

  abbrev following : List Item
  following = items_from nodes c.args.height (drop (c.args.index + 1) (entries_at nodes c.args.slot))

  parted : items_from nodes c.args.height (drop c.args.index (entries_at nodes c.args.slot)) ≡ below ++ following
  parted =
      ap (λ es. items_from nodes c.args.height (drop c.args.index es)) read
      ∙ next_items nodes c.args.height c.entries-entries.result.now c.args.index c.index-entries-index.result
      c.if-height-eq0.false inside
      ∙ ap₂ (λ xs ys. xs ++ ys) (items_of_root nodes (c.args.height - 1) here.child)
      (ap (λ es. items_from nodes c.args.height (drop (c.args.index + 1) es)) (sym read))

  few : c.args.before.count + (length below + length following) < 2 ^ 64
  few = omega (arith, c.requires.few, ap length parted, length-append below following)

pub count_in-counted-requires : goal.count_in-counted-requires
count_in-counted-requires t c =
    let at = (goal.at.count_in-counted-requires t c).After-index-entries-index in
    let children = children_are c.args.store.now.nodes HALF_FULL c.args.height c.args.slot c.if-height-eq0.false c.requires.subtree in
    let child = (rw (read t at) at children) c.args.index c.index-entries-index.result (inside t at) in
    let down = steps_down c.args.height FAN_OUT c.args.index c.if-height-eq0.false in
    let falls : (c.args.height - 1) * (FAN_OUT + 1) + (FAN_OUT - 0) < t = omega (arith, down) in
    let enough : c.args.before.count + length (below t at) < 2 ^ 64 = omega (arith, few t at) in
    search (rules, falls, child.subtree, enough)

pub count_in-requires : goal.count_in-requires
count_in-requires t c =
    let at = (goal.at.count_in-requires t c).After-index-entries-index in
    let falls : c.args.height * (FAN_OUT + 1) + (FAN_OUT - (c.args.index + 1)) < t =
    omega (arith, inside t at, c.entries-entries.ensures.most, ap length c.entries-entries.ensures.entries) in
    let inside_too : c.args.index + 1 ≤ length (entries_at c.args.store.now.nodes c.args.slot) =
    omega (arith, inside t at, ap length (read t at)) in
    let fewer = fewer_counted _ c.args.before c.count_in-counted.result (below t at) c.count_in-counted.ensures.counted in
    let enough : c.count_in-counted.result.count + length (following t at) < 2 ^ 64 = omega (arith, few t at, fewer) in
    (falls, search (rules, inside_too, enough))

pub returns : goal.returns
returns t c =
    let at = (goal.at.returns t c).After-index-entries-index in
    let edge = to_z-of_z w64 c.args.edge c.ranges.edge in
    let both = both_counted c.args.edge c.args.before c.count_in-counted.result c.count_in.result (below t at)
    (following t at) (rw edge at c.count_in-counted.ensures.counted) (rw edge at c.count_in.ensures.counted) in
    record { counted = subst (λ items. IsCounted c.args.edge c.args.before items c.count_in.result) (sym (parted t at)) both }
