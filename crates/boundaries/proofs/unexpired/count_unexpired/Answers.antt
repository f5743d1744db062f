use Rattle.std.proofs.Common.{rules, ◌+◌, ◌<◌, ◌≤◌, ◌^◌, [], length, ap, arith, w64}
use Rattle.std.proofs.lemmas.Int.{to_z-of_z}
use Rattle.boundaries.proofs.Words.{entries_at, items_from, unexpired_items}
use Rattle.boundaries.proofs.StillCounted.{items_of_root}
use Rattle.boundaries.proofs.unexpired.count_unexpired.Goals as goal

pub count_in-requires : goal.count_in-requires
count_in-requires c =
    let nodes = c.args.store.now.nodes in
    let items = ap length (items_of_root nodes c.args.root.height c.args.root.slot) in
    let within : 0 ≤ length (entries_at nodes c.args.root.slot) = omega arith in
    let few : 0 + length (items_from nodes c.args.root.height (entries_at nodes c.args.root.slot)) < 2 ^ 64 =
    omega (arith, items, c.requires.few) in
    search (rules, c.requires.subtree, within, few)

pub returns : goal.returns
returns c =
    let edge = to_z-of_z w64 c.args.edge c.ranges.edge in
    let items = ap (λ xs. length (unexpired_items c.args.edge c.args.edge xs))
    (items_of_root c.args.store.now.nodes c.args.root.height c.args.root.slot) in
    omega (arith, items, (rw edge at c.count_in.ensures.counted.count))
