use Rattle.std.proofs.Common.{rules, w64, ◌∷◌, ◌+◌, [], map, drop, arith}
use Rattle.std.proofs.lemmas.Int.{to_z-of_z}
use Rattle.std.proofs.lemmas.List.{drop_all, length-map, length-drop}
use Rattle.boundaries.proofs.Words.{item_of}
use Rattle.boundaries.proofs.StillCounted.{none_counted, more_counted, all_counted, next_entry}
use Rattle.boundaries.proofs.unexpired.count_entries.Goals as goal

pub loop-entry-init : goal.loop-entry-init
loop-entry-init c = none_counted _ _ _

pub after-counted-requires : goal.after-counted-requires
after-counted-requires c =
    let es = c.args.entries.now in
    let rest = drop c.loop-entry.entry-index es in
    omega (
      arith,
      c.requires.few,
      c.loop-entry.invariant.few,
      length-map es item_of,
      length-map rest item_of,
      length-drop c.loop-entry.entry-index es,
      c.loop-entry-test.true,
    )

pub loop-entry-preserved : goal.loop-entry-preserved
loop-entry-preserved c =
    let es = c.args.entries.now in
    let index = c.loop-entry.entry-index in
    let e = c.entry-item.result in
    let next = next_entry es index e c.loop-entry-test.true c.entry-item.is in
    more_counted _ _ _ c.loop-entry.counted c.after-counted.result (item_of e ∷ []) (map item_of (drop (index + 1) es))
    (rw next at c.loop-entry.invariant) (rw (to_z-of_z w64 e.version (search rules)) at c.after-counted.ensures.counted e.key)

pub returns : goal.returns
returns c =
    let none = drop_all c.loop-entry.entry-index c.args.entries.now (omega (arith, c.loop-entry-test.false)) in
    record { counted = all_counted _ _ _ _ (rw (none, to_z-of_z w64 c.args.edge c.ranges.edge) at c.loop-entry.invariant) }
