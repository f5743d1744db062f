use Rattle.std.proofs.Common.{rules, SFits, w64}
use Rattle.std.proofs.lemmas.Int.{to_z-of_z}
use Rattle.boundaries.proofs.Greatest.{greatest-next}
use Rattle.boundaries.proofs.Words.{version_of, entries_of}
use Rattle.boundaries.proofs.node.Node.greatest.Goals as goal

pub loop-entry-preserved : goal.loop-entry-preserved
loop-entry-preserved c =
    let e = c.entry-item.result in
    let new = c.max-greatest.result in
    let fits : SFits w64 e.version = search rules in
    let max = simp to_z-of_z at c.max-greatest.ensures in
    rw (to_z-of_z w64 new (search rules)) (greatest-next version_of (entries_of c.args.self.now) c.entries.result.now
    c.loop-entry.entry-index e _ new c.entries.ensures.entries c.loop-entry-test.true c.entry-item.is c.loop-entry.invariant
    max.value max.self_bound max.other_bound)
