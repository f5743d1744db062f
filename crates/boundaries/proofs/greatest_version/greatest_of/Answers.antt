use Rattle.std.proofs.Common.{rules, arith, SFits, w64, take_all}
use Rattle.std.proofs.lemmas.Int.{to_z-of_z}
use Rattle.boundaries.proofs.Most.{least_kept, most_next}
use Rattle.boundaries.proofs.Words.{version_of}
use Rattle.boundaries.proofs.greatest_version.greatest_of.Goals as goal

pub loop-entry-preserved : goal.loop-entry-preserved
loop-entry-preserved c =
    let e = c.entry-item.result in
    let new = c.max-most.result in
    let fits : SFits w64 e.version = search rules in
    let max = simp (to_z-of_z, c.loop-entry.most-is) at c.max-most.ensures in
    let before = rw c.loop-entry.most-is at c.loop-entry.invariant in
    rw (to_z-of_z w64 new (search rules)) (most_next version_of _ c.args.entries.now c.loop-entry.entry-index e
    c.loop-entry.most new c.loop-entry-test.true c.entry-item.is before max.value max.self_bound max.other_bound)

pub returns : goal.returns
returns c =
    let fits : SFits w64 c.args.least = search rules in
    let all = take_all c.loop-entry.entry-index c.args.entries.now (omega (arith, c.loop-entry-test.false)) in
    record { most = least_kept fits (rw all at c.loop-entry.invariant) }
