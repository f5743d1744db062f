use Rattle.std.proofs.Common.{◌≡◌, ◌<◌, List, Some, length, slice_get, take, sym, ap, subst, ◌∙◌, arith}
use Rattle.std.proofs.lemmas.List.{take_all}
use Rattle.keys.specs.declared.range.Range.{Range}
use Rattle.keys.proofs.callers.Lists.{some_at}
use Rattle.std.specs.List.{flat_map}
use Rattle.replay_hot_ranges.specs.Conflicts.{InConflict, conflict_of}
use Rattle.replay_hot_ranges.specs.RangeTally.{AreTalliesWith}
use Rattle.replay_hot_ranges.proofs.Adding.{conflicts_more}
use Rattle.replay_hot_ranges.proofs.conflict_counts.Tallies.add_reads.Goals as goal

pub loop-read-preserved : goal.loop-read-preserved
loop-read-preserved c = λ t txns at same before.
    let kept = c.args.history.now.kept in
    let b = c.args.batch.now in
    let i = c.loop-read.read in
    let within : i < length c.args.reads.now = omega arith in
    let found = some_at c.args.reads.now i within in
    let read : slice_get t.reads i ≡ Some found.0 = ap (λ (rs : List Range). slice_get rs i) (sym same) ∙ found.1 in
    subst (λ (cs : List InConflict). AreTalliesWith txns cs c.add_read.new.self)
    (conflicts_more kept b c.args.txn i t found.0 c.requires.newest at read)
    (c.in_ok-add_read.ensures.added found.0 txns (flat_map (conflict_of kept b c.args.txn t) (take i t.reads)) found.1
    (c.loop-read.invariant t txns at same before))

pub returns : goal.returns
returns c = record {
  added = λ t txns at same before.
      let entire : take c.loop-read.read t.reads ≡ t.reads =
      take_all c.loop-read.read t.reads (let len = ap (λ (rs : List Range). length rs) same in omega arith) in
      subst (λ (rs : List Range). AreTalliesWith txns (flat_map (conflict_of c.args.history.now.kept c.args.batch.now c.args.txn t) rs) c.loop-read.self)
      entire (c.loop-read.invariant t txns at same before);
}
