use Rattle.std.proofs.Common.{◌≡◌, ◌<◌, ◌++◌, List, Some, get_or, length, slice_get, take, subst, arith}
use Rattle.std.proofs.lemmas.Option.{slice_get-get_or}
use Rattle.keys.proofs.callers.Lists.{some_at}
use Rattle.replay_hot_ranges.specs.Conflicts.{InConflict, rejected_from}
use Rattle.replay_hot_ranges.specs.RangeTally.{AreTallies}
use Rattle.replay_hot_ranges.proofs.Adding.{rejected_more}
use Rattle.replay_hot_ranges.proofs.conflict_counts.Tallies.add_txns.Goals as goal

pub loop-txn-preserved : goal.loop-txn-preserved
loop-txn-preserved c = λ txns before.
    let kept = c.args.history.now.kept in
    let b = c.args.batch.now in
    let entries = c.args.entries.now in
    let n = c.loop-txn.txn in
    let within : n < length entries = omega arith in
    let inside : n < length b.txns = omega (arith, within, c.requires.entries) in
    let found = some_at b.txns n inside in
    let e = get_or entries n c.index-entries-txn.result in
    let at_e : slice_get entries n ≡ Some e = slice_get-get_or entries n c.index-entries-txn.result within in
    subst (λ (all : List (List InConflict)). AreTallies all c.add_txn.new.self)
    (rejected_more txns kept b b.txns entries n found.0 e found.1 at_e)
    (c.in_ok-add_txn.ensures.added found.0 (txns ++ rejected_from kept b 0 (take n b.txns) (take n entries)) found.1
    (c.loop-txn.invariant txns before))
