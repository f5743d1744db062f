use Rattle.std.proofs.Common.{◌≡◌, ◌<◌, Some, length, slice_get, refl, arith}
use Rattle.std.proofs.lemmas.Option.{slice_get_read}
use Rattle.keys.proofs.callers.Lists.{some_at}
use Rattle.replay_explanations.proofs.Found.{lines_next}
use Rattle.replay_explanations.proofs.batch_lines.put_lines.Goals as goal

pub loop-txn-preserved : goal.loop-txn-preserved
loop-txn-preserved c =
    let h = c.args.history.now in
    let b = c.args.batch.now in
    let entries = c.args.entries.now in
    let n = c.loop-txn.txn in
    let e = c.index-entries-txn.result in
    let within : n < length entries = omega arith in
    let inside : n < length b.txns = omega (arith, within, c.requires.entries) in
    let found = some_at b.txns n inside in
    let at_e : slice_get entries n ≡ Some e = slice_get_read entries (length entries) n e refl within c.index-entries-txn.is in
    lines_next c.args.form h.window h.kept b b.txns entries n found.0 e _ _ _ found.1 at_e c.loop-txn.invariant
    (c.in_ok-put_txn.ensures.text found.0 found.1)
