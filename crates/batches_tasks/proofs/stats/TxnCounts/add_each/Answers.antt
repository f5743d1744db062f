use Rattle.std.proofs.Common.{◌∷◌, [], ◌++◌, take, ap, sym, ◌∙◌, append_assoc, arith}
use Rattle.std.proofs.lemmas.List.{take_all}
use Rattle.wire.proofs.callers.Lists.{one_more}
use Rattle.batches_tasks.specs.Stats.{txn_counts_of}
use Rattle.batches_tasks.proofs.stats.TxnCounts.add_each.Goals as goal

pub loop-index-preserved : goal.loop-index-preserved
loop-index-preserved c before from =
    let ts = c.args.txns.now in
    let i = c.loop-index.index in
    let t = c.txn.result in
    rw (one_more ts i t c.txn.ensures.txn)
    (c.in_ok-add.ensures.added (before ++ take i ts) (c.loop-index.invariant before from)
    ∙ ap txn_counts_of (append_assoc before (take i ts) (t ∷ [])))

pub returns : goal.returns
returns c = record {
  added = λ before from.
      let ts = c.args.txns.now in
      let i = c.loop-index.index in
      c.loop-index.invariant before from
      ∙ ap (λ some. txn_counts_of (before ++ some)) (take_all i ts (omega (arith, c.loop-index-test.false, c.len-index-end.ensures.count)));
}
