use Rattle.std.proofs.Common.{◌≡◌, ◌<◌, List, ◌++◌, length, Some, map, get_or, slice_get, w64, SFits, to_z, of_z, refl, subst, arith, rules}
use Rattle.std.specs.List.{zip}
use Rattle.std.proofs.lemmas.Int.{to_z-of_z}
use Rattle.std.proofs.lemmas.Option.{slice_get_read}
use Rattle.keyspace.specs.declared.reply.Entry.{Entry}
use Rattle.keyspace.specs.declared.txn.Txn.{Txn}
use Rattle.batches_report.specs.JudgedTxns.{JudgedTxn, judged_with}
use Rattle.batches_report.specs.Tallied.{Counts}
use Rattle.batches_report.proofs.Counting.{batch_more, pairs_all}
use Rattle.batches_report.proofs.txn_tally.TxnTally.add_batch.Goals as goal

pub loop-index-preserved : goal.loop-index-preserved
loop-index-preserved c =
    let b = c.args.batch.now in
    let es = c.args.reply.now.entries in
    let i = c.loop-index.index in
    let e = c.index-entries-index.result in
    let fits : SFits w64 b.version = search rules in
    let same = to_z-of_z w64 b.version fits in
    let inside : i < length es = omega (arith, c.loop-index-test.true, c.len-index-end.ensures.count, c.requires.fits) in
    let at_e : slice_get es i ≡ Some e =
    slice_get_read es (length es) i e refl inside
    (subst (λ (xs : List Entry). e ≡ get_or xs i e) c.as_slice-entries.ensures.items c.index-entries-index.is) in
    λ js before.
    subst (λ (all : List JudgedTxn). Counts all c.add.new.self)
    (batch_more b.version _ b.txns es i c.txn-txn.result e js same c.txn-txn.ensures.txn at_e)
    (c.in_ok-add.ensures.added _ (c.loop-index.invariant js before))

pub returns : goal.returns
returns c =
    let b = c.args.batch.now in
    let es = c.args.reply.now.entries in
    let i = c.loop-index.index in
    let txns : length b.txns ≡ i = omega (arith, c.loop-index-test.false, c.loop-index.auto.index-end, c.len-index-end.ensures.count) in
    let entries : length es ≡ i = omega (arith, c.requires.fits, txns) in record {
      added = λ js before.
          subst (λ (pairs : List (Txn × Entry)). Counts (js ++ map (judged_with b.version) pairs) c.loop-index.self)
          (pairs_all b.txns es i txns entries) (c.loop-index.invariant js before);
    }
