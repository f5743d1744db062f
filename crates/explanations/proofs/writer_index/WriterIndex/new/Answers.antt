use Rattle.std.proofs.Common.{◌≡◌, ◌<◌, ◌≤◌, Some, length, slice_get, refl, sym, subst, arith}
use Rattle.std.proofs.lemmas.Option.{slice_get_read}
use Rattle.keys.proofs.callers.Lists.{some_at}
use Rattle.keyspace.specs.Writes.{counted_ranges}
use Rattle.keyspace.specs.declared.reply.Entry.{Entry}
use Rattle.explanations.specs.Writers.{AddsWrites}
use Rattle.explanations.proofs.Indexing.{index_more, index_sorted}
use Rattle.explanations.proofs.writer_index.WriterIndex.new.Goals as goal

pub loop-txn-preserved : goal.loop-txn-preserved
loop-txn-preserved c =
    let ts = c.args.txns.now in
    let es = c.args.entries.now in
    let n = c.loop-txn.txn in
    let e = c.index-entries-txn.result in
    let inside : n < length ts = omega (arith, c.loop-txn-test.true, c.len-txn-end.ensures.count) in
    let within : n < length es = omega (arith, inside, c.requires.entries) in
    let t = some_at ts n inside in
    let at_e : slice_get es n ≡ Some e = slice_get_read es (length es) n e refl within c.index-entries-txn.is in
    let adds : AddsWrites c.loop-txn.index c.add.new.self n (counted_ranges e.verdict t.0.writes) =
    subst (λ (x : Entry). AddsWrites c.loop-txn.index c.add.new.self n (counted_ranges x.verdict t.0.writes)) (sym c.index-entries-txn.is)
    (c.in_ok-add.ensures.adds t.0 t.1) in
    index_more c.loop-txn.index c.add.new.self n ts es t.0 e c.loop-txn.invariant adds inside t.1 at_e

pub returns : goal.returns
returns c =
    let ts = c.args.txns.now in
    let past : length ts ≤ c.loop-txn.txn = omega (arith, c.loop-txn-test.false, c.len-txn-end.ensures.count) in
    record {
      index =
          index_sorted _ _ c.loop-txn.txn ts c.args.entries.now c.loop-txn.invariant past c.sort_unstable.ensures.permutation
          c.sort_unstable.ensures.sorted refl;
    }
