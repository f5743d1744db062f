use Rattle.std.proofs.Common.{arith, ap}
use Rattle.std.proofs.lemmas.Option.{slice_get_within, get_or_from_slice_get}
use Rattle.std.proofs.lemmas.List.Sums.{sum_by_more}
use Rattle.archcaraway_c.specs.Bound.{most_entry_length}
use Rattle.archcaraway_c.proofs.bound.most_entries_length.Goals as goal

pub loop-index-preserved : goal.loop-index-preserved
loop-index-preserved c =
    let txns = c.args.txns.now in
    let i = c.loop-index.index in
    let t = c.txn.result in
    let within = slice_get_within txns i t c.txn.ensures.txn in
    let same = ap most_entry_length (get_or_from_slice_get txns i t t c.txn.ensures.txn) in (
      omega (
        arith,
        sum_by_more most_entry_length txns i t within,
        same,
        c.loop-index.invariant.0,
        c.most_entry_length-total.ensures.most,
      ),
      omega (arith, c.loop-index.invariant.1, c.most_entry_length-total.ensures.bound),
    )
