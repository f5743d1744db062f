use Rattle.std.proofs.Common.{arith}
use Rattle.wire.specs.Fields.{txn_fields}
use Rattle.wire.specs.Spelling.{txn_text}
use Rattle.wire.proofs.Texts.{length_more}
use Rattle.wire.proofs.length.txns_length.Goals as goal

pub loop-index-preserved : goal.loop-index-preserved
loop-index-preserved c =
    let more = length_more (txn_text c.args.version) txn_fields c.args.txns.now c.loop-index.index c.txn.result
    c.txn.ensures.txn in (
      omega (arith, more, c.loop-index.invariant.0, c.txn_length-total.ensures.exact),
      omega (arith, c.loop-index.invariant.1, c.txn_length-total.ensures.bound),
    )
