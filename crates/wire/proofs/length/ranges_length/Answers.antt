use Rattle.std.proofs.Common.{arith}
use Rattle.wire.specs.Fields.{range_fields}
use Rattle.wire.specs.Spelling.{range_text}
use Rattle.wire.proofs.Texts.{length_more}
use Rattle.wire.proofs.length.ranges_length.Goals as goal

pub loop-index-preserved : goal.loop-index-preserved
loop-index-preserved c =
    let more = length_more (range_text c.args.version) range_fields c.args.ranges.now c.loop-index.index c.get.result
    c.get.ensures.range in (
      omega (arith, more, c.loop-index.invariant.0, c.range_length-total.ensures.exact),
      omega (arith, c.loop-index.invariant.1, c.range_length-total.ensures.bound),
    )
