use Rattle.wire.specs.Fields.{range_fields}
use Rattle.wire.specs.Spelling.{range_text}
use Rattle.wire.proofs.Texts.{text_put}
use Rattle.wire.proofs.put.put_ranges.Goals as goal

pub loop-index-preserved : goal.loop-index-preserved
loop-index-preserved c =
    text_put (range_text c.args.version) range_fields c.args.ranges.now c.loop-index.index c.get.result
    c.args.out.now.items c.loop-index.out.items c.put_range.new.out.items c.get.ensures.range c.loop-index.invariant
    c.in_ok-put_range.ensures.text
