use Rattle.std.proofs.Common.{◌∙◌}
use Rattle.wire.specs.Fields.{range_fields}
use Rattle.json_lines.specs.Written.{range_json}
use Rattle.json_lines.proofs.Tokens.{tokens_put}
use Rattle.json_lines.proofs.range_writer.each_range.Goals as goal

pub loop-index-preserved : goal.loop-index-preserved
loop-index-preserved c = (
  tokens_put range_json range_fields c.args.ranges.now c.loop-index.index c.get.result c.args.writer.now.tokens
      c.loop-index.writer.tokens c.put_range.new.writer.tokens c.get.ensures.range c.loop-index.invariant.0
      c.in_ok-put_range.ensures.tokens,
  c.put_range.ensures.before ∙ c.loop-index.invariant.1,
)
