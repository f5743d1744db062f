use Rattle.std.proofs.Common.{sym, ◌∙◌}
use Rattle.conflict.proofs.writes.range_of.Goals as goal

pub returns : goal.returns
returns g c = record {
  spans = record {
    begins = (c.range.result, c.range.ensures.range, sym c.begin.ensures.bytes ∙ sym c.new.ensures.begin);
    ends = (c.range-2.result, c.range-2.ensures.range, sym c.end.ensures.bytes ∙ sym c.new.ensures.end);
  };
}
