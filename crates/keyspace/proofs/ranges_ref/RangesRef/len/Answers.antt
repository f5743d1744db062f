use Rattle.std.proofs.Common.{length, sym, ap, ◌∙◌}
use Rattle.keyspace.proofs.RangesReported.{length-reported}
use Rattle.keyspace.proofs.ranges_ref.RangesRef.len.Goals as goal

pub returns : goal.returns
returns c =
    let ranges = c.self.inside in
    record { count = sym (length-reported ranges.buffer.now ranges.spans.now ranges.holds) ∙ ap length c.self.view_is }
