use Rattle.std.proofs.Common.{rules, arith, ◌≤◌, length, ap, ◌∙◌, slice_range}
use Rattle.keyspace.proofs.RangesReported.{length-reported, holds_within, part_is}
use Rattle.keyspace.proofs.ranges_ref.RangesRef.slice.Goals as goal

pub offset_bounds-self-inside-from : goal.offset_bounds-self-inside-from
offset_bounds-self-inside-from c =
    let ranges = c.self.inside in
    let within : c.args.to ≤ length ranges.spans.now =
    omega (arith, length-reported ranges.buffer.now ranges.spans.now ranges.holds, ap length c.self.view_is) in
    search rules

pub slice_bounds-new-end : goal.slice_bounds-new-end
slice_bounds-new-end c =
    let ranges = c.self.inside in
    let within : c.args.to ≤ length ranges.spans.now =
    omega (arith, length-reported ranges.buffer.now ranges.spans.now ranges.holds, ap length c.self.view_is) in
    search rules

pub new-requires-clause-holds : goal.new-requires-clause-holds
new-requires-clause-holds c =
    let ranges = c.self.inside in holds_within ranges.buffer.now ranges.spans.now ranges.holds c.args.from c.args.to

pub returns : goal.returns
returns c =
    let ranges = c.self.inside in
    record {
      ranges = part_is ranges.buffer.now ranges.spans.now ranges.holds c.args.from c.args.to c.new.result c.new.ensures.reported
          ∙ ap (λ rs. slice_range rs c.args.from c.args.to) c.self.view_is;
    }
