use Rattle.std.proofs.Common.{rules, arith, ◌<◌, length, sym, ap, ◌∙◌, slice_get}
use Rattle.keyspace.proofs.RangesReported.{no_span, length-reported, holds_at, range_at}
use Rattle.keyspace.proofs.ranges_ref.RangesRef.get.Goals as goal
use Rattle.keyspace.proofs.ranges_ref.RangesRef.get.Goals.{After-self}

within_spans : (c : After-self) → c.args.index < length c.self.inside.spans.now
within_spans c =
    let ranges = c.self.inside in
    omega (arith, length-reported ranges.buffer.now ranges.spans.now ranges.holds, ap length c.self.view_is)

pub offset_bounds-self-inside-index : goal.offset_bounds-self-inside-index
offset_bounds-self-inside-index c =
    let within = within_spans (goal.at.offset_bounds-self-inside-index c).After-self in search rules

pub bounds-self-inside-index : goal.bounds-self-inside-index
bounds-self-inside-index c = within_spans (goal.at.bounds-self-inside-index c).After-self

pub new-requires-clause-begin : goal.new-requires-clause-begin
new-requires-clause-begin c =
    let ranges = c.self.inside in
    let within = within_spans (goal.at.new-requires-clause-begin c).After-self in
    rw c.bytes_at.ensures.bytes (holds_at ranges.buffer.now ranges.spans.now ranges.holds c.args.index no_span within).begin.short

pub new-requires-clause-end : goal.new-requires-clause-end
new-requires-clause-end c =
    let ranges = c.self.inside in
    let within = within_spans (goal.at.new-requires-clause-end c).After-self in
    rw c.bytes_at-2.ensures.bytes (holds_at ranges.buffer.now ranges.spans.now ranges.holds c.args.index no_span within).end.short

pub new-requires-clause-ordered : goal.new-requires-clause-ordered
new-requires-clause-ordered c =
    let ranges = c.self.inside in
    let within = within_spans (goal.at.new-requires-clause-ordered c).After-self in
    rw (c.bytes_at.ensures.bytes, c.bytes_at-2.ensures.bytes)
    (holds_at ranges.buffer.now ranges.spans.now ranges.holds c.args.index no_span within).ordered

pub returns : goal.returns
returns c =
    let ranges = c.self.inside in
    let within = within_spans (goal.at.returns c).After-self in
    record {
      range = ap (λ rs. slice_get rs c.args.index) (sym c.self.view_is)
          ∙ range_at ranges.buffer.now ranges.spans.now ranges.holds c.args.index no_span c.new.result within
          (c.new.ensures.begin ∙ c.bytes_at.ensures.bytes) (c.new.ensures.end ∙ c.bytes_at-2.ensures.bytes);
    }
