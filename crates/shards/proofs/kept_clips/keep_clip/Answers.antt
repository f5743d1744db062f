use Rattle.std.proofs.Common.{◌≡◌, ◌∙◌, sym, ap}
use Rattle.keys.specs.declared.range.Range.{Range}
use Rattle.keyspace.specs.storage.Fields.{RangeFields, range_fields}
use Rattle.keyspace.specs.storage.Tables.{range_of_span}
use Rattle.keyspace.proofs.callers.Putting.{put_none}
use Rattle.shards.specs.Built.{clip_fields}
use Rattle.shards.specs.Cut.{shard_of_ends}
use Rattle.shards.proofs.Appended.{span_put}
use Rattle.shards.proofs.kept_clips.keep_clip.Goals.{After-bytes_at-end}
use Rattle.shards.proofs.kept_clips.keep_clip.Goals as goal

-- the keys of the range are those of the span
begin_is : (c : After-bytes_at-end) (range : Range) → range_of_span c.args.buffer.now c.args.span.now ≡ range_fields range
    → range.begin ≡ c.bytes_at-begin.result.now
begin_is c range reported = sym (ap (λ (r : RangeFields). r.begin) reported) ∙ sym c.bytes_at-begin.ensures.bytes

end_is : (c : After-bytes_at-end) (range : Range) → range_of_span c.args.buffer.now c.args.span.now ≡ range_fields range
    → range.end ≡ c.bytes_at-end.result.now
end_is c range reported = sym (ap (λ (r : RangeFields). r.end) reported) ∙ sym c.bytes_at-end.ensures.bytes

pub returns-in_default : goal.returns-in_default
returns-in_default c = record {
  kept = λ m range has reported.
      let at = (goal.at.returns-in_default c).After-bytes_at-end in
      (sym (c.in_default.ensures.cut range (begin_is at range reported) (end_is at range reported)), put_none c.args.buffer.now c.args.kept.now.items);
}

pub returns : goal.returns
returns c = record {
  kept = λ m range has reported.
      let at = (goal.at.returns c).After-bytes_at-end in
      let shard = shard_of_ends c.args.shard.now in
      let buffer = c.args.buffer.now in
      let is = c.in-Some.ensures.cut range (begin_is at range reported) (end_is at range reported) in
      let clip = c.clip.ensures.clip shard m buffer range has c.requires.lies reported is in (
        sym is.goes,
        span_put buffer c.args.kept.now.items (clip_fields shard range) c.clip.result c.push.new.self.items c.in_ok-push.ensures.items clip.0
            clip.1,
      );
}
