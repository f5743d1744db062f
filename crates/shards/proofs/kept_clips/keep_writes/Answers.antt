use Rattle.std.proofs.Common.{◌≤◌, List, length, ap, subst, arith, take_all}
use Rattle.std.proofs.lemmas.List.{length-map}
use Rattle.keys.specs.declared.range.Range.{Range}
use Rattle.keyspace.specs.declared.span.Span.{Span}
use Rattle.keyspace.specs.storage.Fields.{range_fields}
use Rattle.keyspace.specs.storage.Putting.{ArePut}
use Rattle.keyspace.specs.storage.Tables.{range_of_span}
use Rattle.keyspace.proofs.callers.Putting.{put_none}
use Rattle.shards.specs.Built.{clips_of}
use Rattle.shards.specs.Cut.{shard_of_ends}
use Rattle.shards.proofs.Appended.{range_at, put_next}
use Rattle.shards.proofs.kept_clips.keep_writes.Goals as goal

pub loop-span-init : goal.loop-span-init
loop-span-init c = λ m ranges has reported. put_none c.args.buffer.now c.args.kept.now.items

pub keep_clip-requires : goal.keep_clip-requires
keep_clip-requires c =
    let none : Span = record { begin = 0; begin_length = 0; end = 0; end_length = 0 } in
    record { lies = c.requires.lie c.loop-span.span-index none c.loop-span-test.true }

pub loop-span-preserved : goal.loop-span-preserved
loop-span-preserved c = λ m ranges has reported.
    let i = c.loop-span.span-index in
    let none : Span = record { begin = 0; begin_length = 0; end = 0; end_length = 0 } in
    let range = range_at c.args.buffer.now c.args.spans.now ranges i none reported c.loop-span-test.true in
    let kept = c.in_ok-keep_clip.ensures.kept m range.0 has range.2 in
    put_next (shard_of_ends c.args.shard.now) ranges i range.0 range.1 c.args.buffer.now c.args.kept.now.items c.loop-span.kept.items
    c.keep_clip.new.kept.items _ kept.0 (c.loop-span.invariant m ranges has reported) kept.1

pub returns : goal.returns
returns c = record {
  kept = λ m ranges has reported.
      let i = c.loop-span.span-index in
      let count : length ranges ≤ i =
      omega (
        arith,
        c.loop-span-test.false,
        ap length reported,
        length-map c.args.spans.now (range_of_span c.args.buffer.now),
        length-map ranges range_fields,
      ) in
      subst (λ (front : List Range). ArePut c.args.buffer.now c.args.kept.now.items (clips_of (shard_of_ends c.args.shard.now) front)
      c.args.buffer.now c.loop-span.kept.items)
      (take_all i ranges count) (c.loop-span.invariant m ranges has reported);
}
