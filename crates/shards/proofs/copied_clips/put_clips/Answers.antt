use Rattle.std.proofs.Common.{◌≡◌, ◌<◌, ◌+◌, ◌++◌, ◌∷◌, ◌∙◌, List, [], true, length, take, get_or, sym, ap, subst, arith}
use Rattle.std.specs.Prelude.{Some}
use Rattle.std.proofs.lemmas.Option.{get_or_from_slice_get}
use Rattle.keys.specs.declared.range.Range.{Range}
use Rattle.keys.proofs.callers.Lists.{some_at, AllZip-at}
use Rattle.keyspace.specs.storage.Fields.{RangeFields}
use Rattle.keyspace.specs.storage.Putting.{ArePut}
use Rattle.keyspace.proofs.callers.Putting.{put_none, put_then}
use Rattle.shards.specs.Built.{clip_fields, clips_of}
use Rattle.shards.specs.Reach.{is_reached, IsReported}
use Rattle.shards.specs.declared.reach.Reach.{Reach}
use Rattle.shards.proofs.Appended.{bounds_kept, clip_put, clips_with, clips_without}
use Rattle.shards.proofs.copied_clips.put_clips.Goals.{then-includes+in_ok-put_clip, else-includes}
use Rattle.shards.proofs.copied_clips.put_clips.Goals as goal

pub loop-index-init : goal.loop-index-init
loop-index-init c = λ shard m has reported. put_none c.args.buffer.now.items c.args.spans.now.items

pub loop-index-preserved : goal.loop-index-preserved
loop-index-preserved c = λ shard m has reported.
    let i = c.loop-index.index in
    let ranges = c.args.ranges.now in
    let reaches = c.args.reaches.now in
    let old_buffer = c.args.buffer.now.items in
    let old_spans = c.args.spans.now.items in
    let buffer = c.loop-index.buffer.items in
    let spans = c.loop-index.spans.items in
    let inside : i < length ranges = omega (arith, c.requires.count, c.loop-index-test.true) in
    let range = some_at ranges i inside in
    let none : Reach = record { first = 0; last = 0 } in
    let reach = get_or reaches i none in
    let is : IsReported shard m range.0 reach = AllZip-at (IsReported shard m) ranges reaches i range.0 none range.1 reported in
    let at : range.0 ≡ get_or ranges i range.0 = sym (get_or_from_slice_get ranges i range.0 range.0 range.1) in
    let tested : c.includes.result ≡ is_reached reach m =
    c.includes.ensures.reached ∙ ap (is_reached reach) has.number in
    let before = c.loop-index.invariant shard m has reported in
    elim c.if-includes.branch [
      | then-includes+in_ok-put_clip w ↦
          let reached : is_reached reach m ≡ true = sym tested ∙ w.if-includes.true in
          let same : w.get-range.result ≡ range.0 =
          let e : Some w.get-range.result ≡ Some range.0 = sym w.get-range.ensures.range ∙ range.1 in cc in
          let now = bounds_kept shard m old_buffer before.bytes buffer c.args.bounds.now before.buffer_is has in
          let one = clip_put shard m w.get-range.result reach c.args.bounds.now w.begin_of.result w.end_of.result buffer
          w.put_clip.new.buffer.items spans w.put_clip.new.spans.items now
          (subst (λ (r : Range). IsReported shard m r reach) (sym same) is) reached w.begin_of.ensures.begin w.end_of.ensures.end
          w.in_ok-put_clip.ensures.put in
          let both = put_then old_buffer old_spans (clips_of shard (take i ranges)) buffer spans (clip_fields shard w.get-range.result ∷ [])
          w.put_clip.new.buffer.items w.put_clip.new.spans.items before one in
          let clips : clips_of shard (take i ranges) ++ clip_fields shard w.get-range.result ∷ [] ≡ clips_of shard (take (i + 1) ranges) =
          ap (λ (r : Range). clips_of shard (take i ranges) ++ clip_fields shard r ∷ []) same
          ∙ sym (clips_with shard ranges i range.0 inside at (is.goes ∙ reached)) in
          subst (λ (all : List RangeFields). ArePut old_buffer old_spans all c.if-includes.buffer.items c.if-includes.spans.items) clips
          (rw (w.buffer-is, w.spans-is) both)
      | else-includes w ↦
          let clips : clips_of shard (take i ranges) ≡ clips_of shard (take (i + 1) ranges) =
          sym (clips_without shard ranges i range.0 inside at (is.goes ∙ sym tested ∙ w.if-includes.false)) in
          subst (λ (all : List RangeFields). ArePut old_buffer old_spans all c.if-includes.buffer.items c.if-includes.spans.items) clips
          (rw (w.buffer-is, w.spans-is) before)
    ]
