use Rattle.std.proofs.Common.{◌≡◌, ◌≤◌, ◌++◌, ◌∷◌, ◌∙◌, ℕ, List, [], map, take, length, sym, ap, subst, arith, append-nil, append_assoc, take_all}
use Rattle.std.proofs.lemmas.List.{length-map}
use Rattle.keys.specs.declared.range.Range.{Range}
use Rattle.keyspace.specs.declared.span.Span.{Span}
use Rattle.keyspace.specs.storage.Fields.{range_fields}
use Rattle.keyspace.specs.Judge.{places_from}
use Rattle.keyspace.specs.storage.Putting.{ArePut}
use Rattle.keyspace.specs.storage.Tables.{range_of_span}
use Rattle.keyspace.proofs.callers.Putting.{put_none}
use Rattle.shards.specs.Built.{clips_of}
use Rattle.shards.specs.Clips.{goes_to}
use Rattle.shards.specs.Cut.{shard_of_ends}
use Rattle.shards.proofs.Appended.{range_at, put_next}
use Rattle.shards.proofs.IndexLists.{places_with, places_without}
use Rattle.shards.proofs.kept_clips.keep_reads.Goals.{then-goes+in_ok-push, else-goes}
use Rattle.shards.proofs.kept_clips.keep_reads.Goals as goal

pub loop-index-init : goal.loop-index-init
loop-index-init c = record {
  kept = λ m ranges has reported. put_none c.args.buffer.now c.args.kept.now.items;
  indices = λ m ranges has reported. sym (append-nil c.args.indices.now.items);
}

pub keep_clip-requires : goal.keep_clip-requires
keep_clip-requires c =
    let none : Span = record { begin = 0; begin_length = 0; end = 0; end_length = 0 } in
    record { lies = c.requires.lie c.loop-index.index none c.loop-index-test.true }

pub loop-index-preserved : goal.loop-index-preserved
loop-index-preserved c =
    let i = c.loop-index.index in
    let none : Span = record { begin = 0; begin_length = 0; end = 0; end_length = 0 } in
    let shard = shard_of_ends c.args.shard.now in
    record {
      kept = λ m ranges has reported.
          let range = range_at c.args.buffer.now c.args.spans.now ranges i none reported c.loop-index-test.true in
          let kept = c.in_ok-goes.ensures.kept m range.0 has range.2 in
          put_next shard ranges i range.0 range.1 c.args.buffer.now c.args.kept.now.items c.loop-index.kept.items
          c.keep_clip.new.kept.items c.in_ok-goes.goes kept.0 (c.loop-index.invariant.kept m ranges has reported) kept.1;
      indices = λ m ranges has reported.
          let range = range_at c.args.buffer.now c.args.spans.now ranges i none reported c.loop-index-test.true in
          let goes = sym (c.in_ok-goes.ensures.kept m range.0 has range.2).0 in
          let old = c.args.indices.now.items in
          let front = places_from 0 (goes_to shard) (take i ranges) in
          let before = c.loop-index.invariant.indices m ranges has reported in
          elim c.if-goes.branch [
            | then-goes+in_ok-push w ↦
                ap (λ v. v.items) w.indices-is ∙ w.in_ok-push.ensures.items ∙ ap (λ (all : List ℕ). all ++ i ∷ []) before
                ∙ append_assoc old front (i ∷ [])
                ∙ ap (λ (all : List ℕ). old ++ all) (sym (places_with (goes_to shard) ranges i range.0 range.1 (goes ∙ w.if-goes.true)))
            | else-goes w ↦
                ap (λ v. v.items) w.indices-is ∙ before
                ∙ ap (λ (all : List ℕ). old ++ all)
                (sym (places_without (goes_to shard) ranges i range.0 range.1 (goes ∙ w.if-goes.false)))
          ];
    }

-- as many ranges as spans
all_taken : (buffer : List ℕ) (spans : List Span) (ranges : List Range) (i : ℕ) → map (range_of_span buffer) spans ≡ map range_fields ranges
    → length spans ≤ i → take i ranges ≡ ranges
all_taken buffer spans ranges i reported past =
    take_all i ranges
    (omega (arith, past, ap length reported, length-map spans (range_of_span buffer), length-map ranges range_fields))

pub returns : goal.returns
returns c =
    let shard = shard_of_ends c.args.shard.now in
    let buffer = c.args.buffer.now in
    let spans = c.args.spans.now in
    let i = c.loop-index.index in
    record {
      kept = λ m ranges has reported.
          subst (λ (front : List Range). ArePut buffer c.args.kept.now.items (clips_of shard front) buffer c.loop-index.kept.items)
          (all_taken buffer spans ranges i reported (omega (arith, c.loop-index-test.false)))
          (c.loop-index.invariant.kept m ranges has reported);
      indices = λ m ranges has reported.
          c.loop-index.invariant.indices m ranges has reported
          ∙ ap (λ (front : List Range). c.args.indices.now.items ++ places_from 0 (goes_to shard) front)
          (all_taken buffer spans ranges i reported (omega (arith, c.loop-index-test.false)));
    }
