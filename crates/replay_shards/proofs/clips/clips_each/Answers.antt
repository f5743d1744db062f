use Rattle.std.proofs.Common.{◌≡◌, ◌∙◌, [], ℕ, List, map, sym, ap, subst, All, rules, arith}
use Rattle.std.specs.Prelude.{None, slice_get}
use Rattle.std.specs.Vec.Iter.{into_iter_items}
use Rattle.std.proofs.lemmas.Grind.{common_steps}
use Rattle.std.proofs.lemmas.List.Elements.{All-push}
use Rattle.serial.specs.Shards.{shards}
use Rattle.replay_shards.specs.Clips.{bytes_left, refusal_of_clips, shard_of_clips}
use Rattle.replay_shards.proofs.Moved.{moved}
use Rattle.replay_shards.proofs.clips.clips_each.Goals as goal

pub loop-reader-preserved : goal.loop-reader-preserved
loop-reader-preserved g c =
    let remaining = g.S.Source.remaining in
    let left = into_iter_items c.loop-reader.reader-iterator in
    let rest = into_iter_items c.next.new.self in
    let each = c.loop-reader.each.items in
    let own = c.new.result in
    let pushed = c.in_ok-push.ensures.items in
    let same : c.in_ok-try_clone.field-0.value ≡ c.args.points.now.value = first_of (search rules, grind (arith, common_steps)) in
    record {
      readers = moved (bytes_left remaining) remaining each c.push.new.self.items left rest own c.in-Some.reader
          (map remaining c.args.readers.items) c.in-Some.ensures.steps.0 pushed c.new.ensures.reader c.loop-reader.invariant.readers;
      shard = subst (All (λ own. shard_of_clips own ≡ slice_get (shards c.args.points.now.value) c.args.shard)) (sym pushed)
          (All-push (λ own. shard_of_clips own ≡ slice_get (shards c.args.points.now.value) c.args.shard) each own
          c.loop-reader.invariant.shard
          (c.new.ensures.shard ∙ ap (λ (points : List (List ℕ)). slice_get (shards points) c.args.shard) same));
      fresh = subst (All (λ own. refusal_of_clips own ≡ None)) (sym pushed)
          (All-push (λ own. refusal_of_clips own ≡ None) each own c.loop-reader.invariant.fresh c.new.ensures.fresh);
      none = subst (All (λ own. own.notes.items ≡ [])) (sym pushed)
          (All-push (λ own. own.notes.items ≡ []) each own c.loop-reader.invariant.none c.new.ensures.none);
    }
