use Rattle.std.proofs.Common.{Global, ◌≡◌, ◌∙◌, List, Vec, Bor, map, vec_items, sym, ap, subst}
use Rattle.std.specs.Prelude.{flat_map}
use Rattle.keyspace.specs.declared.batch.Batch.{Batch}
use Rattle.shards.specs.Balanced.{begins_of, IsBalanced}
use Rattle.replay_shards.proofs.Samples.{all_of}
use Rattle.replay_shards.proofs.sampled_points.points_of_sample.Goals as goal

pub returns-in-Ok : goal.returns-in-Ok
returns-in-Ok g c =
    let samples = c.in_ok-samples.samples.items in
    let seen : List (List Batch) = map (vec_items {X = Batch} {Z = Global}) samples in
    let same : map (λ (batch : Bor Batch). batch.now) c.deref-2.result.now ≡ flat_map (λ own. own) seen =
    ap (λ (l : List (Bor Batch)). map (λ (batch : Bor Batch). batch.now) l) c.deref-2.ensures.value ∙ c.in_ok-refs.ensures.refs
    ∙ ap (λ (l : List (Vec Batch Global)). flat_map (λ (own : Vec Batch Global). own.items) l) c.deref.ensures.value
    ∙ sym (all_of samples) in
    record {
      balanced = (
        seen,
        c.in_ok-samples.ensures.samples,
        subst (λ (l : List Batch). IsBalanced c.args.shard_count (begins_of l) c.in-Ok.points) same c.in-Ok.ensures.balanced,
      );
    }
