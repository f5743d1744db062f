use Rattle.std.proofs.Common.{Global, ◌∷◌, ◌++◌, ◌∙◌, [], List, map, vec_items, sym, ap, subst, append_assoc}
use Rattle.std.specs.List.{AllZip}
use Rattle.std.specs.Vec.Iter.{into_iter_items}
use Rattle.std.proofs.lemmas.List.{map-append}
use Rattle.std.proofs.lemmas.Slice.Zip.{all_zipped_more}
use Rattle.keyspace.specs.declared.batch.Batch.{Batch}
use Rattle.replay_shards.specs.Sampling.{AreFirstOf}
use Rattle.replay_shards.proofs.sampled_points.samples_each.Goals as goal

pub loop-reader-preserved : goal.loop-reader-preserved
loop-reader-preserved g c =
    let remaining = g.S.Source.remaining in
    let rest = into_iter_items c.next.new.self in
    let bytes = remaining c.in-Some.reader in
    let own = c.in_ok-first_batches.field-0 in
    let samples = c.loop-reader.samples.items in
    let so_far = c.loop-reader.invariant in
    let front = so_far.0 ++ bytes ∷ [] in (
      front,
      append_assoc so_far.0 (bytes ∷ []) (map remaining rest)
          ∙ ap (λ l. so_far.0 ++ map remaining l) (sym c.in-Some.ensures.steps.0) ∙ so_far.1,
      subst (λ (l : List (List Batch)). AllZip AreFirstOf front l)
          (sym (ap (map (vec_items {X = Batch} {Z = Global})) c.in_ok-push.ensures.items ∙ map-append (vec_items {X = Batch} {Z = Global}) samples (own ∷ [])))
          (all_zipped_more AreFirstOf so_far.0 (map (vec_items {X = Batch} {Z = Global}) samples) bytes own.items so_far.2
          c.in_ok-first_batches.ensures.first),
    )
