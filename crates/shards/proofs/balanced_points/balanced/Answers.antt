use Rattle.std.proofs.Common.{List, ℕ, map, All, sym, subst, Bor}
use Rattle.std.proofs.lemmas.List.Sorted.{All-permutation}
use Rattle.keyspace.specs.declared.batch.Batch.{Batch}
use Rattle.shards.specs.Balanced.{begins_of, IsBalanced}
use Rattle.shards.specs.Picking.{keys_of}
use Rattle.shards.proofs.Begins.{IsShort, begins_short, all_after}
use Rattle.shards.proofs.Picked.{balanced_permuted}
use Rattle.shards.proofs.balanced_points.balanced.Goals as goal

pub pick_points-requires-clause-short : goal.pick_points-requires-clause-short
pick_points-requires-clause-short c =
    let sample = map (λ (batch : Bor Batch). batch.now) c.args.sample.now in
    let begins = c.in_ok-begins.begins.items in
    subst (λ (keys : List (Bor (List ℕ))). All (λ key. IsShort key.now) keys) (sym c.deref.ensures.value)
    (all_after IsShort begins (All-permutation IsShort (begins_of sample) (keys_of begins) c.in_ok-begins.ensures.same (begins_short sample)))

pub returns-clause-balanced : goal.returns-clause-balanced
returns-clause-balanced c =
    let sample = map (λ (batch : Bor Batch). batch.now) c.args.sample.now in
    let begins = c.in_ok-begins.begins.items in
    let shards = c.args.shard_count in
    let points = c.in_ok-points.points.items in
    subst (λ (all : List (List ℕ)). IsBalanced shards (begins_of sample) all) (sym c.new.ensures.points)
    (balanced_permuted shards (begins_of sample) (keys_of begins) points c.in_ok-begins.ensures.same
    (subst (λ (keys : List (Bor (List ℕ))). IsBalanced shards (keys_of keys) points) c.deref.ensures.value c.in_ok-points.ensures.balanced))
