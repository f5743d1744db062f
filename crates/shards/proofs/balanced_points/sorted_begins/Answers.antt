use Rattle.std.proofs.Common.{◌∙◌, ◌++◌, List, ℕ, map, refl, sym, ap, subst, take_all, Bor, IsPermutation}
use Rattle.std.proofs.lemmas.List.Sorted.{IsPermutation-map}
use Rattle.std.proofs.lemmas.Option.{slice_get_read}
use Rattle.keyspace.specs.declared.batch.Batch.{Batch}
use Rattle.shards.specs.Balanced.{begins_in, begins_of}
use Rattle.shards.specs.Picking.{keys_of}
use Rattle.shards.proofs.Begins.{begins_more}
use Rattle.shards.proofs.balanced_points.sorted_begins.Goals as goal

pub loop-batch-preserved : goal.loop-batch-preserved
loop-batch-preserved c =
    let sample = c.args.sample.now in
    let i = c.loop-batch.batch-index in
    let batch = c.batch-item.result in
    let at = slice_get_read sample _ i batch refl c.loop-batch-test.true c.batch-item.is in
    c.in_ok-put_begins.ensures.put
    ∙ ap (λ (front : List (List ℕ)). front ++ begins_in batch.now) c.loop-batch.invariant
    ∙ sym (begins_more sample i batch at)

pub returns-clause-same : goal.returns-clause-same
returns-clause-same c =
    let found = c.loop-batch.begins.items in
    let sorted = c.sort_unstable.new.self.items in
    let all = c.loop-batch.invariant
    ∙ ap (λ (sample : List (Bor Batch)). begins_of (map (λ (batch : Bor Batch). batch.now) sample))
    (take_all c.loop-batch.batch-index c.args.sample.now c.loop-batch-test.false) in
    subst (λ (begins : List (List ℕ)). IsPermutation begins (keys_of sorted)) all
    (IsPermutation-map (λ (key : Bor (List ℕ)). key.now) found sorted c.sort_unstable.ensures.permutation)
