use Rattle.std.proofs.Common.{◌≡◌, ◌<◌, ◌≤◌, ◌+◌, ◌++◌, ◌∷◌, [], ◌∙◌, ℕ, List, length, take, sym, ap, subst, arith}
use Rattle.std.specs.Prelude.{Some, map, slice_get, vec_items, vec_len}
use Rattle.std.specs.List.{All, AllZip}
use Rattle.std.specs.Vec.Iter.{into_iter_items}
use Rattle.std.specs.declared.vec.Vec.{Vec}
use Rattle.std.proofs.Common.{Global}
use Rattle.std.proofs.lemmas.Grind.{common_steps}
use Rattle.std.proofs.lemmas.List.{map-append, take_all}
use Rattle.std.proofs.lemmas.List.Elements.{All-head, All-tail, All-push}
use Rattle.keys.proofs.callers.Lists.{some_at}
use Rattle.serial.specs.Shards.{Shard, shards}
use Rattle.shards.proofs.callers.Combining.{take_next}
use Rattle.replay_workers.proofs.callers.Lists.{AllZip-also}
use Rattle.replay_shards.specs.declared.clips.Clips.{Clips}
use Rattle.replay_sharded.specs.Files.{AreClipsOf, AreFresh, ReadTheFiles}
use Rattle.replay_sharded.proofs.readers.clips_of_shards.Goals as goal

pub loop-own-preserved : goal.loop-own-preserved
loop-own-preserved g c =
    let remaining = g.S.Source.remaining in
    let before = c.loop-own.invariant in
    let own = c.in-Some.own in
    let each = c.loop-own.each.items in
    let i = vec_len c.loop-own.each in
    let clips = c.in_ok-clips_of_shard.field-0 in
    let all = shards c.args.points in
    let steps = c.in-Some.ensures.steps.0 in
    let rest = into_iter_items c.next.new.self in
    let inside : i < length all = grind (arith, common_steps) in
    let longer : vec_len c.push_reserved.new.self ≡ i + 1 = grind (arith, common_steps) in
    let shard = some_at all i inside in
    let points = c.in_ok-points.points.value in
    let here : slice_get (shards points) c.len-shard.result ≡ Some shard.0 =
    ap (λ (p : List (List ℕ)). slice_get (shards p) c.len-shard.result) c.in_ok-points.ensures.ok
    ∙ ap (λ (n : ℕ). slice_get all n) c.len-shard.ensures ∙ shard.1 in
    let also = c.push_reserved.ensures.items in
    let mapped = map-append vec_items each (clips ∷ []) in
    record {
      clips = λ files read.
          let Of : Shard → List (Clips g.row.S.Denot) → Type 0 = AreClipsOf remaining files in
          let Read : List g.row.S.Denot → Type 0 = ReadTheFiles remaining files in
          let next : Read own.items =
          All-head Read own.items (map vec_items rest)
          (subst (λ (l : List (Vec g.row.S.Denot Global)). All Read (map vec_items l)) steps (before.rest files read)) in
          subst (λ (n : ℕ). AllZip Of (take n all) (map vec_items c.push_reserved.new.self.items)) (sym longer)
          (subst (λ (l : List (Vec (Clips g.row.S.Denot) Global)). AllZip Of (take (i + 1) all) (map vec_items l)) (sym also)
          (subst (λ (l : List (List (Clips g.row.S.Denot))). AllZip Of (take (i + 1) all) l) (sym mapped)
          (subst (λ (front : List Shard). AllZip Of front (map vec_items each ++ clips.items ∷ [])) (sym (take_next all i shard.0 shard.1))
          (AllZip-also Of (take i all) (map vec_items each) shard.0 clips.items (before.clips files read)
          (c.in_ok-clips_of_shard.ensures.clips files shard.0 here next)))));
      rest = λ files read.
          let Read : List g.row.S.Denot → Type 0 = ReadTheFiles remaining files in
          All-tail Read own.items (map vec_items rest)
          (subst (λ (l : List (Vec g.row.S.Denot Global)). All Read (map vec_items l)) steps (before.rest files read));
      fresh =
          subst (λ (l : List (Vec (Clips g.row.S.Denot) Global)). All AreFresh (map vec_items l)) (sym also)
          (subst (λ (l : List (List (Clips g.row.S.Denot))). All AreFresh l) (sym mapped)
          (All-push AreFresh (map vec_items each) clips.items before.fresh c.in_ok-clips_of_shard.ensures.fresh));
      as_many = grind (arith, common_steps);
      count = grind (arith, common_steps);
      room = grind (arith, common_steps);
    }

pub returns-clause-clips : goal.returns-clause-clips
returns-clause-clips g c = λ files read.
    let all = shards c.args.points in
    let end : length all ≤ vec_len c.loop-own.each = grind (arith, common_steps) in
    subst (λ (front : List Shard). AllZip (AreClipsOf g.S.Source.remaining files) front (map vec_items c.loop-own.each.items))
    (take_all (vec_len c.loop-own.each) all end) (c.loop-own.invariant.clips files read)
