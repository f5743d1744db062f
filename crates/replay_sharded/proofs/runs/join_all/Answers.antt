use Rattle.std.proofs.Common.{◌≡◌, List, [], ◌∷◌, ◌++◌, rules, ap, sym, subst, ◌∙◌, append_assoc, append-nil, arith}
use Rattle.std.specs.Prelude.{map}
use Rattle.std.specs.List.{AllZip}
use Rattle.std.specs.Vec.Iter.{into_iter_items}
use Rattle.std.proofs.lemmas.Grind.{common_steps}
use Rattle.replay_workers.proofs.callers.Lists.{AllZip-also}
use Rattle.replay_output.specs.declared.options.Options.{Options}
use Rattle.replay_shards.specs.declared.clips.Clips.{Clips}
use Rattle.replay_sharded.specs.declared.runs.StartedShards.{StartedShards}
use Rattle.replay_sharded.specs.declared.shard_run.ShardRun.{ShardRun}
use Rattle.replay_sharded.specs.Runs.{IsWorkOf, given_to}
use Rattle.replay_sharded.proofs.Readings.{or_some}
use Rattle.replay_sharded.proofs.runs.join_all.Goals as goal

pub loop-shard-preserved-in-Ok : goal.loop-shard-preserved-in-Ok
loop-shard-preserved-in-Ok g c =
    let before = c.loop-shard.invariant.joined in
    let given = given_to c.in-Some.shard in
    let rest = into_iter_items c.next.new.self in
    let Of : Options × List (Clips g.row.S.Denot) → ShardRun → Type 0 = λ given run. IsWorkOf g.S.Source.remaining given.0 given.1 run in
    record {
      joined = (
        before.0 ++ given ∷ [],
        append_assoc before.0 (given ∷ []) (map given_to rest)
            ∙ ap (λ (l : List (StartedShards g.row.S.Denot)). before.0 ++ map given_to l) (sym c.in-Some.ensures.steps.0) ∙ before.1,
        λ none.
            subst (λ (runs : List ShardRun). AllZip Of (before.0 ++ given ∷ []) runs) (sym c.push_reserved.ensures.items)
            (AllZip-also Of before.0 c.loop-shard.runs.items given c.in-Ok.run' (before.2 none) c.in-Ok.ensures),
      );
      room = grind (arith, common_steps);
    }

pub loop-shard-preserved : goal.loop-shard-preserved
loop-shard-preserved g c =
    let before = c.loop-shard.invariant.joined in
    let given = given_to c.in-Some.shard in
    let rest = into_iter_items c.next.new.self in
    record {
      joined = (
        before.0 ++ given ∷ [],
        append_assoc before.0 (given ∷ []) (map given_to rest)
            ∙ ap (λ (l : List (StartedShards g.row.S.Denot)). before.0 ++ map given_to l) (sym c.in-Some.ensures.steps.0) ∙ before.1,
        λ none. absurd (or_some c.loop-shard.failed c.in-Err.cause (sym c.or-failed.ensures ∙ none)),
      );
      room = grind (arith, common_steps);
    }

pub returns-in-None-failed : goal.returns-in-None-failed
returns-in-None-failed g c =
    let before = c.loop-shard.invariant.joined in
    let Of : Options × List (Clips g.row.S.Denot) → ShardRun → Type 0 = λ given run. IsWorkOf g.S.Source.remaining given.0 given.1 run in
    let none : into_iter_items c.loop-shard.shard-iterator ≡ [] = first_of (search rules, grind (arith, common_steps)) in
    let all = sym (append-nil before.0) ∙ ap (λ (l : List (StartedShards g.row.S.Denot)). before.0 ++ map given_to l) (sym none) ∙ before.1 in
    record {
      runs =
          subst (λ (given : List (Options × List (Clips g.row.S.Denot))). AllZip Of given c.loop-shard.runs.items) all
          (before.2 c.in-None-failed.is);
    }
