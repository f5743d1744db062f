use Rattle.std.proofs.Common.{◌≡◌, ◌<◌, ◌+◌, ◌++◌, ◌∷◌, [], ◌∙◌, List, length, take, sym, subst, arith}
use Rattle.std.specs.Prelude.{IfSome, Option, Some, slice_get, slice_index_or, vec_len}
use Rattle.std.specs.List.{All}
use Rattle.std.proofs.lemmas.Grind.{common_steps}
use Rattle.std.proofs.lemmas.List.Elements.{All-push}
use Rattle.std.proofs.lemmas.Option.{slice_get-get_or}
use Rattle.shards.proofs.callers.Combining.{take_next}
use Rattle.replay_workers.proofs.callers.Lists.{AllZip-also, all_at}
use Rattle.replay_shards.specs.declared.answered.Answered.{Answered}
use Rattle.replay_shards.specs.Answered.{AreKept}
use Rattle.replay_sharded.specs.declared.shard_run.ShardRun.{ShardRun}
use Rattle.replay_sharded.specs.Combined.{AreOfProxy, TakesOf}
use Rattle.replay_sharded.proofs.Taking.{rest_next, same_at, takes_none, zip_next, zip_same}
use Rattle.replay_sharded.proofs.combined.combine_proxy.Goals as goal

pub returns-in_err-each-clause-others : goal.returns-in_err-each-clause-others
returns-in_err-each-clause-others c = zip_same (TakesOf c.args.proxy) (takes_none c.args.proxy) c.args.runs.now

pub take_answered-requires : goal.take_answered-requires
take_answered-requires c =
    let runs = c.loop-shard.runs in
    let shard = c.loop-shard.shard in
    let run = slice_index_or runs shard c.index-runs-shard.result in
    let within : shard < length runs = grind (arith, common_steps) in
    let at : slice_get c.args.runs.now shard ≡ Some run =
    sym (same_at runs c.args.runs.now shard c.loop-shard.invariant.rest) ∙ slice_get-get_or runs shard c.index-runs-shard.result within in
    record {
      within = all_at (λ (run : ShardRun). c.args.proxy < vec_len run.answered) c.args.runs.now shard run c.requires.within at;
    }

pub loop-shard-preserved : goal.loop-shard-preserved
loop-shard-preserved c =
    let old = c.args.runs.now in
    let runs = c.loop-shard.runs in
    let shard = c.loop-shard.shard in
    let before = c.loop-shard.invariant in
    let each = c.loop-shard.each.items in
    let own = c.take_answered.result in
    let new = c.take_answered.new.run in
    let run = slice_index_or runs shard c.index-runs-shard.result in
    let within : shard < length runs = grind (arith, common_steps) in
    let at : slice_get old shard ≡ Some run =
    sym (same_at runs old shard before.rest) ∙ slice_get-get_or runs shard c.index-runs-shard.result within in
    let taken : slice_get run.answered.items c.args.proxy ≡ Some own = c.take_answered.ensures.taken in
    let kept : AreKept own =
    subst (λ (o : Option Answered). IfSome o AreKept) taken
    (all_at (λ (run : ShardRun). IfSome (slice_get run.answered.items c.args.proxy) AreKept) old shard run c.requires.kept at) in
    record {
      each =
          subst (λ (l : List Answered). AreOfProxy c.args.proxy (take (shard + 1) old) l) (sym c.push_reserved.ensures.items)
          (subst (λ (front : List ShardRun). AreOfProxy c.args.proxy front (each ++ own ∷ [])) (sym (take_next old shard run at))
          (AllZip-also (λ (run : ShardRun) (own : Answered). slice_get run.answered.items c.args.proxy ≡ Some own) (take shard old) each
          run own before.each taken));
      kept =
          subst (All AreKept) (sym c.push_reserved.ensures.items)
          (All-push AreKept each own before.kept kept);
      taken = zip_next (TakesOf c.args.proxy) old runs shard run new before.taken within at c.take_answered.ensures.rest;
      rest = rest_next old runs shard new before.rest;
      runs = grind (arith, common_steps);
      count = grind (arith, common_steps);
      room = grind (arith, common_steps);
    }
