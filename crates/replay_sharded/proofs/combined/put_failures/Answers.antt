use Rattle.std.proofs.Common.{◌≡◌, ◌<◌, length, refl, Some, ◌∷◌, [], ◌++◌, List, slice_get, subst, sym, arith, take, ◌+◌}
use Rattle.std.specs.Prelude.{vec_len}
use Rattle.std.proofs.lemmas.Grind.{common_steps}
use Rattle.std.proofs.lemmas.Option.{slice_get_read}
use Rattle.replay_output.specs.declared.failures.ProxyFailure.{ProxyFailure}
use Rattle.shards.proofs.callers.Combining.{take_next}
use Rattle.replay_workers.proofs.callers.Lists.{AllZip-also, all_at}
use Rattle.replay_sharded.specs.declared.shard_run.ShardRun.{ShardRun}
use Rattle.replay_sharded.specs.Combined.{AreFailuresOf}
use Rattle.replay_sharded.proofs.combined.put_failures.Goals as goal

pub loop-run-preserved : goal.loop-run-preserved
loop-run-preserved c =
    let runs = c.args.runs.now in
    let i = c.loop-run.run-index in
    let run = c.run-item.result in
    let own = c.index.result.now in
    let at : slice_get runs i ≡ Some run = slice_get_read runs (length runs) i run refl c.loop-run-test.true c.run-item.is in
    let within : c.args.proxy < vec_len run.failures =
    all_at (λ (run : ShardRun). c.args.proxy < vec_len run.failures) runs i run c.requires.within at in
    let there : slice_get run.failures.items c.args.proxy ≡ Some own =
    slice_get_read run.failures.items (vec_len run.failures) c.args.proxy own run.failures.ok.0 within c.index.ensures in
    let Of : List ShardRun → List ProxyFailure → Type 0 = λ front each. AreFailuresOf c.args.proxy front each in
    record {
      failures =
          subst (λ (each : List ProxyFailure). Of (take (i + 1) runs) each) (sym c.push_reserved.ensures.items)
          (subst (λ (front : List ShardRun). Of front (c.loop-run.failures.items ++ own ∷ [])) (sym (take_next runs i run at))
          (AllZip-also (λ (run : ShardRun) (f : ProxyFailure). slice_get run.failures.items c.args.proxy ≡ Some f) (take i runs)
          c.loop-run.failures.items run own c.loop-run.invariant.failures there));
      count = grind (arith, common_steps);
      capacity = grind (arith, common_steps);
    }
