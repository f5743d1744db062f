-- What the threads of all shards were given, and what became of it.
use Rattle.std.specs.Prelude.{◌≡◌, ℕ, List, [], ◌∷◌, map, vec_items, vec_len, Option}
use Rattle.std.specs.List.{AllZip}
use Rattle.std.specs.declared.vec.Vec.{Vec}
use Rattle.std.proofs.Common.{Global, sym, ◌∙◌}
use Rattle.serial.specs.Shards.{Shard}
use Rattle.replay_output.specs.declared.options.Options.{Options}
use Rattle.replay_output.specs.declared.options.form.Form.TheVariants.{Kept}
use Rattle.replay_shards.specs.declared.clips.Clips.{Clips}
use Rattle.replay_sharded.specs.declared.shard_run.ShardRun.{ShardRun}
use Rattle.replay_sharded.specs.Combined.{HasProxies}
use Rattle.replay_sharded.specs.Files.{AreClipsOf}
use Rattle.replay_sharded.specs.Runs.{IsRunOfShard, IsWorkOf}

module _ {S : Type 0} where
  -- what a shard's thread is given
  abbrev pub given_by : Options → Vec (Clips S) Global → Options × List (Clips S)
  given_by options clips = (options, clips.items)

module _ {S : Type 0} (remaining : S → Option (List ℕ)) (options : Options) where
  abbrev pub IsDone : Options × List (Clips S) → ShardRun → Type 0
  IsDone given run = IsWorkOf remaining given.0 given.1 run

  -- of clips of the same files to each shard
  pub runs_of : (files : List (Option (List ℕ))) (each : List (Vec (Clips S) Global)) (runs : List ShardRun) (shards : List Shard)
      → AllZip IsDone (map (given_by options) each) runs → AllZip (AreClipsOf remaining files) shards (map vec_items each)
      → AllZip (IsRunOfShard options files) shards runs
  runs_of files [] [] [] works of = tt
  runs_of files [] [] (shard ∷ shards) works of = absurd of
  runs_of files [] (run ∷ runs) shards works of = absurd works
  runs_of files (clips ∷ each) [] shards works of = absurd works
  runs_of files (clips ∷ each) (run ∷ runs) [] works of = absurd of
  runs_of files (clips ∷ each) (run ∷ runs) (shard ∷ shards) works of =
      (works.0.of_files shard files of.0, runs_of files each runs shards works.1 of.1)

  -- each run is of as many proxies as it was given clips, and keeps the answers
  pub proxies_each : options.style.form ≡ Kept → (each : List (Vec (Clips S) Global)) (runs : List ShardRun)
      → AllZip IsDone (map (given_by options) each) runs → AllZip (λ clips run. HasProxies (vec_len clips) run) each runs
  proxies_each is [] [] works = tt
  proxies_each is [] (run ∷ runs) works = absurd works
  proxies_each is (clips ∷ each) [] works = absurd works
  proxies_each is (clips ∷ each) (run ∷ runs) works = (
    record {
      answered = works.0.answered ∙ sym clips.ok.0;
      failures = works.0.failures ∙ sym clips.ok.0;
      kept = works.0.kept is;
    },
    proxies_each is each runs works.1,
  )
