-- The files and the split points of several resolvers.
use Rattle.std.specs.Prelude.{◌≡◌, ◌≤◌, ◌<◌, ◌+◌, ℕ, List, [], ◌∷◌, length, map, Option, None, Some, IfSome, vec_items, vec_len}
use Rattle.std.specs.Borrow.{Bor}
use Rattle.std.specs.List.{All, AllZip, flat_map}
use Rattle.std.specs.declared.vec.Vec.{Vec}
use Rattle.std.proofs.Common.{Global, ap, arith, sym, subst, ◌∙◌}
use Rattle.std.proofs.lemmas.List.{length-map}
use Rattle.std.proofs.lemmas.List.Elements.{All-cons, All-head, All-nil, All-tail}
use Rattle.keyspace.specs.declared.batch.Batch.{Batch}
use Rattle.serial.specs.Shards.{shards_from}
use Rattle.shards.specs.Balanced.{IsBalanced, begins_of}
use Rattle.replay_arguments.specs.declared.arguments.CommandLine.{CommandLine}
use Rattle.replay_arguments.specs.Opening.{contents_each}
use Rattle.replay_shards.specs.Points.{ArePointLines}
use Rattle.replay_shards.specs.Sampling.{AreFirstOf}
use Rattle.replay_sharded.specs.Files.{ReadTheFiles}
use Rattle.replay_program.specs.Program.{texts}
use Rattle.replay_program.specs.ShardedProgram.{ArePointsBy, ArePointsOf}

-- there is a shard at least
pub some_shard : (from : List ℕ) (points : List (List ℕ)) → 1 ≤ length (shards_from from points)
some_shard from [] = omega arith
some_shard from (point ∷ points) = omega arith

-- the files of these names are as many
pub files_of_names : (contents : List ℕ → Option (List ℕ)) (names : List (Bor (List ℕ)))
    → length (contents_each contents (texts names)) ≡ length names
files_of_names contents names = length-map (texts names) contents ∙ length-map names (λ name. name.now)

module _ {R : Type 0} (remaining : R → Option (List ℕ)) where
  -- there is one reader per file
  pub readers_of_files : (files : List (Option (List ℕ))) (readers : Vec R Global) → map remaining readers.items ≡ files
      → vec_len readers ≡ length files
  readers_of_files files readers are = readers.ok.0 ∙ sym (length-map readers.items remaining) ∙ ap length are

  -- and so are those of each shard
  pub readers_each : (files : List (Option (List ℕ))) (n : ℕ) (each : List (Vec R Global)) → length files ≡ n
      → All (ReadTheFiles remaining files) (map vec_items each) → All (λ own. vec_len own ≡ n) each
  readers_each files n [] count read = All-nil (λ (own : Vec R Global). vec_len own ≡ n)
  readers_each files n (own ∷ rest) count read =
      All-cons (λ (own : Vec R Global). vec_len own ≡ n) own rest
      (readers_of_files files own (All-head (ReadTheFiles remaining files) own.items (map vec_items rest) read) ∙ count)
      (readers_each files n rest count (All-tail (ReadTheFiles remaining files) own.items (map vec_items rest) read))

module _ (contents : List ℕ → Option (List ℕ)) (line : CommandLine) (points : List (List ℕ)) where
  -- the split points of the file that is named
  pub points_of_file : (name : Bor (List ℕ)) (bytes : Option (List ℕ)) → line.sharding.split_points ≡ Some name → bytes ≡ contents name.now
      → IfSome bytes (λ bytes. ArePointLines bytes points) → length points + 1 ≡ line.sharding.resolvers
      → ArePointsOf contents line points
  points_of_file name bytes named are lines count =
      subst (λ (o : Option (Bor (List ℕ))). ArePointsBy contents (texts line.files.items) line.sharding.resolvers o points) (sym named)
      (subst (λ (b : Option (List ℕ)). IfSome b (λ bytes. ArePointLines bytes points)) are lines, count)

  -- those by the first batches
  pub points_by_sample : (files : List (Option (List ℕ))) → line.sharding.split_points ≡ None
      → files ≡ contents_each contents (texts line.files.items)
      → ((samples : List (List Batch)) × AllZip AreFirstOf files samples
      × IsBalanced line.sharding.resolvers (begins_of (flat_map (λ own. own) samples)) points)
      → ArePointsOf contents line points
  points_by_sample files none are sampled =
      subst (λ (o : Option (Bor (List ℕ))). ArePointsBy contents (texts line.files.items) line.sharding.resolvers o points) (sym none)
      (sampled.0, subst (λ (f : List (Option (List ℕ))). AllZip AreFirstOf f sampled.0) are sampled.1, sampled.2)
