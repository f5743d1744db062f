-- How many runs, readers and proxies there are.
use Rattle.std.specs.Prelude.{◌≡◌, ◌≤◌, ℕ, List, [], ◌∷◌, length, map, vec_items, vec_len, Option}
use Rattle.std.specs.List.{All, AllZip}
use Rattle.std.specs.declared.vec.Vec.{Vec}
use Rattle.std.proofs.Common.{Global, sym, ap, subst, ◌∙◌, arith}
use Rattle.std.proofs.lemmas.List.{length-map}
use Rattle.std.proofs.lemmas.List.Elements.{All-head, All-tail, All-nil, All-cons}
use Rattle.serial.specs.Shards.{shards_from}
use Rattle.replay_shards.specs.declared.clips.Clips.{Clips}
use Rattle.replay_sharded.specs.declared.shard_run.ShardRun.{ShardRun}
use Rattle.replay_sharded.specs.Combined.{HasProxies}
use Rattle.replay_sharded.specs.Files.{ReadTheFiles}
use Rattle.replay_sharded.proofs.Taking.{zip_all}

-- there is a shard at least
pub some_shard : (from : List ℕ) (points : List (List ℕ)) → 1 ≤ length (shards_from from points)
some_shard from [] = omega arith
some_shard from (point ∷ points) = omega arith

module _ {X Y : Type 0} where
  pub all_mapped : (f : X → Y) (P : Y → Type 0) (xs : List X) → All (λ x. P (f x)) xs → All P (map f xs)
  all_mapped f P [] all = All-nil P
  all_mapped f P (x ∷ xs) all =
      All-cons P (f x) (map f xs) (All-head (λ x. P (f x)) x xs all) (all_mapped f P xs (All-tail (λ x. P (f x)) x xs all))

  pub all_unmapped : (f : X → Y) (P : Y → Type 0) (xs : List X) → All P (map f xs) → All (λ x. P (f x)) xs
  all_unmapped f P [] all = All-nil (λ x. P (f x))
  all_unmapped f P (x ∷ xs) all =
      All-cons (λ x. P (f x)) x xs (All-head P (f x) (map f xs) all) (all_unmapped f P xs (All-tail P (f x) (map f xs) all))

module _ {X Y : Type 0} where
  -- vectors of the same lengths as others
  pub sizes_same : (each : List (Vec X Global)) (others : List (Vec Y Global)) (n : ℕ) → map vec_len each ≡ map vec_len others
      → All (λ own. vec_len own ≡ n) others → All (λ own. vec_len own ≡ n) each
  sizes_same each others n same all =
      all_unmapped vec_len (λ (m : ℕ). m ≡ n) each
      (subst (All (λ (m : ℕ). m ≡ n)) (sym same) (all_mapped vec_len (λ (m : ℕ). m ≡ n) others all))

  pub count_same : (each : Vec (Vec X Global) Global) (others : Vec (Vec Y Global) Global)
      → map vec_len each.items ≡ map vec_len others.items → vec_len each ≡ vec_len others
  count_same each others same =
      each.ok.0 ∙ (sym (length-map each.items vec_len) ∙ ap length same ∙ length-map others.items vec_len ∙ sym others.ok.0)

module _ {S : Type 0} where
  pub has_each : (n : ℕ) (each : List (Vec (Clips S) Global)) (runs : List ShardRun)
      → AllZip (λ clips run. HasProxies (vec_len clips) run) each runs → All (λ own. vec_len own ≡ n) each → All (HasProxies n) runs
  has_each n each runs has sizes =
      zip_all (λ (clips : Vec (Clips S) Global) (run : ShardRun). HasProxies (vec_len clips) run)
      (λ (own : Vec (Clips S) Global). vec_len own ≡ n) (HasProxies n)
      (λ clips run of is. subst (λ (m : ℕ). HasProxies m run) is of) each runs has sizes

  -- there are as many files as proxies
  pub files_count : (remaining : S → Option (List ℕ)) (files : List (Option (List ℕ))) (n : ℕ) (readers : List (Vec S Global))
      → 1 ≤ length readers → All (λ own. vec_len own ≡ n) readers → All (ReadTheFiles remaining files) (map vec_items readers)
      → n ≡ length files
  files_count remaining files n [] some sizes read = absurd (omega (arith, some))
  files_count remaining files n (own ∷ rest) some sizes read =
      sym (All-head (λ (own : Vec S Global). vec_len own ≡ n) own rest sizes) ∙ own.ok.0 ∙ sym (length-map own.items remaining)
      ∙ ap length (All-head (ReadTheFiles remaining files) own.items (map vec_items rest) read)
