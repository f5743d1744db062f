-- One transaction, one range, one batch more.
use Rattle.std.proofs.Common.{◌≡◌, ℕ, ◌+◌, ℤ, List, [], ◌∷◌, ◌++◌, length, map, Option, Some, None, refl, sym, ap, ◌∙◌, append_assoc}
use Rattle.std.specs.Prelude.{OnSome, flat_map}
use Rattle.std.proofs.lemmas.List.{append-nil, map-append, map_push}
use Rattle.std.proofs.lemmas.List.Concat.{flat_map-append}
use Rattle.keys.specs.declared.range.Range.{Range}
use Rattle.keyspace.specs.declared.txn.Txn.{Txn}
use Rattle.keyspace.specs.declared.batch.Batch.{Batch}
use Rattle.batches_tasks.specs.declared.stats.Stats.{Stats}
use Rattle.batches_tasks.specs.Stats.{keys_in, keys_of_range, spread_of, stats_of, txn_counts_of, versions_of}

flat_map_last : {A B : Type 0} (f : A → List B) (xs : List A) (x : A) → flat_map f (xs ++ x ∷ []) ≡ flat_map f xs ++ f x
flat_map_last f xs x = flat_map-append f xs (x ∷ []) ∙ ap (λ t. flat_map f xs ++ t) (append-nil (f x))

pub lengths_last : {A : Type 0} (keys : A → List (List ℕ)) (xs : List A) (x : A)
    → map length (flat_map keys (xs ++ x ∷ [])) ≡ map length (flat_map keys xs) ++ map length (keys x)
lengths_last keys xs x =
    ap (map length) (flat_map_last keys xs x) ∙ map-append length (flat_map keys xs) (keys x)

pub on_some_weaker : {T P Q : Type 0} (r : Option T) → (P → Q) → OnSome r P → OnSome r Q
on_some_weaker None weaker holds = tt
on_some_weaker (Some x) weaker holds = weaker holds

pub stats_last : (bytes : ℕ) (bs : List Batch) (len : ℕ) (b : Batch) (stats : Stats)
    → stats.bytes ≡ bytes + len
    → stats.versions ≡ versions_of (map (λ b. b.version) bs ++ b.version ∷ [])
    → stats.txns ≡ spread_of (map (λ b. length b.txns) bs ++ length b.txns ∷ [])
    → stats.of_txns ≡ txn_counts_of (flat_map (λ b. b.txns) bs ++ b.txns)
    → stats.keys ≡ spread_of (map length (flat_map keys_in bs) ++ map length (keys_in b))
    → stats ≡ stats_of (bytes + len) (bs ++ b ∷ [])
stats_last bytes bs len b stats is_bytes versions txns of_txns keys =
    let all_versions : stats.versions ≡ versions_of (map (λ (b : Batch). b.version) (bs ++ b ∷ [])) =
    versions ∙ ap versions_of (sym (map_push (λ (b : Batch). b.version) bs b)) in
    let all_txns : stats.txns ≡ spread_of (map (λ (b : Batch). length b.txns) (bs ++ b ∷ [])) =
    txns ∙ ap spread_of (sym (map_push (λ (b : Batch). length b.txns) bs b)) in
    let all_of_txns : stats.of_txns ≡ txn_counts_of (flat_map (λ (b : Batch). b.txns) (bs ++ b ∷ [])) =
    of_txns ∙ ap txn_counts_of (sym (flat_map_last (λ (b : Batch). b.txns) bs b)) in
    let all_keys : stats.keys ≡ spread_of (map length (flat_map keys_in (bs ++ b ∷ []))) =
    keys ∙ ap spread_of (sym (lengths_last keys_in bs b)) in
    λ i. record {
      bytes = is_bytes i;
      versions = all_versions i;
      txns = all_txns i;
      of_txns = all_of_txns i;
      keys = all_keys i;
    }
