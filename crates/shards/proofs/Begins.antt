-- The begin keys of a sample, and references to them.
use Rattle.std.proofs.Common.{◌≡◌, ◌∙◌, ◌≤◌, ◌<◌, ◌+◌, List, [], ◌∷◌, ◌++◌, ℕ, length, get_or, take, map, ap, subst, append-nil, arith, All, Bor}
use Rattle.std.specs.Prelude.{Some, slice_get}
use Rattle.std.proofs.lemmas.List.{get_or-map, length-map, map_push}
use Rattle.std.proofs.lemmas.List.Concat.{flat_map-append}
use Rattle.std.proofs.lemmas.List.Elements.{All-nil, All-append, All-map}
use Rattle.std.proofs.lemmas.Option.{slice_get-get_or}
use Rattle.keys.specs.declared.key.TheConstants.{MAX_KEY_LENGTH}
use Rattle.keys.specs.declared.range.Range.{Range}
use Rattle.keyspace.specs.declared.batch.Batch.{Batch}
use Rattle.keyspace.specs.storage.BatchRanges.{ranges_in}
use Rattle.shards.specs.Balanced.{begins_in, begins_of}
use Rattle.shards.specs.Picking.{keys_of}
use Rattle.shards.proofs.Leasts.{take_next}

abbrev pub IsShort : List ℕ → Type 0
IsShort key = length key ≤ MAX_KEY_LENGTH

begins_in_short : (b : Batch) → All IsShort (begins_in b)
begins_in_short b =
    All-map IsShort (λ (range : Range). range.begin) (ranges_in b.txns) (λ k d inside. (get_or (ranges_in b.txns) k d).begin_is_key.short)

-- the begins of ranges are keys
pub begins_short : (sample : List Batch) → All IsShort (begins_of sample)
begins_short [] = All-nil IsShort
begins_short (b ∷ sample) = All-append IsShort (begins_in b) (begins_of sample) (begins_in_short b) (begins_short sample)

-- what holds of the keys holds of the key of each reference
pub all_after : (P : List ℕ → Type 0) (refs : List (Bor (List ℕ))) → All P (keys_of refs) → All (λ key. P key.now) refs
all_after P refs all k d inside =
    let within : k < length (keys_of refs) = omega (arith, inside, length-map refs (λ (key : Bor (List ℕ)). key.now)) in
    subst P (get_or-map (λ (key : Bor (List ℕ)). key.now) refs k d d.now inside) (all k d.now within)

-- the begins of one batch more
pub begins_more : (sample : List (Bor Batch)) (i : ℕ) (batch : Bor Batch) → slice_get sample i ≡ Some batch
    → begins_of (map (λ b. b.now) (take (i + 1) sample)) ≡ begins_of (map (λ b. b.now) (take i sample)) ++ begins_in batch.now
begins_more sample i batch at =
    let now = λ (b : Bor Batch). b.now in
    ap (λ (front : List (Bor Batch)). begins_of (map now front)) (take_next sample i batch at)
    ∙ ap begins_of (map_push now (take i sample) batch)
    ∙ flat_map-append begins_in (map now (take i sample)) (batch.now ∷ [])
    ∙ ap (λ (last : List (List ℕ)). begins_of (map now (take i sample)) ++ last) (append-nil (begins_in batch.now))

-- the key of the reference at an index
pub key_at : (refs : List (Bor (List ℕ))) (i : ℕ) (d : Bor (List ℕ)) → i < length refs → slice_get (keys_of refs) i ≡ Some (get_or refs i d).now
key_at refs i d inside =
    let now = λ (key : Bor (List ℕ)). key.now in
    let within : i < length (keys_of refs) = omega (arith, inside, length-map refs now) in
    slice_get-get_or (keys_of refs) i [] within ∙ ap (λ (key : List ℕ). Some key) (get_or-map now refs i d [] inside)
