-- Replies with their notes, one shard after the other.
use Rattle.std.proofs.Common.{◌≡◌, ℕ, zero, suc, ◌+◌, ◌<◌, List, [], ◌∷◌, ◌++◌, length, take, refl, sym, ap, ◌∙◌, subst, arith, All}
use Rattle.std.specs.Prelude.{Option, None, Some, option_map, unwrap_or, slice_get}
use denote.Ref.{Bor}
use Rattle.keyspace.specs.declared.reply.Entry.{Entry}
use Rattle.std.proofs.lemmas.List.Elements.{All-weaker, All-get_or}
use Rattle.std.proofs.lemmas.Option.{slice_get_within, get_or_from_slice_get}
use Rattle.shards.specs.declared.shard_reply.ShardReply.{ShardReply}
use Rattle.shards.specs.Combined.{FitsAt}
use Rattle.replay_shards.specs.declared.noted_reply.NotedReply.{NotedReply}
use Rattle.replay_shards.specs.Answers.{FitsIn, indices_for, noted_in, noted_each}

abbrev nothings : List (List ℕ)
nothings = []

pub each_next : (each : List NotedReply) (i : ℕ) (own : NotedReply) → slice_get each i ≡ Some own
    → noted_each (take (i + 1) each) ≡ noted_each (take i each) ++ noted_in own ∷ []
each_next [] i own at = cc
each_next (x ∷ each) zero own at = let same : x ≡ own = cc in ap (λ y. noted_in y ∷ []) same
each_next (x ∷ each) (suc i) own at =
    let more : suc i + 1 ≡ suc (i + 1) = omega arith in
    ap (λ n. noted_each (take n (x ∷ each))) more ∙ ap (λ ys. noted_in x ∷ ys) (each_next each i own at)

pub each_at : (each : List NotedReply) (i : ℕ) (own : NotedReply) → slice_get each i ≡ Some own
    → slice_get (noted_each each) i ≡ Some (noted_in own)
each_at [] i own at = cc
each_at (x ∷ each) zero own at = let same : x ≡ own = cc in ap (λ y. Some (noted_in y)) same
each_at (x ∷ each) (suc i) own at = each_at each i own at

-- what holds of each holds of one
pub of_one : (P : ShardReply → Type 0) (each : List NotedReply) (i : ℕ) (own : NotedReply) → slice_get each i ≡ Some own
    → All P (noted_each each) → P (noted_in own)
of_one P each i own at all =
    let there = each_at each i own at in
    let within = slice_get_within (noted_each each) i (noted_in own) there in
    subst P (get_or_from_slice_get (noted_each each) i (noted_in own) (noted_in own) there)
    (All-get_or P (noted_each each) i (noted_in own) within all)

pub fits_at : (count index : ℕ) → index < count → (each : List ShardReply) → All (FitsIn count) each → All (FitsAt index) each
fits_at count index within each all =
    All-weaker (FitsIn count) (FitsAt index) (λ s fits.
    let entries = fits.entries in
    let reads = fits.reads in
    record {
      entry = omega (arith, entries, within);
      reads = omega (arith, reads, within);
      places = fits.places;
    }) each all

pub as_long : (each : List NotedReply) → length (noted_each each) ≡ length each
as_long [] = refl
as_long (x ∷ each) = ap suc (as_long each)

-- the indices in a note, or none
nothing_left : (i : ℕ) → slice_get nothings i ≡ None
nothing_left zero = refl
nothing_left (suc i) = refl

indices_at : (entries : List Entry) (reads : List (List ℕ)) (i : ℕ) → i < length entries
    → slice_get (indices_for entries reads) i ≡ Some (unwrap_or (slice_get reads i) [])
indices_at [] reads i within = absurd (omega (arith, within))
indices_at (e ∷ entries) [] zero within = ap (λ (o : Option (List ℕ)). Some (unwrap_or o [])) (sym (nothing_left zero))
indices_at (e ∷ entries) [] (suc i) within =
    indices_at entries [] i (omega (arith, within))
    ∙ ap (λ (o : Option (List ℕ)). Some (unwrap_or o [])) (nothing_left i ∙ sym (nothing_left (suc i)))
indices_at (e ∷ entries) (own ∷ reads) zero within = refl
indices_at (e ∷ entries) (own ∷ reads) (suc i) within = indices_at entries reads i (omega (arith, within))

indices_long : (entries : List Entry) (reads : List (List ℕ)) → length (indices_for entries reads) ≡ length entries
indices_long [] reads = refl
indices_long (e ∷ entries) [] = ap suc (indices_long entries [])
indices_long (e ∷ entries) (own ∷ reads) = ap suc (indices_long entries reads)

pub reads_long : (own : NotedReply) → length (noted_in own).reads ≡ length (noted_in own).reply.entries
reads_long own =
    indices_long own.reply.now.entries (unwrap_or (option_map (λ (reads : Bor (List (List ℕ))). reads.now) own.reads) [])

pub some_at : (own : NotedReply) (reads : Bor (List (List ℕ))) (i : ℕ) (found : List ℕ) → own.reads ≡ Some reads
    → found ≡ unwrap_or (slice_get reads.now i) [] → i < length (noted_in own).reply.entries
    → slice_get (noted_in own).reads i ≡ Some found
some_at own reads i found is found_is within =
    let known : unwrap_or (option_map (λ (reads : Bor (List (List ℕ))). reads.now) own.reads) [] ≡ reads.now =
    ap (λ (o : Option (Bor (List (List ℕ)))). unwrap_or (option_map (λ (reads : Bor (List (List ℕ))). reads.now) o) []) is in
    indices_at own.reply.now.entries (unwrap_or (option_map (λ (reads : Bor (List (List ℕ))). reads.now) own.reads) []) i within
    ∙ ap (λ (l : List (List ℕ)). Some (unwrap_or (slice_get l i) [])) known ∙ ap (λ (l : List ℕ). Some l) (sym found_is)

pub none_at : (own : NotedReply) (i : ℕ) → own.reads ≡ None → i < length (noted_in own).reply.entries
    → slice_get (noted_in own).reads i ≡ Some []
none_at own i is within =
    let known : unwrap_or (option_map (λ (reads : Bor (List (List ℕ))). reads.now) own.reads) [] ≡ nothings =
    ap (λ (o : Option (Bor (List (List ℕ)))). unwrap_or (option_map (λ (reads : Bor (List (List ℕ))). reads.now) o) []) is in
    indices_at own.reply.now.entries (unwrap_or (option_map (λ (reads : Bor (List (List ℕ))). reads.now) own.reads) []) i within
    ∙ ap (λ (l : List (List ℕ)). Some (unwrap_or (slice_get l i) [])) known
    ∙ ap (λ (o : Option (List ℕ)). Some (unwrap_or o [])) (nothing_left i)

-- all have as many entries
pub counts_of : (count n : ℕ) → n ≡ count → (each : List ShardReply) → All (FitsIn count) each
    → All (λ (s : ShardReply). length s.reply.entries ≡ n) each
counts_of count n same each fit =
    All-weaker (FitsIn count) (λ (s : ShardReply). length s.reply.entries ≡ n) (λ s fits. fits.entries ∙ sym same) each fit
