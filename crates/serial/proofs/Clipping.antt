-- The writes of committed transactions at a key, and what a shard keeps of them.
use Rattle.std.proofs.Common.{
  ◌≡◌,
  ℕ,
  zero,
  suc,
  ◌<◌,
  ◌≤◌,
  Bool,
  true,
  false,
  not,
  ◌&&◌,
  ◌||◌,
  List,
  [],
  ◌∷◌,
  ◌++◌,
  length,
  take,
  ℤ,
  int_le,
  refl,
  sym,
  ◌∙◌,
  ap,
  inl,
  inr,
  arith,
}
use Rattle.std.specs.Prelude.{Some, slice_get, IsSomeAnd}
use Rattle.std.specs.List.{AllZip}
use Rattle.std.proofs.lemmas.List.Folds.{list_any-append}
use Rattle.std.proofs.lemmas.Option.{MatchOption-at_some}
use Rattle.std.proofs.lemmas.Slice.Zip.{AllZip-left, AllZip-long}
use Rattle.keys.specs.declared.range.Range.{Range}
use Rattle.keyspace.specs.declared.txn.Txn.{Txn}
use Rattle.keyspace.specs.declared.reply.Verdict.{Verdict}
use Rattle.keyspace.specs.declared.reply.Verdict.TheVariants.{Conflict, TooOld, Committed}
use Rattle.keyspace.specs.declared.reply.Entry.{Entry}
use Rattle.keys.specs.Key.{IsBytes}
use Rattle.keyspace.specs.Processed.{Processed}
use Rattle.keyspace.specs.Writes.{at_version, counted_ranges, committed_ranges, writes, writes_of}
use Rattle.keys.proofs.callers.Booleans.{and_left, and_right, and_both, or_either, or_left, or_right}
use Rattle.serial.specs.Commits.{holds}
use Rattle.serial.specs.Stores.{in_ranges}
use Rattle.serial.specs.Shards.{Shard, has_key, IsTxnClip, IsBatchClip, SaysCommitted}
use Rattle.serial.proofs.Holding.{written_above, written_above-append}
use Rattle.serial.proofs.Reading.{the_value}

-- the entry at this index says committed
abbrev pub CommittedAt : ℕ → List Entry → Type 0
CommittedAt l es = IsSomeAnd (slice_get es l) (λ e. e.verdict ≡ Committed)

-- if two lists go together element by element, each element of the first has its partner at its index in the second
pub partner : {A B : Type 0} (R : A → B → Type 0) (xs : List A) (ys : List B) → AllZip R xs ys
    → (i : ℕ) (x : A) → slice_get xs i ≡ Some x → (y : B) × (slice_get ys i ≡ Some y) × R x y
partner R xs ys zipped i x at =
    the_value (R x) (slice_get ys i)
    (MatchOption-at_some (Unit {0}) (λ x. IsSomeAnd (slice_get ys i) (R x)) x at (AllZip-left R xs ys zipped i))

-- ranges that count hold a key only if the transaction was committed
counted_committed : (verdict : Verdict) (ranges : List Range) (key : List ℕ)
    → in_ranges (counted_ranges verdict ranges) key ≡ true → verdict ≡ Committed
counted_committed Committed ranges key h = refl
counted_committed Conflict ranges key h = cc
counted_committed TooOld ranges key h = cc

-- and only if its write ranges hold it
counted_held : (verdict : Verdict) (ranges : List Range) (key : List ℕ)
    → in_ranges (counted_ranges verdict ranges) key ≡ true → in_ranges ranges key ≡ true
counted_held Committed ranges key h = h
counted_held Conflict ranges key h = cc
counted_held TooOld ranges key h = cc

-- the write ranges of a committed transaction count
held_counted : (verdict : Verdict) (ranges : List Range) (key : List ℕ) → verdict ≡ Committed
    → in_ranges ranges key ≡ true → in_ranges (counted_ranges verdict ranges) key ≡ true
held_counted Committed ranges key is h = h
held_counted Conflict ranges key is h = cc
held_counted TooOld ranges key is h = cc

-- A committed transaction before index j writes the key.
record IsWriter (ts : List Txn) (es : List Entry) (j : ℕ) (key : List ℕ) : Type 0 where
  index : ℕ
  below : index < j
  txn : Txn
  there : slice_get ts index ≡ Some txn
  verdict : CommittedAt index es
  writes : in_ranges txn.writes key ≡ true

-- if a range that was written before index j holds the key, a committed transaction writes it
writer_from : (ts : List Txn) (es : List Entry) (j : ℕ) (key : List ℕ)
    → in_ranges (committed_ranges (take j ts) (take j es)) key ≡ true → IsWriter ts es j key
writer_from ts es zero key h = let no : ⊥ = cc in absurd no
writer_from [] es (suc j) key h = let no : ⊥ = cc in absurd no
writer_from (t ∷ ts) [] (suc j) key h = let no : ⊥ = cc in absurd no
writer_from (t ∷ ts) (e ∷ es) (suc j) key h =
    let own = counted_ranges e.verdict t.writes in
    let others = committed_ranges (take j ts) (take j es) in
    elim (or_either (in_ranges own key) (in_ranges others key)
    (sym (list_any-append (λ range. holds range key) own others) ∙ h)) [
      | inl here ↦ record {
        index = 0;
        below = omega arith;
        txn = t;
        there = refl;
        verdict = counted_committed e.verdict t.writes key here;
        writes = counted_held e.verdict t.writes key here;
      }
      | inr later ↦ let w = writer_from ts es j key later in
          let below = w.below in
          record {
            index = suc w.index;
            below = omega (arith, below);
            txn = w.txn;
            there = w.there;
            verdict = w.verdict;
            writes = w.writes;
          }
    ]

-- if a committed transaction before index j writes the key, a range that was written holds it
writer_held : (ts : List Txn) (es : List Entry) (j : ℕ) (key : List ℕ) (l : ℕ) (t : Txn) → l < j
    → slice_get ts l ≡ Some t → CommittedAt l es → in_ranges t.writes key ≡ true
    → in_ranges (committed_ranges (take j ts) (take j es)) key ≡ true
writer_held [] es j key l t below there verdict h = cc
writer_held (u ∷ ts) [] j key l t below there verdict h = absurd verdict
writer_held (u ∷ ts) (e ∷ es) zero key l t below there verdict h = let no : ⊥ = omega arith in absurd no
writer_held (u ∷ ts) (e ∷ es) (suc j) key zero t below there verdict h =
    let same : u ≡ t = cc in
    let own = counted_ranges e.verdict u.writes in
    let others = committed_ranges (take j ts) (take j es) in
    list_any-append (λ range. holds range key) own others
    ∙ or_left (in_ranges own key) (in_ranges others key)
    (held_counted e.verdict u.writes key verdict (ap (λ (t : Txn). in_ranges t.writes key) same ∙ h))
writer_held (u ∷ ts) (e ∷ es) (suc j) key (suc l) t below there verdict h =
    let own = counted_ranges e.verdict u.writes in
    let others = committed_ranges (take j ts) (take j es) in
    list_any-append (λ range. holds range key) own others
    ∙ or_right (in_ranges own key) (in_ranges others key)
    (writer_held ts es j key l t (omega (arith, below)) there verdict h)

-- the transactions before an index that is past the last are all
committed-entire : (n : ℕ) (ts : List Txn) (es : List Entry) → length ts ≤ n
    → committed_ranges ts es ≡ committed_ranges (take n ts) (take n es)
committed-entire zero [] es h = refl
committed-entire (suc n) [] es h = refl
committed-entire zero (t ∷ ts) es h = let no : ⊥ = omega (arith, h) in absurd no
committed-entire (suc n) (t ∷ ts) [] h = refl
committed-entire (suc n) (t ∷ ts) (e ∷ es) h =
    ap (λ ranges. counted_ranges e.verdict t.writes ++ ranges) (committed-entire n ts es (omega (arith, h)))

-- a test, or both another one and it, is the test
either_of : (a b : Bool) → (b || (a && b)) ≡ b
either_of true true = refl
either_of true false = refl
either_of false true = refl
either_of false false = refl

-- writes at one version hold the key above the snapshot exactly if their ranges hold it and the version is above
pub above_at_version : (snapshot version : ℤ) (key : List ℕ) (ranges : List Range)
    → written_above snapshot key (at_version version ranges)
    ≡ (in_ranges ranges key && not (int_le version snapshot))
above_at_version snapshot version key [] = refl
above_at_version snapshot version key (range ∷ ranges) =
    let rest = above_at_version snapshot version key ranges in
    let both = written_above snapshot key (at_version version ranges) in
    elim (holds range key) as (λ b. ((b && not (int_le version snapshot)) || both)
    ≡ ((b || in_ranges ranges key) && not (int_le version snapshot))) [
      | true ↦ rw rest (either_of (in_ranges ranges key) (not (int_le version snapshot)))
      | false ↦ rest
    ]

module _ (shard : Shard) (key : List ℕ) (bytes : IsBytes key) (has : has_key shard key ≡ true) where
  -- a key that committed transactions before index j write is written by their clips, if those are committed too
  pub written_by_clips : (ts clips : List Txn) (es others : List Entry) (j : ℕ)
      → AllZip (IsTxnClip shard) ts clips → ((l : ℕ) → CommittedAt l es → CommittedAt l others)
      → in_ranges (committed_ranges (take j ts) (take j es)) key ≡ true
      → in_ranges (committed_ranges (take j clips) (take j others)) key ≡ true
  written_by_clips ts clips es others j zipped says h =
      let w = writer_from ts es j key h in
      let clip = partner (IsTxnClip shard) ts clips zipped w.index w.txn w.there in
      writer_held clips others j key w.index clip.0 w.below clip.1 (says w.index w.verdict)
      (clip.2.writes key bytes has ∙ w.writes)

  -- a write of a batch above the snapshot that holds the key has one of the batch's clip
  batch_above : (snapshot : ℤ) (p c : Processed) → IsBatchClip shard p.batch c.batch
      → ((l : ℕ) → CommittedAt l p.reply.entries → CommittedAt l c.reply.entries)
      → written_above snapshot key (writes_of p.batch p.reply) ≡ true
      → written_above snapshot key (writes_of c.batch c.reply) ≡ true
  batch_above snapshot p c clip says h =
      let n = length p.batch.txns in
      let ranges = committed_ranges p.batch.txns p.reply.entries in
      let clips = committed_ranges c.batch.txns c.reply.entries in
      let is_high = not (int_le p.batch.version snapshot) in
      let both = sym (above_at_version snapshot p.batch.version key ranges) ∙ h in
      let long = AllZip-long (IsTxnClip shard) p.batch.txns c.batch.txns clip.txns in
      let in_all = λ (ranges : List Range). in_ranges ranges key in
      let written = written_by_clips p.batch.txns c.batch.txns p.reply.entries c.reply.entries n clip.txns says
      (sym (ap in_all (committed-entire n p.batch.txns p.reply.entries (omega arith)))
      ∙ and_left (in_ranges ranges key) is_high both) in
      above_at_version snapshot c.batch.version key clips
      ∙ and_both (in_ranges clips key) (not (int_le c.batch.version snapshot))
      (ap in_all (committed-entire n c.batch.txns c.reply.entries (omega (arith, long))) ∙ written)
      (ap (λ version. not (int_le version snapshot)) clip.version ∙ and_right (in_ranges ranges key) is_high both)

  -- and so it is with the writes of many batches
  pub clips_above : (snapshot : ℤ) (i : ℕ) (ps own : List Processed)
      → AllZip (λ (p c : Processed). IsBatchClip shard p.batch c.batch) ps own
      → ((k l : ℕ) → SaysCommitted k l ps → SaysCommitted k l own)
      → written_above snapshot key (writes (take i ps)) ≡ true
      → written_above snapshot key (writes (take i own)) ≡ true
  clips_above snapshot zero ps own zipped says h = cc
  clips_above snapshot (suc i) [] own zipped says h = cc
  clips_above snapshot (suc i) (p ∷ ps) [] zipped says h = absurd zipped
  clips_above snapshot (suc i) (p ∷ ps) (c ∷ own) zipped says h =
      let here = writes_of p.batch p.reply in
      let later = writes (take i ps) in
      let own_here = writes_of c.batch c.reply in
      let own_later = writes (take i own) in
      written_above-append snapshot key own_here own_later
      ∙ elim (or_either (written_above snapshot key here) (written_above snapshot key later)
      (sym (written_above-append snapshot key here later) ∙ h)) [
        | inl first ↦ or_left (written_above snapshot key own_here) (written_above snapshot key own_later)
            (batch_above snapshot p c zipped.0 (λ l. says 0 l) first)
        | inr rest ↦ or_right (written_above snapshot key own_here) (written_above snapshot key own_later)
            (clips_above snapshot i ps own zipped.1 (λ k l. says (suc k) l) rest)
      ]
