-- What all shards commit, one resolver commits too, if it remembers just what was committed.
use Rattle.std.proofs.Common.{◌≡◌, ℕ, suc, ◌<◌, true, not, cond, List, [], ◌∷◌, length, take, drop, get_or, ℤ, ◌<ℤ◌, int_le, refl, sym, ap, ◌∙◌, subst, inl, inr, arith}
use Rattle.std.specs.Prelude.{pos, ◌-ℤ◌, Option, Some, slice_get, IsSomeAnd, Any, Contains, filter}
use Rattle.std.specs.Int.{int_max}
use Rattle.std.specs.List.{AllZip}
use Rattle.std.proofs.lemmas.Int.{ints}
use Rattle.std.proofs.lemmas.List.Elements.{All-get_or}
use Rattle.std.proofs.lemmas.List.Folds.{list_any-from_Any}
use Rattle.std.proofs.lemmas.Option.{slice_get_within, slice_get-get_or, get_or_from_slice_get, slice_get_read}
use Rattle.keys.specs.declared.range.Range.{Range}
use Rattle.keys.specs.Key.{is_before}
use Rattle.keys.specs.Range.{Holds, Meets}
use Rattle.keys.proofs.callers.Booleans.{and_both, not_both_ways}
use Rattle.keys.proofs.callers.Lists.{some_at as element_at}
use Rattle.keyspace.specs.declared.txn.Txn.{Txn}
use Rattle.keyspace.specs.declared.reply.Verdict.TheVariants.{Committed}
use Rattle.keyspace.specs.declared.reply.Entry.{Entry}
use Rattle.keyspace.specs.Processed.{Processed}
use Rattle.keyspace.specs.Writes.{writes, earlier}
use Rattle.keyspace.specs.Judged.{edge, HasVerdict, IsTooOld, IsInConflict}
use Rattle.keyspace.specs.Chain.{IsChain}
use Rattle.serial.specs.Commits.{IsCommitted, holds, Current}
use Rattle.serial.specs.Stores.{in_ranges}
use Rattle.serial.specs.Shards.{Shard, shards, SaysCommitted}
use Rattle.serial.proofs.callers.Reading.{is_above, written_above, low_from_current, none_from_current, split_at, some_at, the_value, partner}
use Rattle.shards.specs.Clips.{goes_to, IsClip, AreClips, IsTxnClip, IsBatchClip}
use Rattle.shards.specs.Laws.{AreCombined, CommitsNoMore}
use Rattle.shards.proofs.Together.{are_by_shards}
use Rattle.shards.proofs.Going.{each_goes}

-- `Holds`, computed
held : (range : Range) (key : List ℕ) → Holds range key → holds range key ≡ true
held range key h = and_both (not (is_before key range.begin)) (is_before key range.end) h.0 h.1

above_test : (version snapshot : ℤ) → snapshot <ℤ version → not (int_le version snapshot) ≡ true
above_test version snapshot h = grind (arith, ints)

-- a transaction whose reads are current isn't in conflict with what was committed
no_conflict : (ps : List Processed) → Current ps → (i j : ℕ) (p : Processed) (t : Txn) → IsCommitted ps i j p t
    → IsInConflict (writes (take i ps)) (earlier p.batch p.reply j) t → ⊥
no_conflict ps current i j p t c conflict =
    let ws = writes (take i ps) in
    let written = earlier p.batch p.reply j in
    elim conflict.1 [
      | inl hit ↦
          let range = the_value (λ (r : Range). Any (λ w. Meets r w.range × (t.snapshot <ℤ w.version)) ws) (slice_get t.reads conflict.0) hit in
          let w = range.2 in
          let read : Contains t.reads range.0 = (
            conflict.0,
            slice_get_within t.reads conflict.0 range.0 range.1,
            get_or_from_slice_get t.reads conflict.0 range.0 range.0 range.1,
          ) in
          let key = w.4.0 in
          let known = current i j p t c range.0 read key.0 key.1 (held range.0 key.0 key.2) in
          let low = low_from_current t.snapshot p.batch.version key.0 ws written known in
          let high = list_any-from_Any (is_above t.snapshot key.0) ws (
            w.0,
            w.1,
            w.2,
            w.3,
            and_both (holds w.1.range key.0) (not (int_le w.1.version t.snapshot)) (held w.1.range key.0 key.3)
                (above_test w.1.version t.snapshot w.4.1),
          ) in
          not_both_ways (written_above t.snapshot key.0 ws) high low
      | inr meets ↦
          let range = the_value (λ (r : Range). Any (Meets r) written) (slice_get t.reads conflict.0) meets in
          let w = range.2 in
          let read : Contains t.reads range.0 = (
            conflict.0,
            slice_get_within t.reads conflict.0 range.0 range.1,
            get_or_from_slice_get t.reads conflict.0 range.0 range.0 range.1,
          ) in
          let key = w.4 in
          let known = current i j p t c range.0 read key.0 key.1 (held range.0 key.0 key.2) in
          let none = none_from_current t.snapshot p.batch.version key.0 ws written known in
          let some = list_any-from_Any (λ (r : Range). holds r key.0) written (w.0, w.1, w.2, w.3, held w.1 key.0 key.3) in
          not_both_ways (in_ranges written key.0) some none
    ]

-- if the first range goes to a shard, there is a clip
some_clip : (shard : Shard) (ranges clips : List Range) (range : Range) → slice_get ranges 0 ≡ Some range
    → goes_to shard range ≡ true → AreClips shard ranges clips → 0 < length clips
some_clip shard [] clips range at goes are = cc
some_clip shard (first ∷ ranges) clips range at goes are =
    let same : first ≡ range = cc in
    let kept : AllZip (IsClip shard) (first ∷ filter (goes_to shard) ranges) clips =
    subst (λ b. AllZip (IsClip shard) (cond b (first ∷ filter (goes_to shard) ranges) (filter (goes_to shard) ranges)) clips)
    (ap (goes_to shard) same ∙ goes) are in
    some first (filter (goes_to shard) ranges) clips kept
  where
    some : (x : Range) (xs ys : List Range) → AllZip (IsClip shard) (x ∷ xs) ys → 0 < length ys
    some x xs [] zipped = absurd zipped
    some x xs (y ∷ ys) zipped = omega arith

-- the edge of a batch of this version
abbrev edge_at : ℤ → ℤ → ℤ
edge_at window version = int_max (version -ℤ window) (pos 0)

-- nor is it too old
not_too_old : (window : ℤ) (points : List (List ℕ)) (each : List (List Processed)) (ps : List Processed)
    → AreCombined window points each ps → (i j : ℕ) (p : Processed) (t : Txn) → IsCommitted ps i j p t
    → IsTooOld (edge window p.batch) t → ⊥
not_too_old window points each ps are i j p t c old =
    let range = element_at t.reads 0 old.0 in
    let goes = each_goes points range.0 in
    let m = goes.0 in
    let shard = goes.1 in
    let there : slice_get (shards points) m ≡ Some shard = slice_get_read (shards points) _ m shard refl goes.2 (sym goes.3) in
    let inside : m < length each = subst (λ n. m < n) (sym are.one_each) goes.2 in
    let own = get_or each m [] in
    let clips = are.clips m shard own there (slice_get-get_or each m [] inside) in
    let batch = partner (λ (p c : Processed). IsBatchClip shard p.batch c.batch) ps own clips i p c.batch in
    let q = batch.0 in
    let txn = partner (IsTxnClip shard) p.batch.txns q.batch.txns batch.2.txns j t c.txn in
    let u = txn.0 in
    let says = (are_by_shards window points each ps are).verdicts i j
    (some_at (λ (p : Processed). IsSomeAnd (slice_get p.reply.entries j) (λ e. e.verdict ≡ Committed)) (slice_get ps i) p c.batch c.verdict) in
    let said : IsSomeAnd (slice_get q.reply.entries j) (λ e. e.verdict ≡ Committed) =
    subst (λ (o : Option Processed). IsSomeAnd o (λ (p : Processed). IsSomeAnd (slice_get p.reply.entries j) (λ e. e.verdict ≡ Committed)))
    batch.1 (All-get_or (SaysCommitted i j) each m [] inside says) in
    let e = the_value (λ (e : Entry). e.verdict ≡ Committed) (slice_get q.reply.entries j) said in
    let chain = All-get_or (IsChain window) each m [] inside are.chains in
    let judged = (chain (take i own) q (drop (suc i) own) (split_at own i q batch.1)).judged in
    let right = subst (HasVerdict (edge window q.batch) (writes (take i own)) (earlier q.batch q.reply j) u) e.2
    (judged.verdicts j u e.0 txn.1 e.1) in
    let late : u.snapshot <ℤ edge window q.batch =
    subst (λ (version : ℤ). u.snapshot <ℤ edge_at window version) (sym batch.2.version)
    (subst (λ (snapshot : ℤ). snapshot <ℤ edge window p.batch) (sym txn.2.snapshot) old.1) in
    right.0 (some_clip shard t.reads u.reads range.0 range.1 goes.4 txn.2.reads, late)

pub commits_no_more : (window : ℤ) (points : List (List ℕ)) (each : List (List Processed)) (ps : List Processed)
    → AreCombined window points each ps → Current ps → CommitsNoMore window ps
commits_no_more window points each ps are current i j p t c =
    (not_too_old window points each ps are i j p t c, no_conflict ps current i j p t c)
