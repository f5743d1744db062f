-- Worked examples of several resolvers: two shards of the keys, below m and from m on.
use Rattle.std.specs.Prelude.{
  ◌≡◌,
  ℕ,
  Bool,
  true,
  false,
  ◌&&◌,
  Some,
  None,
  List,
  [],
  ◌∷◌,
  take,
  map,
  flat_map,
  All,
  refl,
}
use Rattle.keyspace.specs.declared.TheConstants.{WINDOW}
use Rattle.keys.specs.declared.range.Range.{Range}
use Rattle.keyspace.specs.declared.txn.Txn.{Txn}
use Rattle.keyspace.specs.declared.reply.Verdict.{Verdict}
use Rattle.keyspace.specs.declared.reply.Verdict.TheVariants.{Conflict, Committed}
use Rattle.keyspace.specs.Processed.{Processed}
use Rattle.keyspace.specs.Run.{Step, run}
use Rattle.keyspace.specs.Rows.{Limits, letter, is_txn, range, txn, ab, bc, cd, xy, nothing}
use Rattle.serial.specs.Commits.{holds}
use Rattle.serial.specs.Shards.{Shard, has_key, shards, IsTxnClip, SaysCommitted, AreByShards}
use Rattle.serial.specs.RowLists.{with_verdicts, four}

abbrev pub verdicts_of : List Step → List Verdict
verdicts_of log = flat_map (λ p. map (λ e. e.verdict) p.reply.entries) (run WINDOW log).processed

-- the verdicts on the transactions, in order
pub record Resolved : Type 0 where
  -- of one resolver of all keys
  pub one : List Verdict
  -- of the resolver of the keys below m
  pub below : List Verdict
  -- of the resolver of the keys from m on
  pub above : List Verdict

-- a, b, c, d, m, x
abbrev pub six_keys : List (List ℕ)
six_keys = letter 97 ∷ letter 98 ∷ letter 99 ∷ letter 100 ∷ letter 109 ∷ letter 120 ∷ []

-- which of the six keys each range holds in each shard
abbrev pub held_in_shards : List Shard → List Range → List (List (List Bool))
held_in_shards shards ranges =
    map (λ shard. map (λ range. map (λ key. has_key shard key && holds range key) six_keys) ranges) shards

-- which of the six keys each range holds
abbrev pub held_keys : List Range → List (List Bool)
held_keys ranges = map (λ range. map (holds range) six_keys) ranges

-- the one split point
abbrev pub at_m : List (List ℕ)
at_m = letter 109 ∷ []

-- the keys below m, and those from m on
abbrev pub below_m : Shard
below_m = record { from = []; to = Some (letter 109) }

abbrev pub from_m : Shard
from_m = record { from = letter 109; to = None }

module _ (limits : Limits) where
  -- A blind write W[x,y), and then three that read: the first R[x,y)@50 W[c,d), the second R[c,d)@150 W[b,c), the third
  -- R[b,c)@250 W[a,b).
  abbrev pub entire : List Step
  entire =
      four limits (txn limits 0 false [] (xy limits ∷ []) refl)
      (txn limits 50 false (xy limits ∷ []) (cd limits ∷ []) refl)
      (txn limits 150 false (cd limits ∷ []) (bc limits ∷ []) refl)
      (txn limits 250 false (bc limits ∷ []) (ab limits ∷ []) refl)

  -- the same clipped to the keys below m
  abbrev pub entire_below : List Step
  entire_below =
      four limits (txn limits 0 false [] (nothing limits ∷ []) refl)
      (txn limits 50 false (nothing limits ∷ []) (cd limits ∷ []) refl)
      (txn limits 150 false (cd limits ∷ []) (bc limits ∷ []) refl)
      (txn limits 250 false (bc limits ∷ []) (ab limits ∷ []) refl)

  -- and to the keys from m on
  abbrev pub entire_above : List Step
  entire_above =
      four limits (txn limits 0 false [] (xy limits ∷ []) refl)
      (txn limits 50 false (xy limits ∷ []) (nothing limits ∷ []) refl)
      (txn limits 150 false (nothing limits ∷ []) (nothing limits ∷ []) refl)
      (txn limits 250 false (nothing limits ∷ []) (nothing limits ∷ []) refl)

  -- The same clipped to the keys below m, without the ranges that miss them.
  abbrev pub fewer_below : List Step
  fewer_below =
      four limits (txn limits 0 false [] [] refl)
      (txn limits 50 false [] (cd limits ∷ []) refl)
      (txn limits 150 false (cd limits ∷ []) (bc limits ∷ []) refl)
      (txn limits 250 false (bc limits ∷ []) (ab limits ∷ []) refl)

  -- it reads these ranges, and writes [c,d)
  abbrev pub reads_then_cd : (snapshot : ℕ) (reads : List Range) → is_txn reads (cd limits ∷ []) ≡ true → Txn
  reads_then_cd snapshot reads h = txn limits snapshot false reads (cd limits ∷ []) h

  -- [m,n)
  abbrev pub mn : Range
  mn = range limits (letter 109) (letter 110) refl

  -- what is resolved after that many steps
  abbrev pub resolved : ℕ → Resolved
  resolved steps = record {
    one = verdicts_of (take steps entire);
    below = verdicts_of (take steps entire_below);
    above = verdicts_of (take steps entire_above);
  }

  -- what the resolvers of both shards have processed
  abbrev pub each_shard : List (List Processed)
  each_shard = (run WINDOW entire_below).processed ∷ (run WINDOW entire_above).processed ∷ []

  -- the batches as they were sent, with the verdicts of both shards together
  abbrev pub of_both : List Processed
  of_both = with_verdicts (Committed ∷ Committed ∷ Conflict ∷ Conflict ∷ Committed ∷ []) (run WINDOW entire).processed

  -- the same, but the proxy has rejected the last transaction
  abbrev pub with_rejection : List Processed
  with_rejection = with_verdicts (Committed ∷ Committed ∷ Conflict ∷ Conflict ∷ Conflict ∷ []) (run WINDOW entire).processed

  pub record ShardRows : Type 0 where
    -- The clipped ranges hold, of the six keys, those of their range that lie in the shard. The ranges are [x,y), [c,d), [b,c),
    -- [a,b).
    pub shards_clip : held_in_shards (shards at_m) (xy limits ∷ cd limits ∷ bc limits ∷ ab limits ∷ [])
        ≡ held_keys (nothing limits ∷ cd limits ∷ bc limits ∷ ab limits ∷ [])
        ∷ held_keys (xy limits ∷ nothing limits ∷ nothing limits ∷ nothing limits ∷ []) ∷ []
    -- The first has read what was overwritten from m on, so it is rejected there. But the resolver below m committed it
    -- and remembers its write of c. So the second, which has read c before, is rejected there. One resolver of all keys
    -- commits it.
    pub shards_reject : resolved 4 ≡ record {
      one = Committed ∷ Conflict ∷ Committed ∷ [];
      below = Committed ∷ Committed ∷ Conflict ∷ [];
      above = Committed ∷ Conflict ∷ Committed ∷ [];
    }
    -- The third has read b before the second wrote it, so one resolver of all keys rejects it. Both shards commit it, for the
    -- resolver below m rejected the second.
    pub shards_commit : resolved 5 ≡ record {
      one = Committed ∷ Conflict ∷ Committed ∷ Conflict ∷ [];
      below = Committed ∷ Committed ∷ Conflict ∷ Committed ∷ [];
      above = Committed ∷ Conflict ∷ Committed ∷ Committed ∷ [];
    }
    -- so the laws of shards speak of both together
    pub shards_together : AreByShards WINDOW at_m each_shard of_both
    -- Both shards have committed the last transaction, and its client received a conflict. The laws speak of that too.
    pub proxy_rejects : AreByShards WINDOW at_m each_shard with_rejection
    pub proxy_rejects_committed : All (SaysCommitted 4 0) each_shard × ¬ SaysCommitted 4 0 with_rejection
    -- A clip may omit a range that misses the shard, and may send a range uncut.
    pub clip_omits : IsTxnClip below_m (reads_then_cd 50 (xy limits ∷ cd limits ∷ []) refl) (reads_then_cd 50 (cd limits ∷ []) refl)
    pub clip_uncut : IsTxnClip below_m (reads_then_cd 50 (xy limits ∷ cd limits ∷ []) refl) (reads_then_cd 50 (xy limits ∷ cd limits ∷ []) refl)
    -- It may not omit a range that meets the shard, nor the key at a split point, nor have another snapshot.
    pub clip_keeps_ranges : ¬ IsTxnClip below_m (reads_then_cd 50 (cd limits ∷ []) refl) (reads_then_cd 50 [] refl)
    pub clip_keeps_split_point : ¬ IsTxnClip from_m (reads_then_cd 50 (mn ∷ []) refl) (reads_then_cd 50 (nothing limits ∷ []) refl)
    pub clip_keeps_snapshot : ¬ IsTxnClip below_m (reads_then_cd 0 (cd limits ∷ []) refl) (reads_then_cd 1 (cd limits ∷ []) refl)
    -- so the laws of shards speak of shards whose batches omit what misses them
    pub omitting_together : AreByShards WINDOW at_m
        ((run WINDOW fewer_below).processed ∷ (run WINDOW (entire_above)).processed ∷ []) of_both
    -- and of shards that get the batches uncut
    pub uncut_together : AreByShards WINDOW at_m
        ((run WINDOW entire).processed ∷ (run WINDOW entire).processed ∷ []) (run WINDOW entire).processed
