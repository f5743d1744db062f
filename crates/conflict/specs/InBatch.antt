-- The check inside a batch, after the check against the history. Source: `ConflictBatch` of FoundationDB 7.1, which asks
-- the history for all transactions first, and then goes through the batch in order.
use Rattle.std.specs.Prelude.{◌≡◌, ℕ, ℤ, if◌then◌else◌, List, [], ◌∷◌, ◌++◌, length, map, take}
use Rattle.std.specs.List.{list_any}
use Rattle.keys.specs.declared.range.Range.{Range}
use Rattle.keyspace.specs.declared.txn.Txn.{Txn}
use Rattle.keyspace.specs.declared.reply.Verdict.{Verdict}
use Rattle.keyspace.specs.declared.reply.Verdict.TheVariants.{Conflict, TooOld, Committed}
use Rattle.keyspace.specs.declared.reply.Entry.{Entry}
use Rattle.keyspace.specs.Writes.{Write, counted_ranges}
use Rattle.keyspace.specs.Judge.{meets_earlier, places_from, in_conflict_at, judge_txn, judge_txns}

-- the entry of the history alone: nothing of the batch is written yet
abbrev pub by_history : ℤ → List Write → Txn → Entry
by_history oldest ws t = judge_txn oldest ws [] t

-- the first place that meets the batch, of a marked transaction
abbrev pub first_met : List Range → Txn → List ℕ
first_met written t = if t.marked then take 1 (places_from 0 (meets_earlier written) t.reads) else []

-- what the batch makes of a transaction that the history lets commit
abbrev pub unless_met : List Range → Txn → Entry → Entry
unless_met written t e =
    if list_any (meets_earlier written) t.reads then in_conflict_at (first_met written t) else e

-- what the batch makes of an entry of the history, by its verdict
abbrev pub by_verdict : Verdict → List Range → Txn → Entry → Entry
by_verdict Committed written t e = unless_met written t e
by_verdict TooOld written t e = e
by_verdict Conflict written t e = e

-- what the batch makes of an entry of the history: what is refused stays so
abbrev pub in_batch : List Range → Txn → Entry → Entry
in_batch written t e = by_verdict e.verdict written t e

-- in order, each after what the committed ones before it write
abbrev pub in_batches : List Range → List Txn → List Entry → List Entry
in_batches written (t ∷ ts) (e ∷ es) =
    in_batch written t e ∷ in_batches (written ++ counted_ranges (in_batch written t e).verdict t.writes) ts es
in_batches written [] es = []
in_batches written (t ∷ ts) [] = []

-- the other transaction has as many ranges, and the same mark
pub record IsShapedAs (t other : Txn) : Type 0 where
  pub reads : length other.reads ≡ length t.reads
  pub writes : length other.writes ≡ length t.writes
  pub marked : other.marked ≡ t.marked

-- the scan may ask the history for all transactions first
abbrev pub HistoryFirst : Type 0
HistoryFirst = (oldest : ℤ) (ws : List Write) (written : List Range) (ts : List Txn)
    → judge_txns oldest ws written ts ≡ in_batches written ts (map (by_history oldest ws) ts)
