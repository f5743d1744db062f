-- What is kept of counted transactions.
use Rattle.std.specs.Prelude.{◌≡◌, ℕ, ◌+◌, ◌<◌, Bool, false, ◌==◌, if◌then◌else◌, List, map, Option, Some, None}
use Rattle.std.specs.BTreeMap as tree
use Rattle.replay_hot_ranges.specs.declared.conflict_counts.Tallies.{Tallies}
use Rattle.replay_hot_ranges.specs.declared.tally.Count.{Count}
use Rattle.replay_hot_ranges.specs.declared.tally.RangeTally.{RangeTally}
use Rattle.replay_hot_ranges.specs.Conflicts.{InConflict}
use Rattle.replay_hot_ranges.specs.Counts.{Ends, Side, count_of, is_about, read_side, written_side}
use Rattle.replay_hot_ranges.specs.Top.{ends_cmp}

abbrev pub conflicts_in : Option Count → ℕ
conflicts_in None = 0
conflicts_in (Some count) = count.conflict_count

-- the transaction of this number was counted last
abbrev pub is_last_in : Option Count → ℕ → Bool
is_last_in None txn = false
is_last_in (Some count) txn = count.last == txn

-- the count of a range
abbrev pub conflicts_at : RangeTally → Ends → ℕ
conflicts_at tally ends = conflicts_in (tree.get ends_cmp tally.counts ends)

-- whether the transaction of this number was counted last for a range
abbrev pub is_last : RangeTally → ℕ → Ends → Bool
is_last tally txn ends = is_last_in (tree.get ends_cmp tally.counts ends) txn

-- all ranges with their counts, in order
abbrev pub rows_of : RangeTally → List (Ends × ℕ)
rows_of tally = map (λ e. (e.0, e.1.conflict_count)) tally.counts.entries

-- the tally has these transactions, whose numbers are at most this one
pub record IsTallyOf (side : Side) (txns : List (List InConflict)) (newest : ℕ) (tally : RangeTally) : Type 0 where
  pub counts : (ends : Ends) → conflicts_at tally ends ≡ count_of side txns ends
  pub numbers : (ends : Ends) (txn : ℕ) → newest < txn → is_last tally txn ends ≡ false

-- it also has some conflicts of one more, which has this number
pub record IsTallyWith (side : Side) (txns : List (List InConflict)) (conflicts : List InConflict) (newest : ℕ) (tally : RangeTally)
    : Type 0 where
  pub counts : (ends : Ends)
      → conflicts_at tally ends ≡ count_of side txns ends + (if is_about side ends conflicts then 1 else 0)
  pub numbers : (ends : Ends) (txn : ℕ) → newest < txn → is_last tally txn ends ≡ false
  pub marks : (ends : Ends) → is_last tally newest ends ≡ is_about side ends conflicts

-- both sides
abbrev pub AreTallies : List (List InConflict) → Tallies → Type 0
AreTallies txns tallies = IsTallyOf read_side txns tallies.txn_count tallies.reads × IsTallyOf written_side txns tallies.txn_count tallies.writes

abbrev pub AreTalliesWith : List (List InConflict) → List InConflict → Tallies → Type 0
AreTalliesWith txns conflicts tallies =
    IsTallyWith read_side txns conflicts tallies.txn_count tallies.reads
    × IsTallyWith written_side txns conflicts tallies.txn_count tallies.writes
