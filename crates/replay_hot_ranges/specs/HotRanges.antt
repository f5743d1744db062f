-- What is counted of the batches that were seen. This project's own.
use Rattle.std.specs.Prelude.{◌≡◌, false, List}
use Rattle.keyspace.specs.Chain.{IsChain}
use Rattle.keyspace.specs.Processed.{Processed}
use Rattle.explanations.specs.History.{FollowsChain}
use Rattle.replay_hot_ranges.specs.Conflicts.{rejected_txns}
use Rattle.replay_hot_ranges.specs.RangeTally.{AreTallies}
use Rattle.replay_hot_ranges.specs.declared.hot_ranges.HotRanges.{HotRanges}

-- it has the conflicts of these batches
pub record HasCounted (h : HotRanges) (ps : List Processed) : Type 0 where
  pub follows : FollowsChain h.history ps
  pub tallies : AreTallies (rejected_txns ps) h.tallies

-- it has seen these batches: if they are a chain with right replies, it has their conflicts, unless memory was refused
abbrev pub HasSeen : HotRanges → List Processed → Type 0
HasSeen h ps = h.has_failed ≡ false → IsChain h.history.window ps → HasCounted h ps
