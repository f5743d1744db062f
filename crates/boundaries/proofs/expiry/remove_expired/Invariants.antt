use Rattle.boundaries.proofs.Words.{KeyBytes, AreHeads, entries_of, key_heads_of}
use Rattle.boundaries.proofs.Removing.{RemovesExpired}
use Rattle.boundaries.proofs.expiry.remove_expired.Given as goal

abbrev pub invariant-loop-index : goal.invariant-loop-index
invariant-loop-index l =
    record {
      removal : RemovesExpired l.edge l.before l.last (entries_of l.initial.node) (entries_of l.node) l.removed.items
          l.from l.to l.index l.kept;
      headed : (bytes : KeyBytes) → AreHeads bytes (key_heads_of l.initial.node) → AreHeads bytes (key_heads_of l.node);
    }
