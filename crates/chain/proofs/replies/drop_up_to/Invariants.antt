use Rattle.std.proofs.Common.{◌≡◌, ℕ, ℤ, false}
use Rattle.std.specs.BTreeMap as tree
use Rattle.chain.specs.Replies.{IsFiled, is_up_to, key_cmp}
use Rattle.chain.proofs.replies.drop_up_to.Given as goal

-- what is not to be dropped stays
abbrev pub invariant-loop-key : goal.invariant-loop-key
invariant-loop-key l = record {
  filed : IsFiled l.kept;
  others : (key : ℕ × ℤ) → is_up_to l.proxy l.version key ≡ false
      → tree.get key_cmp l.kept key ≡ tree.get key_cmp l.fn.kept key;
}

abbrev pub decreases-loop-key : goal.decreases-loop-key
decreases-loop-key l = tree.btree_map_len l.kept
