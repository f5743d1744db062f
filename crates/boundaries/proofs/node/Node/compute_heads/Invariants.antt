use Rattle.std.proofs.Common.{◌≡◌, length, take, map}
use Rattle.boundaries.proofs.Words.{FAN_OUT, key_at, head_at, entries_of, keys_of}
use Rattle.boundaries.proofs.node.Node.compute_heads.Given as goal

abbrev pub invariant-loop-index : goal.invariant-loop-index
invariant-loop-index l =
    record {
      len : l.self.len ≡ l.fn.self.len;
      entries : l.self.entries ≡ l.fn.self.entries;
      prefix_len : l.self.prefix_len ≡ l.initial.self.prefix_len;
      room : length l.self.heads ≡ FAN_OUT;
      heads : take l.index l.self.heads ≡ map (head_at (key_at l.keys) l.self.prefix_len) (take l.index (keys_of (entries_of l.self)));
    }
