use Rattle.std.proofs.Common.{◌≡◌, ℕ, ◌<◌, ◌≤◌, length, take, get_or, slice_index}
use Rattle.arena.specs.Arena.{wanted_of}
use Rattle.arena.proofs.size.count_sizes.Given as goal

abbrev pub invariant-loop-length : goal.invariant-loop-length
invariant-loop-length l =
    record {
      ten : length l.counts ≡ 10;
      counts : (size : ℕ) → size < 10
          → slice_index l.counts size ≡ wanted_of (take l.length-index l.lengths) size;
      fit : (k : ℕ) → k < l.length-index → get_or l.lengths k 0 ≤ 16384;
    }
