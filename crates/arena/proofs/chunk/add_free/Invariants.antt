use Rattle.std.proofs.Common.{◌≡◌, ℕ, suc, ◌-◌, ◌<◌, ◌≤◌, length, vec_capacity}
use Rattle.arena.specs.Chunk.{entries_of, with_free}
use Rattle.arena.proofs.chunk.add_free.Given as goal

abbrev pub invariant-loop-header : goal.invariant-loop-header
invariant-loop-header g l =
    record {
      paired : length l.headers.items ≡ length l.lengths.items;
      free : (count : ℕ) → l.index < count
          → with_free count (entries_of l.lengths.items l.headers.items)
          ≡ with_free count (entries_of l.initial.lengths.items l.initial.headers.items);
      few : (count : ℕ) → l.index < count → length l.initial.lengths.items ≤ count
          → length l.lengths.items ≤ count;
      lengths_capacity : vec_capacity l.initial.lengths ≤ vec_capacity l.lengths;
      headers_capacity : vec_capacity l.initial.headers ≤ vec_capacity l.headers;
    }

abbrev pub decreases-loop-header : goal.decreases-loop-header
decreases-loop-header g l = suc l.index - length l.lengths.items
