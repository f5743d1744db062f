use Rattle.std.proofs.Common.{◌≡◌, ℕ, ◌+◌, ◌<◌, ◌≤◌}
use Rattle.arena.specs.Arena.{slots_of, spare_of, wanted_of}
use Rattle.arena.proofs.arena.Arena.reserve.Given as goal

abbrev pub invariant-loop-size : goal.invariant-loop-size
invariant-loop-size g l =
    record {
      records : l.self.records ≡ l.initial.self.records;
      room : (s : ℕ) → s < l.size → wanted_of l.lengths s ≤ spare_of l.self s;
      stays : (s : ℕ) → spare_of l.initial.self s ≤ spare_of l.self s;
      no_more : (s : ℕ) → wanted_of l.lengths s ≤ spare_of l.initial.self s
          → spare_of l.self s ≡ spare_of l.initial.self s;
      most : (s : ℕ) → s < 10 → spare_of l.initial.self s < wanted_of l.lengths s
          → spare_of l.self s < wanted_of l.lengths s + slots_of s;
      later : (s : ℕ) → l.size ≤ s → spare_of l.self s ≡ spare_of l.initial.self s;
    }
