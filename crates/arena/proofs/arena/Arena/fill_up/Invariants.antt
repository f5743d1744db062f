use Rattle.std.proofs.Common.{◌≡◌, ◌≢◌, ℕ, ◌+◌, ◌-◌, ◌≤◌, ◌<◌}
use Rattle.arena.specs.Arena.{slots_of, spare_of}
use Rattle.arena.proofs.arena.Arena.fill_up.Given as goal

abbrev pub invariant-loop-self : goal.invariant-loop-self
invariant-loop-self g l =
    record {
      records : l.self.records ≡ l.initial.self.records;
      stays : spare_of l.initial.self l.size ≤ spare_of l.self l.size;
      others : (s : ℕ) → s ≢ l.size → spare_of l.self s ≡ spare_of l.initial.self s;
      no_more : l.wanted ≤ spare_of l.initial.self l.size
          → spare_of l.self l.size ≡ spare_of l.initial.self l.size;
      most : spare_of l.initial.self l.size < l.wanted
          → spare_of l.self l.size < l.wanted + slots_of l.size;
    }

abbrev pub decreases-loop-self : goal.decreases-loop-self
decreases-loop-self g l = l.wanted - spare_of l.self l.size
