use Rattle.std.proofs.Common.{◌≡◌, ◌≤◌, ◌-◌, All, length}
use Rattle.stepmap.proofs.step_map.lookup.repeated.Given as goal

abbrev pub invariant-loop-bounds : goal.invariant-loop-bounds
invariant-loop-bounds l = (All (λ b. b ≡ l.bound) l.bounds.items) × (length l.bounds.items ≤ l.count)

abbrev pub decreases-loop-bounds : goal.decreases-loop-bounds
decreases-loop-bounds l = l.count - length l.bounds.items
