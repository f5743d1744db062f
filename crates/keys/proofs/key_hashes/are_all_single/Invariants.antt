use Rattle.std.proofs.Common.{◌≡◌, ◌<◌, ℕ, get_or}
use Rattle.std.specs.Prelude.{None}
use Rattle.keys.proofs.key_hashes.are_all_single.Given as goal

-- there is a hash at each index so far
abbrev pub invariant-loop-hash : goal.invariant-loop-hash
invariant-loop-hash l = (k : ℕ) → k < l.hash-index → get_or l.hashes k None ≡ None → ⊥
