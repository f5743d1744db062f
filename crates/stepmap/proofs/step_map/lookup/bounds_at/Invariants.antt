use Rattle.std.proofs.Common.{◌≡◌, map, take}
use Rattle.stepmap.specs.Filter.{bound_in}
use Rattle.stepmap.proofs.step_map.lookup.bounds_at.Given as goal

abbrev pub invariant-loop-hash : goal.invariant-loop-hash
invariant-loop-hash l = l.bounds.items ≡ map (bound_in l.filter) (take l.hash-index l.hashes)
