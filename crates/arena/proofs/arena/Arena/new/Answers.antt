use Rattle.arena.proofs.Keeping.{IsKept-new}
use Rattle.arena.proofs.arena.Arena.new.Goals as goal

pub invariant_of-result : goal.invariant_of-result
invariant_of-result g c = rw (c.new.ensures.items, c.new-2.ensures.none) IsKept-new
