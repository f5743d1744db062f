use Rattle.std.proofs.Common.{◌≡◌, replicate}
use Rattle.arena.specs.Spares.{none}
use Rattle.arena.proofs.spares.lists.Given as goal

abbrev pub invariant-loop : goal.invariant-loop
invariant-loop g l = l.lists.items ≡ replicate l.counter none
