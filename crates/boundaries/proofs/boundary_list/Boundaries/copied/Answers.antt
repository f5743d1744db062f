use Rattle.std.proofs.Common.{arith}
use Rattle.boundaries.proofs.CopiedOn.{all_copied}
use Rattle.boundaries.proofs.boundary_list.Boundaries.copied.Goals as goal

pub returns-clause-boundaries : goal.returns-clause-boundaries
returns-clause-boundaries c =
    all_copied c.args.self.now.boundaries c.requires.boundaries c.loop-copy.from.items c.loop-copy.copy.boundaries
    c.loop-copy.invariant.copied
    (omega (arith, c.len.ensures.len, c.len-in-loop-copy.ensures.len, c.loop-copy-test.false))
