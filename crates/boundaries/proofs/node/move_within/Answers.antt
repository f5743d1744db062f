use Rattle.boundaries.proofs.Splicing.{not_moved}
use Rattle.boundaries.proofs.node.move_within.Goals as goal

pub returns-else-from-to : goal.returns-else-from-to
returns-else-from-to g c = record { moved = not_moved c.args.elements.now c.args.from c.args.end c.args.to c.if-from-to.false }
