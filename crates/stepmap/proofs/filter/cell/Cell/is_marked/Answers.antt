use Rattle.std.proofs.Common.{◌%◌}
use Rattle.stepmap.proofs.Cells.{marked_by_and}
use Rattle.stepmap.proofs.filter.cell.Cell.is_marked.Goals as goal

pub returns : goal.returns
returns c = record { marked = rw c.mark_of.ensures.mark (marked_by_and c.args.self.now.marks (c.args.hash % 32)) }
