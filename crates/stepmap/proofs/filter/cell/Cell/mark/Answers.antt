use Rattle.std.proofs.Common.{◌%◌, eqb, ap}
use Rattle.stepmap.proofs.Cells.{marked_there, marked_still, one_of}
use Rattle.stepmap.proofs.filter.cell.Cell.mark.Goals as goal

pub returns-clause-marked : goal.returns-clause-marked
returns-clause-marked c =
    rw c.mark_of.ensures.mark (ap (λ bit. eqb bit 1) (marked_there c.args.self.now.marks c.args.hash))

pub returns-clause-kept : goal.returns-clause-kept
returns-clause-kept c = λ other marked.
    ap (λ bit. eqb bit 1) (marked_still c.args.self.now.marks c.mark_of.result (other % 32) (one_of _ marked))
