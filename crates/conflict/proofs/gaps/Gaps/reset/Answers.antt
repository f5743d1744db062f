use Rattle.std.proofs.Common.{◌≡◌, ◌/◌, ◌+◌, replicate, ◌∙◌, arith, rules}
use Rattle.std.proofs.lemmas.Grind.{common_steps}
use Rattle.conflict.proofs.GapsMarks.{HasBit-replicate, IsMarked-marks_of, length-marks_of, marks_of-zero}
use Rattle.conflict.proofs.gaps.Gaps.reset.Goals as goal

pub returns-in_err-resize-clause-err : goal.returns-in_err-resize-clause-err
returns-in_err-resize-clause-err c = rw marks_of-zero (search rules)

pub returns-clause-count : goal.returns-clause-count
returns-clause-count c = length-marks_of c.args.count c.resize.new.self.items

pub returns-clause-unmarked : goal.returns-clause-unmarked
returns-clause-unmarked c = λ gap marked.
    let zeros : c.resize.new.self.items ≡ replicate (c.args.count / 64 + 1) 0 =
    c.in_ok-resize.ensures.items
    ∙ rw (c.clear.ensures.items, c.clear.ensures.len) (grind (arith, common_steps)) in
    let has = ((IsMarked-marks_of c.args.count c.resize.new.self.items gap).0 marked).1 in
    HasBit-replicate (c.args.count / 64 + 1) gap (rw zeros at has)
