use Rattle.std.proofs.Common.{sym, ◌∙◌, arith}
use Rattle.std.proofs.lemmas.List.{with_items_is}
use Rattle.std.specs.Vec.{with_items}
use Rattle.conflict.proofs.GapsMarks.{count_of, length-marks_of, marked_after}
use Rattle.conflict.proofs.gaps.Gaps.mark.Goals as goal

pub set_run-requires-clause-within : goal.set_run-requires-clause-within
set_run-requires-clause-within c =
    let count = count_of c.self.inside.count c.self.inside.words.items _ c.self.view_is in
    omega (arith, c.self.invariant)

pub returns-then-from-to-clause-count : goal.returns-then-from-to-clause-count
returns-then-from-to-clause-count c =
    let words = c.self.inside.words in
    length-marks_of c.self.inside.count (with_items words c.set_run.new.words).items
    ∙ sym (count_of c.self.inside.count words.items _ c.self.view_is)

pub returns-then-from-to-clause-marked : goal.returns-then-from-to-clause-marked
returns-then-from-to-clause-marked c =
    let words = c.self.inside.words in
    let new = with_items words c.set_run.new.words in
    let count = count_of c.self.inside.count words.items _ c.self.view_is in
    let kept = with_items_is words c.set_run.new.words (omega arith) in
    let set = rw c.deref_mut.ensures.value at c.set_run.ensures.set in
    rw (← c.self.view_is) (marked_after c.self.inside.count words.items new.items c.args.from c.args.to
    (omega arith) (λ bit. rw kept (set bit)))
