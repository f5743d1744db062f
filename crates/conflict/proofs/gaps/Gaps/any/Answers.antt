use Rattle.std.proofs.Common.{arith}
use Rattle.conflict.proofs.GapsMarks.{count_of, some_marked}
use Rattle.conflict.proofs.gaps.Gaps.any.Goals as goal

pub any_in_run-requires-clause-within : goal.any_in_run-requires-clause-within
any_in_run-requires-clause-within c =
    let count = count_of c.self.inside.count c.self.inside.words.items _ c.self.view_is in
    omega (arith, c.self.invariant)

pub returns-then-from-to : goal.returns-then-from-to
returns-then-from-to c =
    let words = c.self.inside.words.items in
    let count = count_of c.self.inside.count words _ c.self.view_is in
    let found = some_marked c.self.inside.count words c.args.from c.args.to (omega arith) in
    let said = rw c.deref.ensures.value at c.any_in_run.ensures.found in
    record { marked = rw (← c.self.view_is) (λ determined. found.0 (said.0 determined), λ some. said.1 (found.1 some)) }
