use Rattle.std.proofs.Common.{ℕ, List, sym, subst, arith}
use Rattle.std.specs.Prelude.{◌≤ℤ◌}
use Rattle.std.proofs.lemmas.Int.{ints}
use Rattle.stepmap.specs.Filter.{bound}
use Rattle.boundaries.proofs.callers.SingleKeys.{single_holds}
use Rattle.stepmap.proofs.step_map.writing.note.Goals as goal

pub returns-in-Some-clause-on_range : goal.returns-in-Some-clause-on_range
returns-in-Some-clause-on_range c = λ key holds.
    let range = c.args.range.now in
    let answered = c.in-Some.ensures.hash in
    let f = c.write_key.new.self in
    let low = c.write_key.ensures.written range.begin answered.1 in
    let high : c.args.version ≤ℤ bound f range.begin = omega (arith, ints, low) in
    subst (λ (key : List ℕ). c.args.version ≤ℤ bound f key) (sym (single_holds range key answered.0 holds)) high
