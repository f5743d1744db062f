use Rattle.std.proofs.Common.{◌≡◌, subst, arith}
use Rattle.std.specs.Prelude.{int_lt}
use Rattle.std.proofs.lemmas.Int.{ints}
use mir.Syntax.{w64}
use mir.Val.{to_z, of_z}
use Rattle.keys.proofs.callers.Booleans.{false_unless}
use Rattle.keys.proofs.callers.Numbers.{not_less}
use Rattle.keys.specs.Hash.{hash_of}
use Rattle.stepmap.specs.Filter.{FilterState, bound}
use Rattle.stepmap.proofs.Bounds.{bound_of_range}
use Rattle.stepmap.proofs.filter.Filter.is_useful.Goals as goal

pub returns-clause-range : goal.returns-clause-range
returns-clause-range c = λ older key.
    let i = c.self.inside in
    let old : FilterState = record { cells = i.cells.items; newest_range = i.newest_range; newest_key = i.newest_key } in
    let range = to_z w64 (of_z w64 i.newest_range) in
    let newest = to_z w64 (of_z w64 i.newest_key) in
    let less = not_less range newest (false_unless (int_lt range newest) older) in
    subst (λ (f : FilterState). bound f key ≡ f.newest_range) c.self.view_is
    (bound_of_range old c.self.invariant.2 c.self.invariant.3 (omega (arith, ints, less)) (hash_of key))
