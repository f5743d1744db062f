use Rattle.std.proofs.Common.{◌≡◌, ℕ, ◌<◌, length, get_or, set, refl, sym, ◌∙◌, ap, subst, arith}
use Rattle.std.specs.Prelude.{negsuc, ◌≤ℤ◌}
use Rattle.std.specs.Int.{int_max}
use Rattle.std.proofs.lemmas.Int.{ints, clamps}
use Rattle.std.proofs.lemmas.List.{get_or_default}
use Rattle.std.proofs.Math.ListN.{length-set}
use mir.Syntax.{w64}
use mir.Val.{to_z, of_z}
use Rattle.keys.specs.Hash.{hash_of}
use Rattle.stepmap.specs.Cell.{bound_of, empty_cell, newest_of}
use Rattle.stepmap.specs.Filter.{FilterState, bound_in, cell_at}
use Rattle.stepmap.proofs.Bounds.{bounded, from_range, raised, set_none_newer, written, NoneNewer}
use Rattle.stepmap.proofs.filter.Filter.write_key.Goals as goal
use Rattle.stepmap.proofs.filter.Filter.write_key.Goals.{After-max-self-inside}

within : (c : After-max-self-inside) → c.cell-index.result < length c.self.inside.cells.items
within c = omega (arith, c.cell-index.ensures.within, ap (λ (f : FilterState). length f.cells) c.self.view_is)

-- the cell before
was : (c : After-max-self-inside) → c.index.result.now ≡ get_or c.self.inside.cells.items c.cell-index.result empty_cell
was c = c.index.ensures ∙ get_or_default c.self.inside.cells.items c.cell-index.result c.index.result.now empty_cell (within c)

old : (c : After-max-self-inside) → FilterState
old c = record {
  cells = c.self.inside.cells.items;
  newest_range = c.self.inside.newest_range;
  newest_key = c.self.inside.newest_key;
}

new : (c : After-max-self-inside) → FilterState
new c = record (old c) {
  cells = set c.self.inside.cells.items c.cell-index.result c.write.new.self;
  newest_key = to_z w64 (of_z w64 c.max-self-inside.result);
}

each : (c : After-max-self-inside) (hash : ℕ) → bound_in c.args.self.now hash ≤ℤ bound_in (new c) hash
unfolding old new
each c hash =
    subst (λ (f : FilterState). bound_in f hash ≤ℤ bound_in (new c) hash) c.self.view_is
    (raised (old c) (new c) c.cell-index.result c.write.new.self (within c) refl refl c.self.invariant.3
    (λ hash. subst (λ cell. bound_of cell hash ≤ℤ int_max (negsuc 0) (bound_of c.write.new.self hash)) (was c)
    (c.write.ensures.raised hash)) hash)

none_newer : (c : After-max-self-inside) → NoneNewer (set c.self.inside.cells.items c.cell-index.result c.write.new.self)
    (to_z w64 (of_z w64 c.max-self-inside.result))
none_newer c =
    let newest = c.self.inside.newest_key in
    let is = c.max-self-inside.ensures.value in
    let before = c.self.invariant.2 c.cell-index.result in
    let same = ap newest_of (was c) in
    set_none_newer c.self.inside.cells.items c.cell-index.result c.write.new.self (within c) newest _ c.self.invariant.2
    (omega (arith, ints, clamps, is)) (omega (arith, ints, clamps, is, before, same, c.write.ensures.newest))

pub returns-clause-written : goal.returns-clause-written
unfolding old new
returns-clause-written c = λ key hashed.
    let at = (goal.at.returns-clause-written c).After-max-self-inside in
    let count = ap (λ (f : FilterState). cell_at (length f.cells) c.args.hash) c.self.view_is in
    subst (λ hash. c.args.version ≤ℤ bound_in (new at) hash) hashed
    (written (old at) (new at) c.cell-index.result c.write.new.self (within at) refl refl c.args.version c.args.hash
    (c.cell-index.ensures.cell ∙ sym count) (let low = c.write.ensures.written in omega (arith, ints, low)))

pub returns-clause-raised : goal.returns-clause-raised
unfolding old new
returns-clause-raised c = λ other. each (goal.at.returns-clause-raised c).After-max-self-inside (hash_of other)

pub returns-clause-no_higher : goal.returns-clause-no_higher
unfolding old new
returns-clause-no_higher c = λ other.
    let at = (goal.at.returns-clause-no_higher c).After-max-self-inside in
    let high = bounded (new at) (none_newer at) c.self.invariant.3 (hash_of other) in
    let low = from_range c.args.self.now (hash_of other) in
    let same = ap (λ (f : FilterState). f.newest_range) c.self.view_is in
    omega (arith, ints, clamps, high, low, same)

pub invariant_of-self : goal.invariant_of-self
unfolding old new
invariant_of-self c =
    let at = (goal.at.invariant_of-self c).After-max-self-inside in
    let same = length-set c.self.inside.cells.items c.cell-index.result c.write.new.self in (
      omega (arith, c.self.invariant.0, same),
      omega (arith, c.self.invariant.1, same),
      none_newer at,
      c.self.invariant.3,
    )

pub returns-clause-newest : goal.returns-clause-newest
returns-clause-newest c =
    let same = ap (λ (f : FilterState). f.newest_key) c.self.view_is in
    omega (arith, ints, clamps, c.max-self-inside.ensures.value, same)
