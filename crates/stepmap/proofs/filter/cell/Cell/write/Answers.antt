use Rattle.std.proofs.Common.{IsTrue, refl, ◌∙◌, arith, subst, w64, to_z, of_z}
use Rattle.std.proofs.lemmas.Int.{ints, clamps}
use Rattle.stepmap.specs.Cell.{is_marked}
use Rattle.stepmap.specs.declared.filter.cell.Cell.{Cell}
use Rattle.stepmap.proofs.Cells.{own_there, others_there, raised}
use Rattle.stepmap.proofs.filter.cell.Cell.write.Goals as goal
use Rattle.stepmap.proofs.filter.cell.Cell.write.Goals.{After-max-self, After-mark-else-version-self}

-- the cell whose key is written again
again : After-max-self → Cell
again c = record c.args.self.now { version = to_z w64 (of_z w64 c.max-self.result) }

pub returns-then-self-hash-clause-written : goal.returns-then-self-hash-clause-written
unfolding again
returns-then-self-hash-clause-written c =
    let at = (goal.at.returns-then-self-hash-clause-written c).After-max-self in
    let there = own_there (again at) c.args.hash c.if-self-hash.true in
    omega (arith, ints, clamps, c.max-self.ensures.value, there)

pub returns-then-self-hash-clause-raised : goal.returns-then-self-hash-clause-raised
unfolding again
returns-then-self-hash-clause-raised c =
    let at = (goal.at.returns-then-self-hash-clause-raised c).After-max-self in
    raised c.args.self.now (again at)
    (λ other is. let there = own_there (again at) other is in omega (arith, ints, clamps, c.max-self.ensures.value, there))
    (λ other marked. others_there (again at) other marked)

pub returns-then-version-self-clause-written : goal.returns-then-version-self-clause-written
returns-then-version-self-clause-written c =
    let there = others_there c.mark.new.self c.args.hash c.mark.ensures.marked in
    omega (arith, ints, clamps, c.mark.ensures.others, there)

pub returns-then-version-self-clause-raised : goal.returns-then-version-self-clause-raised
returns-then-version-self-clause-raised c =
    let new = c.mark.new.self in
    let is = c.mark.ensures in
    raised c.args.self.now new
    (λ other same. let there = own_there new other (is.hash ∙ same) in omega (arith, ints, is.version, there))
    (λ other marked. let there = others_there new other (is.kept other marked) in omega (arith, ints, clamps, is.others, there))

-- the cell that a newer key has taken
taken : After-mark-else-version-self → Cell
taken c = record c.mark-else-version-self.new.self { version = to_z w64 (of_z w64 c.args.version); hash = c.args.hash }

pub returns-else-version-self-clause-written : goal.returns-else-version-self-clause-written
unfolding taken
returns-else-version-self-clause-written c =
    let at = (goal.at.returns-else-version-self-clause-written c).After-mark-else-version-self in
    let there = own_there (taken at) c.args.hash refl in
    omega (arith, ints, there)

pub returns-else-version-self-clause-raised : goal.returns-else-version-self-clause-raised
unfolding taken
returns-else-version-self-clause-raised c =
    let at = (goal.at.returns-else-version-self-clause-raised c).After-mark-else-version-self in
    let is = c.mark-else-version-self.ensures in
    raised c.args.self.now (taken at)
    (λ other same.
    let marked : IsTrue (is_marked (taken at) other) = subst (λ hash. IsTrue (is_marked (taken at) hash)) same is.marked in
    let there = others_there (taken at) other marked in
    omega (arith, ints, clamps, is.others, there))
    (λ other marked.
    let there = others_there (taken at) other (is.kept other marked) in
    omega (arith, ints, clamps, is.others, there))
