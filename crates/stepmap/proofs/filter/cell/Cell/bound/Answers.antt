use Rattle.std.proofs.Common.{◌≡◌, negsuc, sym, ◌∙◌, arith, w64, to_z}
use Rattle.std.proofs.lemmas.Int.{ints, clamps}
use Rattle.stepmap.specs.Cell.{bound_of, is_marked}
use Rattle.stepmap.proofs.filter.cell.Cell.bound.Goals as goal
use Rattle.stepmap.proofs.filter.cell.Cell.bound.Goals.{then-self-hash, else-self-hash, then-is_marked, else-is_marked}
use Rattle.stepmap.proofs.Cells.{chosen, left_out, own_is, own_missing}
use Rattle.stepmap.specs.Cell.{own_of, others_of}

pub returns : goal.returns
unfolding bound_of
returns c =
    let cell = c.args.self.now in
    let own : to_z w64 c.if-self-hash.own-bits ≡ own_of cell c.args.hash =
    elim c.if-self-hash.branch [
      | then-self-hash w ↦
          let is = own_is cell c.args.hash w.if-self-hash.true in
          omega (arith, ints, w.own-is, is)
      | else-self-hash w ↦
          let is = own_missing cell c.args.hash w.if-self-hash.false in
          omega (arith, ints, w.own-is, is)
    ] in
    let others : to_z w64 c.if-is_marked.others-bits ≡ others_of cell c.args.hash =
    elim c.if-is_marked.branch [
      | then-is_marked w ↦
          let is = chosen (is_marked cell c.args.hash) cell.others (negsuc 0) (sym c.is_marked.ensures.marked ∙ w.if-is_marked.true) in
          omega (arith, ints, w.others-is, is)
      | else-is_marked w ↦
          let is = left_out (is_marked cell c.args.hash) cell.others (negsuc 0) (sym c.is_marked.ensures.marked ∙ w.if-is_marked.false) in
          omega (arith, ints, w.others-is, is)
    ] in
    record { bound = omega (arith, ints, clamps, c.max.ensures.value, own, others) }
