use Rattle.boundaries.specs.Boundary.{AreBoundaries}
use Rattle.boundaries.specs.Stored.{boundaries_of}
use Rattle.boundaries.specs.Walk.{items_of_tree}
use Rattle.boundaries.proofs.StoredItems.{kept_items}
use Rattle.boundaries.proofs.StoredQuestions.{answered_above, can_ask}
use Rattle.boundaries.proofs.boundary_list.Boundaries.is_above.Goals as goal

pub answer_alone-requires : goal.answer_alone-requires
answer_alone-requires c = record { asked = can_ask c.self.invariant c.of-question.result }

pub returns : goal.returns
returns c =
    let tree = c.self.inside.tree in
    let are : AreBoundaries (boundaries_of tree) = rw (← c.self.view_is) at c.requires.boundaries in
    record {
      above = rw (← c.self.view_is)
          (answered_above tree.store.keys (items_of_tree tree) (kept_items c.self.invariant) are
          (c.args.query.range, c.args.query.version) c.of-question.result c.answer_alone.result c.of-question.ensures.asks
          c.answer_alone.ensures.above);
    }
