use Rattle.std.proofs.Common.{rules, arith, ◌≤◌, ℕ, Bool, length, get_or, ap}
use Rattle.std.specs.Prelude.{◌↔◌, IsTrue, IsSomeAnd, slice_get}
use Rattle.std.specs.List.{All, AllZip}
use Rattle.boundaries.specs.Boundary.{AreBoundaries, Exceeds}
use Rattle.boundaries.specs.Question.{AsksFor, CanAsk, Exceeds as ExceedsItems}
use Rattle.boundaries.specs.Stored.{boundaries_of}
use Rattle.boundaries.specs.Walk.{items_of_tree}
use Rattle.boundaries.specs.declared.question.Question.{Question}
use Rattle.boundaries.proofs.StoredItems.{kept_items}
use Rattle.boundaries.proofs.StoredQuestions.{answered_above, can_ask, query_gives, same_length}
use Rattle.boundaries.proofs.callers.InTurn.{AllZip-through}
use Rattle.boundaries.proofs.boundary_list.Boundaries.are_above.Goals as goal

pub answer_each-requires : goal.answer_each-requires
answer_each-requires g c =
    let tree = c.self.inside.tree in
    let qs = c.as_slice.result.now in
    let count = same_length _ _ _ c.questions-questions.ensures.asks in
    let few : length qs ≤ 16 = omega (arith, count, ap length c.as_slice.ensures.value, c.requires.few) in
    let asked : All (CanAsk tree.store tree.root.height tree.root.slot) qs = λ k q within. can_ask c.self.invariant (get_or qs k q) in
    search (rules, few, asked)

pub returns : goal.returns
returns g c =
    let tree = c.self.inside.tree in
    let keys = tree.store.keys in
    let items = items_of_tree tree in
    let queries = g.L.QueryList.queries c.args.queries.now in
    let are : AreBoundaries (boundaries_of tree) = rw (← c.self.view_is) at c.requires.boundaries in
    let Asked = λ (place : ℕ) (q : Question). IsSomeAnd (slice_get queries place) (λ a. AsksFor a q) in
    let Answered = λ (q : Question) (above : Bool). IsTrue above ↔ ExceedsItems keys q items in
    let Above = λ (place : ℕ) (above : Bool). IsSomeAnd (slice_get queries place) (λ a. IsTrue above ↔ Exceeds (boundaries_of tree) a) in
    let answers = rw c.as_slice.ensures.value at c.answer_each.ensures.answered in
    let above : AllZip Above c.args.places.now c.answer_each.result.items =
    AllZip-through Asked Answered Above
    (λ place q above some answered. query_gives (slice_get queries place) (λ a. AsksFor a q)
    (λ a. IsTrue above ↔ Exceeds (boundaries_of tree) a)
    (λ a asks. answered_above keys items (kept_items c.self.invariant) are a q above asks answered) some)
    c.args.places.now c.questions-questions.result.items c.answer_each.result.items c.questions-questions.ensures.asks answers in
    record { above = rw (← c.self.view_is) above }
