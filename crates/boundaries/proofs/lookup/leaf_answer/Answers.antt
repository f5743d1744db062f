use Rattle.std.proofs.Common.{rules, ◌≡◌, ◌∙◌, true, false, refl, sym, w64, arith}
use Rattle.std.proofs.lemmas.Int.{to_z-of_z}
use denote.Enum.Bare.{sameb}
use Rattle.boundaries.specs.contracts.approach.Rest.{the_type}
use Rattle.boundaries.specs.declared.approach.Rest.{Rest}
use Rattle.boundaries.specs.declared.approach.Rest.TheVariants as rest
use Rattle.boundaries.specs.Question.{before_end, begun, bound_after, bound_before, is_clear}
use Rattle.boundaries.proofs.Words.{CanFind, CanStep, HALF_FULL, entries_of, order}
use Rattle.boundaries.proofs.AnsweredKeys.{some_pass}
use Rattle.boundaries.proofs.HeadAt.{all_known}
use Rattle.boundaries.proofs.Looks.{IsLook, can_step_at, look_bound, look_ordered}
use Rattle.boundaries.proofs.Placing.{entries_from_header}
use Rattle.boundaries.proofs.QuestionAnswers.{answered_by_leaf}
use Rattle.boundaries.proofs.QuestionBounds.{nested}
use Rattle.boundaries.proofs.lookup.leaf_answer.Goals as goal
use Rattle.boundaries.proofs.lookup.leaf_answer.Goals.{After-entries-entries, After-end_in-end, else-end-entries-via-then-end-entries+else-eq, else-end-entries-via-else-end-entries}

-- what isn't open is clear
closed : (r : Rest) → sameb the_type r rest.Open ≡ false → is_clear r ≡ true
closed rest.Clear is = refl
closed rest.Open is = absurd (cc)

-- what is asked of the search in a leaf
can_step : (c : After-entries-entries)
    → CanStep c.args.store.now.keys (bound_after c.args.question.now) c.header_ref-node.result.now c.args.hint.common_prefix_len
can_step c = can_step_at c.args.store.now (bound_after c.args.question.now) c.requires.asked.searchable
    c.header_ref-node.ensures.header c.requires.hint.known

pub lower_bound_by_head-begin-requires : goal.lower_bound_by_head-begin-requires
lower_bound_by_head-begin-requires c =
    let a = can_step (goal.at.lower_bound_by_head-begin-requires c).After-entries-entries in
    let head = rw c.header_ref-node.ensures.header at c.requires.head in
    let bound = bound_after c.args.question.now in
    let known = all_known _ c.header_ref-node.result.now a.can_find.headed bound.key.now _ (order c.args.store.now.keys bound)
    c.args.hint.common_prefix_len a.can_find.some a.known in
    record {
      can_find = rw c.from.ensures.bound a.can_find;
      head = rw c.from.ensures.bound head.head;
      none = rw c.from.ensures.bound (λ none. known (head.none none));
    }

pub end_in-end-requires : goal.end_in-end-requires
end_in-end-requires c =
    let a = can_step (goal.at.end_in-end-requires c).After-entries-entries in
    let head = rw c.header_ref-node.ensures.header at c.requires.head in
    let to = look_bound c.args.store.now.nodes HALF_FULL 0 c.args.hint.slot (before_end c.args.store.now.keys c.args.question.now)
    c.header_ref-node.result.now _ c.requires.hint.live c.requires.asked.to c.header_ref-node.ensures.header refl in
    let can_find : CanFind c.args.store.now.keys (bound_before c.args.question.now) c.header_ref-node.result.now =
    record { headed = a.can_find.headed; partitioned = to; some = a.can_find.some } in
    let begin = rw c.from.ensures.bound at c.lower_bound_by_head-begin.ensures.count in
    record {
      searched = record { can_step = a; head = head.head };
      to = can_find;
      begin = begin;
    }

-- the two bounds of a leaf
leaf : (c : After-end_in-end)
    → IsLook c.args.store.now.nodes HALF_FULL 0 c.args.hint.slot (begun c.args.store.now.keys c.args.question.now)
    (before_end c.args.store.now.keys c.args.question.now) (entries_of c.header_ref-node.result.now)
    c.lower_bound_by_head-begin.result c.end_in-end.result
leaf c =
    let begin = rw c.from.ensures.bound at c.lower_bound_by_head-begin.ensures.count in
    record {
      subtree = c.requires.hint.live;
      from = c.requires.asked.searchable.partitioned;
      to = c.requires.asked.to;
      nested = nested c.args.store.now.keys c.args.question.now;
      read = entries_from_header c.args.store.now.nodes c.args.hint.slot c.header_ref-node.result.now c.header_ref-node.ensures.header;
      begin_is = begin.count_is;
      end_is = c.end_in-end.ensures.count.count_is;
    }

pub slice_bounds-any_above-count : goal.slice_bounds-any_above-count
slice_bounds-any_above-count c =
    omega (arith, look_ordered _ _ _ _ _ _ _ _ _ (leaf (goal.at.slice_bounds-any_above-count c).After-end_in-end))

pub slice_bounds-any_above-start : goal.slice_bounds-any_above-start
slice_bounds-any_above-start c =
    omega (arith, look_ordered _ _ _ _ _ _ _ _ _ (leaf (goal.at.slice_bounds-any_above-start c).After-end_in-end))

pub returns : goal.returns
returns c =
    let a = can_step (goal.at.returns c).After-entries-entries in
    let k = leaf (goal.at.returns c).After-end_in-end in
    let q = c.args.question.now in
    let least = some_pass (begun c.args.store.now.keys q) _ a.can_find.some (λ e is. (a.known e is).0) in
    let kept = to_z-of_z w64 q.version (search rules) in
    record {
      answered = answered_by_leaf _ _ _ _ _ _ _ _ _ k q.version (is_clear c.args.hint.rest) c.any_above.result refl
          (omega (arith, least, k.begin_is))
          (λ all. elim c.else-end-entries.branch [
            | else-end-entries-via-then-end-entries+else-eq w ↦
                closed c.args.hint.rest (sym w.eq.ensures ∙ w.if-eq.false)
            | else-end-entries-via-else-end-entries w ↦ absurd (w.if-end-entries.false (rw c.entries-entries.ensures.entries all))
          ])
          (rw (kept, c.entries-entries.ensures.entries) at c.any_above.ensures.above);
    }
