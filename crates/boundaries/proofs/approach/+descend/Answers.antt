use Rattle.std.proofs.Common.{rules, ◌≡◌, ◌≤◌, ◌<◌, ◌∙◌, ℕ, drop, ◌+◌, ◌-◌, Bool, true, false, List, length, length-drop, filter, get_or, get_or-drop, slice_get, Option, Some, IsTrue, refl, subst, sym, arith}
use Rattle.std.proofs.lemmas.Bool.{eqb-false, eqb-true, true≢false}
use Rattle.std.proofs.lemmas.Option.{get_or_from_slice_get, slice_get_read, slice_get_within}
use Rattle.boundaries.specs.Question.{IsRestAt, begun, before_end, bound_after, is_clear}
use Rattle.boundaries.specs.declared.approach.Rest.{Rest}
use Rattle.boundaries.specs.declared.approach.Rest.TheVariants as rest
use Rattle.boundaries.specs.declared.question.Question.{Question}
use Rattle.boundaries.proofs.Words.{HALF_FULL, Node, NodeEntry, Store, CanStep, IsAnswer, IsStep, IsPartitioned, entries_of, index_in, items_in}
use Rattle.boundaries.proofs.Above.{at_most_tested}
use Rattle.boundaries.proofs.AnsweredKeys.{last_passes, next_fails, some_pass, some_told}
use Rattle.boundaries.proofs.Approaches.{approach_wider}
use Rattle.boundaries.proofs.FirstKeys.{knows_child}
use Rattle.boundaries.proofs.Frames.{IsRight}
use Rattle.boundaries.proofs.KeyBytes.{first_common}
use Rattle.boundaries.proofs.Looks.{IsLook, can_step_at, look_answers, look_bound, child_is, child_partitioned, child_reached}
use Rattle.boundaries.proofs.Placing.{entries_from_header, live_if_some}
use Rattle.boundaries.proofs.QuestionAnswers.{clears_after, answered_by_child, answered_by_entry}
use Rattle.boundaries.proofs.QuestionBounds.{nested, same_below}
use Rattle.boundaries.proofs.approach.+descend.Goals as goal
use Rattle.boundaries.proofs.approach.+descend.Goals.{
  After-header_ref-node,
  After-step_by-step,
  Joined-question,
  Joined-step-len,
  then-question,
  else-question,
  then-step-len,
  else-step-len+then-height-eq1,
  else-step-len+else-height-eq1,
}

-- What is known of the items after a child: none of the next entry's is before the end, and where there is none, none of those
-- after the node's items is.
record IsRest (store : Store) (node : Node) (index : ℕ) (q : Question) (was now : Rest) : Type 0 where
  pub next : IsTrue (is_clear now) → (e : NodeEntry) → slice_get (entries_of node) (index + 1) ≡ Some e
      → before_end store.keys q e.key ≡ false
  pub last : IsTrue (is_clear now) → length (entries_of node) ≤ index + 1 → IsTrue (is_clear was)

module _ (store : Store) (node : Node) (index : ℕ) (q : Question) (was : Rest) where
  -- where no item after the child's is before the end that isn't after the begin
  rest_single : q.is_single ≡ true → IsPartitioned (λ e. begun store.keys q e.key) (entries_of node)
      → index ≡ index_in (begun store.keys q) (entries_of node) → IsRest store node index q was was
  rest_single single partitioned at = record {
    next = λ clear e there. same_below store.keys q single e.key
        ∙ next_fails (begun store.keys q) (entries_of node) index e partitioned at there;
    last = λ clear all. clear;
  }

  -- where there is no next entry
  rest_last : index + 1 ≡ length (entries_of node) → IsRest store node index q was was
  rest_last end = record {
    next = λ clear e there. absurd (omega (arith, end, slice_get_within (entries_of node) (index + 1) e there));
    last = λ clear all. clear;
  }

  -- where the next entry is looked at
  rest_next : (now : Rest) → index + 1 < length (entries_of node) → IsRestAt store node (index + 1) q now
      → IsRest store node index q was now
  rest_next now more fail = record {
    next = λ clear e there.
        let sum : index + 1 + 0 ≡ index + 1 = omega arith in
        let read = get_or_from_slice_get (entries_of node) (index + 1) e e there in
        let same : get_or (drop (index + 1) (entries_of node)) 0 e ≡ e =
        cc (sum, read, get_or-drop (index + 1) (entries_of node) 0 e) in
        rw same at (fail clear 0 e (omega (arith, more, length-drop (index + 1) (entries_of node))));
    last = λ clear all. absurd (omega (arith, more, all));
  }

  rest_open : IsRest store node index q was rest.Open
  rest_open = record { next = λ clear. absurd (cc); last = λ clear. absurd (cc) }

-- what is asked of the search in a node
module _ (t : ℕ) (c : After-header_ref-node t) where
  can_step : CanStep c.args.store.now.keys (bound_after c.args.question.now) c.header_ref-node.result.now c.args.hint.common_prefix_len
  can_step = can_step_at c.args.store.now (bound_after c.args.question.now) c.requires.asked.searchable
      c.header_ref-node.ensures.header c.requires.hint.known

  ends : IsPartitioned (λ e. before_end c.args.store.now.keys c.args.question.now e.key) (entries_of c.header_ref-node.result.now)
  ends = look_bound c.args.store.now.nodes HALF_FULL c.args.height c.args.hint.slot
      (before_end c.args.store.now.keys c.args.question.now) c.header_ref-node.result.now _ c.requires.asked.searchable.subtree
      c.requires.asked.to c.header_ref-node.ensures.header refl

pub head_for-head-requires : goal.head_for-head-requires
head_for-head-requires t c =
    let can = can_step t (goal.at.head_for-head-requires t c).After-header_ref-node in
    let common = first_common c.args.store.now.keys (bound_after c.args.question.now) c.header_ref-node.result.now
    c.args.hint.common_prefix_len can in
    record { headed = can.can_find.headed; common_prefix_len = rw c.from.ensures.bound common }

pub step_by-step-requires : goal.step_by-step-requires
step_by-step-requires t c =
    let can = can_step t (goal.at.step_by-step-requires t c).After-header_ref-node in
    record {
      can_step = rw c.from-2.ensures.bound can;
      head = rw c.from-2.ensures.bound (rw c.from.ensures.bound at c.head_for-head.ensures.head);
    }

-- the entry at which the search goes on
module _ (t : ℕ) (c : After-step_by-step t) where
  is_step : IsStep c.args.store.now.keys (bound_after c.args.question.now) c.header_ref-node.result.now c.step_by-step.result
  is_step = rw c.from-2.ensures.bound at c.step_by-step.ensures.step

pub head_beside-to_head-requires : goal.head_beside-to_head-requires
head_beside-to_head-requires t c =
    let can = can_step t (goal.at.head_beside-to_head-requires t c).After-header_ref-node in record {
      searched = rw c.to.ensures.bound record {
        other = bound_after c.args.question.now;
        can_step = can;
        head = (rw c.from.ensures.bound at c.head_for-head.ensures.head).head;
        common = c.args.question.now.common;
      };
    }

-- There is a next entry where it is looked at.
more : (t : ℕ) (c : Joined-question t) → c.if-question.value ≡ false
    → c.step_by-step.result.index + 1 < length (entries_of c.header_ref-node.result.now)
more t c looked =
    let step = is_step t (goal.at.Joined-question t c).After-step_by-step in
    elim c.if-question.branch [
      | then-question w ↦ absurd (true≢false (sym w.if-question.true ∙ sym w.value-is ∙ looked))
      | else-question w ↦
          let apart = eqb-false (c.step_by-step.result.index + 1) w.len.result (sym w.value-is ∙ looked) in
          omega (arith, step.within, apart, w.len.ensures.len)
    ]

pub rest_at-requires : goal.rest_at-requires
rest_at-requires t c =
    let at = goal.at.rest_at-requires t c in
    let can = can_step t at.After-header_ref-node in
    let head = rw c.to.ensures.bound at c.head_beside-to_head.ensures.head in
    record {
      headed = can.can_find.headed;
      to = ends t at.After-header_ref-node;
      within = more t at.Joined-question c.if-step-len.false;
      head = head;
    }

-- the child at which the search goes on, and what is known of the items after its own
module _ (t : ℕ) (c : Joined-step-len t) where
  abbrev q : Question
  q = c.args.question.now

  abbrev p : ℕ → Bool
  p = begun c.args.store.now.keys q

  abbrev node : Node
  node = c.header_ref-node.result.now

  abbrev es : List NodeEntry
  es = entries_of node

  abbrev at_node : After-header_ref-node t
  at_node = (goal.at.Joined-step-len t c).After-header_ref-node

  step : IsStep c.args.store.now.keys (bound_after q) node c.step_by-step.result
  step = is_step t (goal.at.Joined-step-len t c).After-step_by-step

  -- the two bounds of the node
  look : IsLook c.args.store.now.nodes HALF_FULL c.args.height c.args.hint.slot p (before_end c.args.store.now.keys q) es
      (length (filter (λ e. p e.key) es)) (length (filter (λ e. before_end c.args.store.now.keys q e.key) es))
  look = record {
    subtree = c.requires.asked.searchable.subtree;
    from = c.requires.asked.searchable.partitioned;
    to = c.requires.asked.to;
    nested = nested c.args.store.now.keys q;
    read = entries_from_header c.args.store.now.nodes c.args.hint.slot node c.header_ref-node.ensures.header;
    begin_is = refl;
    end_is = refl;
  }

  is : c.index-entries-step.result ≡ get_or es c.step_by-step.result.index c.index-entries-step.result
  is = rw (← c.entries.ensures.entries) c.index-entries-step.is

  child : IsRight c.args.store.now.nodes HALF_FULL (c.args.height - 1) c.index-entries-step.result
  child = child_is _ _ _ _ _ _ _ _ _ look c.if-height-eq0.false _ _ step.within is

  there : slice_get es c.step_by-step.result.index ≡ Some c.index-entries-step.result
  there = slice_get_read es _ _ c.index-entries-step.result refl step.within is

  is_rest : IsRest c.args.store.now node c.step_by-step.result.index q c.args.hint.rest c.if-step-len.rest
  is_rest =
      let Is = IsRest c.args.store.now node c.step_by-step.result.index q c.args.hint.rest in
      elim c.if-step-len.branch [
        | then-step-len w ↦ subst Is (sym w.rest-is) (elim c.if-question.branch [
          | then-question v ↦
              rest_single c.args.store.now node c.step_by-step.result.index q c.args.hint.rest v.if-question.true
              (can_step t at_node).can_find.partitioned step.index_is
          | else-question v ↦
              let end = eqb-true (c.step_by-step.result.index + 1) v.len.result (sym v.value-is ∙ w.if-step-len.true) in
              rest_last c.args.store.now node c.step_by-step.result.index q c.args.hint.rest (end ∙ v.len.ensures.len)
        ])
        | else-step-len+then-height-eq1 w ↦
            let next = more t (goal.at.Joined-step-len t c).Joined-question w.if-step-len.false in
            subst Is (sym w.rest-is)
            (rest_next c.args.store.now node c.step_by-step.result.index q c.args.hint.rest w.rest_at.result next w.rest_at.ensures.rest)
        | else-step-len+else-height-eq1 w ↦
            subst Is (sym w.rest-is) (rest_open c.args.store.now node c.step_by-step.result.index q c.args.hint.rest)
      ]

  -- What is told of its items is told of those of the node.
  answered : (result : Option Bool)
      → IsAnswer c.args.store.now.keys q c.if-step-len.rest
      (items_in c.args.store.now.nodes (c.args.height - 1) c.index-entries-step.result.child) result
      → IsAnswer c.args.store.now.keys q c.args.hint.rest (items_in c.args.store.now.nodes c.args.height c.args.hint.slot) result
  answered result =
      answered_by_child _ _ _ _ _ _ _ _ _ look q.version (is_clear c.args.hint.rest) c.if-height-eq0.false _ _ step.within is _
      result
      (clears_after (before_end c.args.store.now.keys q) _ es (c.step_by-step.result.index + 1) (is_clear c.args.hint.rest)
      (is_clear c.if-step-len.rest) (look_answers _ _ _ _ _ _ _ _ _ look c.if-height-eq0.false) is_rest.next is_rest.last)

pub descend-requires : goal.descend-requires
descend-requires t c =
    let at = (goal.at.descend-requires t c).Joined-step-len in
    let k = look t at in
    let e = c.index-entries-step.result in
    let child = child t at in
    let step = step t at in
    let knows = step.knows e (there t at) in
    let least_some : 1 ≤ HALF_FULL = omega arith in
    let can = child_reached _ _ _ _ _ _ _ _ _ k c.if-height-eq0.false _ _ step.within (is t at) c.requires.asked.searchable least_some in
    let to = child_partitioned _ _ _ _ _ _ _ _ _ k c.if-height-eq0.false _ _ step.within (is t at) _ c.requires.asked.to in (
      search rules,
      (
        record { searchable = can; to = to; some_below = some_told (p t at) e _ child.describes knows.0 },
        record {
          live = live_if_some c.args.store.now.nodes e.child can.some;
          some = can.some;
          headed = can.headed;
          known = knows_child _ _ _ e e.child _ (p t at) c.args.question.now.begin.now _ child refl knows;
        },
      ),
    )

pub returns-then-height-eq0 : goal.returns-then-height-eq0
returns-then-height-eq0 t c =
    let asked = rw c.if-height-eq0.true at c.requires.asked in
    rw c.if-height-eq0.true (record {
      approach = record { hint_is = c.requires.hint; asked = asked; describes = λ result answered. answered };
    })

pub returns-in_default : goal.returns-in_default
returns-in_default t c =
    let wider = answered t (goal.at.returns-in_default t c).Joined-step-len in
    record { approach = approach_wider _ _ _ _ _ _ _ _ c.descend.result wider c.descend.ensures.approach }

pub returns-in-Clear : goal.returns-in-Clear
returns-in-Clear t c =
    let at = (goal.at.returns-in-Clear t c).Joined-step-len in
    let can = can_step t (at_node t at) in
    let q = c.args.question.now in
    let le = at_most_tested c.index-entries-step.result.version q.version (search rules) (search rules) c.if-decides-2.true in
    let some = some_pass (p t at) (es t at) can.can_find.some (λ e there. (can.known e there).0) in
    let passed = last_passes (p t at) _ _ _ can.can_find.partitioned some (step t at).index_is (is t at) in
    let part = answered_by_entry _ _ q.version (nested c.args.store.now.keys q) _ _ true (child t at).describes passed refl le in
    record { approach = answered t at (Some false) (rw c.in-Clear.is part) }
