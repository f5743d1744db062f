use Rattle.std.proofs.Common.{length, map, vec_items, rules, arith}
use Rattle.std.proofs.lemmas.Grind.{common_steps}
use Rattle.std.specs.Vec.Iter.{into_iter_items}
use Rattle.checking.proofs.callers.Left.{count_at_left, left_after, takes_at}
use Rattle.checking.proofs.all.check_all.Goals as goal

pub returns-in_default-add-clause-takes : goal.returns-in_default-add-clause-takes
returns-in_default-add-clause-takes c =
    let replies = c.in-Some.replies in
    let others = c.in-Some-next.others in
    takes_at (map vec_items c.args.expected.items) (map vec_items c.args.recorded.items) c.loop-replies.proxy (length replies.items)
    (length others.items)
    (count_at_left vec_items c.args.expected.items c.loop-replies.proxy replies (into_iter_items c.next.new.self) _
    c.in-Some.ensures.steps.0 c.loop-replies.invariant.expected_left)
    (count_at_left vec_items c.args.recorded.items c.loop-replies.proxy others (into_iter_items c.next-in-loop-replies.new.self) _
    c.in-Some-next.ensures.cases.0 c.loop-replies.invariant.recorded_left)
    (λ none no_others.
    let bad = c.in_default-add.ensures.none (omega (arith, none, replies.ok.0)) (omega (arith, no_others, others.ok.0)) in
    cc)

pub loop-replies-preserved : goal.loop-replies-preserved
loop-replies-preserved c = record {
  reported = first_of (search rules, grind (arith, common_steps));
  counted = first_of (search rules, grind (arith, common_steps));
  passed = first_of (search rules, grind (arith, common_steps));
  others = first_of (search rules, grind (arith, common_steps));
  expected_left =
      left_after c.args.expected.items c.loop-replies.proxy c.in-Some.replies (into_iter_items c.next.new.self) _
      c.in-Some.ensures.steps.0 c.loop-replies.invariant.expected_left;
  recorded_left =
      left_after c.args.recorded.items c.loop-replies.proxy c.in-Some-next.others
      (into_iter_items c.next-in-loop-replies.new.self) _ c.in-Some-next.ensures.cases.0 c.loop-replies.invariant.recorded_left;
}
