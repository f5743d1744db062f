use Rattle.std.proofs.Common.{◌<◌, ◌∙◌, ap, sym, drop, length, vec_items, inl, rules, arith}
use Rattle.std.proofs.Math.Nat.{lt_of_not-le}
use Rattle.std.proofs.lemmas.Grind.{common_steps}
use Rattle.std.specs.Prelude.{vec_len}
use Rattle.std.specs.Vec.Iter.{into_iter_items}
use Rattle.checking.proofs.callers.Left.{count_at_left, left_after}
use Rattle.replay_tasks.proofs.check.report.kept_each.Goals as goal

pub returns-in_default-kept_of-clause-takes : goal.returns-in_default-kept_of-clause-takes
returns-in_default-kept_of-clause-takes c =
    let lines = c.in-Some.lines in
    let count = count_at_left vec_items c.args.received.items c.len-proxy.result lines (into_iter_items c.next.new.self) _
    c.in-Some.ensures.steps.0
    (c.loop-lines.invariant.left ∙ ap (λ n. drop n c.args.received.items) (sym c.len-proxy.ensures)) in
    let some : 0 < length lines.items =
    lt_of_not-le (λ none. let bad = c.in_default-kept_of.ensures.none (omega (arith, none, lines.ok.0)) in cc) in
    inl (omega (arith, count, some))

pub loop-lines-preserved : goal.loop-lines-preserved
loop-lines-preserved c = record {
  kept = first_of (search rules, grind (arith, common_steps));
  passed = first_of (search rules, grind (arith, common_steps));
  room = first_of (search rules, grind (arith, common_steps));
  left =
      left_after c.args.received.items (vec_len c.loop-lines.kept) c.in-Some.lines (into_iter_items c.next.new.self) _
      c.in-Some.ensures.steps.0 c.loop-lines.invariant.left
      ∙ ap (λ n. drop n c.args.received.items) (sym c.push_reserved.ensures.len);
}
