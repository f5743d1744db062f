use Rattle.std.proofs.Common.{rules, ◌≡◌, ◌<◌, ◌≤◌, ◌+◌, ◌∙◌, Err, ap, subst, arith, [], ◌∷◌, ◌++◌}
use Rattle.workload_program.specs.Txns.{numbered_key, point}
use Rattle.workload_program.specs.Versions.{keys_of}
use Rattle.workload_program.proofs.KeyOrder.{keys_in_order, longer_after, not_inverted}
use Rattle.workload_program.proofs.ranges.draw_range.Goals as goal

pub returns-in_ok-checked-in-SkipListTest : goal.returns-in_ok-checked-in-SkipListTest
returns-in_ok-checked-in-SkipListTest c =
    let made = c.in_ok-checked-in-SkipListTest.ensures in
    let width = c.below-width.result in
    let least : 1 ≤ 1 + width = omega arith in
    let most : 1 + width ≤ 10 = omega (arith, c.below-width.ensures.below) in
    record {
      range = rw c.in-SkipListTest.is (
        c.draw-number.result,
        1 + width,
        subst (λ shape. c.draw-number.result < keys_of shape) c.in-SkipListTest.is c.draw-number.ensures.few,
        least,
        most,
        made.begin ∙ c.in_ok-begin-in-SkipListTest.ensures.key,
        made.end ∙ c.in_ok-end-in-SkipListTest.ensures.key,
      );
      memory = tt;
    }

pub returns-in_err-checked-in-SkipListTest-clause-memory : goal.returns-in_err-checked-in-SkipListTest-clause-memory
returns-in_err-checked-in-SkipListTest-clause-memory c =
    let number = c.draw-number.result in
    let width = 1 + c.below-width.result in
    let few = subst (λ shape. number < keys_of shape) c.in-SkipListTest.is c.draw-number.ensures.few in
    let ordered = keys_in_order number (number + width) (omega arith) (omega (arith, few, c.below-width.ensures.below)) in
    let refused = c.in_err-checked-in-SkipListTest.ensures in
    absurd (not_inverted _ _ (numbered_key number) (numbered_key (number + width)) c.in_ok-begin-in-SkipListTest.ensures.key
    c.in_ok-end-in-SkipListTest.ensures.key ordered (refused.inverted.0 (ap Err refused.err)))

pub returns-in_err-checked-in-Points-2-clause-memory : goal.returns-in_err-checked-in-Points-2-clause-memory
returns-in_err-checked-in-Points-2-clause-memory c =
    let key = point c.draw-number.result in
    let begin = c.in_ok-begin-in-Points.ensures.bytes ∙ c.in_ok-point-in-Points.ensures.point in
    let end = c.in_ok-checked-in-Points.ensures.bytes ∙ c.in_ok-push-in-Points.ensures.items
    ∙ ap (λ bytes. bytes ++ 0 ∷ []) c.in_ok-end-in-Points.ensures.point in
    let refused = c.in_err-checked-in-Points-2.ensures in
    let same : c.begin-in-Points.inside.bytes ≡ c.in_ok-begin-in-Points.begin = search rules in
    absurd (not_inverted _ _ key (key ++ 0 ∷ []) (same ∙ begin) end (longer_after key (0 ∷ []))
    (refused.inverted.0 (ap Err refused.err)))
