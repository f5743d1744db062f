use Rattle.std.proofs.Common.{rules, take, refl, arith, length-take}
use Rattle.std.proofs.lemmas.Slice.Zip.{AllZip-long}
use Rattle.boundaries.proofs.InTurn.{AllZip-turn}
use Rattle.boundaries.proofs.lookup.approach_each.Goals as goal

pub find_approach-requires : goal.find_approach-requires
find_approach-requires c =
    record { asked = rw c.question-item.is (c.requires.asked _ _ c.loop-question-test.true) }

pub loop-question-preserved : goal.loop-question-preserved
loop-question-preserved c =
    AllZip-turn _ _ _ _ _ _ _ _ c.loop-question-test.true c.question-item.is refl c.push.ensures.items c.loop-question.invariant
    c.find_approach.ensures.approach

pub push-requires : goal.push-requires
push-requires c =
    let i = c.loop-question.question-index in
    let long = AllZip-long _ (take i c.args.questions.now) c.loop-question.approaches.items c.loop-question.invariant in
    (search rules, omega (arith, long, length-take i c.args.questions.now, c.loop-question-test.true, c.requires.few))
