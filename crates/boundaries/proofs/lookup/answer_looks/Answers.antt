use Rattle.std.proofs.Common.{rules, ◌∷◌, [], length, take, refl, length-append, arith, length-take}
use Rattle.std.proofs.lemmas.Slice.Zip.{AllZip-long, zip_turn, zip_end}
use Rattle.boundaries.proofs.InTurn.{AllZip-at, AllZip-turn, AllZip-entire}
use Rattle.boundaries.proofs.lookup.answer_looks.Goals as goal

pub answer-requires : goal.answer-requires
answer-requires c =
    -- where the loop stands in the two lists
    let t = zip_turn c.args.questions.now c.args.looks.now _ _ _ c.next.new.self _ (search rules) (search rules)
    c.loop-question.yielded_by (c.in-Some.question, c.in-Some.look) refl c.in-Some.ensures.steps in
    let is = t.2 c.in-Some.question.now in
    let approach = AllZip-at _ _ _ _ _ _ t.0 is (t.3 _) c.requires.approaches in
    let looked = AllZip-at _ _ _ _ _ _ t.0 is (t.3 _) c.requires.looked in
    record {
      asked = rw is (c.requires.asked _ _ t.0);
      approach = approach;
      looked = looked;
    }

pub loop-question-preserved : goal.loop-question-preserved
loop-question-preserved c =
    let t = zip_turn c.args.questions.now c.args.looks.now _ _ _ c.next.new.self _ (search rules) (search rules)
    c.loop-question.yielded_by (c.in-Some.question, c.in-Some.look) refl c.in-Some.ensures.steps in
    AllZip-turn _ _ _ _ _ _ _ _ t.0 (t.2 _) (length-append c.loop-question.yielded ((c.in-Some.question, c.in-Some.look) ∷ []))
    c.push.ensures.items c.loop-question.invariant c.answer.ensures.above

pub push-requires : goal.push-requires
push-requires c =
    let t = zip_turn c.args.questions.now c.args.looks.now _ _ _ c.next.new.self _ (search rules) (search rules)
    c.loop-question.yielded_by (c.in-Some.question, c.in-Some.look) refl c.in-Some.ensures.steps in
    let long = AllZip-long _ (take _ c.args.questions.now) c.loop-question.answers.items c.loop-question.invariant in
    (search rules, omega (arith, long, length-take (length c.loop-question.yielded) c.args.questions.now, t.0, c.requires.few))

pub returns : goal.returns
returns c =
    let same = AllZip-long _ c.args.questions.now c.args.looks.now c.requires.looked in
    let end = zip_end c.args.questions.now c.args.looks.now _ _ _ c.next.new.self _ (search rules) (search rules)
    c.loop-question.yielded_by refl c.in-None.ensures.steps in
    record { answered = AllZip-entire _ c.args.questions.now _ _ (omega (arith, same, end)) c.loop-question.invariant }
