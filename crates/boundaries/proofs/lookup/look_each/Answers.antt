use Rattle.std.proofs.Common.{rules, ◌≤◌, ◌∷◌, ◌∙◌, [], refl, length, arith, length-append, length-take, take, take_all}
use Rattle.std.proofs.lemmas.Slice.Zip.{AllZip-long, zip_turn, zip_end}
use Rattle.boundaries.specs.declared.lookup.Look.{Look}
use Rattle.boundaries.proofs.InTurn.{AllZip-at, AllZip-turn, AllZip-entire, map-turn}
use Rattle.boundaries.proofs.lookup.look_each.Goals as goal
use Rattle.boundaries.proofs.lookup.look_each.Goals.{In-None}

-- All are gone through at its end.
entire : (c : In-None) → (length c.args.questions.now ≤ length c.loop-question.yielded)
    × (length c.args.approaches.now ≤ length c.loop-question.yielded)
entire c =
    let same = AllZip-long _ c.args.questions.now c.args.approaches.now c.requires.leading in
    let end = zip_end c.args.questions.now c.args.approaches.now _ _ _ c.next.new.self _ (search rules) (search rules)
    c.loop-question.yielded_by refl c.in-None.ensures.steps in
    (omega arith, omega arith)

pub look_at-requires : goal.look_at-requires
look_at-requires c =
    -- where the loop stands in the two lists
    let t = zip_turn c.args.questions.now c.args.approaches.now _ _ _ c.next.new.self _ (search rules) (search rules)
    c.loop-question.yielded_by (c.in-Some.question, c.in-Some.approach) refl c.in-Some.ensures.steps in
    let is = t.2 c.in-Some.question.now in
    record { leading = AllZip-at _ _ _ _ _ _ t.0 is (t.3 _) c.requires.leading }

pub loop-question-preserved : goal.loop-question-preserved
loop-question-preserved c =
    let t = zip_turn c.args.questions.now c.args.approaches.now _ _ _ c.next.new.self _ (search rules) (search rules)
    c.loop-question.yielded_by (c.in-Some.question, c.in-Some.approach) refl c.in-Some.ensures.steps in
    let more = length-append c.loop-question.yielded ((c.in-Some.question, c.in-Some.approach) ∷ []) in
    let before = c.loop-question.invariant in
    let approach = c.look_at.ensures.approach in (
      map-turn (λ (k : Look). k.approach) _ _ _ _ _ c.look_at.result t.1 (rw approach (t.3 _)) more c.push.ensures.items before.0,
      AllZip-turn _ _ _ _ _ _ _ _ t.0 (t.2 _) more c.push.ensures.items before.1 c.look_at.ensures.looked,
    )

pub push-requires : goal.push-requires
push-requires c =
    let t = zip_turn c.args.questions.now c.args.approaches.now _ _ _ c.next.new.self _ (search rules) (search rules)
    c.loop-question.yielded_by (c.in-Some.question, c.in-Some.approach) refl c.in-Some.ensures.steps in
    let n = length c.loop-question.yielded in
    let long = AllZip-long _ (take n c.args.questions.now) c.loop-question.looks.items c.loop-question.invariant.1 in
    (search rules, omega (arith, long, length-take n c.args.questions.now, t.0, c.requires.few))

pub returns-clause-approaches : goal.returns-clause-approaches
returns-clause-approaches c =
    c.loop-question.invariant.0 ∙ take_all _ c.args.approaches.now (entire (goal.at.returns-clause-approaches c).In-None).1

pub returns-clause-looked : goal.returns-clause-looked
returns-clause-looked c =
    AllZip-entire _ _ _ _ (entire (goal.at.returns-clause-looked c).In-None).0 c.loop-question.invariant.1
