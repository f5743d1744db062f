use Rattle.std.proofs.Common.{◌≡◌, ◌++◌, ℕ, Bool, List, length, take, drop, refl, ap, sym, subst, ◌∙◌, arith, slice_get}
use Rattle.std.specs.Prelude.{◌↔◌, IsTrue, IsSomeAnd, count_by}
use Rattle.std.specs.List.{All, AllZip}
use Rattle.std.proofs.Math.Seq.{take-append_seam, drop-append_seam}
use Rattle.keys.specs.Range.{IsEmpty}
use Rattle.stepmap.specs.Covers.{IsAbove}
use Rattle.stepmap.specs.Filtering.{with_answers}
use Rattle.stepmap.specs.Kept.{steps_of}
use Rattle.stepmap.specs.StepMap.{Steps}
use Rattle.stepmap.proofs.LeftOpen.{places_filled, answered_many, answered_after, put_back}
use Rattle.stepmap.proofs.step_map.StepMap.answer_some.Given.{Over}
use Rattle.stepmap.proofs.step_map.StepMap.answer_some.Goals as goal
use Rattle.stepmap.proofs.step_map.StepMap.answer_some.Goals.{After-are_above-answered}

pub are_above-answered-requires : goal.are_above-answered-requires
are_above-answered-requires g c =
    let queries = g.L.QueryList.queries c.args.queries.now in
    let marked = c.in_ok-places.ensures.marked in
    record {
      boundaries = c.self.invariant.steps.boundaries;
      few = c.as_slice.ensures.fits;
      filled = subst (λ (ps : List ℕ). All (λ place. IsSomeAnd (slice_get queries place) (λ q. ¬ IsEmpty q.0)) ps)
          (sym c.as_slice.ensures.value)
          (places_filled c.args.self.now queries (length c.args.answers.now.items) marked.0 c.in_ok-places.places.items
          marked.3);
    }

-- what was told is right of the queries at the places
right : (g : Over) (c : After-are_above-answered g)
    → AllZip (λ place above. IsSomeAnd (slice_get (g.L.QueryList.queries c.args.queries.now) place)
    (λ q. IsTrue above ↔ IsAbove c.args.self.now q.0 q.1)) c.in_ok-places.places.items c.are_above-answered.result.items
right g c =
    let i = c.self.inside in
    let queries = g.L.QueryList.queries c.args.queries.now in
    let map = steps_of i.boundaries i.edge i.ready.items i.cursor.items i.round i.limit in
    let answered = c.are_above-answered.result.items in
    subst (λ (m : Steps). AllZip (λ place above. IsSomeAnd (slice_get queries place) (λ q. IsTrue above ↔ IsAbove m q.0 q.1))
    c.in_ok-places.places.items answered) c.self.view_is
    (subst (λ (ps : List ℕ). AllZip (λ place above. IsSomeAnd (slice_get queries place)
    (λ q. IsTrue above ↔ IsAbove map q.0 q.1)) ps answered) c.as_slice.ensures.value c.are_above-answered.ensures.above)

pub put_answers-requires-clause-each : goal.put_answers-requires-clause-each
put_answers-requires-clause-each g c =
    let at = (goal.at.put_answers-requires-clause-each g c).After-are_above-answered in
    let old = c.args.answers.now.items in
    let marked = c.in_ok-places.ensures.marked in
    let marks : drop c.len-from.result c.deref_mut.result.now ≡ marked.0 =
    ap (drop c.len-from.result) (c.deref_mut.ensures.value ∙ marked.1)
    ∙ ap (λ n. drop n (old ++ marked.0)) (omega (arith, c.len-from.ensures, c.args.answers.now.ok.0))
    ∙ drop-append_seam old marked.0 in
    let many = answered_many c.args.self.now (g.L.QueryList.queries c.args.queries.now) (length old) marked.0
    c.in_ok-places.places.items marked.3 c.are_above-answered.result.items (right g at) in
    omega (arith, many, ap (count_by (λ (mark : Bool). mark)) marks, ap length c.as_slice-2.ensures.value)

pub returns-clause-answered : goal.returns-clause-answered
returns-clause-answered g c = λ before.
    let at = (goal.at.returns-clause-answered g c).After-are_above-answered in
    let m = c.args.self.now in
    let queries = g.L.QueryList.queries c.args.queries.now in
    let old = c.args.answers.now.items in
    let marked = c.in_ok-places.ensures.marked in
    let answered = c.are_above-answered.result.items in
    let count : c.len-from.result ≡ length old = omega (arith, c.len-from.ensures, c.args.answers.now.ok.0) in
    let items : c.deref_mut.result.now ≡ old ++ marked.0 = c.deref_mut.ensures.value ∙ marked.1 in
    let front : take c.len-from.result c.deref_mut.result.now ≡ old =
    ap (take c.len-from.result) items ∙ ap (λ n. take n (old ++ marked.0)) count ∙ take-append_seam old marked.0 in
    let following : drop c.len-from.result c.deref_mut.result.now ≡ marked.0 =
    ap (drop c.len-from.result) items ∙ ap (λ n. drop n (old ++ marked.0)) count ∙ drop-append_seam old marked.0 in
    let answers : c.put_answers.new.marks ≡ old ++ with_answers marked.0 answered =
    c.put_answers.ensures.answers ∙ ap (λ f. f ++ with_answers (drop c.len-from.result c.deref_mut.result.now) c.as_slice-2.result.now) front
    ∙ ap (λ b. old ++ with_answers b c.as_slice-2.result.now) following
    ∙ ap (λ ts. old ++ with_answers marked.0 ts) c.as_slice-2.ensures.value in
    let same = ap length c.deref_mut.ensures.value in
    let back = put_back c.mark_some.new.marks.len c.put_answers.new.marks c.mark_some.new.marks.items
    (omega (arith, c.deref_mut.ensures.len, same)) (omega (arith, c.put_answers.auto.marks, same)) in
    subst (λ (bs : List Bool). AllZip (λ q above. IsTrue above ↔ IsAbove m q.0 q.1) (take (length bs) queries) bs)
    (sym (back ∙ answers))
    (answered_after m queries (length old) marked.0 c.in_ok-places.places.items marked.3 answered (right g at) old refl before)
