use Rattle.std.proofs.Common.{w64, SFits, ◌≡◌, ◌+◌, ◌<◌, ◌++◌, ◌∷◌, [], ℤ, pos, true, false, length, length-append, append_assoc, get_or, ap, sym, subst, ◌∙◌, arith, rules, slice_get, Some}
use Rattle.std.specs.Prelude.{Option, IsSomeAnd}
use Rattle.std.proofs.lemmas.Int.{to_z-of_z}
use Rattle.std.proofs.lemmas.Option.{slice_get-get_or}
use Rattle.keys.specs.declared.range.Range.{Range}
use Rattle.keys.specs.Range.{IsEmpty}
use Rattle.keys.proofs.callers.Lists.{some_at}
use Rattle.stepmap.specs.Covers.{IsAbove}
use Rattle.stepmap.specs.Filtering.{AreMarked, IsBound}
use Rattle.stepmap.proofs.LeftOpen.{AllZip-part, marked_open, marked_other, is_false}
use Rattle.stepmap.proofs.step_map.StepMap.mark_next.Goals as goal
use Rattle.stepmap.proofs.step_map.StepMap.mark_next.Goals.{then-is_open, else-is_open}

module _ (P : Range × ℤ → Type 0) (found : Option (Range × ℤ)) (q : Range × ℤ) (is : found ≡ Some q) where
  -- what holds of the query that is found
  held : P q → IsSomeAnd found P
  held h = subst (λ o. IsSomeAnd o P) (sym is) h

  held_at : IsSomeAnd found P → P q
  held_at h = subst (λ o. IsSomeAnd o P) is h

pub is_open-is_open-requires : goal.is_open-is_open-requires
is_open-is_open-requires g c =
    let m = c.args.self.now in
    let queries = g.L.QueryList.queries c.args.queries.now in
    let from = length c.args.marks.now.items in
    let items = c.bounds_from-bounds.result.items in
    let slice = c.as_slice-bound-items.result.now in
    let k = c.loop-bound.bound-index in
    let bound = get_or slice k (pos 0) in
    let fits : SFits w64 bound = search rules in
    let R = λ (q : Range × ℤ) (b : ℤ). IsBound m q.0 b in
    let begins : c.len.result ≡ from = omega (arith, c.len.ensures, c.args.marks.now.ok.0) in
    let place : c.len-place.result ≡ c.len.result + k =
    omega (arith, c.len-place.ensures, c.loop-bound.marks.ok.0, c.loop-bound.invariant.count, begins) in
    let long = ap length c.as_slice-bound-items.ensures.value in
    let inside : c.len.result + k < length queries =
    omega (arith, c.bounds_from-bounds.ensures.within, c.loop-bound-test.true, long) in
    let found = some_at queries (c.len.result + k) inside in
    let q = found.0 in
    let is = found.1 in
    let at : slice_get items k ≡ Some bound =
    ap (λ xs. slice_get xs k) (sym c.as_slice-bound-items.ensures.value) ∙ slice_get-get_or slice k (pos 0) c.loop-bound-test.true in
    record {
      bound = held (λ q. IsBound m q.0 _) (slice_get queries c.len-place.result) q (ap (slice_get queries) place ∙ is)
          (subst (λ b. IsBound m q.0 b) (sym (to_z-of_z w64 bound fits))
          (AllZip-part R queries c.len.result items c.bounds_from-bounds.ensures.bounds k q bound is at));
    }

pub loop-bound-preserved : goal.loop-bound-preserved
loop-bound-preserved g c =
    let m = c.args.self.now in
    let queries = g.L.QueryList.queries c.args.queries.now in
    let k = c.loop-bound.bound-index in
    let mark = c.is_open-is_open.result in
    let begins : c.len.result ≡ length c.args.marks.now.items = omega (arith, c.len.ensures, c.args.marks.now.ok.0) in
    let long = ap length c.as_slice-bound-items.ensures.value in
    let inside : c.len-place.result < length queries =
    omega (
      arith,
      c.len-place.ensures,
      c.loop-bound.marks.ok.0,
      c.loop-bound.invariant.count,
      begins,
      long,
      c.bounds_from-bounds.ensures.within,
      c.loop-bound-test.true,
    ) in
    let found = some_at queries c.len-place.result inside in
    let q = found.0 in
    let items = ap length c.in_ok-push.ensures.items ∙ length-append c.loop-bound.marks.items (mark ∷ []) in
    let count : length c.push-in-loop-bound.new.self.items ≡ length c.args.marks.now.items + (k + 1) =
    omega (arith, items, c.loop-bound.invariant.count) in
    elim c.if-is_open.branch [
      | then-is_open w ↦ record {
        count = count;
        places = omega (arith, ap (λ v. length v.items) w.places-is, w.push.ensures.len, c.loop-bound.invariant.places);
        marked = λ old answered is are.
            let before = c.loop-bound.invariant.marked old answered is are in
            let n = length before.0 in
            let place : c.len-place.result ≡ length old + n =
            omega (arith, c.len-place.ensures, c.loop-bound.marks.ok.0, ap length before.1, length-append old before.0) in
            let at : slice_get queries (length old + n) ≡ Some q = ap (slice_get queries) (sym place) ∙ found.1 in
            let pushed = c.in_ok-push.ensures.items ∙ ap (λ marks. marks ++ mark ∷ []) before.1 ∙ append_assoc old before.0 (mark ∷ []) in (
              before.0 ++ true ∷ [],
              pushed ∙ ap (λ b. old ++ (before.0 ++ b ∷ [])) w.if-is_open.true,
              subst (AreMarked m queries (length old) (before.0 ++ true ∷ []))
                  (sym (ap (λ v. v.items) w.places-is ∙ w.push.ensures.items
                  ∙ ap (λ p. c.loop-bound.places.items ++ p ∷ []) place))
                  (marked_open m queries (length old) before.0 c.loop-bound.places.items before.2 q at
                  (held_at (λ q. ¬ IsEmpty q.0) (slice_get queries c.len-place.result) q found.1 (c.is_open-is_open.ensures.filled w.if-is_open.true))),
            );
      }
      | else-is_open w ↦ record {
        count = count;
        places = omega (arith, ap (λ v. length v.items) w.places-is, c.loop-bound.invariant.places);
        marked = λ old answered is are.
            let before = c.loop-bound.invariant.marked old answered is are in
            let n = length before.0 in
            let place : c.len-place.result ≡ length old + n =
            omega (arith, c.len-place.ensures, c.loop-bound.marks.ok.0, ap length before.1, length-append old before.0) in
            let at : slice_get queries (length old + n) ≡ Some q = ap (slice_get queries) (sym place) ∙ found.1 in
            let pushed = c.in_ok-push.ensures.items ∙ ap (λ marks. marks ++ mark ∷ []) before.1 ∙ append_assoc old before.0 (mark ∷ []) in (
              before.0 ++ false ∷ [],
              pushed ∙ ap (λ b. old ++ (before.0 ++ b ∷ [])) w.if-is_open.false,
              subst (AreMarked m queries (length old) (before.0 ++ false ∷ [])) (sym (ap (λ v. v.items) w.places-is))
                  (marked_other m queries (length old) before.0 c.loop-bound.places.items before.2 q at
                  (held_at (λ q. ¬ IsAbove m q.0 q.1) (slice_get queries c.len-place.result) q found.1 (c.is_open-is_open.ensures.others (is_false mark w.if-is_open.false)))),
            );
      }
    ]
