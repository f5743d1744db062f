use Rattle.std.proofs.Common.{◌≡◌, ◌≤◌, ◌+◌, ◌-◌, ℕ, ℤ, length, map, take, drop, length-drop, ap, sym, subst, ◌∙◌, arith}
use Rattle.std.specs.List.{AllZip}
use Rattle.std.proofs.lemmas.Int.{ints}
use Rattle.std.specs.Prelude.{◌≤ℤ◌}
use Rattle.std.proofs.lemmas.List.{length-map, length-take-le}
use Rattle.std.proofs.lemmas.Slice.Zip.{AllZip-long}
use mir.Syntax.{w64}
use mir.Val.{to_z, of_z}
use Rattle.stepmap.specs.Filter.{bound_in}
use Rattle.keys.specs.Hash.{hash_of}
use Rattle.keys.specs.Range.{IsSingle}
use Rattle.keys.specs.declared.range.Range.{Range}
use Rattle.stepmap.specs.Filtering.{BoundsSteps, IsBound}
use Rattle.stepmap.proofs.FilterBounds.{not_above}
use Rattle.stepmap.proofs.LeftOpen.{AllZip-equal, AllZip-mapped, is_false}
use Rattle.stepmap.proofs.step_map.StepMap.bounds_from.Goals as goal

pub returns-then-not-is_useful-clause-bounds : goal.returns-then-not-is_useful-clause-bounds
returns-then-not-is_useful-clause-bounds g c =
    let m = c.args.self.now in
    let f = c.self.inside.filter in
    let rest = drop c.args.from (g.L.QueryList.queries c.args.queries.now) in
    let items = c.repeated.result.items in
    let determines = subst (BoundsSteps f) c.self.view_is c.self.invariant.determines in
    let newest = to_z w64 (of_z w64 c.newest_range.result) in
    let each : (q : Range × ℤ) → IsBound m q.0 newest =
    λ q single s from low.
    let is = c.is_useful.ensures.range (is_false c.is_useful.result c.if-not-is_useful.true) q.0.begin in
    not_above f m q.0 s determines from single (omega (arith, ints, low, is, c.newest_range.ensures.newest)) in
    let few : length items ≤ length rest =
    omega (
      arith,
      c.repeated.ensures.count,
      c.min-count.ensures,
      c.len.ensures.count,
      length-drop c.args.from (g.L.QueryList.queries c.args.queries.now),
    ) in
    AllZip-equal (λ q bound. IsBound m q.0 bound) newest each (take (length items) rest) items
    (length-take-le (length items) rest few) c.repeated.ensures.each

pub returns-clause-bounds : goal.returns-clause-bounds
returns-clause-bounds g c =
    let m = c.args.self.now in
    let f = c.self.inside.filter in
    let queries = g.L.QueryList.queries c.args.queries.now in
    let rest = drop c.args.from queries in
    let items = c.bounds_at.result.items in
    let hashes = c.hashes_from-hashes.result.items in
    let determines = subst (BoundsSteps f) c.self.view_is c.self.invariant.determines in
    let IsHash = λ (q : Range × ℤ) (hash : ℕ). IsSingle q.0 → hash ≡ hash_of q.0.begin in
    let Bounds = λ (q : Range × ℤ) (bound : ℤ). IsBound m q.0 bound in
    let each : (q : Range × ℤ) (hash : ℕ) → IsHash q hash → Bounds q (bound_in f hash) =
    λ q hash is single s from low.
    not_above f m q.0 s determines from single (subst (λ (hash : ℕ). bound_in f hash ≤ℤ s) (is single) low) in
    let count = c.min-count.result in
    let n = (c.args.from + count) - c.args.from in
    let is : items ≡ map (bound_in f) hashes = c.bounds_at.ensures.bounds ∙ ap (map (bound_in f)) c.as_slice.ensures.value in
    let few : n ≤ length rest =
    omega (arith, c.min-count.ensures, c.len.ensures.count, length-drop c.args.from queries) in
    let many : length items ≡ n =
    ap length is ∙ length-map hashes (bound_in f) ∙ AllZip-long IsHash (take n rest) hashes c.hashes_from-hashes.ensures.hashes
    ∙ length-take-le n rest few in
    subst (λ k. AllZip Bounds (take k rest) items) (sym many)
    (subst (AllZip Bounds (take n rest)) (sym is)
    (AllZip-mapped IsHash Bounds (bound_in f) each (take n rest) hashes c.hashes_from-hashes.ensures.hashes))
