use Rattle.std.proofs.Common.{rules, arith, ◌≡◌, SFits, w64, ℕ, ℤ, ◌≤ℤ◌, true, subst, slice_get}
use Rattle.std.specs.Prelude.{Option, None, Some, IsSomeAnd}
use Rattle.std.specs.Option.{is_some}
use Rattle.std.proofs.lemmas.Int.{ints}
use Rattle.keys.specs.Hash.{IsHashOf}
use Rattle.keys.specs.declared.range.Range.{Range}
use Rattle.stepmap.specs.Covers.{IsAbove}
use Rattle.stepmap.specs.Filtering.{IsBound}
use Rattle.stepmap.specs.StepMap.{Steps}
use Rattle.stepmap.proofs.step_map.StepMap.is_open.Goals as goal

-- a single key isn't written above a version from its bound and the edge on
not_above : (m : Steps) (bound version : ℤ) (hash : Option ℕ) (found : Option (Range × ℤ)) → is_some hash ≡ true
    → IsSomeAnd found (λ q. IsBound m q.0 bound) → IsSomeAnd found (λ q. IsHashOf q.0 hash) → IsSomeAnd found (λ q. version ≡ q.1)
    → m.edge ≤ℤ version → bound ≤ℤ version → IsSomeAnd found (λ q. ¬ IsAbove m q.0 q.1)
not_above m bound version None found some is_bound hash_is version_is from_edge from_bound = cc
not_above m bound version (Some hash) None some is_bound hash_is version_is from_edge from_bound = absurd is_bound
not_above m bound version (Some hash) (Some q) some is_bound hash_is version_is from_edge from_bound =
    subst (λ (v : ℤ). ¬ IsAbove m q.0 v) version_is (is_bound hash_is.0 version from_edge from_bound)

pub returns-else-version-self-clause-others : goal.returns-else-version-self-clause-others
returns-else-version-self-clause-others g c = λ not_below.
    let version = c.version-version.result in
    let fits : SFits w64 version = search rules in
    let bound_fits : SFits w64 c.args.bound = search rules in
    let edge : c.self.inside.edge ≤ℤ version = grind (arith, ints, c.if-version-self.false) in
    let from_bound : c.args.bound ≤ℤ version = grind (arith, ints, not_below) in
    not_above c.args.self.now c.args.bound version c.hash.result (slice_get (g.L.QueryList.queries c.args.queries.now) c.args.index)
    c.if-is_none.ensures c.requires.bound c.hash.ensures.hash c.version-version.ensures.version
    (subst (λ (m : Steps). m.edge ≤ℤ version) c.self.view_is edge) from_bound
