use Rattle.std.proofs.Common.{rules, w64, to_z, of_z, SFits, ◌≡◌, [], sym, ap, subst, ◌∙◌, arith}
use Rattle.std.specs.Prelude.{ℤ, pos, negsuc, ◌≤ℤ◌, ◌-ℤ◌}
use Rattle.std.specs.Int.{int_max}
use Rattle.std.proofs.lemmas.Int.{ints, to_z-of_z}
use Rattle.std.proofs.lemmas.Result.{IfOk-weaker}
use Rattle.stepmap.specs.StepMap.{Steps}
use Rattle.stepmap.specs.Covers.{MapCovers}
use Rattle.stepmap.specs.Rooted.{Rooted}
use Rattle.conflict.specs.ConflictSet.{SetState}
use Rattle.conflict.specs.Unknown.{unknown_until}
use Rattle.conflict.proofs.Starting.{up_to_later, minus_one, natural_from_test, edge_natural, edge_at_most, written_unknown}
use Rattle.conflict.proofs.conflict_set.ConflictSet.new_at.Goals as goal

-- as the code hands numbers on
passed : (n : ℤ) → SFits w64 n → to_z w64 (of_z w64 n) ≡ n
passed n fits = to_z-of_z w64 n fits

pub returns-then-version-lt0-clause-resolved : goal.returns-then-version-lt0-clause-resolved
returns-then-version-lt0-clause-resolved c =
    let same = passed c.args.version c.ranges.version in
    let below = c.if-version-lt0.true in
    let is : negsuc 0 ≡ c.args.version =
    minus_one c.args.version c.requires.least_version (grind (arith, ints, below, same)) in
    IfOk-weaker c.new.result _ (λ (s : SetState). s.resolved ≡ c.args.version)
    (λ s new. ap (λ (s : SetState). s.resolved) new ∙ is) c.new.ensures.empty

pub raise-requires : goal.raise-requires
raise-requires c =
    let fits : SFits w64 c.edge_at.result = search rules in
    let edge = passed c.edge_at.result fits ∙ c.edge_at.ensures.edge in
    let new = ap (λ (m : Steps). m.edge) c.in_ok-map.ensures.map in
    record {
      late = subst (λ e. e ≤ℤ to_z w64 (of_z w64 c.edge_at.result)) (sym new)
          (subst (λ e. pos 0 ≤ℤ e) (sym edge)
          (edge_natural (to_z w64 (of_z w64 c.args.version)) (to_z w64 (of_z w64 c.args.window))));
    }

pub write_every_key-requires-clause-newest : goal.write_every_key-requires-clause-newest
write_every_key-requires-clause-newest c =
    let v = to_z w64 (of_z w64 c.args.version) in
    let least : negsuc 0 ≤ℤ v =
    subst (λ n. negsuc 0 ≤ℤ n) (sym (passed c.args.version c.ranges.version)) c.requires.least_version in
    up_to_later (negsuc 0) v c.raise.new.self.boundaries least
    (c.raise.ensures.newest (negsuc 0) c.in_ok-map.ensures.newest)

pub write_every_key-requires-clause-late : goal.write_every_key-requires-clause-late
write_every_key-requires-clause-late c =
    let v = to_z w64 (of_z w64 c.args.version) in
    let w = to_z w64 (of_z w64 c.args.window) in
    let fits : SFits w64 c.edge_at.result = search rules in
    let edge = ap (λ (m : Steps). m.edge) c.raise.ensures.map ∙ passed c.edge_at.result fits ∙ c.edge_at.ensures.edge in
    let natural = natural_from_test v c.if-version-lt0.false in
    let least : pos 1 ≤ℤ w =
    subst (λ n. pos 1 ≤ℤ n) (sym (passed c.args.window c.ranges.window)) c.requires.least_window in
    subst (λ e. e ≤ℤ v) (sym edge) (edge_at_most v w least natural)

pub invariant_of-result : goal.invariant_of-result
invariant_of-result c =
    let v = to_z w64 (of_z w64 c.args.version) in
    let window = passed c.args.window c.ranges.window in
    let fits : SFits w64 c.edge_at.result = search rules in
    let edge = ap (λ (m : Steps). m.edge) c.raise.ensures.map ∙ passed c.edge_at.result fits ∙ c.edge_at.ensures.edge in
    record {
      least_window = subst (λ n. pos 1 ≤ℤ n) (sym window) c.requires.least_window;
      most_window = subst (λ n. n ≤ℤ pos 1099511627776) (sym window) c.requires.most_window;
      resolved = subst (λ n. negsuc 0 ≤ℤ n) (sym (passed c.args.version c.ranges.version)) c.requires.least_version;
      edge = λ _. c.write_every_key.ensures.edge ∙ edge;
      newest = λ _. c.in_ok-write_every_key.ensures.newest;
    }

pub returns-clause-remembers : goal.returns-clause-remembers
returns-clause-remembers c =
    let v = to_z w64 (of_z w64 c.args.version) in
    let natural = natural_from_test v c.if-version-lt0.false in
    let is = written_unknown v natural ∙ ap unknown_until (passed c.args.version c.ranges.version) in
    let new = c.write_every_key.new.steps in
    record {
      covers = subst (MapCovers new) is
          (c.in_ok-write_every_key.ensures.covers [] (c.raise.ensures.covers [] c.in_ok-map.ensures.covers));
      rooted = subst (Rooted new) is
          (c.in_ok-write_every_key.ensures.rooted [] (c.raise.ensures.rooted [] c.in_ok-map.ensures.rooted));
    }

pub returns-clause-edge : goal.returns-clause-edge
returns-clause-edge c =
    let w = to_z w64 (of_z w64 c.args.window) in
    let fits : SFits w64 c.edge_at.result = search rules in
    c.write_every_key.ensures.edge ∙ ap (λ (m : Steps). m.edge) c.raise.ensures.map
    ∙ passed c.edge_at.result fits ∙ c.edge_at.ensures.edge
    ∙ ap (λ v. int_max (v -ℤ w) (pos 0)) (passed c.args.version c.ranges.version)
    ∙ ap (λ n. int_max (c.args.version -ℤ n) (pos 0)) (passed c.args.window c.ranges.window)
