use Rattle.std.proofs.Common.{◌≡◌, ◌∙◌, Bool, true, false, not, ℕ, List, length, is_le, inl, inr, refl, sym, ap, subst, rules, arith}
use Rattle.std.specs.Prelude.{Option, Some, IfSome, slice_get}
use Rattle.std.specs.Ordering.{nat_cmp}
use Rattle.std.specs.Cmp.Lexicographic.{slice_cmp}
use Rattle.std.proofs.lemmas.Bool.{cases_lt}
use Rattle.std.proofs.lemmas.Option.{slice_get_read, slice_get_past, get_or_from_slice_get}
use Rattle.keys.specs.Key.{is_before, IsBefore, IsAtMost}
use Rattle.keys.proofs.callers.KeyOrder.{is_le-cmp}
use Rattle.shards.proofs.split_points.first_at_most.Goals.{After-is_le}
use Rattle.shards.proofs.split_points.first_at_most.Goals as goal

-- the point is at the index
here : (c : After-is_le) → slice_get c.args.points.now c.loop-index.index ≡ Some c.index-points-index.result
here c =
    slice_get_read c.args.points.now _ c.loop-index.index c.index-points-index.result refl c.loop-index-test.true c.index-points-index.is

-- the test says whether it comes before the key
tested : (c : After-is_le) → c.is_le.result ≡ not (is_before c.index-points-index.result c.args.key.now)
tested c =
    let compared : c.cmp.result ≡ slice_cmp nat_cmp c.args.key.now c.as_bytes.result.now = search rules in
    c.is_le.ensures ∙ ap is_le (compared ∙ ap (slice_cmp nat_cmp c.args.key.now) c.as_bytes.ensures.bytes)
    ∙ is_le-cmp c.args.key.now c.index-points-index.result

not_false : (b : Bool) → not b ≡ false → b ≡ true
not_false true h = refl
not_false false h = cc

pub returns-then-is_le : goal.returns-then-is_le
returns-then-is_le c =
    let at = goal.at.returns-then-is_le c in
    let after : IsAtMost c.args.key.now c.index-points-index.result = sym (tested at.After-is_le) ∙ c.if-is_le.true in
    record {
      from = c.loop-index.auto.index;
      within = omega (arith, c.loop-index-test.true);
      before = c.loop-index.invariant;
      next = subst (λ (o : Option (List ℕ)). IfSome o (λ point. IsAtMost c.args.key.now point)) (sym (here at.After-is_le)) after;
    }

pub loop-index-preserved : goal.loop-index-preserved
loop-index-preserved c = λ i point low up there.
    let at = goal.at.loop-index-preserved c in
    let points = c.args.points.now in
    let own = c.index-points-index.result in
    let before : IsBefore own c.args.key.now = not_false _ (sym (tested at.After-is_le) ∙ c.if-is_le.false) in
    elim (cases_lt i c.loop-index.index) [
      | inl below ↦ c.loop-index.invariant i point low below there
      | inr past ↦
          let same : c.loop-index.index ≡ i = omega (arith, up, past) in
          let is : own ≡ point =
          sym (get_or_from_slice_get points c.loop-index.index own own (here at.After-is_le))
          ∙ get_or_from_slice_get points c.loop-index.index point own (subst (λ n. slice_get points n ≡ Some point) (sym same) there) in
          subst (λ (key : List ℕ). IsBefore key c.args.key.now) is before
    ]

pub returns : goal.returns
returns c =
    let points = c.args.points.now in
    record {
      from = c.requires.within;
      within = omega arith;
      before = λ i point low up there. c.loop-index.invariant i point low (omega (arith, up, c.loop-index-test.false)) there;
      next = subst (λ (o : Option (List ℕ)). IfSome o (λ point. IsAtMost c.args.key.now point))
          (sym (slice_get_past points (length points) (omega arith))) tt;
    }
