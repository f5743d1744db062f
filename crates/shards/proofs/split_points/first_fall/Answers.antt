use Rattle.std.proofs.Common.{◌≡◌, ◌∙◌, ◌+◌, ℕ, Bool, true, false, not, List, [], ◌∷◌, ◌++◌, take, is_le, refl, sym, ap, subst, rules}
use Rattle.std.specs.Prelude.{Some, slice_get}
use Rattle.std.specs.Ordering.{nat_cmp}
use Rattle.std.specs.Cmp.Lexicographic.{slice_cmp}
use Rattle.std.proofs.lemmas.Option.{slice_get_read}
use Rattle.keys.specs.Key.{is_before, IsBefore, IsAtMost}
use Rattle.keys.proofs.callers.KeyOrder.{is_le-cmp, not_both}
use Rattle.serial.specs.Shards.{IsRising}
use Rattle.shards.proofs.Leasts.{take_next}
use Rattle.shards.proofs.ShardList.{last_or, rising_more, rising_last, last_more}
use Rattle.shards.proofs.split_points.first_fall.Goals.{After-is_le}
use Rattle.shards.proofs.split_points.first_fall.Goals as goal

-- the key is at the index
here : (c : After-is_le) → slice_get c.args.points.now c.loop-index.index ≡ Some c.index-points-index.result
here c =
    slice_get_read c.args.points.now _ c.loop-index.index c.index-points-index.result refl c.loop-index-test.true c.index-points-index.is

next : (c : After-is_le) → take (c.loop-index.index + 1) c.args.points.now
    ≡ take c.loop-index.index c.args.points.now ++ c.index-points-index.result ∷ []
next c = take_next c.args.points.now c.loop-index.index c.index-points-index.result (here c)

-- the test says whether it comes after the one before
tested : (c : After-is_le) → c.is_le.result ≡ not (is_before c.loop-index.before.now c.index-points-index.result)
tested c =
    let compared : c.cmp.result ≡ slice_cmp nat_cmp c.as_bytes.result.now c.loop-index.before.now = search rules in
    c.is_le.ensures ∙ ap is_le (compared ∙ ap (λ (key : List ℕ). slice_cmp nat_cmp key c.loop-index.before.now) c.as_bytes.ensures.bytes)
    ∙ is_le-cmp c.index-points-index.result c.loop-index.before.now

not_false : (b : Bool) → not b ≡ false → b ≡ true
not_false true h = refl
not_false false h = cc

pub returns-then-is_le : goal.returns-then-is_le
returns-then-is_le c =
    let at = goal.at.returns-then-is_le c in
    let most : IsAtMost c.index-points-index.result c.loop-index.before.now = sym (tested at.After-is_le) ∙ c.if-is_le.true in
    record {
      fall = record {
        before = c.loop-index.invariant.rising;
        fall = λ rising.
            let after = rising_last [] (take c.loop-index.index c.args.points.now) c.index-points-index.result
            (subst (IsRising []) (next at.After-is_le) rising) in
            not_both c.loop-index.before.now c.index-points-index.result
            (subst (λ (key : List ℕ). IsBefore key c.index-points-index.result) (sym c.loop-index.invariant.last) after) most;
      };
    }

pub loop-index-preserved : goal.loop-index-preserved
loop-index-preserved c =
    let at = goal.at.loop-index-preserved c in
    let front = take c.loop-index.index c.args.points.now in
    let after : IsBefore c.loop-index.before.now c.index-points-index.result =
    not_false _ (sym (tested at.After-is_le) ∙ c.if-is_le.false) in
    record {
      rising = subst (IsRising []) (sym (next at.After-is_le)) (rising_more [] front c.index-points-index.result c.loop-index.invariant.rising
          (subst (λ (key : List ℕ). IsBefore key c.index-points-index.result) c.loop-index.invariant.last after));
      last = c.as_bytes-before.ensures.bytes ∙ sym (last_more [] front c.index-points-index.result)
          ∙ ap (last_or []) (sym (next at.After-is_le));
    }
