use Rattle.std.proofs.Common.{◌≡◌, ◌≤◌, ◌∙◌, ℕ, not, List, ap, subst, inl, inr, rules, arith}
use Rattle.std.specs.Prelude.{nat_lt, Some, slice_get}
use Rattle.keys.specs.Key.{is_before}
use Rattle.keys.proofs.callers.KeyOrder.{before_or_same}
use Rattle.shards.specs.Reach.{AreFirst}
use Rattle.shards.proofs.Counts.{first_from_both, first_from_same}
use Rattle.shards.proofs.Reached.{filled_reach, empty_reach}
use Rattle.shards.proofs.reach.Reach.of.Goals.{After-shard_of-first, After-last_before-last}
use Rattle.shards.proofs.reach.Reach.of.Goals as goal

few_first : (c : After-shard_of-first) → c.shard_of-first.result ≤ 63
few_first c = omega (arith, c.shard_of-first.ensures.first.within, c.shard_of-first.ensures.points.few)

few_last : (c : After-last_before-last) → c.last_before-last.result ≤ 63
few_last c = omega (arith, c.last_before-last.ensures.within, c.shard_of-first.ensures.points.few)

pub overflow_cast-result : goal.overflow_cast-result
overflow_cast-result c =
    let at = goal.at.overflow_cast-result c in
    let few = few_first at.After-shard_of-first in
    search rules

pub overflow_cast-result-2 : goal.overflow_cast-result-2
overflow_cast-result-2 c =
    let at = goal.at.overflow_cast-result-2 c in
    let few = few_last at.After-last_before-last in
    search rules

pub returns : goal.returns
returns c =
    let points = c.args.points.now in
    let range = c.args.range.now in
    let first = c.shard_of-first.result in
    let last = c.last_before-last.result in
    let low = c.last_before-last.ensures.from in
    let begins = subst (λ (key : List ℕ). AreFirst (λ point. not (is_before key point)) points first)
    c.begin.ensures.bytes c.shard_of-first.ensures.first in
    let ends = subst (λ (key : List ℕ). (i : ℕ) (point : List ℕ) → first ≤ i → slice_get points i ≡ Some point
    → is_before point key ≡ nat_lt i last) c.end.ensures.bytes c.last_before-last.ensures.last in
    record {
      reach = elim (before_or_same range.begin range.end range.ordered) [
        | inl filled ↦ filled_reach points range _ begins filled
            (first_from_both points range.begin range.end first last c.last_before-last.ensures.within low begins filled ends)
        | inr same ↦ empty_reach points range _ begins same
            (first_from_same points range.begin first last c.last_before-last.ensures.within low begins
            (λ i point up at. ap (is_before point) same ∙ ends i point up at))
      ];
    }
