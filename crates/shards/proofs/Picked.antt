-- Split points while they are picked from keys in order.
use Rattle.std.proofs.Common.{◌≡◌, ◌∙◌, ℕ, suc, ◌+◌, ◌*◌, ◌/◌, ◌<◌, ◌≤◌, Bool, true, false, cond, ◌&&◌, List, [], ◌∷◌, ◌++◌, length, count_by, IsPermutation, refl, sym, ap, subst, arith, All, Contains, append_assoc, length-append, mul-le-mul_left, mul-le-mul_right, le_of_mul-le-mul_right, div-mul-le_self, div-lt_iff_lt-mul, le_trans, le_of_eq, mul_assoc}
use Rattle.std.specs.Prelude.{Some, None, slice_get}
use Rattle.std.proofs.lemmas.List.Elements.{All-nil, All-append, All-push, All-weaker, Contains-append_right}
use Rattle.std.proofs.lemmas.List.Sorted.{Contains-permutation, IsPermutation-sym, length_permutation, sum_by-IsPermutation}
use Rattle.std.proofs.lemmas.List.Sums.{sum_by-append, count_by-le-length}
use Rattle.std.proofs.lemmas.Option.{slice_get_within, get_or_from_slice_get}
use Rattle.keys.specs.Key.{is_before, IsBefore, IsAtMost}
use Rattle.keys.proofs.callers.KeyOrder.{at_most_before, before_at_most_same, not_before_if}
use Rattle.serial.specs.Shards.{Shard, shards_from, shards, ends_above, IsRising}
use Rattle.shards.specs.Balanced.{is_inside, HasItsPart, IsBalanced}
use Rattle.shards.specs.Picking.{IsRestAfter}
use Rattle.shards.proofs.KeyOrders.{AreOrdered, ordered_rest, fewer_left, count_none, few_before}
use Rattle.shards.proofs.ShardList.{last_or, rising_more, last_more}

abbrev between : List ℕ → List ℕ → Shard
between from to = record { from = from; to = Some to }

abbrev endless : List ℕ → Shard
endless from = record { from = from; to = None }

-- the shards that end at a split point
abbrev pub closed_from : List ℕ → List (List ℕ) → List Shard
closed_from from [] = []
closed_from from (point ∷ points) = between from point ∷ closed_from point points

closed_more : (from : List ℕ) (points : List (List ℕ)) (point : List ℕ)
    → closed_from from (points ++ point ∷ []) ≡ closed_from from points ++ between (last_or from points) point ∷ []
closed_more from [] point = refl
closed_more from (first ∷ points) point = ap (λ (all : List Shard). between from first ∷ all) (closed_more first points point)

-- and the one that doesn't
all_shards : (from : List ℕ) (points : List (List ℕ))
    → shards_from from points ≡ closed_from from points ++ endless (last_or from points) ∷ []
all_shards from [] = refl
all_shards from (point ∷ points) = ap (λ (all : List Shard). between from point ∷ all) (all_shards point points)

module _ (n all share left : ℕ) (fair : n * all ≤ share * suc left) where
  -- one of the remaining shards has its part
  part_of : n * (all / suc left) ≤ share
  part_of =
      let part = all / suc left in
      let least : part * suc left ≤ all = div-mul-le_self all (suc left) in
      let scaled : n * (part * suc left) ≤ n * all = mul-le-mul_left n least in
      let both : n * part * suc left ≤ share * suc left = le_trans (le_of_eq (mul_assoc n part (suc left))) (le_trans scaled fair) in
      le_of_mul-le-mul_right {k = suc left} both (omega arith)

  -- the others have no more
  part_left : (rest : ℕ) → rest + all / suc left + 1 ≤ all → n * rest ≤ share * left
  part_left rest less =
      let part = all / suc left in
      let below : all < suc part * suc left = (div-lt_iff_lt-mul {k = suc left} {x = all} {y = suc part} (omega arith)).0 (omega arith) in
      let more : (rest + part + 1) * left ≤ all * left = mul-le-mul_right left less in
      let scaled : rest * suc left ≤ all * left = omega (arith, below, more, less) in
      let first : n * (rest * suc left) ≤ n * (all * left) = mul-le-mul_left n scaled in
      let second : n * all * left ≤ share * suc left * left = mul-le-mul_right left fair in
      let both : n * rest * suc left ≤ share * left * suc left = omega (arith, first, second) in
      le_of_mul-le-mul_right {k = suc left} both (omega arith)

and_right : (a b : Bool) → b ≡ false → (a && b) ≡ false
and_right true b h = h
and_right false b h = refl

and_left : (a b : Bool) → a ≡ false → (a && b) ≡ false
and_left true b h = cc
and_left false b h = refl

-- Points picked for n shards, of which some are left for the keys after the last point. The shards before it have their part.
pub record ArePicked (n left : ℕ) (begins points rest : List (List ℕ)) : Type 0 where
  pub rising : IsRising [] points
  pub few : length points + left ≤ n
  pub sampled : All (Contains begins) points
  pub closed : All (HasItsPart n begins) (closed_from [] points)
  pub after : IsRestAfter (last_or [] points) begins rest
  pub fair : n * length rest ≤ length begins * left

pub picked_none : (n : ℕ) (begins rest : List (List ℕ)) → IsRestAfter [] begins rest → ArePicked n n begins [] rest
picked_none n begins rest after =
    let fewer : length rest ≤ length begins = omega (arith, ap length after.parts, length-append after.front rest) in
    let scaled : n * length rest ≤ n * length begins = mul-le-mul_left n fewer in
    record {
      rising = tt;
      few = omega arith;
      sampled = All-nil (Contains begins);
      closed = All-nil (HasItsPart n begins);
      after = after;
      fair = omega (arith, scaled);
    }

-- each key of the rest is one of the begins
pub from_begins : (n left : ℕ) (begins points rest : List (List ℕ)) → ArePicked n left begins points rest → (e : ℕ) (key : List ℕ)
    → slice_get rest e ≡ Some key → Contains begins key
from_begins n left begins points rest picked e key at =
    subst (λ (keys : List (List ℕ)). Contains keys key) (sym picked.after.parts)
    (Contains-append_right picked.after.front rest key (e, slice_get_within rest e key at, get_or_from_slice_get rest e key key at))

-- no key up to the first one of a shard lies inside it
outside : (shard : Shard) (front : List (List ℕ)) → All (λ other. IsAtMost other shard.from) front → count_by (is_inside shard) front ≡ 0
outside shard front others =
    count_none (is_inside shard) front
    (All-weaker (λ other. IsAtMost other shard.from) (λ other. is_inside shard other ≡ false)
    (λ other h. and_left (is_before shard.from other) (ends_above shard.to other) (not_before_if other shard.from h)) front others)

-- those inside a shard are among the rest after its first key
inside_rest : (shard : Shard) (begins rest : List (List ℕ)) → IsRestAfter shard.from begins rest
    → count_by (is_inside shard) begins ≡ count_by (is_inside shard) rest
inside_rest shard begins rest after =
    let none = outside shard after.front after.others in
    let all : count_by (is_inside shard) begins ≡ count_by (is_inside shard) (after.front ++ rest) =
    ap (λ (keys : List (List ℕ)). count_by (is_inside shard) keys) after.parts in
    let both : count_by (is_inside shard) (after.front ++ rest)
    ≡ count_by (is_inside shard) after.front + count_by (is_inside shard) rest =
    sum_by-append (λ (key : List ℕ). cond (is_inside shard key) 1 0) after.front rest in
    omega (arith, none, all, both)

module _ (n left : ℕ) (begins points rest : List (List ℕ)) (ordered : AreOrdered begins) (picked : ArePicked n (suc left) begins points rest) where
  -- one shard less, of keys that are all used up
  pub picked_all_used : 0 < left → length rest ≤ length rest / suc left → ArePicked n left begins points rest
  picked_all_used some short =
      let least : length rest / suc left * suc left ≤ length rest = div-mul-le_self (length rest) (suc left) in
      let more : length rest * suc left ≤ length rest / suc left * suc left = mul-le-mul_right (suc left) short in
      let twice : length rest * 1 ≤ length rest * left = mul-le-mul_left (length rest) some in
      let none : length rest ≡ 0 = omega (arith, least, more, twice) in
      record {
        rising = picked.rising;
        few = omega (arith, picked.few);
        sampled = picked.sampled;
        closed = picked.closed;
        after = picked.after;
        fair = subst (λ (m : ℕ). n * m ≤ length begins * left) (sym none) (omega arith);
      }

  module _ (point : List ℕ) (next : List (List ℕ)) (at : slice_get rest (length rest / suc left) ≡ Some point) (step : IsRestAfter point rest next) where
    abbrev last : List ℕ
    last = last_or [] points

    abbrev part : ℕ
    part = length rest / suc left

    rises : IsBefore last point
    rises =
        subst (IsBefore last) (get_or_from_slice_get rest part point point at)
        (picked.after.after part point (slice_get_within rest part point at))

    -- the shard that ends at the point
    has_its_part : HasItsPart n begins (between last point)
    has_its_part =
        let shard = between last point in
        let rest_ordered = ordered_rest picked.after.front rest (subst AreOrdered picked.after.parts ordered) in
        let few = few_before (is_inside shard) rest part point rest_ordered at
        (λ key h. and_right (is_before last key) (is_before key point) (not_before_if point key h)) in
        let same = inside_rest shard begins rest picked.after in
        let scaled : n * count_by (is_inside shard) rest ≤ n * part = mul-le-mul_left n few in
        subst (λ (m : ℕ). n * m ≤ length begins) (sym same) (le_trans scaled (part_of n (length rest) (length begins) left picked.fair))

    next_after : IsRestAfter point begins next
    next_after = record {
      front = picked.after.front ++ step.front;
      parts =
          picked.after.parts ∙ ap (λ (keys : List (List ℕ)). picked.after.front ++ keys) step.parts
          ∙ sym (append_assoc picked.after.front step.front next);
      others = All-append (λ other. IsAtMost other point) picked.after.front step.front
          (All-weaker (λ other. IsAtMost other last) (λ other. IsAtMost other point)
          (λ other h. before_at_most_same other point (at_most_before other last point h rises)) picked.after.front picked.after.others)
          step.others;
      after = step.after;
    }

    pub picked_more : ArePicked n left begins (points ++ point ∷ []) next
    picked_more = record {
      rising = rising_more [] points point picked.rising rises;
      few = omega (arith, picked.few, length-append points (point ∷ []));
      sampled = All-push (Contains begins) points point picked.sampled
          (from_begins n (suc left) begins points rest picked part point at);
      closed = subst (All (HasItsPart n begins)) (sym (closed_more [] points point))
          (All-push (HasItsPart n begins) (closed_from [] points) (between last point) picked.closed has_its_part);
      after = subst (λ (key : List ℕ). IsRestAfter key begins next) (sym (last_more [] points point)) next_after;
      fair = part_left n (length rest) (length begins) left picked.fair (length next) (fewer_left rest next part point at step);
    }

-- with one shard left, which takes the rest
pub balanced_when_done : (n : ℕ) (begins points rest : List (List ℕ)) → ArePicked n 1 begins points rest → IsBalanced n begins points
balanced_when_done n begins points rest picked =
    let shard = endless (last_or [] points) in
    let same = inside_rest shard begins rest picked.after in
    let few : count_by (is_inside shard) rest ≤ length rest = count_by-le-length (is_inside shard) rest in
    let scaled : n * count_by (is_inside shard) rest ≤ n * length rest = mul-le-mul_left n few in
    let last : HasItsPart n begins shard =
    subst (λ (m : ℕ). n * m ≤ length begins) (sym same) (omega (arith, scaled, picked.fair)) in
    record {
      few = omega (arith, picked.few);
      sampled = picked.sampled;
      even = subst (All (HasItsPart n begins)) (sym (all_shards [] points))
          (All-push (HasItsPart n begins) (closed_from [] points) shard picked.closed last);
    }

-- the order of the sample doesn't matter
pub balanced_permuted : (n : ℕ) (old new points : List (List ℕ)) → IsPermutation old new → IsBalanced n new points → IsBalanced n old points
balanced_permuted n old new points moved balanced = record {
  few = balanced.few;
  sampled = All-weaker (Contains new) (Contains old) (λ key h. Contains-permutation new old key (IsPermutation-sym old new moved) h) points balanced.sampled;
  even = All-weaker (HasItsPart n new) (HasItsPart n old)
      (λ shard h.
      let count : count_by (is_inside shard) new ≡ count_by (is_inside shard) old =
      sum_by-IsPermutation (λ (key : List ℕ). cond (is_inside shard key) 1 0) old new moved in
      let long = length_permutation old new moved in
      subst (λ (m : ℕ). n * m ≤ length old) count (subst (λ (m : ℕ). n * count_by (is_inside shard) new ≤ m) long h))
      (shards points) balanced.even;
}
