use Rattle.std.proofs.Common.{◌≡◌, ◌+◌, ℕ, List, [], subst, arith}
use Rattle.shards.specs.SplitPoints.{IsFirstFall}
use Rattle.serial.specs.Shards.{IsRising}
use Rattle.shards.proofs.ShardList.{one_fall, rising_take}
use Rattle.shards.proofs.split_points.SplitPoints.checked.Goals as goal

pub returns-in-Some-clause-not_rising : goal.returns-in-Some-clause-not_rising
returns-in-Some-clause-not_rising c = λ index.
    let points = c.args.points.items in
    let fall = subst (λ (ps : List (List ℕ)). IsFirstFall ps c.in-Some.index) c.deref.ensures.value c.in-Some.ensures.fall in (
      λ h.
          let same : c.in-Some.index ≡ index = cc in
          (omega arith, subst (IsFirstFall points) same fall),
      λ h. let same = one_fall points c.in-Some.index index fall h.1 in cc,
    )

pub returns-clause-not_rising : goal.returns-clause-not_rising
returns-clause-not_rising c = λ index.
    let points = c.args.points.items in
    let rising = subst (IsRising []) c.deref.ensures.value c.in_default.ensures.fall in (
      λ h. absurd cc,
      λ h. absurd (h.1.fall (rising_take [] points (index + 1) rising)),
    )
