use Rattle.std.proofs.Common.{◌≡◌, ℕ, List, ◌+◌, ◌-◌, ◌<◌, length, get_or, take, drop, arith, ap, refl, sym, subst, ◌∙◌}
use Rattle.std.specs.Prelude.{All}
use Rattle.std.proofs.lemmas.List.{get_or_default, length-set, take_rest}
use Rattle.std.proofs.lemmas.List.Elements.{All-contains, Contains-get_or}
use Rattle.keys.specs.Key.{IsBytes, IsBefore, IsAtMost}
use Rattle.keys.specs.GapRuns.{rank}
use Rattle.keys.specs.Sorting.{begin_at, indices_of}
use Rattle.keys.specs.Numbering.{end_at, end_of, run_at, AreNumbered, IsFilledAt}
use Rattle.keys.specs.declared.gap_runs.begin_sort.HeadedIndex.{HeadedIndex}
use Rattle.keys.proofs.Sorting.{no_headed, Contains-drop, Contains-take}
use Rattle.keys.proofs.EndHeads.{ends_determine}
use Rattle.keys.proofs.Galloping.{part_sorted}
use Rattle.keys.proofs.Hashed.{single_if_hashed}
use Rattle.keys.proofs.Reaching.{begin_before_end, reached_more, single_more, split_at, rank_of_next, rank_of_last, others_at, none_reached}
use Rattle.keys.proofs.Values.{contains_value}
use Rattle.keys.proofs.gap_runs.end_ranks.reach_ends.Goals.{in-Some, in-None}
use Rattle.keys.proofs.gap_runs.end_ranks.reach_ends.Goals as goal

pub loop-place-preserved : goal.loop-place-preserved
loop-place-preserved g c =
    let ranges = g.L.RangeList.ranges c.args.ranges.now in
    let all = c.args.sorted.now in
    let i = c.loop-place.place in
    let d = get_or all i no_headed in
    let runs = c.loop-place.runs in
    let listed = contains_value (λ (h : HeadedIndex). h.index) all d (Contains-get_or all i no_headed c.loop-place-test.true) in
    let filled : IsFilledAt ranges d.index = All-contains (IsFilledAt ranges) (indices_of all) d.index c.requires.filled listed in
    let given = c.requires.within i no_headed c.loop-place-test.true in
    let within : d.index < length runs = omega (arith, given, c.loop-place.invariant.as_many) in
    let part = take (length all - (i + 1)) (drop (i + 1) all) in
    let n = c.count_below.result in
    let split = split_at ranges all i n part c.requires.sorted c.loop-place-test.true filled (take_rest all (i + 1))
    c.count_below.ensures.within
    (subst (λ (e : List ℕ). All (λ h. IsBefore (begin_at ranges h.index) e) (take n part)) c.end_in-end.ensures.end
    c.count_below.ensures.below)
    (subst (λ (e : List ℕ). All (λ h. IsAtMost e (begin_at ranges h.index)) (drop n part)) c.end_in-end.ensures.end
    c.count_below.ensures.following) in
    let reached : (keys : List (List ℕ)) → AreNumbered ranges all keys c.args.begin_count c.args.runs.now
    → c.match-get.reached ≡ rank keys (end_at ranges d.index) =
    λ keys are.
    elim c.match-get.branch [
      | in-Some w ↦
          let lookup = w.in-Some.ensures.lookup in
          let lt : i + 1 + n < length all = omega arith in
          let next = get_or all (i + 1 + n) no_headed in
          let same : w.in-Some.next.now ≡ next =
          lookup.1 ∙ get_or_default all (i + 1 + n) w.in-Some.next.now no_headed lt in
          w.reached-is ∙ ap (λ (h : HeadedIndex). (run_at runs h.index).0) same
          ∙ All-contains (λ k. (run_at runs k).0 ≡ rank keys (begin_at ranges k)) (indices_of all) next.index
          (c.loop-place.invariant.reached keys are).begins
          (contains_value (λ (h : HeadedIndex). h.index) all next (Contains-get_or all (i + 1 + n) no_headed lt))
          ∙ rank_of_next ranges all keys (end_at ranges d.index) (i + 1 + n) c.requires.sorted are.each_once split lt
      | in-None w ↦
          let lookup = w.in-None.ensures.lookup in
          w.reached-is ∙ are.count
          ∙ rank_of_last ranges all keys (end_at ranges d.index) (i + 1 + n) are.each_once split (omega arith)
    ] in
    record {
      as_many = length-set runs d.index _ ∙ c.loop-place.invariant.as_many;
      reached = λ keys are. reached_more ranges keys all i c.match-get.reached runs c.loop-place-test.true
          (c.loop-place.invariant.reached keys are) within (reached keys are);
      others = others_at all d.index c.args.runs.now runs _ listed c.loop-place.invariant.others;
    }

-- a range with a hash is a single key
pub loop-place-preserved-then-has_hash : goal.loop-place-preserved-then-has_hash
loop-place-preserved-then-has_hash g c =
    let ranges = g.L.RangeList.ranges c.args.ranges.now in
    let all = c.args.sorted.now in
    let i = c.loop-place.place in
    let d = get_or all i no_headed in
    let listed = contains_value (λ (h : HeadedIndex). h.index) all d (Contains-get_or all i no_headed c.loop-place-test.true) in
    let filled : IsFilledAt ranges d.index = All-contains (IsFilledAt ranges) (indices_of all) d.index c.requires.filled listed in
    let found = c.has_hash.ensures.hash c.if-has_hash.true in
    let single = single_if_hashed ranges c.args.hashes.now d.index found.0 filled.0 c.requires.hashes found.1 filled.1 in
    record {
      as_many = c.loop-place.invariant.as_many;
      reached = λ keys are. single_more ranges keys all i c.loop-place.runs c.loop-place-test.true
          (c.loop-place.invariant.reached keys are) (filled.0, filled.1, single);
      others = c.loop-place.invariant.others;
    }

pub count_below-requires-clause-determine : goal.count_below-requires-clause-determine
count_below-requires-clause-determine g c =
    let ranges = g.L.RangeList.ranges c.args.ranges.now in
    let all = c.args.sorted.now in
    let i = c.loop-place.place in
    let d = get_or all i no_headed in
    let has = Contains-get_or all i no_headed c.loop-place-test.true in
    let listed = contains_value (λ (h : HeadedIndex). h.index) all d has in
    let filled : IsFilledAt ranges d.index = All-contains (IsFilledAt ranges) (indices_of all) d.index c.requires.filled listed in
    let end = c.end_in-end.result.now in
    let before : IsBefore (begin_at ranges d.index) end =
    subst (IsBefore (begin_at ranges d.index)) (sym c.end_in-end.ensures.end) (begin_before_end ranges d.index filled) in
    let determine = λ (head : ℕ). ends_determine ranges c.args.prefix.now end head all d
    (subst IsBytes (sym (c.end_in-end.ensures.end ∙ ap end_of filled.1)) filled.0.end_is_key.bytes)
    c.requires.headed has before in
    let m = length all - (i + 1) in
    let part = take m (drop (i + 1) all) in
    λ head is k e lt. determine head is (get_or part k e)
    (Contains-drop (i + 1) all _ (Contains-take m (drop (i + 1) all) _ (Contains-get_or part k e lt)))

pub loop-place-init : goal.loop-place-init
loop-place-init g c = record {
  as_many = refl;
  reached = λ keys are.
      none_reached (g.L.RangeList.ranges c.args.ranges.now) c.args.sorted.now keys c.args.begin_count c.args.runs.now are;
  others = λ index none. refl;
}

pub count_below-requires-clause-sorted : goal.count_below-requires-clause-sorted
count_below-requires-clause-sorted g c =
    part_sorted (g.L.RangeList.ranges c.args.ranges.now) c.args.sorted.now (c.loop-place.place + 1)
    (length c.args.sorted.now - (c.loop-place.place + 1)) c.requires.sorted
