use Rattle.std.proofs.Common.{rules, ◌≡◌, ◌⊎◌, ◌-◌, ◌<◌, ◌++◌, ◌∷◌, ◌∙◌, [], List, Some, cond, get_or, inl, inr, slice_get, length, map, take, refl, sym, ap, subst, arith}
use Rattle.std.specs.Prelude.{ℕ}
use Rattle.std.proofs.lemmas.Option.{get_or_from_slice_get, same_Some, slice_get_within}
use Rattle.std.proofs.lemmas.List.{get_or-map, length-map}
use Rattle.keys.specs.Range.{IsEmpty}
use Rattle.keys.specs.GapRuns.{run, run_or_none}
use Rattle.keys.proofs.callers.GapRuns.{empty_if}
use Rattle.keys.specs.Key.{IsBefore, IsAtMost}
use Rattle.keys.specs.declared.range.Range.{Range}
use Rattle.conflict.specs.declared.union.UnitedSpan.{UnitedSpan}
use Rattle.conflict.specs.declared.union.Union.TheInside.{Inside}
use Rattle.conflict.specs.Union.{AreSpanned, AreUnited, EndsAt, HaveRuns}
use Rattle.conflict.proofs.Comparing.{at_most_from_le, before_unless_le, before_from_lt, at_most_unless_lt}
use Rattle.conflict.proofs.LastSpan.{last_of, set_last, no_spans}
use Rattle.conflict.proofs.Spanned.{spanned_at}
use Rattle.conflict.proofs.UnionAdded.{united_first, united_after, united_within, united_farther}
use Rattle.conflict.proofs.union.Union.add.Goals.{In-Some, then-is_lt, else-is_lt, in-Some+then-not-are_known_apart+else-is_le, in-Some+else-not-are_known_apart, in_default}
use Rattle.conflict.proofs.union.Union.add.Given as given
use Rattle.conflict.proofs.union.Union.add.Goals as goal

abbrev alone : ℕ → UnitedSpan
alone index = record { begin = index; end = index }

-- the range that the last span ends with
last_ends : (ranges : List Range) (spans : List UnitedSpan) (n : ℕ) (last : UnitedSpan) (united : List Range) → AreSpanned ranges spans united
    → n ≡ length spans → 0 < n → last ≡ get_or spans (n - 1) last → (ending : Range) × (slice_get ranges last.end ≡ Some ending)
last_ends ranges spans n last united spanned count some is =
    let at = spanned_at ranges spans united spanned (n - 1) last (omega (arith, count, some)) in
    let ends = subst (λ (x : UnitedSpan). EndsAt ranges x.end at.0.end) (sym is) at.2.ends in
    (ends.0, ends.1)

-- the run of a range, of what it is ranked as
run_at : (ranges : List Range) (runs : List (ℕ × ℕ)) (have : HaveRuns ranges runs) (i : ℕ) (range : Range) (d : ℕ × ℕ)
    → slice_get ranges i ≡ Some range → get_or runs i d ≡ run_or_none have.keys (have.ranked_as range)
run_at ranges runs have i range d at =
    let f = have.ranked_as in
    let within = slice_get_within ranges i range at in
    ap (λ rs. get_or rs i d) have.are_runs
    ∙ get_or-map (run_or_none have.keys) (map f ranges) i (f range) d (omega (arith, within, length-map ranges f))
    ∙ ap (run_or_none have.keys)
    (get_or-map f ranges i range (f range) within ∙ ap f (get_or_from_slice_get ranges i range range at))

-- there are as many runs as ranges
as_many : (ranges : List Range) (runs : List (ℕ × ℕ)) (have : HaveRuns ranges runs) → length runs ≡ length ranges
as_many ranges runs have =
    ap length have.are_runs ∙ length-map (map have.ranked_as ranges) (run_or_none have.keys)
    ∙ length-map ranges have.ranked_as

-- the run of an empty range ends at 0, and so it begins there
none_of : (keys : List (List ℕ)) (range : Range) (own : ℕ × ℕ) → own ≡ run_or_none keys range → IsEmpty range → own ≡ (0, 0)
none_of keys range own is empty = is ∙ ap (λ b. cond b (run keys range) (0, 0)) (empty_if range empty)

-- ranges are ranked as themselves where the runs show that they are apart
module _ (ranges : List Range) (runs : List (ℕ × ℕ)) (have : HaveRuns ranges runs) where
  ranked_at : (i : ℕ) (range : Range) → slice_get ranges i ≡ Some range
      → (have.ranked_as range ≡ range) ⊎ IsEmpty (have.ranked_as range)
  ranked_at i range at =
      subst (λ (r : Range). (have.ranked_as r ≡ r) ⊎ IsEmpty (have.ranked_as r)) (get_or_from_slice_get ranges i range range at)
      (have.each i range (slice_get_within ranges i range at))

  itself_if_ends : (i : ℕ) (range : Range) (own : ℕ × ℕ) → slice_get ranges i ≡ Some range
      → own ≡ run_or_none have.keys (have.ranked_as range) → 0 < own.1 → have.ranked_as range ≡ range
  itself_if_ends i range own at is some = elim (ranked_at i range at) [
    | inl same ↦ same
    | inr empty ↦
        let none : own.1 ≡ 0 = ap (λ (r : ℕ × ℕ). r.1) (none_of have.keys (have.ranked_as range) own is empty) in
        absurd (omega (arith, none, some))
  ]

  itself_if_begins : (i : ℕ) (range : Range) (own : ℕ × ℕ) → slice_get ranges i ≡ Some range
      → own ≡ run_or_none have.keys (have.ranked_as range) → 0 < own.0 → have.ranked_as range ≡ range
  itself_if_begins i range own at is some = elim (ranked_at i range at) [
    | inl same ↦ same
    | inr empty ↦
        let none : own.0 ≡ 0 = ap (λ (r : ℕ × ℕ). r.0) (none_of have.keys (have.ranked_as range) own is empty) in
        absurd (omega (arith, none, some))
  ]

  -- so they are apart
  after_by_runs : (i j : ℕ) (first second : Range) (d e : ℕ × ℕ) → slice_get ranges i ≡ Some first
      → slice_get ranges j ≡ Some second → (0 < (get_or runs i d).1) × (0 < (get_or runs j e).0)
      → ((keys : List (List ℕ)) (a b : Range) → get_or runs i d ≡ run_or_none keys a
      → get_or runs j e ≡ run_or_none keys b → IsBefore a.end b.begin)
      → IsBefore first.end second.begin
  after_by_runs i j first second d e at_i at_j some apart =
      let own = run_at ranges runs have i first d at_i in
      let next = run_at ranges runs have j second e at_j in
      subst (λ (a : Range). IsBefore a.end second.begin) (itself_if_ends i first (get_or runs i d) at_i own some.0)
      (subst (λ (b : Range). IsBefore (have.ranked_as first).end b.begin)
      (itself_if_begins j second (get_or runs j e) at_j next some.1)
      (apart have.keys (have.ranked_as first) (have.ranked_as second) own next))

pub range-requires : goal.range-requires
range-requires g c =
    let ranges = g.L.RangeList.ranges c.args.ranges.now in
    let spans = c.self.inside.spans in
    let some : 0 < spans.len = c.in-Some.ensures.variant.0 refl in
    let own = subst (λ xs. AreSpanned ranges xs c.requires.spanned.0) (sym c.self.view_is) c.requires.spanned.1 in
    let ends = last_ends ranges spans.items spans.len c.in-Some.last.now c.requires.spanned.0 own spans.ok.0 some c.in-Some.ensures.value in
    record { within = slice_get_within ranges c.in-Some.last.now.end ends.0 ends.1 }

-- A run stands at the index of the last range.
run_there : (g : given.Over) (c : In-Some g) → c.in-Some.last.now.end < length c.args.runs.now
run_there g c =
    let ranges = g.L.RangeList.ranges c.args.ranges.now in
    let spans = c.self.inside.spans in
    let some : 0 < spans.len = c.in-Some.ensures.variant.0 refl in
    let own = subst (λ xs. AreSpanned ranges xs c.requires.spanned.0) (sym c.self.view_is) c.requires.spanned.1 in
    let ends = last_ends ranges spans.items spans.len c.in-Some.last.now c.requires.spanned.0 own spans.ok.0 some c.in-Some.ensures.value in
    omega (arith, slice_get_within ranges c.in-Some.last.now.end ends.0 ends.1, as_many ranges c.args.runs.now c.requires.runs)

pub offset_bounds-runs-last : goal.offset_bounds-runs-last
offset_bounds-runs-last g c = let within = run_there g (goal.at.offset_bounds-runs-last g c).In-Some in search rules

pub bounds-runs-last : goal.bounds-runs-last
bounds-runs-last g c = run_there g (goal.at.bounds-runs-last g c).In-Some

pub returns-then-is_le : goal.returns-then-is_le
returns-then-is_le g c =
    let ranges = g.L.RangeList.ranges c.args.ranges.now in
    let spans = c.self.inside.spans in
    let last = c.in-Some.last.now in
    let n = spans.len in
    let front = take (n - 1) spans.items in
    let ending = c.range.result in
    let some : 0 < n = c.in-Some.ensures.variant.0 refl in
    let split = last_of spans.items n last spans.ok.0 some c.in-Some.ensures.value in
    record {
      added = λ range added at filled earlier were.
          let was = subst (λ xs. AreUnited ranges xs added) (sym c.self.view_is ∙ split) were in
          let same : c.range-range.result ≡ range = same_Some c.range-range.result range
          (sym c.range-range.ensures.range ∙ at) in
          let begin : c.begin.result.now ≡ range.begin = c.begin.ensures.bytes ∙ ap (λ (r : Range). r.begin) same in
          let end : c.end.result.now ≡ range.end = c.end.ensures.bytes ∙ ap (λ (r : Range). r.end) same in
          let near : IsAtMost range.begin ending.end =
          at_most_from_le c.begin.result.now c.end-end.result.now range.begin ending.end c.cmp.result c.is_le.result begin
          c.end-end.ensures.bytes c.cmp.ensures c.is_le.ensures c.if-is_le.true in
          elim c.if-is_lt.branch [
            | then-is_lt w ↦
                let farther : IsBefore ending.end range.end =
                before_from_lt c.end-end.result.now c.end.result.now ending.end range.end c.cmp-then-is_le.result
                c.is_lt.result c.end-end.ensures.bytes end c.cmp-then-is_le.ensures c.is_lt.ensures w.if-is_lt.true in
                let after = ap (λ (u : Inside). u.spans.items) w.self-inside-is
                ∙ set_last spans.items n (record { begin = last.begin; end = c.args.index }) spans.ok.0 some in
                subst (λ xs. AreUnited ranges xs (added ++ range ∷ [])) (sym after)
                (united_farther ranges c.args.index range at filled added front last ending c.range.ensures.range was
                earlier near farther)
            | else-is_lt w ↦
                let within : IsAtMost range.end ending.end =
                at_most_unless_lt c.end-end.result.now c.end.result.now ending.end range.end c.cmp-then-is_le.result
                c.is_lt.result c.end-end.ensures.bytes end c.cmp-then-is_le.ensures c.is_lt.ensures w.if-is_lt.false in
                let after = ap (λ (u : Inside). u.spans.items) w.self-inside-is
                ∙ set_last spans.items n last spans.ok.0 some in
                subst (λ xs. AreUnited ranges xs (added ++ range ∷ [])) (sym after)
                (united_within ranges c.args.index range at filled added front last ending c.range.ensures.range was
                earlier near within)
          ];
    }

pub returns : goal.returns
returns g c =
    let ranges = g.L.RangeList.ranges c.args.ranges.now in
    let spans = c.self.inside.spans in
    let n = spans.len in
    let front = take (n - 1) spans.items in
    let own = alone c.args.index in
    record {
      added = λ range added at filled earlier were.
          elim c.match-last_mut.branch [
            | in-Some+then-not-are_known_apart+else-is_le w ↦
                let last = w.in-Some.last.now in
                let ending = w.range.result in
                let some : 0 < n = w.in-Some.ensures.variant.0 refl in
                let split = last_of spans.items n last spans.ok.0 some w.in-Some.ensures.value in
                let was = subst (λ xs. AreUnited ranges xs added) (sym c.self.view_is ∙ split) were in
                let same : w.range-range.result ≡ range = same_Some w.range-range.result range
                (sym w.range-range.ensures.range ∙ at) in
                let begin : w.begin.result.now ≡ range.begin = w.begin.ensures.bytes ∙ ap (λ (r : Range). r.begin) same in
                let following : IsBefore ending.end range.begin =
                before_unless_le w.begin.result.now w.end-end.result.now range.begin ending.end w.cmp.result
                w.is_le.result begin w.end-end.ensures.bytes w.cmp.ensures w.is_le.ensures w.if-is_le.false in
                let after = c.in_ok-push.ensures.items ∙ ap (λ (u : Inside). u.spans.items ++ own ∷ []) w.self-inside-is
                ∙ ap (λ xs. xs ++ own ∷ []) (set_last spans.items n last spans.ok.0 some) in
                subst (λ xs. AreUnited ranges xs (added ++ range ∷ [])) (sym after)
                (united_after ranges c.args.index range at filled added front last ending w.range.ensures.range was following)
            | in-Some+else-not-are_known_apart w ↦
                let last = w.in-Some.last.now in
                let some : 0 < n = w.in-Some.ensures.variant.0 refl in
                let split = last_of spans.items n last spans.ok.0 some w.in-Some.ensures.value in
                let was = subst (λ xs. AreUnited ranges xs added) (sym c.self.view_is ∙ split) were in
                let ends = last_ends ranges spans.items n last c.requires.spanned.0
                (subst (λ xs. AreSpanned ranges xs c.requires.spanned.0) (sym c.self.view_is) c.requires.spanned.1) spans.ok.0 some
                w.in-Some.ensures.value in
                let runs = c.args.runs.now in
                let determined = w.if-not-are_known_apart.false in
                let following : IsBefore ends.0.end range.begin =
                after_by_runs ranges runs c.requires.runs last.end c.args.index ends.0 range _ _ ends.1 at
                (w.are_known_apart.ensures.filled determined) (w.are_known_apart.ensures.apart determined) in
                let after = c.in_ok-push.ensures.items ∙ ap (λ (u : Inside). u.spans.items ++ own ∷ []) w.self-inside-is
                ∙ ap (λ xs. xs ++ own ∷ []) (set_last spans.items n last spans.ok.0 some) in
                subst (λ xs. AreUnited ranges xs (added ++ range ∷ [])) (sym after)
                (united_after ranges c.args.index range at filled added front last ends.0 ends.1 was following)
            | in_default w ↦
                let none = no_spans spans.items n spans.ok.0 w.in_default.ensures.variant.1 in
                let was = subst (λ xs. AreUnited ranges xs added) (sym c.self.view_is ∙ none) were in
                let after = c.in_ok-push.ensures.items ∙ ap (λ (u : Inside). u.spans.items ++ own ∷ []) w.self-inside-is
                ∙ ap (λ xs. xs ++ own ∷ []) none in
                subst (λ xs. AreUnited ranges xs (added ++ range ∷ [])) (sym after)
                (united_first ranges c.args.index range at filled added was)
          ];
    }
