-- A range is added to ranges that are united, none of which begins after it.
use Rattle.std.proofs.Common.{◌≡◌, ◌↔◌, ◌⊎◌, ℕ, ◌+◌, cond, List, [], ◌∷◌, ◌++◌, refl, sym, ap, subst, ◌∙◌, inl, inr, arith}
use Rattle.std.specs.Prelude.{All, Option, Some, slice_get}
use Rattle.std.proofs.lemmas.List.{length-append}
use Rattle.std.proofs.lemmas.List.Sums.{sum_by_push}
use Rattle.std.proofs.lemmas.List.Elements.{All-contains, All-head, All-nil, All-push, All-weaker}
use Rattle.std.proofs.lemmas.List.Quantifiers.{Any-push}
use Rattle.keys.specs.Key.{IsBefore, IsAtMost}
use Rattle.keys.specs.Range.{Holds, IsEmpty, is_filled}
use Rattle.keys.specs.GapRuns.{IsBeginIn}
use Rattle.keys.specs.declared.range.Range.{Range}
use Rattle.keys.proofs.callers.KeyOrder.{at_most_itself, before_at_most, before_at_most_same, before_or_at_most, at_most_trans, not_both}
use Rattle.keys.proofs.callers.Meeting.{before_unless_empty}
use Rattle.keys.proofs.callers.SomeElement.{Any-longer, Any-push_cases}
use Rattle.stepmap.specs.Writing.{AreApart}
use Rattle.stepmap.specs.Counting.{filled_count}
use Rattle.stepmap.specs.Uniting.{IsEndIn, Unites}
use Rattle.conflict.specs.declared.union.UnitedSpan.{UnitedSpan}
use Rattle.conflict.specs.Union.{AreSpanned, AreUnited, Spans}
use Rattle.conflict.proofs.Parts.{all_split}
use Rattle.conflict.proofs.Spanned.{LastSpanned, last_spanned, spanned_push}

-- one more range after the last
apart_push : (us : List Range) (last range : Range) → AreApart (us ++ last ∷ []) → IsBefore last.end range.begin
    → IsBefore range.begin range.end → AreApart ((us ++ last ∷ []) ++ range ∷ [])
apart_push [] last range apart following filled = (apart, following, filled)
apart_push (u ∷ []) last range apart following filled = (apart.0, apart.1, (apart.2, following, filled))
apart_push (u ∷ v ∷ us) last range apart following filled =
    (apart.0, apart.1, apart_push (v ∷ us) last range apart.2 following filled)

-- the last one may end later
apart_wider : (us : List Range) (last wider : Range) → last.begin ≡ wider.begin → IsAtMost last.end wider.end
    → AreApart (us ++ last ∷ []) → AreApart (us ++ wider ∷ [])
apart_wider [] last wider same more apart =
    subst (λ key. IsBefore key wider.end) same (before_at_most last.begin last.end wider.end apart more)
apart_wider (u ∷ []) last wider same more apart = (
  apart.0,
  subst (IsBefore u.end) same apart.1,
  subst (λ key. IsBefore key wider.end) same (before_at_most last.begin last.end wider.end apart.2 more),
)
apart_wider (u ∷ v ∷ us) last wider same more apart =
    (apart.0, apart.1, apart_wider (v ∷ us) last wider same more apart.2)

module _ (added : List Range) (range : Range) (some : ¬ IsEmpty range) where
  begin_longer : (key : List ℕ) → IsBeginIn added key → IsBeginIn (added ++ range ∷ []) key
  begin_longer key there = Any-longer (λ r. ¬ IsEmpty r × (r.begin ≡ key)) added range there

  end_longer : (key : List ℕ) → IsEndIn added key → IsEndIn (added ++ range ∷ []) key
  end_longer key there = Any-longer (λ r. ¬ IsEmpty r × ((r.begin ≡ key) ⊎ (r.end ≡ key))) added range there

  begin_here : IsBeginIn (added ++ range ∷ []) range.begin
  begin_here = Any-push (λ r. ¬ IsEmpty r × (r.begin ≡ range.begin)) added range (some, refl)

  begin_end_here : IsEndIn (added ++ range ∷ []) range.begin
  begin_end_here =
      Any-push (λ r. ¬ IsEmpty r × ((r.begin ≡ range.begin) ⊎ (r.end ≡ range.begin))) added range (some, inl refl)

  end_here : IsEndIn (added ++ range ∷ []) range.end
  end_here = Any-push (λ r. ¬ IsEmpty r × ((r.begin ≡ range.end) ⊎ (r.end ≡ range.end))) added range (some, inr refl)

  one_more : filled_count (added ++ range ∷ []) ≡ filled_count added + 1
  one_more =
      let filled = before_unless_empty range some in
      sum_by_push (λ r. cond (is_filled r) 1 0) added range ∙ (rw filled refl)

  ends_longer : (us : List Range) → All (λ u. IsEndIn added u.begin × IsEndIn added u.end) us
      → All (λ u. IsEndIn (added ++ range ∷ []) u.begin × IsEndIn (added ++ range ∷ []) u.end) us
  ends_longer us ends =
      All-weaker (λ u. IsEndIn added u.begin × IsEndIn added u.end)
      (λ u. IsEndIn (added ++ range ∷ []) u.begin × IsEndIn (added ++ range ∷ []) u.end)
      (λ u e. (end_longer u.begin e.0, end_longer u.end e.1)) us ends

  begins_longer : (us : List Range) → All (λ u. IsBeginIn added u.begin) us
      → All (λ u. IsBeginIn (added ++ range ∷ []) u.begin) us
  begins_longer us begins =
      All-weaker (λ u. IsBeginIn added u.begin) (λ u. IsBeginIn (added ++ range ∷ []) u.begin)
      (λ u b. begin_longer u.begin b) us begins

  -- as a separate range
  unites_apart : (us : List Range) → Unites us added → AreApart (us ++ range ∷ [])
      → Unites (us ++ range ∷ []) (added ++ range ∷ [])
  unites_apart us was apart = record {
    apart = apart;
    holds = λ key bytes. (
      λ there. elim (Any-push_cases (λ u. Holds u key) us range there) [
        | inl earlier ↦ Any-longer (λ r. Holds r key) added range ((was.holds key bytes).0 earlier)
        | inr here ↦ Any-push (λ r. Holds r key) added range here
      ],
      λ there. elim (Any-push_cases (λ r. Holds r key) added range there) [
        | inl earlier ↦ Any-longer (λ u. Holds u key) us range ((was.holds key bytes).1 earlier)
        | inr here ↦ Any-push (λ u. Holds u key) us range here
      ],
    );
    ends = All-push (λ u. IsEndIn (added ++ range ∷ []) u.begin × IsEndIn (added ++ range ∷ []) u.end) us range
        (ends_longer us was.ends) (begin_end_here, end_here);
    few = omega (arith, was.few, one_more, length-append us (range ∷ []));
  }

-- from the begin of the one to the greater of both ends, where the other begins within the one or right after it
pub record Widens (last range wider : Range) : Type 0 where
  pub begins : last.begin ≡ wider.begin
  pub first : IsAtMost last.begin range.begin
  pub near : IsAtMost range.begin last.end
  pub ends : IsAtMost last.end wider.end
  pub reaches : IsAtMost range.end wider.end
  pub one_of : (wider.end ≡ last.end) ⊎ (wider.end ≡ range.end)

-- it holds what the two hold
wider_holds : {last range wider : Range} → Widens last range wider → (key : List ℕ)
    → Holds wider key ↔ (Holds last key ⊎ Holds range key)
wider_holds {last} {range} {wider} w key = (
  λ held. elim (before_or_at_most key last.end) [
    | inl before ↦ inl (subst (λ k. IsAtMost k key) (sym w.begins) held.0, before)
    | inr following ↦ elim w.one_of [
      | inl same ↦ absurd (not_both key last.end (subst (IsBefore key) same held.1) following)
      | inr same ↦ inr (at_most_trans range.begin last.end key w.near following, subst (IsBefore key) same held.1)
    ]
  ],
  λ either. elim either [
    | inl held ↦ (
      subst (λ k. IsAtMost k key) w.begins held.0,
      before_at_most key last.end wider.end held.1 w.ends,
    )
    | inr held ↦ (
      subst (λ k. IsAtMost k key) w.begins (at_most_trans last.begin range.begin key w.first held.0),
      before_at_most key range.end wider.end held.1 w.reaches,
    )
  ],
)

module _ (added : List Range) (range : Range) (some : ¬ IsEmpty range) where
  -- the last one made wider
  unites_wider : (us : List Range) (last wider : Range) → Widens last range wider → Unites (us ++ last ∷ []) added
      → Unites (us ++ wider ∷ []) (added ++ range ∷ [])
  unites_wider us last wider w was = record {
    apart = apart_wider us last wider w.begins w.ends was.apart;
    holds = λ key bytes. (
      λ there. elim (Any-push_cases (λ u. Holds u key) us wider there) [
        | inl earlier ↦ Any-longer (λ r. Holds r key) added range
            ((was.holds key bytes).0 (Any-longer (λ u. Holds u key) us last earlier))
        | inr here ↦ elim ((wider_holds w key).0 here) [
          | inl before ↦ Any-longer (λ r. Holds r key) added range
              ((was.holds key bytes).0 (Any-push (λ u. Holds u key) us last before))
          | inr in_range ↦ Any-push (λ r. Holds r key) added range in_range
        ]
      ],
      λ there. elim (Any-push_cases (λ r. Holds r key) added range there) [
        | inl earlier ↦ elim (Any-push_cases (λ u. Holds u key) us last ((was.holds key bytes).1 earlier)) [
          | inl front ↦ Any-longer (λ u. Holds u key) us wider front
          | inr in_last ↦ Any-push (λ u. Holds u key) us wider ((wider_holds w key).1 (inl in_last))
        ]
        | inr here ↦ Any-push (λ u. Holds u key) us wider ((wider_holds w key).1 (inr here))
      ],
    );
    ends =
        let P : Range → Type 0 = λ u. IsEndIn added u.begin × IsEndIn added u.end in
        let parts = all_split P us (last ∷ []) was.ends in
        let old : P last = All-head P last [] parts.1 in
        let end : IsEndIn (added ++ range ∷ []) wider.end =
        elim w.one_of [
          | inl same ↦ subst (IsEndIn (added ++ range ∷ [])) (sym same) (end_longer added range some last.end old.1)
          | inr same ↦ subst (IsEndIn (added ++ range ∷ [])) (sym same) (end_here added range some)
        ] in
        All-push (λ u. IsEndIn (added ++ range ∷ []) u.begin × IsEndIn (added ++ range ∷ []) u.end) us wider
        (ends_longer added range some us parts.0) (
          subst (IsEndIn (added ++ range ∷ [])) w.begins (end_longer added range some last.begin old.0),
          end,
        );
    few = omega (
      arith,
      was.few,
      one_more added range some,
      length-append us (last ∷ []),
      length-append us (wider ∷ []),
    );
  }

-- before any is added
pub united_none : (ranges : List Range) → AreUnited ranges [] []
united_none ranges = record {
  united = [];
  spanned = tt;
  unites = record {
    apart = tt;
    holds = λ key bytes. (λ there. there, λ there. there);
    ends = All-nil (λ u. IsEndIn [] u.begin × IsEndIn [] u.end);
    few = omega arith;
  };
  begins = All-nil (λ u. IsBeginIn [] u.begin);
}

-- the spans after the range at the index was added
module _ (ranges : List Range) (index : ℕ) (range : Range) (at : slice_get ranges index ≡ Some range)
    (some : ¬ IsEmpty range) (added : List Range) where
  abbrev alone : UnitedSpan
  alone = record { begin = index; end = index }

  spans_alone : Spans ranges alone range
  spans_alone = record { begins = (range, at, refl); ends = (range, at, refl) }

  filled : IsBefore range.begin range.end
  filled = before_unless_empty range some

  -- as the first one
  pub united_first : AreUnited ranges [] added → AreUnited ranges (alone ∷ []) (added ++ range ∷ [])
  united_first were =
      let none : were.united ≡ [] = no_ranges were.united were.spanned in
      let unites : Unites [] added = subst (λ us. Unites us added) none were.unites in
      record {
        united = range ∷ [];
        spanned = (spans_alone, tt);
        unites = unites_apart added range some [] unites filled;
        begins = All-push (λ u. IsBeginIn (added ++ range ∷ []) u.begin) [] range
            (All-nil (λ u. IsBeginIn (added ++ range ∷ []) u.begin)) (begin_here added range some);
      }
    where
      no_ranges : (us : List Range) → AreSpanned ranges [] us → us ≡ []
      no_ranges [] s = refl
      no_ranges (u ∷ us) s = absurd s

  module _ (front : List UnitedSpan) (last : UnitedSpan) (ending : Range) (ends_at : slice_get ranges last.end ≡ Some ending)
      (were : AreUnited ranges (front ++ last ∷ []) added) where
    spanned : LastSpanned ranges front last were.united
    spanned = last_spanned ranges front last were.united were.spanned

    -- the last range ends where the span says
    same_end : ending.end ≡ spanned.range.end
    same_end = ap (λ (r : Range). r.end) (some_same (slice_get ranges last.end) ending _ ends_at spanned.spans.ends.1)
        ∙ spanned.spans.ends.2
      where
        some_same : {X : Type 0} (o : Option X) (x y : X) → o ≡ Some x → o ≡ Some y → x ≡ y
        some_same o x y ex ey = cc

    unites : Unites (spanned.ranges_front ++ spanned.range ∷ []) added
    unites = subst (λ us. Unites us added) spanned.is were.unites

    begins : All (λ u. IsBeginIn added u.begin) (spanned.ranges_front ++ spanned.range ∷ [])
    begins = subst (All (λ u. IsBeginIn added u.begin)) spanned.is were.begins

    begins_apart : All (λ u. IsBeginIn added u.begin) spanned.ranges_front × IsBeginIn added spanned.range.begin
    begins_apart =
        let parts = all_split (λ u. IsBeginIn added u.begin) spanned.ranges_front (spanned.range ∷ []) begins in
        (parts.0, All-head (λ u. IsBeginIn added u.begin) spanned.range [] parts.1)

    -- as one more
    pub united_after : IsBefore ending.end range.begin
        → AreUnited ranges ((front ++ last ∷ []) ++ alone ∷ []) (added ++ range ∷ [])
    united_after following =
        let us = spanned.ranges_front ++ spanned.range ∷ [] in
        let apart = apart_push spanned.ranges_front spanned.range range unites.apart
        (subst (λ key. IsBefore key range.begin) same_end following) filled in
        record {
          united = us ++ range ∷ [];
          spanned = spanned_push ranges (front ++ last ∷ []) us alone range
              (spanned_push ranges front spanned.ranges_front last spanned.range spanned.spanned spanned.spans) spans_alone;
          unites = unites_apart added range some us unites apart;
          begins = All-push (λ u. IsBeginIn (added ++ range ∷ []) u.begin) us range
              (begins_longer added range some us begins) (begin_here added range some);
        }

    module _ (earlier : All (λ e. IsAtMost e.begin range.begin) added) (near : IsAtMost range.begin ending.end) where
      -- the last range begins no later
      first : IsAtMost spanned.range.begin range.begin
      first =
          let there = begins_apart.1 in
          subst (λ key. IsAtMost key range.begin) there.4.1
          (All-contains (λ e. IsAtMost e.begin range.begin) added there.1 earlier (there.0, there.2, there.3))

      widened : (wider : Range) (span : UnitedSpan) → Widens spanned.range range wider → Spans ranges span wider
          → AreUnited ranges (front ++ span ∷ []) (added ++ range ∷ [])
      widened wider span w spans = record {
        united = spanned.ranges_front ++ wider ∷ [];
        spanned = spanned_push ranges front spanned.ranges_front span wider spanned.spanned spans;
        unites = unites_wider added range some spanned.ranges_front spanned.range wider w unites;
        begins = All-push (λ u. IsBeginIn (added ++ range ∷ []) u.begin) spanned.ranges_front wider
            (begins_longer added range some spanned.ranges_front begins_apart.0)
            (subst (IsBeginIn (added ++ range ∷ [])) w.begins
            (begin_longer added range some spanned.range.begin begins_apart.1));
      }

      -- as part of the last one
      pub united_within : IsAtMost range.end ending.end → AreUnited ranges (front ++ last ∷ []) (added ++ range ∷ [])
      united_within within = widened spanned.range last (record {
        begins = refl;
        first = first;
        near = subst (IsAtMost range.begin) same_end near;
        ends = at_most_itself spanned.range.end;
        reaches = subst (IsAtMost range.end) same_end within;
        one_of = inl refl;
      }) spanned.spans

      -- so that the last one ends later
      pub united_farther : IsBefore ending.end range.end
          → AreUnited ranges (front ++ record { begin = last.begin; end = index } ∷ []) (added ++ range ∷ [])
      united_farther farther =
          let u = spanned.range in
          let wider : Range = record {
            begin = u.begin;
            end = range.end;
            begin_is_key = u.begin_is_key;
            end_is_key = range.end_is_key;
            ordered = at_most_trans u.begin range.begin range.end first (before_at_most_same range.begin range.end filled);
          } in
          widened wider (record { begin = last.begin; end = index }) (record {
            begins = refl;
            first = first;
            near = subst (IsAtMost range.begin) same_end near;
            ends = before_at_most_same u.end range.end (subst (λ key. IsBefore key range.end) same_end farther);
            reaches = at_most_itself range.end;
            one_of = inr refl;
          }) (record { begins = spanned.spans.begins; ends = (range, at, refl) })
