-- What runs show about the ranges that they are of.
use Rattle.std.proofs.Common.{
  ◌≡◌,
  ◌↔◌,
  ℕ,
  zero,
  suc,
  ◌<◌,
  ◌≤◌,
  Bool,
  true,
  false,
  cond,
  List,
  [],
  ◌∷◌,
  ◌++◌,
  length,
  get_or,
  take,
  drop,
  refl,
  sym,
  ap,
  ◌∙◌,
  arith,
}
use Rattle.std.proofs.lemmas.List.{length-map, map-append, get_or-map}
use Rattle.std.proofs.lemmas.List.Elements.{All-map}
use Rattle.std.proofs.Math.Seq.{take-append_seam, drop-append_seam}
use Rattle.keys.specs.declared.range.Range.{Range}
use Rattle.keys.specs.Range.{is_filled}
use Rattle.keys.specs.GapRuns.{HaveBegin, run, run_or_none, runs_of}
use Rattle.keys.specs.Gaps.{HasGap}
use Rattle.conflict.specs.Written.{AreRunsWithin, AreRunsOf}
use Rattle.keys.proofs.callers.Meeting.{before_unless_empty}
use Rattle.keys.proofs.callers.GapRuns.{filled_from_gap, runs_are_within}
use Rattle.conflict.proofs.Parts.{all_split}

-- the element at an index, whatever is read past the end
element : {X : Type 0} (xs : List X) (i : ℕ) → i < length xs → (x : X) × ((d : X) → get_or xs i d ≡ x)
element [] i inside = absurd (omega arith)
element (x ∷ xs) zero inside = (x, λ d. refl)
element (x ∷ xs) (suc i) inside = element xs i (omega arith)

module _ (keys : List (List ℕ)) where
  -- a run holds no gap more or fewer for being (0, 0) where the range is empty
  pub same_gaps : (range : Range) (gap : ℕ) → HasGap (run_or_none keys range) gap ↔ HasGap (run keys range) gap
  same_gaps range gap = by (is_filled range) refl
    where
      by : (filled : Bool) → is_filled range ≡ filled
          → HasGap (cond filled (run keys range) (0, 0)) gap ↔ HasGap (run keys range) gap
      by true e = (λ h. h, λ h. h)
      by false e = (
        λ h. absurd (omega (arith, h)),
        λ h. let t = before_unless_empty range (filled_from_gap keys range gap h) in
            let b : true ≡ false = sym t ∙ e in cc,
      )

  within_each : (range : Range) → ((run_or_none keys range).0 ≤ (run_or_none keys range).1)
      × ((run_or_none keys range).1 ≤ length keys)
  within_each range = by (is_filled range)
    where
      by : (filled : Bool) → ((cond filled (run keys range) (0, 0)).0 ≤ (cond filled (run keys range) (0, 0)).1)
          × ((cond filled (run keys range) (0, 0)).1 ≤ length keys)
      by true = runs_are_within keys range
      by false = (omega arith, omega arith)

  -- each run ends at the number of the keys at the latest
  pub determined_within : (count : ℕ) (runs : List (ℕ × ℕ)) (ranges : List Range) → count ≡ length keys
      → AreRunsOf keys runs ranges → AreRunsWithin count runs
  determined_within count runs ranges same determined =
      let all : AreRunsWithin (length keys) (runs_of keys ranges) =
      All-map (λ (r : ℕ × ℕ). (r.0 ≤ r.1) × (r.1 ≤ length keys)) (run_or_none keys) ranges
      (λ i d inside. within_each (get_or ranges i d)) in
      rw (same, determined.are_runs) all

  -- a run a range
  pub determined_count : (runs : List (ℕ × ℕ)) (ranges : List Range) → AreRunsOf keys runs ranges
      → length runs ≡ length ranges
  determined_count runs ranges determined = ap length determined.are_runs ∙ length-map ranges (run_or_none keys)

  -- those of the first ranges, and those of the others
  pub determined_split : (runs : List (ℕ × ℕ)) (first others : List Range) → AreRunsOf keys runs (first ++ others)
      → AreRunsOf keys (take (length first) runs) first × AreRunsOf keys (drop (length first) runs) others
  determined_split runs first others determined =
      let both = all_split (HaveBegin keys) first others determined.have_begins in
      let long : length first ≡ length (runs_of keys first) = sym (length-map first (run_or_none keys)) in
      let is = determined.are_runs ∙ map-append (run_or_none keys) first others in (
        record {
          have_begins = both.0;
          are_runs = ap (take (length first)) is
              ∙ ap (λ n. take n (runs_of keys first ++ runs_of keys others)) long
              ∙ take-append_seam (runs_of keys first) (runs_of keys others);
        },
        record {
          have_begins = both.1;
          are_runs = ap (drop (length first)) is
              ∙ ap (λ n. drop n (runs_of keys first ++ runs_of keys others)) long
              ∙ drop-append_seam (runs_of keys first) (runs_of keys others);
        },
      )

  -- the range at the index of a run
  pub determined_at : (runs : List (ℕ × ℕ)) (ranges : List Range) (i : ℕ) (r d : ℕ × ℕ)
      → i < length runs → r ≡ get_or runs i d → AreRunsOf keys runs ranges
      → (range : Range) × (i < length ranges) × (range ≡ get_or ranges i range)
      × (r ≡ run_or_none keys range)
  determined_at runs ranges i r d inside is determined =
      let within : i < length ranges = omega (arith, determined_count runs ranges determined) in
      let e = element ranges i within in (
        e.0,
        within,
        sym (e.1 e.0),
        is ∙ ap (λ rs. get_or rs i d) determined.are_runs
            ∙ get_or-map (run_or_none keys) ranges i e.0 d within
            ∙ ap (run_or_none keys) (e.1 e.0),
      )
