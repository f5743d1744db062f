-- The first read range that meets the batch, and what it makes of a transaction's entry.
use Rattle.std.proofs.Common.{
  ◌≡◌,
  ℕ,
  ◌+◌,
  ◌<◌,
  ◌≤◌,
  Bool,
  true,
  false,
  true≢false,
  cond,
  ◌||◌,
  List,
  [],
  ◌∷◌,
  length,
  get_or,
  map,
  take,
  refl,
  sym,
  ap,
  ◌∙◌,
  subst,
  arith,
}
use Rattle.std.specs.Prelude.{Option, Some, None, is_some, position, nat_lt, All}
use Rattle.std.specs.Option.{option_to_list, MatchOption}
use Rattle.std.specs.List.{list_any, position_from, AllWithin, HoldsAt}
use Rattle.std.proofs.lemmas.List.{length-map, get_or-map}
use Rattle.std.proofs.lemmas.List.Sums.{position_or_len_is}
use Rattle.std.proofs.lemmas.Iterator.Adapters.{position_from-zero}
use Rattle.keys.specs.declared.range.Range.{Range}
use Rattle.keyspace.specs.declared.txn.Txn.{Txn}
use Rattle.keyspace.specs.declared.reply.Verdict.{Verdict}
use Rattle.keyspace.specs.declared.reply.Verdict.TheVariants.{Conflict, TooOld, Committed}
use Rattle.keyspace.specs.declared.reply.Entry.{Entry}
use Rattle.keyspace.specs.Writes.{counted_ranges}
use Rattle.keyspace.specs.Judge.{meets_earlier, places_from, in_conflict_at}
use Rattle.keyspace.proofs.callers.Judging.{entry_same}
use Rattle.conflict.specs.InBatch.{first_met, unless_met, by_verdict, in_batch}
use Rattle.keys.specs.GapRuns.{HaveBegin, run_or_none}
use Rattle.conflict.specs.Gaps.{SomeMarked}
use Rattle.conflict.specs.Written.{AreWrittenGaps, RunsDetermineOverlap, AreRunsOf}
use Rattle.conflict.proofs.Written.{any_marked_is_met}

module _ {X Y : Type 0} (Yes No : Y → Type 0) (f : X → Y) (test : X → Bool) where
  -- each of the elements passes if its image has the one, and doesn't if it has the other
  abbrev pub AreTested : List X → Type 0
  AreTested xs = All (λ x. (Yes (f x) → test x ≡ true) × (No (f x) → test x ≡ false)) xs

  none_before : (xs : List X) (d : X) (n : ℕ) → n ≤ length xs → AreTested xs → AllWithin No (map f xs) 0 n
      → (k : ℕ) → k < n → test (get_or xs k d) ≡ false
  none_before xs d n within tested fails k before =
      let inside : k < length xs = omega arith in
      (tested k d inside).1 (subst No (get_or-map f xs k d (f d) inside) (fails k (f d) (omega arith) before))

  first_in : (d : X) (xs : List X) → 0 < length xs → AreTested xs → (r : Option ℕ)
      → MatchOption r (AllWithin No (map f xs) 0 (length (map f xs)))
      (λ i. (i < length (map f xs)) × HoldsAt Yes (map f xs) i × AllWithin No (map f xs) 0 i)
      → r ≡ position test xs
  first_in d xs some tested None fails =
      let none = subst (AllWithin No (map f xs) 0) (length-map xs f) fails in
      let is = position_or_len_is test xs (length xs) d (omega arith)
      (none_before xs d (length xs) (omega arith) tested none) (λ inside. absurd (omega arith)) in
      let past : nat_lt (length xs) (length xs) ≡ false = grind arith in
      sym (ap (λ n. cond (nat_lt n (length xs)) (Some n) None) is
      ∙ ap (λ b. cond b (Some (length xs)) None) past)
  first_in d xs some tested (Some i) first =
      let inside : i < length xs = omega (arith, first.0, length-map xs f) in
      let here : test (get_or xs i d) ≡ true =
      (tested i d inside).0 (subst Yes (get_or-map f xs i d (f d) inside) (first.1 (f d))) in
      let is = position_or_len_is test xs i d (omega arith)
      (none_before xs d i (omega arith) tested first.2) (λ _. here) in
      let within : nat_lt i (length xs) ≡ true = grind arith in
      sym (ap (λ n. cond (nat_lt n (length xs)) (Some n) None) is ∙ ap (λ b. cond b (Some i) None) within)

  -- the first place of an image that has the one, after those that have the other, is that of the first that passes
  pub first_passes : (xs : List X) → AreTested xs → (r : Option ℕ)
      → MatchOption r (AllWithin No (map f xs) 0 (length (map f xs)))
      (λ i. (i < length (map f xs)) × HoldsAt Yes (map f xs) i × AllWithin No (map f xs) 0 i)
      → r ≡ position test xs
  first_passes [] tested None first = refl
  first_passes [] tested (Some i) first = absurd (omega (arith, first.0))
  first_passes (x ∷ xs) tested r first = first_in x (x ∷ xs) (omega arith) tested r first

module _ (keys : List (List ℕ)) (determines : RunsDetermineOverlap) (marks : List Bool) (written : List Range)
    (determined : AreWrittenGaps keys marks written) (have : All (HaveBegin keys) written) where
  abbrev SomeIn : ℕ × ℕ → Type 0
  SomeIn r = SomeMarked marks r.0 r.1

  marked_tests : (ranges : List Range) → All (HaveBegin keys) ranges
      → AreTested SomeIn (λ r. ¬ SomeIn r) (run_or_none keys) (meets_earlier written) ranges
  marked_tests ranges begins i d inside =
      let range = get_or ranges i d in (
        λ some. sym (any_marked_is_met keys determines marks written range true (begins i d inside)
            (λ _. some, λ _. refl) determined have),
        λ none. sym (any_marked_is_met keys determines marks written range false (begins i d inside)
            (λ t. absurd (true≢false (sym t)), λ some. absurd (none some)) determined have),
      )

  -- the first run with a marked gap is that of the first range that overlaps a written one
  pub first_marked : (runs : List (ℕ × ℕ)) (ranges : List Range) → AreRunsOf keys runs ranges → (r : Option ℕ)
      → MatchOption r (AllWithin (λ r. ¬ SomeIn r) runs 0 (length runs))
      (λ i. (i < length runs) × HoldsAt SomeIn runs i × AllWithin (λ r. ¬ SomeIn r) runs 0 i)
      → r ≡ position (meets_earlier written) ranges
  first_marked runs ranges determine r first =
      first_passes SomeIn (λ r. ¬ SomeIn r) (run_or_none keys) (meets_earlier written) ranges
      (marked_tests ranges determine.have_begins) r
      (subst (λ (rs : List (ℕ × ℕ)). MatchOption r (AllWithin (λ r. ¬ SomeIn r) rs 0 (length rs))
      (λ i. (i < length rs) × HoldsAt SomeIn rs i × AllWithin (λ r. ¬ SomeIn r) rs 0 i)) determine.are_runs first)

-- the first place, by the position
first_place : (i : ℕ) (test : Range → Bool) (ranges : List Range)
    → take 1 (places_from i test ranges) ≡ option_to_list (position_from test i ranges)
first_place i test [] = refl
first_place i test (r ∷ rs) = elim (test r) as (λ b.
    take 1 (cond b (i ∷ places_from (i + 1) test rs) (places_from (i + 1) test rs))
    ≡ option_to_list (cond b (Some i) (position_from test (i + 1) rs))) [
      | true ↦ refl
      | false ↦ first_place (i + 1) test rs
    ]

-- whether any passes, the position shows
any_by_position : {X : Type 0} (i : ℕ) (test : X → Bool) (xs : List X)
    → list_any test xs ≡ is_some (position_from test i xs)
any_by_position i test [] = refl
any_by_position i test (x ∷ xs) = elim (test x) as (λ b.
    (b || list_any test xs) ≡ is_some (cond b (Some i) (position_from test (i + 1) xs))) [
      | true ↦ refl
      | false ↦ any_by_position (i + 1) test xs
    ]

-- what isn't committed writes nothing
pub none_counted : (v : Verdict) (ranges : List Range) → (v ≡ Committed → ⊥) → counted_ranges v ranges ≡ []
none_counted Committed ranges h = absurd (h refl)
none_counted TooOld ranges h = refl
none_counted Conflict ranges h = refl

module _ (written : List Range) (t : Txn) where
  open_entry : (e : Entry) → e.verdict ≡ Committed → in_batch written t e ≡ unless_met written t e
  open_entry e verdict = ap (λ v. by_verdict v written t e) verdict

  -- what isn't committed stays
  pub closed_entry : (e : Entry) → (e.verdict ≡ Committed → ⊥) → e ≡ in_batch written t e
  closed_entry e closed = by e.verdict closed
    where
      by : (v : Verdict) → (v ≡ Committed → ⊥) → e ≡ by_verdict v written t e
      by Committed h = absurd (h refl)
      by TooOld h = refl
      by Conflict h = refl

  -- what meets nothing stays
  pub unmet_entry : (e : Entry) → e.verdict ≡ Committed → None ≡ position (meets_earlier written) t.reads
      → e ≡ in_batch written t e
  unmet_entry e verdict none =
      let at = none ∙ position_from-zero (meets_earlier written) t.reads in
      let any = any_by_position 0 (meets_earlier written) t.reads ∙ ap is_some (sym at) in
      sym (open_entry e verdict ∙ ap (λ b. cond b (in_conflict_at (first_met written t)) e) any)

  -- what meets a written range first at a place is in conflict there
  pub met_entry : (e new : Entry) (place : ℕ) → e.verdict ≡ Committed
      → Some place ≡ position (meets_earlier written) t.reads → new.verdict ≡ Conflict
      → new.places ≡ cond t.marked (place ∷ []) [] → new ≡ in_batch written t e
  met_entry e new place verdict some conflict places =
      let at = some ∙ position_from-zero (meets_earlier written) t.reads in
      let any = any_by_position 0 (meets_earlier written) t.reads ∙ ap is_some (sym at) in
      let first = first_place 0 (meets_earlier written) t.reads ∙ ap option_to_list (sym at) in
      entry_same new (in_conflict_at (first_met written t)) conflict
      (places ∙ ap (λ ps. cond t.marked ps []) (sym first))
      ∙ sym (open_entry e verdict ∙ ap (λ b. cond b (in_conflict_at (first_met written t)) e) any)
