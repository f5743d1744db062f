-- Lists of indices as parts of one list, and which indices the ranges that pass a test have.
use Rattle.std.proofs.Common.{◌≡◌, ℕ, zero, suc, ◌+◌, ◌≤◌, ◌<◌, Bool, true, false, cond, List, [], ◌∷◌, ◌++◌, length, take, get_or, refl, sym, ap, ap₂, ◌∙◌, arith, length-append, length-take, append-nil, slice_range, All}
use Rattle.std.specs.Prelude.{Some, slice_get}
use Rattle.std.proofs.lemmas.Option.{slice_get_within}
use Rattle.std.proofs.lemmas.List.Elements.{All-nil, All-cons, All-append}
use Rattle.keys.specs.declared.range.Range.{Range}
use Rattle.keyspace.specs.Judge.{places_from}
use Rattle.keyspace.proofs.callers.Putting.{slice_range-append, slice_range-appended}
use Rattle.shards.specs.ReadIndices.{parts_from, AreEnds, AreIndices}
use Rattle.shards.proofs.Leasts.{take_next}

-- a part per end
pub length-parts : {X : Type 0} (from : ℕ) (xs : List X) (ends : List ℕ) → length (parts_from from xs ends) ≡ length ends
length-parts from xs [] = refl
length-parts from xs (end ∷ ends) = ap suc (length-parts end xs ends)

-- the part at an index
pub part_at : {X : Type 0} (from : ℕ) (xs : List X) (ends : List ℕ) (i : ℕ) → i < length ends
    → slice_get (parts_from from xs ends) i ≡ Some (slice_range xs (get_or (from ∷ ends) i 0) (get_or ends i 0))
part_at from xs [] i inside = absurd (omega (arith, inside))
part_at from xs (end ∷ ends) zero inside = refl
part_at from xs (end ∷ ends) (suc i) inside = part_at end xs ends i (omega (arith, inside))

pub ends_rise : (from : ℕ) (ends : List ℕ) (to : ℕ) → AreEnds from ends to → from ≤ to
ends_rise from [] to are = omega (arith, are)
ends_rise from (end ∷ ends) to are = omega (arith, are.0, ends_rise end ends to are.1)

pub part_within : (from : ℕ) (ends : List ℕ) (to : ℕ) (i : ℕ) → AreEnds from ends to → i < length ends
    → (get_or (from ∷ ends) i 0 ≤ get_or ends i 0) × (get_or ends i 0 ≤ to)
part_within from [] to i are inside = absurd (omega (arith, inside))
part_within from (end ∷ ends) to zero are inside = (are.0, ends_rise end ends to are.1)
part_within from (end ∷ ends) to (suc i) are inside = part_within end ends to i are.1 (omega (arith, inside))

-- one end more
ends_more : (from : ℕ) (ends : List ℕ) (to end : ℕ) → AreEnds from ends to → to ≤ end → AreEnds from (ends ++ end ∷ []) end
ends_more from [] to end are rises = (omega (arith, are, rises), refl)
ends_more from (first ∷ ends) to end are rises = (are.0, ends_more first ends to end are.1 rises)

parts_more : {X : Type 0} (from : ℕ) (xs : List X) (ends : List ℕ) (to end : ℕ) → AreEnds from ends to
    → parts_from from xs (ends ++ end ∷ []) ≡ parts_from from xs ends ++ slice_range xs to end ∷ []
parts_more from xs [] to end are = ap (λ n. slice_range xs n end ∷ []) are
parts_more from xs (first ∷ ends) to end are = ap (λ parts. slice_range xs from first ∷ parts) (parts_more first xs ends to end are.1)

-- parts stay when more is appended
parts_kept : {X : Type 0} (from : ℕ) (xs more : List X) (ends : List ℕ) (to : ℕ) → AreEnds from ends to → to ≤ length xs
    → parts_from from (xs ++ more) ends ≡ parts_from from xs ends
parts_kept from xs more [] to are within = refl
parts_kept from xs more (end ∷ ends) to are within =
    ap₂ ◌∷◌ (slice_range-append xs more from end (omega (arith, ends_rise end ends to are.1, within)))
    (parts_kept end xs more ends to are.1 within)

-- one part more, of what is appended
pub part_appended : (xs more ends : List ℕ) → AreEnds 0 ends (length xs)
    → parts_from 0 (xs ++ more) (ends ++ length (xs ++ more) ∷ []) ≡ parts_from 0 xs ends ++ more ∷ []
part_appended xs more ends are =
    parts_more 0 (xs ++ more) ends (length xs) (length (xs ++ more)) are
    ∙ ap₂ (λ parts last. parts ++ last ∷ []) (parts_kept 0 xs more ends (length xs) are (omega arith))
    (ap (λ all. slice_range (xs ++ all) (length xs) (length (xs ++ more))) (sym (append-nil more))
    ∙ slice_range-appended xs more [] (length (xs ++ more)) (length-append xs more))

pub indices_appended : (xs more ends : List ℕ) → AreIndices xs ends → All (λ index. index < 1024) more
    → AreIndices (xs ++ more) (ends ++ length (xs ++ more) ∷ [])
indices_appended xs more ends are below = record {
  ends_fit = ends_more 0 ends (length xs) (length (xs ++ more)) are.ends_fit (omega (arith, length-append xs more));
  below = All-append (λ index. index < 1024) xs more are.below below;
}

-- one range more
pub places_more : (i : ℕ) (test : Range → Bool) (ranges : List Range) (range : Range)
    → places_from i test (ranges ++ range ∷ []) ≡ places_from i test ranges ++ cond (test range) ((i + length ranges) ∷ []) []
places_more i test [] range =
    let same : i ≡ i + 0 = omega arith in
    ap (λ n. cond (test range) (n ∷ []) []) same
places_more i test (first ∷ ranges) range =
    let same : i + 1 + length ranges ≡ i + suc (length ranges) = omega arith in
    let more = places_more (i + 1) test ranges range ∙ ap (λ n. places_from (i + 1) test ranges ++ cond (test range) (n ∷ []) []) same in
    elim (test first) as (λ b. cond b (i ∷ places_from (i + 1) test (ranges ++ range ∷ [])) (places_from (i + 1) test (ranges ++ range ∷ []))
    ≡ cond b (i ∷ places_from (i + 1) test ranges) (places_from (i + 1) test ranges)
    ++ cond (test range) ((i + suc (length ranges)) ∷ []) []) [
      | true ↦ ap (λ places. i ∷ places) more
      | false ↦ more
    ]

module _ (test : Range → Bool) (ranges : List Range) (i : ℕ) (range : Range) (at : slice_get ranges i ≡ Some range) where
  places_next : places_from 0 test (take (i + 1) ranges) ≡ places_from 0 test (take i ranges) ++ cond (test range) (i ∷ []) []
  places_next =
      let within = slice_get_within ranges i range at in
      let long : 0 + length (take i ranges) ≡ i = omega (arith, length-take i ranges, within) in
      ap (places_from 0 test) (take_next ranges i range at) ∙ places_more 0 test (take i ranges) range
      ∙ ap (λ n. places_from 0 test (take i ranges) ++ cond (test range) (n ∷ []) []) long

  -- the indices with that of one range more
  pub places_with : test range ≡ true → places_from 0 test (take (i + 1) ranges) ≡ places_from 0 test (take i ranges) ++ i ∷ []
  places_with passes = places_next ∙ ap (λ b. places_from 0 test (take i ranges) ++ cond b (i ∷ []) []) passes

  pub places_without : test range ≡ false → places_from 0 test (take (i + 1) ranges) ≡ places_from 0 test (take i ranges)
  places_without fails =
      places_next ∙ ap (λ b. places_from 0 test (take i ranges) ++ cond b (i ∷ []) []) fails
      ∙ append-nil (places_from 0 test (take i ranges))

-- no index is past the ranges
pub places_below : (i : ℕ) (test : Range → Bool) (ranges : List Range) (limit : ℕ) → i + length ranges ≤ limit
    → All (λ place. place < limit) (places_from i test ranges)
places_below i test [] limit within = All-nil (λ place. place < limit)
places_below i test (range ∷ ranges) limit within =
    let rest = places_below (i + 1) test ranges limit (omega (arith, within)) in
    elim (test range) as (λ b. All (λ place. place < limit) (cond b (i ∷ places_from (i + 1) test ranges) (places_from (i + 1) test ranges))) [
      | true ↦ All-cons (λ place. place < limit) i (places_from (i + 1) test ranges) (omega (arith, within)) rest
      | false ↦ rest
    ]
