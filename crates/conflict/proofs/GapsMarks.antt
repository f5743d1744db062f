-- Marks of gaps, read off the bits of words.
use Rattle.std.proofs.Common.{◌≡◌, ℕ, ◌/◌, ◌%◌, ◌<◌, ◌≤◌, Bool, true, false, ◌↔◌, ◌⊎◌, List, [], length, get_or, replicate, refl, sym, ◌∙◌, inl, inr, arith, eq-eqb, eqb-true}
use Rattle.std.proofs.lemmas.Bool.{cases_lt}
use Rattle.std.proofs.lemmas.List.{get_or-replicate, get_or_past, length-replicate}
use Rattle.std.proofs.lemmas.List.FromFn.{length-map-range_with_len, get_or-map-range_with_len}
use Rattle.std.proofs.lemmas.Nat.Bits.{bit_at-zero}
use Rattle.std.specs.Prelude.{◌==◌}
use Rattle.std.specs.Int.{bit_at}
use Rattle.conflict.specs.Gaps.{HasBit, IsInRun, IsMarked, SomeMarked, marks_of}

pub length-marks_of : (count : ℕ) (words : List ℕ) → length (marks_of count words) ≡ count
unfolding marks_of
length-marks_of count words =
    length-map-range_with_len (λ gap. bit_at (get_or words (gap / 64) 0) (gap % 64) == 1) 0 count

-- a set's count is the length of its marks
pub count_of : (count : ℕ) (words : List ℕ) (marks : List Bool) → marks_of count words ≡ marks
    → length marks ≡ count
count_of count words marks seen = rw (← seen) (length-marks_of count words)

pub marks_of-zero : (words : List ℕ) → marks_of 0 words ≡ []
unfolding marks_of
marks_of-zero words = refl

-- a gap is marked where it is below the count and the words have its bit
pub IsMarked-marks_of : (count : ℕ) (words : List ℕ) (gap : ℕ)
    → IsMarked (marks_of count words) gap ↔ ((gap < count) × HasBit words gap)
unfolding IsMarked marks_of HasBit
IsMarked-marks_of count words gap =
    let test = λ (at : ℕ). bit_at (get_or words (at / 64) 0) (at % 64) == 1 in
    elim (cases_lt gap count) [
      | inl below ↦
          let at : get_or (marks_of count words) gap false ≡ test gap =
          get_or-map-range_with_len test 0 count gap gap false below (omega arith) in (
            λ marked. (below, eqb-true _ 1 (sym at ∙ marked)),
            λ has. at ∙ eq-eqb _ 1 has.1,
          )
      | inr above ↦ (
        λ marked.
            let long = length-marks_of count words in
            let none = get_or_past (marks_of count words) gap false (omega arith) in
            absurd (let contrary : false ≡ true = sym none ∙ marked in cc),
        λ has. absurd (omega (arith, has.0)),
      )
    ]

-- words of zeros have no bit
pub HasBit-replicate : (n bit : ℕ) → HasBit (replicate n 0) bit → ⊥
unfolding HasBit
HasBit-replicate n bit has =
    let zeros : List ℕ = replicate n 0 in
    let zero : get_or zeros (bit / 64) 0 ≡ 0 =
    elim (cases_lt (bit / 64) n) [
      | inl inside ↦ get_or-replicate n (bit / 64) 0 0 inside
      | inr past ↦ get_or_past zeros (bit / 64) 0 (rw length-replicate past)
    ] in
    let none : bit_at (get_or zeros (bit / 64) 0) (bit % 64) ≡ 0 = rw zero (bit_at-zero (bit % 64)) in
    cc (none, has)

-- after the bits of a run are set
pub marked_after : (count : ℕ) (old new : List ℕ) (from to : ℕ) → to ≤ count
    → ((bit : ℕ) → HasBit new bit ↔ (HasBit old bit ⊎ IsInRun from to bit))
    → (gap : ℕ) → IsMarked (marks_of count new) gap ↔ (IsMarked (marks_of count old) gap ⊎ IsInRun from to gap)
marked_after count old new from to within set gap =
    let before = IsMarked-marks_of count old gap in
    let after = IsMarked-marks_of count new gap in (
      λ marked.
          let has = after.0 marked in
          elim ((set gap).0 has.1) [ inl kept ↦ inl (before.1 (has.0, kept)) | inr inside ↦ inr inside ],
      λ either. elim either [
        | inl marked ↦ (let has = before.0 marked in after.1 (has.0, (set gap).1 (inl has.1)))
        | inr inside ↦ after.1 (omega arith, (set gap).1 (inr inside))
      ],
    )

-- a run has a marked gap where the words have a bit of it
pub some_marked : (count : ℕ) (words : List ℕ) (from to : ℕ) → to ≤ count
    → ((bit : ℕ) × IsInRun from to bit × HasBit words bit) ↔ SomeMarked (marks_of count words) from to
some_marked count words from to within = (
  λ found. (found.0, found.1, (IsMarked-marks_of count words found.0).1 (omega arith, found.2)),
  λ found. (found.0, found.1, ((IsMarked-marks_of count words found.0).0 found.2).1),
)
