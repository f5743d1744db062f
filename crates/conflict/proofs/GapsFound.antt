-- Bits that a test of a word, of words or of a run finds.
use Rattle.std.proofs.Common.{◌≡◌, ◌≢◌, ℕ, ◌+◌, ◌-◌, ◌*◌, ◌/◌, ◌%◌, ◌^◌, ◌<◌, ◌≤◌, not, true, false, eqb, ◌↔◌, ◌⊎◌, IsTrue, List, length, get_or, refl, sym, ◌∙◌, ap, inl, inr, arith, w64}
use Rattle.std.proofs.lemmas.Bool.{cases_eq}
use Rattle.std.proofs.lemmas.Bool.Decides.{eqb_tells}
use Rattle.std.proofs.lemmas.Grind.{get_or_default_zero}
use Rattle.std.proofs.lemmas.List.Edits.{length-between, get_or-between}
use Rattle.std.proofs.lemmas.Nat.Bits.{bit_at_and, bit_at-lt, bit_at-zero, bit_at-trailing_zeros}
use Rattle.std.specs.Prelude.{bit_and}
use Rattle.std.specs.Int.{bit_at, trailing_zeros}
use Rattle.std.specs.List.{Any, slice_range}
use Rattle.conflict.specs.Gaps.{HasBit, IsInRun, IsInWord}

-- the test that two numbers differ
not_eqb : (a b : ℕ) → IsTrue (not (eqb a b)) ↔ (a ≢ b)
not_eqb a b = elim (eqb_tells a b) [
  | inl same ↦ (
    λ determined. absurd (let contrary : false ≡ true = sym (ap not same.0) ∙ determined in cc),
    λ differ. absurd (differ same.1),
  )
  | inr other ↦ (λ determined. other.1, λ differ. ap not other.0)
]

-- a word that isn't 0 has a bit
bit_of_filled : (word : ℕ) → word < 2 ^ 64 → word ≢ 0
    → (bit : ℕ) × (bit < 64) × (bit_at word bit ≡ 1)
bit_of_filled word fits filled =
    let lowest = bit_at-trailing_zeros w64 word (omega arith) fits in
    (trailing_zeros w64 word, lowest.0, lowest.1)

-- a word that has a bit isn't 0
filled_by_bit : (word bit : ℕ) → bit_at word bit ≡ 1 → word ≢ 0
filled_by_bit word bit set zero =
    let none : bit_at word bit ≡ 0 = ap (λ w. bit_at w bit) zero ∙ bit_at-zero bit in
    omega arith

-- one word, under a mask
pub any_of_mask : (words : List ℕ) (word mask : ℕ) → bit_and (get_or words word 0) mask < 2 ^ 64
    → IsTrue (not (eqb (bit_and (get_or words word 0) mask) 0))
    ↔ ((bit : ℕ) × IsInWord word mask bit × HasBit words bit)
unfolding HasBit
any_of_mask words word mask fits = (
  λ filled.
      let found = bit_of_filled (bit_and (get_or words word 0) mask) fits ((not_eqb _ 0).0 filled) in
      let bit : ℕ = found.0 in
      let at = bit_at_and (get_or words word 0) mask bit in
      let number : (64 * word + bit) / 64 ≡ word = omega arith in
      let rest : (64 * word + bit) % 64 ≡ bit = omega arith in
      let small = bit_at-lt (get_or words word 0) bit in
      let small' = bit_at-lt mask bit in (
        64 * word + bit,
        (number, rw rest (omega arith)),
        rw (number, rest) (omega arith),
      ),
  λ found.
      let bit : ℕ = found.0 % 64 in
      let here : bit_at (get_or words word 0) bit ≡ 1 = rw found.1.0 at found.2 in
      let both = bit_at_and (get_or words word 0) mask bit ∙ rw (here, found.1.1) refl in
      (not_eqb _ 0).1 (filled_by_bit _ bit both),
)

-- entire words
pub any_of_words : (words : List ℕ) (first last : ℕ) → first ≤ last → last ≤ length words
    → ((word : ℕ) → get_or words word 0 < 2 ^ 64)
    → Any (λ word. word ≢ 0) (slice_range words first last)
    ↔ ((bit : ℕ) × IsInRun first last (bit / 64) × HasBit words bit)
unfolding HasBit
any_of_words words first last ordered within fits =
    let long = length-between words first last within in (
      λ found.
          let index : ℕ = found.0 in
          let word : ℕ = found.1 in
          let inside : index < last - first = omega (arith, long, found.2) in
          let same : get_or words (first + index) 0 ≡ word =
          sym (get_or_default_zero words (first + index) word (omega arith))
          ∙ sym (get_or-between words first last index word (omega arith)) ∙ found.3 in
          let filled : get_or words (first + index) 0 ≢ 0 = λ zero. found.4 (sym same ∙ zero) in
          let set = bit_of_filled (get_or words (first + index) 0) (fits (first + index)) filled in
          let bit : ℕ = set.0 in
          let number : (64 * (first + index) + bit) / 64 ≡ first + index = omega arith in
          let rest : (64 * (first + index) + bit) % 64 ≡ bit = omega arith in (
            64 * (first + index) + bit,
            (omega arith, omega arith),
            rw (number, rest) set.2,
          ),
      λ found.
          let index : ℕ = found.0 / 64 - first in
          let word : ℕ = get_or words (found.0 / 64) 0 in (
            index,
            word,
            omega (arith, long, found.1.0, found.1.1),
            get_or-between words first last index word (omega arith)
                ∙ get_or_default_zero words (first + index) word (omega arith)
                ∙ ap (λ w. get_or words w 0) (omega arith),
            filled_by_bit word (found.0 % 64) found.2,
          ),
    )

-- the parts of a run that ends in a later word than it begins
parts_of_run : (from to bit : ℕ) → from ≤ to → (from / 64 ≡ to / 64 → ⊥) → IsInRun from to bit
    → ((bit / 64 ≡ from / 64) × (from % 64 ≤ bit % 64))
    ⊎ (IsInRun (from / 64 + 1) (to / 64) (bit / 64) ⊎ ((bit / 64 ≡ to / 64) × (bit % 64 < to % 64)))
parts_of_run from to bit ordered apart inside =
    elim (cases_eq (bit / 64) (from / 64)) [
      | inl same ↦ inl (same, omega arith)
      | inr other ↦ elim (cases_eq (bit / 64) (to / 64)) [
        | inl same ↦ inr (inr (same, omega arith))
        | inr between ↦ inr (inl (omega arith, omega arith))
      ]
    ]

-- a run in several words, none of whose bits stands before its last word
pub last_of_run : (words : List ℕ) (from to head tail : ℕ) → from ≤ to → (from / 64 ≡ to / 64 → ⊥)
    → ((bit : ℕ) → bit < 64 → (bit_at head bit ≡ 1) ↔ (from % 64 ≤ bit))
    → ((bit : ℕ) → bit < 64 → (bit_at tail bit ≡ 1) ↔ IsInRun 0 (to % 64) bit)
    → (((bit : ℕ) × IsInWord (from / 64) head bit × HasBit words bit) → ⊥)
    → (((bit : ℕ) × IsInRun (from / 64 + 1) (to / 64) (bit / 64) × HasBit words bit) → ⊥)
    → ((bit : ℕ) × IsInWord (to / 64) tail bit × HasBit words bit)
    ↔ ((bit : ℕ) × IsInRun from to bit × HasBit words bit)
last_of_run words from to head tail ordered apart heads tails none_first none_between = (
  λ found.
      let bit : ℕ = found.0 in
      let below = (tails (bit % 64) (omega arith)).0 found.1.1 in
      (bit, (omega arith, omega arith), found.2),
  λ found.
      let bit : ℕ = found.0 in
      elim (parts_of_run from to bit ordered apart found.1) [
        | inl first ↦ absurd (none_first (bit, (first.0, (heads (bit % 64) (omega arith)).1 first.1), found.2))
        | inr later ↦ elim later [
          | inl between ↦ absurd (none_between (bit, between, found.2))
          | inr last ↦ (bit, (last.0, (tails (bit % 64) (omega arith)).1 (omega arith, last.1)), found.2)
        ]
      ],
)
