-- Bits of masks, and of words after a write.
use Rattle.std.proofs.Common.{◌≡◌, ℕ, ◌-◌, ◌*◌, ◌/◌, ◌%◌, ◌^◌, ◌<◌, ◌≤◌, min, max, ◌⊎◌, ◌↔◌, List, length, get_or, set, replicate, sym, ◌∙◌, ap, inl, inr, arith, rules, get_or-set_same, get_or-set_other, w64}
use Rattle.std.proofs.lemmas.Bool.{cases_eq, cases_lt}
use Rattle.std.proofs.lemmas.Nat.Bits.{ones_shl, bit_at_and, bit_at_or, bit_at_not, bit_at-lt, bit_at_mask_inside, bit_at_mask_below, bit_at_ones}
use Rattle.std.proofs.lemmas.List.{places}
use borrow.Rule.Slice.PartMut.{put_mid}
use Rattle.std.specs.Prelude.{bit_and, bit_or}
use Rattle.std.specs.Int.{bit_at, bit_not}
use Rattle.conflict.specs.Gaps.{HasBit, IsInRun, IsInWord}

-- a bit that is 0 below `low`
one_at_least : (x low bit : ℕ) → (bit < low → x ≡ 0) → x ≡ 1 → low ≤ bit
one_at_least x low bit none one =
    elim (cases_lt bit low) [ inl below ↦ (let zero : x ≡ 0 = none below in omega arith) | inr above ↦ above ]

-- the ones from `low` on, as a shift leaves them
pub bit_at-shl_ones : (low bit : ℕ) → low < 64 → bit < 64
    → (bit_at ((2 ^ 64 - 1) * 2 ^ low % 2 ^ 64) bit ≡ 1) ↔ (low ≤ bit)
bit_at-shl_ones low bit inside small =
    let mask : (2 ^ 64 - 1) * 2 ^ low % 2 ^ 64 ≡ 2 ^ 64 - 2 ^ low = ones_shl 64 low (omega arith) in
    let bits = ap (λ m. bit_at m bit) mask in (
      one_at_least _ low bit (λ below. bits ∙ bit_at_mask_below low 64 bit below),
      λ above. bits ∙ bit_at_mask_inside low 64 bit above small,
    )

-- a bit that is set from `low` on, where another isn't, which is set from `high` on
min_is_one : (x y low high bit : ℕ) → x < 2 → y < 2 → (x ≡ 1) ↔ (low ≤ bit) → (y ≡ 1) ↔ (high ≤ bit)
    → (min x (1 - y) ≡ 1) ↔ IsInRun low high bit
min_is_one x y low high bit small small' lows highs = (
  λ set. (
    lows.0 (omega arith),
    elim (cases_lt bit high) [
      | inl below ↦ below
      | inr above ↦ let one : y ≡ 1 = highs.1 above in omega arith
    ],
  ),
  λ inside.
      let one : x ≡ 1 = lows.1 inside.0 in
      elim (cases_eq y 1) [
        | inl both ↦ let above : high ≤ bit = highs.0 both in omega arith
        | inr alone ↦ omega arith
      ],
)

-- the ones from `low` on that aren't from `high` on
pub bit_at-and_not : (from_low from_high low high bit : ℕ) → from_high < 2 ^ 64 → bit < 64
    → (bit_at from_low bit ≡ 1) ↔ (low ≤ bit) → (bit_at from_high bit ≡ 1) ↔ (high ≤ bit)
    → (bit_at (bit_and from_low (bit_not w64 from_high)) bit ≡ 1) ↔ IsInRun low high bit
bit_at-and_not from_low from_high low high bit fits small lows highs =
    let bits : bit_at (bit_and from_low (bit_not w64 from_high)) bit
    ≡ min (bit_at from_low bit) (1 - bit_at from_high bit) =
    bit_at_and from_low (bit_not w64 from_high) bit
    ∙ ap (λ b. min (bit_at from_low bit) b) (bit_at_not w64 from_high bit fits small) in
    let inside = min_is_one _ _ low high bit (bit_at-lt from_low bit) (bit_at-lt from_high bit) lows highs in
    (λ set. inside.0 (sym bits ∙ set), λ within. bits ∙ inside.1 within)

-- of two bits one is set
max_is_one : (x y : ℕ) → x < 2 → y < 2 → (max x y ≡ 1) ↔ ((x ≡ 1) ⊎ (y ≡ 1))
max_is_one x y small small' = (
  λ set. elim (cases_eq x 1) [ inl one ↦ inl one | inr not_one ↦ inr (omega arith) ],
  λ either. elim either [ inl one ↦ omega arith | inr one ↦ omega arith ],
)

-- after a mask is added to one word
pub HasBit-set_or : (words : List ℕ) (word mask bit : ℕ) → word < length words
    → HasBit (set words word (bit_or (get_or words word 0) mask)) bit
    ↔ (HasBit words bit ⊎ IsInWord word mask bit)
unfolding HasBit
HasBit-set_or words word mask bit within =
    let joined : ℕ = bit_or (get_or words word 0) mask in
    let old_bit : ℕ = bit_at (get_or words (bit / 64) 0) (bit % 64) in
    let mask_bit : ℕ = bit_at mask (bit % 64) in
    elim (cases_eq (bit / 64) word) [
      | inl same ↦
          let at : bit_at (get_or (set words word joined) (bit / 64) 0) (bit % 64) ≡ max old_bit mask_bit =
          rw (same, get_or-set_same words word joined 0 within) (bit_at_or _ mask (bit % 64)) in
          let cases = max_is_one old_bit mask_bit (bit_at-lt _ _) (bit_at-lt _ _) in (
            λ has. elim (cases.0 (omega arith)) [ inl old ↦ inl old | inr new ↦ inr (same, new) ],
            λ either. at ∙ cases.1 (elim either [ inl old ↦ inl old | inr new ↦ inr new.1 ]),
          )
      | inr other ↦
          let at = ap (λ w. bit_at w (bit % 64)) (get_or-set_other words word (bit / 64) joined 0 other) in (
            λ has. inl (omega (arith, at, has)),
            λ either. elim either [ inl old ↦ at ∙ old | inr new ↦ absurd (other new.0) ],
          )
    ]

-- after entire words are set
pub HasBit-put_mid : (words ones : List ℕ) (first last bit : ℕ) → first ≤ last → last ≤ length words
    → ones ≡ replicate (last - first) (2 ^ 64 - 1)
    → HasBit (put_mid first (last - first) words ones) bit ↔ (HasBit words bit ⊎ IsInRun first last (bit / 64))
unfolding HasBit
HasBit-put_mid words ones first last bit ordered within filled =
    let new : List ℕ = put_mid first (last - first) words ones in
    let outside : get_or new (bit / 64) 0 ≡ get_or words (bit / 64) 0 → (IsInRun first last (bit / 64) → ⊥)
    → HasBit new bit ↔ (HasBit words bit ⊎ IsInRun first last (bit / 64)) =
    λ same out.
    let at = ap (λ w. bit_at w (bit % 64)) same in (
      λ has. inl (sym at ∙ has),
      λ either. elim either [ inl old ↦ at ∙ old | inr in_run ↦ absurd (out in_run) ],
    ) in
    elim (cases_lt (bit / 64) first) [
      | inl before ↦ outside (rw filled (search (rules, places))) (λ in_run. omega arith)
      | inr from ↦ elim (cases_lt (bit / 64) last) [
        | inl inside ↦
            let ones_at : get_or new (bit / 64) 0 ≡ 2 ^ 64 - 1 = rw filled (search (rules, places)) in (
              λ has. inr (from, inside),
              λ either. ap (λ w. bit_at w (bit % 64)) ones_at ∙ bit_at_ones 64 (bit % 64) (omega arith),
            )
        | inr past ↦ outside (rw filled (search (rules, places))) (λ in_run. omega arith)
      ]
    ]
