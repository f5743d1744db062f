-- What a cell tells of its keys, and what becomes of it where a version is written.
use Rattle.std.proofs.Common.{◌≡◌, ℕ, ◌*◌, ◌%◌, ◌^◌, ◌⊎◌, not, true, false, eqb, IsTrue, refl, sym, ◌∙◌, ap, inl, inr, arith, bit_and, bit_or}
use Rattle.std.specs.Prelude.{ℤ, negsuc, Bool, ◌≤ℤ◌, if◌then◌else◌}
use Rattle.std.specs.Int.{bit_at, int_max}
use Rattle.std.proofs.lemmas.Bool.Decides.{eqb_tells}
use Rattle.std.proofs.lemmas.Int.{ints, clamps}
use Rattle.std.proofs.lemmas.Nat.{pow_pos}
use Rattle.std.proofs.lemmas.Nat.Bits.{and_pow, bit_at-lt, bit_at_or, bit_at-pow_same}
use Rattle.stepmap.specs.Cell.{bound_of, empty_cell, is_marked, newest_of, others_of, own_of}
use Rattle.stepmap.specs.declared.filter.cell.Cell.{Cell}

either : (b : Bool) → (b ≡ true) ⊎ (b ≡ false)
either true = inl refl
either false = inr refl

pub chosen : (b : Bool) (x y : ℤ) → b ≡ true → (if b then x else y) ≡ x
chosen b x y is = rw is refl

pub left_out : (b : Bool) (x y : ℤ) → b ≡ false → (if b then x else y) ≡ y
left_out b x y is = rw is refl

pub one_of : (n : ℕ) → IsTrue (eqb n 1) → n ≡ 1
one_of n reported = elim (eqb_tells n 1) [
  | inl same ↦ same.1
  | inr other ↦ absurd (let contrary : false ≡ true = sym other.0 ∙ reported in cc)
]

-- the test of one bit
pub marked_by_and : (marks k : ℕ) → not (eqb (bit_and marks (2 ^ k)) 0) ≡ eqb (bit_at marks k) 1
marked_by_and marks k =
    let both = and_pow marks k in
    let small = bit_at-lt marks k in
    let some = pow_pos k in
    elim (eqb_tells (bit_at marks k) 1) [
      | inl one ↦
          let there : bit_and marks (2 ^ k) ≡ 1 * 2 ^ k = both ∙ ap (λ bit. bit * 2 ^ k) one.1 in
          elim (eqb_tells (bit_and marks (2 ^ k)) 0) [
            | inl zero ↦ absurd (omega (arith, there, some, zero.1))
            | inr filled ↦ ap not filled.0 ∙ sym one.0
          ]
      | inr none ↦
          let zero : bit_at marks k ≡ 0 = omega (arith, small, none.1) in
          let there : bit_and marks (2 ^ k) ≡ 0 * 2 ^ k = both ∙ ap (λ bit. bit * 2 ^ k) zero in
          elim (eqb_tells (bit_and marks (2 ^ k)) 0) [
            | inl empty ↦ ap not empty.0 ∙ sym none.0
            | inr filled ↦ absurd (filled.1 (omega (arith, there)))
          ]
    ]

-- a mark that is set, and others stay
pub marked_there : (marks hash : ℕ) → bit_at (bit_or marks (2 ^ (hash % 32))) (hash % 32) ≡ 1
marked_there marks hash =
    let k = hash % 32 in
    let at = bit_at_or marks (2 ^ k) k in
    let own = bit_at-pow_same k in
    let small = bit_at-lt marks k in
    omega (arith, at, own, small)

pub marked_still : (marks mask k : ℕ) → bit_at marks k ≡ 1 → bit_at (bit_or marks mask) k ≡ 1
marked_still marks mask k is =
    let at = bit_at_or marks mask k in
    let small = bit_at-lt mask k in
    omega (arith, at, is, small)

module _ (cell : Cell) (hash : ℕ) where
  pub own_is : cell.hash ≡ hash → own_of cell hash ≡ cell.version
  own_is is = elim (eqb_tells cell.hash hash) [
    | inl same ↦ chosen (eqb cell.hash hash) cell.version (negsuc 0) same.0
    | inr other ↦ absurd (other.1 is)
  ]

  pub own_missing : (cell.hash ≡ hash → ⊥) → own_of cell hash ≡ negsuc 0
  own_missing is = elim (eqb_tells cell.hash hash) [
    | inl same ↦ absurd (is same.1)
    | inr other ↦ left_out (eqb cell.hash hash) cell.version (negsuc 0) other.0
  ]

  -- the version of its own hash is no more than the bound
  pub own_there : cell.hash ≡ hash → cell.version ≤ℤ bound_of cell hash
  unfolding bound_of
  own_there is = let own = own_is is in omega (arith, ints, clamps, own)

  -- nor are the others where the mark is set
  pub others_there : IsTrue (is_marked cell hash) → cell.others ≤ℤ bound_of cell hash
  unfolding bound_of
  others_there is =
      let others : others_of cell hash ≡ cell.others = chosen (is_marked cell hash) cell.others (negsuc 0) is in
      omega (arith, ints, clamps, others)

  -- it is one of these, or -1
  pub bound_most : bound_of cell hash ≤ℤ int_max (negsuc 0) (newest_of cell)
  unfolding bound_of
  bound_most =
      let own : own_of cell hash ≤ℤ int_max (negsuc 0) (newest_of cell) =
      elim (either (eqb cell.hash hash)) [
        | inl is ↦ let own = chosen (eqb cell.hash hash) cell.version (negsuc 0) is in omega (arith, ints, clamps, own)
        | inr is ↦ let own = left_out (eqb cell.hash hash) cell.version (negsuc 0) is in omega (arith, ints, clamps, own)
      ] in
      let others : others_of cell hash ≤ℤ int_max (negsuc 0) (newest_of cell) =
      elim (either (is_marked cell hash)) [
        | inl is ↦ let others = chosen (is_marked cell hash) cell.others (negsuc 0) is in omega (arith, ints, clamps, others)
        | inr is ↦ let others = left_out (is_marked cell hash) cell.others (negsuc 0) is in omega (arith, ints, clamps, others)
      ] in
      omega (arith, ints, clamps, own, others)

-- what a cell tells is told by another one
pub raised : (old new : Cell) → ((hash : ℕ) → old.hash ≡ hash → old.version ≤ℤ bound_of new hash)
    → ((hash : ℕ) → IsTrue (is_marked old hash) → old.others ≤ℤ bound_of new hash)
    → (hash : ℕ) → bound_of old hash ≤ℤ int_max (negsuc 0) (bound_of new hash)
unfolding bound_of
raised old new owns others hash =
    let bound : ℤ = bound_of new hash in
    let own : own_of old hash ≤ℤ int_max (negsuc 0) bound =
    elim (eqb_tells old.hash hash) [
      | inl same ↦
          let is = chosen (eqb old.hash hash) old.version (negsuc 0) same.0 in
          let low = owns hash same.1 in
          omega (arith, ints, clamps, is, low)
      | inr other ↦ let is = left_out (eqb old.hash hash) old.version (negsuc 0) other.0 in omega (arith, ints, clamps, is)
    ] in
    let rest : others_of old hash ≤ℤ int_max (negsuc 0) bound =
    elim (either (is_marked old hash)) [
      | inl marked ↦
          let is = chosen (is_marked old hash) old.others (negsuc 0) marked in
          let low = others hash marked in
          omega (arith, ints, clamps, is, low)
      | inr other ↦ let is = left_out (is_marked old hash) old.others (negsuc 0) other in omega (arith, ints, clamps, is)
    ] in
    omega (arith, ints, clamps, own, rest)

-- no key is written into an empty one
pub empty_bound : (hash : ℕ) → bound_of empty_cell hash ≡ negsuc 0
unfolding bound_of
empty_bound hash =
    let most = bound_most empty_cell hash in
    let own : own_of empty_cell hash ≡ negsuc 0 =
    elim (either (eqb 0 hash)) [
      | inl is ↦ chosen (eqb 0 hash) (negsuc 0) (negsuc 0) is
      | inr is ↦ left_out (eqb 0 hash) (negsuc 0) (negsuc 0) is
    ] in
    omega (arith, ints, clamps, most, own)
