-- How many bytes two numbers begin with in common is determined by the leading zeros of their exclusive or.
use Rattle.std.proofs.Common.{
  ◌≡◌,
  ◌≢◌,
  ℕ,
  zero,
  suc,
  ◌+◌,
  ◌-◌,
  ◌*◌,
  ◌/◌,
  ◌%◌,
  ◌^◌,
  ◌<◌,
  ◌≤◌,
  take,
  slice_index,
  refl,
  sym,
  ap,
  ◌∙◌,
  arith,
}
use Rattle.std.specs.Int.{w64, byte_at, bytes_high_first, leading_zeros, to_be_bytes}
use Rattle.std.specs.Int.Bits.{bit_xor, xor_add_and, xor_self}
use Rattle.std.proofs.Math.Nat.{div-one, div-eq_of_lt, mod-lt, pow-suc}
use Rattle.std.proofs.Math.Pow.{pow_mono}
use Rattle.std.proofs.lemmas.Nat.{
  and_le_l,
  and_le_r,
  leading_length,
  leading_le,
  pow-add,
  pow_pos,
  shr-shr,
  shr_split,
  xor_lt,
  xor_shr,
}
use Rattle.keys.proofs.callers.KeyHeads.{have_same_begin}

-- a byte is what stands there
byte_is : (i n : ℕ) → byte_at i n ≡ n / 256 ^ i % 256
byte_is zero n = ap (λ m. m % 256) (sym (div-one n))
byte_is (suc i) n = refl

pow_of_bytes : (i : ℕ) → 256 ^ i ≡ 2 ^ (8 * i)
pow_of_bytes zero = refl
pow_of_bytes (suc i) =
    let next : 8 * i + 8 ≡ 8 * suc i = omega arith in
    pow-suc 256 i ∙ ap (λ p. p * 256) (pow_of_bytes i) ∙ sym (pow-add 2 (8 * i) 8) ∙ ap (λ k. 2 ^ k) next

byte_by_bits : (i n : ℕ) → byte_at i n ≡ n / 2 ^ (8 * i) % 256
byte_by_bits i n = byte_is i n ∙ ap (λ p. n / p % 256) (pow_of_bytes i)

-- the bytes from the highest one on, by their places from the lowest one on
place : (n k i a : ℕ) → k + suc i ≡ n → slice_index (bytes_high_first n a) k ≡ byte_at i a
place zero k i a is = absurd (omega arith)
place (suc n) zero i a is = let same : n ≡ i = omega arith in ap (λ j. byte_at j a) same
place (suc n) (suc k) i a is = place n k i a (omega arith)

-- numbers whose exclusive or is zero are the same
no_difference : (a b : ℕ) → bit_xor a b ≡ 0 → a ≡ b
no_difference a b none = omega (arith, xor_add_and a b, and_le_l a b, and_le_r a b)

-- the bits above the exclusive or are the same
same_above : (a b k : ℕ) → bit_xor a b < 2 ^ k → a / 2 ^ k ≡ b / 2 ^ k
same_above a b k below =
    no_difference (a / 2 ^ k) (b / 2 ^ k) (sym (xor_shr a b k) ∙ div-eq_of_lt below)

-- if the bits from one on are the same, the exclusive or is below it
below_same : (a b k : ℕ) → a / 2 ^ k ≡ b / 2 ^ k → bit_xor a b < 2 ^ k
below_same a b k same =
    let none : bit_xor a b / 2 ^ k ≡ 0 =
    xor_shr a b k ∙ ap (λ x. bit_xor x (b / 2 ^ k)) same ∙ xor_self (b / 2 ^ k) in
    omega (arith, shr_split (bit_xor a b) k, ap (λ q. q * 2 ^ k) none, mod-lt (bit_xor a b) (pow_pos k))

-- so are the bytes above it
byte_above : (a b j i : ℕ) → j ≤ 8 * i → bit_xor a b < 2 ^ j → byte_at i a ≡ byte_at i b
byte_above a b j i low below =
    let most : 2 ^ j ≤ 2 ^ (8 * i) = pow_mono low in
    byte_by_bits i a ∙ ap (λ q. q % 256) (same_above a b (8 * i) (omega arith)) ∙ sym (byte_by_bits i b)

-- it is below a byte that is the same, if it is not above that
below_byte : (a b i : ℕ) → bit_xor a b < 2 ^ (8 * i + 8) → byte_at i a ≡ byte_at i b → bit_xor a b < 2 ^ (8 * i)
below_byte a b i below same =
    let upper : a / 2 ^ (8 * i) / 2 ^ 8 ≡ b / 2 ^ (8 * i) / 2 ^ 8 =
    shr-shr a (8 * i) 8 ∙ same_above a b (8 * i + 8) below ∙ sym (shr-shr b (8 * i) 8) in
    below_same a b (8 * i) (omega (arith, upper, sym (byte_by_bits i a) ∙ same ∙ byte_by_bits i b))

module _ (a b : ℕ) (a_fits : a < 2 ^ 64) (b_fits : b < 2 ^ 64) where
  -- the numbers begin with that many bytes in common
  pub same_first : take (leading_zeros w64 (bit_xor a b) / 8) (to_be_bytes w64 a)
      ≡ take (leading_zeros w64 (bit_xor a b) / 8) (to_be_bytes w64 b)
  same_first =
      let zeros = leading_zeros w64 (bit_xor a b) in
      let left = leading_length 64 (bit_xor a b) (xor_lt 64 a b a_fits b_fits) in
      let bits = left.1 in
      let most = leading_le 64 (bit_xor a b) in
      have_same_begin (zeros / 8) (to_be_bytes w64 a) (to_be_bytes w64 b) (omega (arith, most)) (omega (arith, most))
      (λ k before. let at : k + suc (7 - k) ≡ 8 = omega (arith, most) in
      place 8 k (7 - k) a at ∙ byte_above a b left.0 (7 - k) (omega (arith, bits)) left.2 ∙ sym (place 8 k (7 - k) b at))

  -- and not with another one
  pub other_next : leading_zeros w64 (bit_xor a b) / 8 < 8
      → slice_index (to_be_bytes w64 a) (leading_zeros w64 (bit_xor a b) / 8)
      ≢ slice_index (to_be_bytes w64 b) (leading_zeros w64 (bit_xor a b) / 8)
  other_next short same =
      let k : ℕ = leading_zeros w64 (bit_xor a b) / 8 in
      let i : ℕ = 7 - k in
      let left = leading_length 64 (bit_xor a b) (xor_lt 64 a b a_fits b_fits) in
      let bits = left.1 in
      let at : k + suc i ≡ 8 = omega arith in
      let least : 8 * i + 1 ≤ left.0 = omega (arith, bits) in
      let most : left.0 ≤ 8 * i + 8 = omega (arith, bits) in
      let up_to : 2 ^ left.0 ≤ 2 ^ (8 * i + 8) = pow_mono most in
      let from : 2 ^ (8 * i + 1) ≤ 2 ^ left.0 = pow_mono least in
      let below : bit_xor a b < 2 ^ (8 * i) =
      below_byte a b i (omega (arith, left.2)) (sym (place 8 k i a at) ∙ same ∙ place 8 k i b at) in
      omega (arith, pow-add 2 (8 * i) 1, left.3)
