-- Numbered keys stand in the order of their numbers, and a single key before its end.
use Rattle.std.proofs.Common.{◌≡◌, ℕ, ◌/◌, ◌%◌, ◌^◌, ◌<◌, ◌≤◌, suc, zero, true, not, List, [], ◌∷◌, ◌++◌, refl, sym, ap, subst, ◌∙◌, inl, inr, arith, pow-suc, div-mul-le_self}
use Rattle.std.proofs.Math.Nat.{div-div-eq-div-mul, pow-le-pow_right}
use Rattle.std.proofs.lemmas.Nat.{le-div}
use Rattle.std.proofs.lemmas.Bool.{cases_lt}
use Rattle.std.specs.Cmp.{nat_cmp_is}
use Rattle.std.specs.Cmp.Lexicographic.{slice_cmp}
use Rattle.std.specs.Int.{byte_at, bytes_high_first}
use Rattle.std.specs.Ordering.{nat_cmp, is_lt, ordering_then}
use Rattle.std.specs.declared.cmp.Ordering.{Ordering}
use Rattle.std.specs.declared.cmp.Ordering.TheVariants.{Equal, Greater}
use Rattle.keys.specs.Key.{IsAtMost, IsBefore, is_before}
use Rattle.workload_program.specs.Txns.{numbered_key}

byte_is : (k n : ℕ) → byte_at k n ≡ n / 256 ^ k % 256
byte_is zero n = omega arith
byte_is (suc k) n = refl

high_on : (k n : ℕ) → n / 256 ^ suc k ≡ n / 256 ^ k / 256
high_on k n = ap (λ unit. n / unit) (pow-suc 256 k) ∙ sym (div-div-eq-div-mul n (256 ^ k) 256)

high_rises : (k n m : ℕ) → n ≤ m → n / 256 ^ k ≤ m / 256 ^ k
high_rises k n m least =
    let some : 0 < 256 ^ k = pow-le-pow_right {n = 256} (omega arith) {i = 0} {j = k} (omega arith) in
    le-div (n / 256 ^ k) m (256 ^ k) some (omega (arith, div-mul-le_self n (256 ^ k), least))

-- the k lowest bytes of a number that is no less, if the bytes above them are the same, don't come before those of the other
lowest_in_order : (k n m : ℕ) → n ≤ m → n / 256 ^ k ≡ m / 256 ^ k
    → IsAtMost (bytes_high_first k n) (bytes_high_first k m)
lowest_in_order zero n m least same = refl
lowest_in_order (suc k) n m least same =
    let rest = slice_cmp nat_cmp (bytes_high_first k m) (bytes_high_first k n) in
    let same_above : n / 256 ^ k / 256 ≡ m / 256 ^ k / 256 = sym (high_on k n) ∙ same ∙ high_on k m in
    let rises = high_rises k n m least in
    let low = byte_is k n in
    let high = byte_is k m in
    elim (cases_lt (n / 256 ^ k) (m / 256 ^ k)) [
      | inl below ↦
          let above : byte_at k n < byte_at k m = omega (arith, same_above, below, low, high) in
          subst (λ (o : Ordering). not (is_lt (ordering_then o rest)) ≡ true)
          (nat_cmp_is (byte_at k m) (byte_at k n) Greater above) refl
      | inr not_below ↦
          let equal : n / 256 ^ k ≡ m / 256 ^ k = omega (arith, rises, not_below) in
          subst (λ (o : Ordering). not (is_lt (ordering_then o rest)) ≡ true)
          (nat_cmp_is (byte_at k m) (byte_at k n) Equal (omega (arith, equal, low, high)))
          (lowest_in_order k n m least equal)
    ]

-- the key of a number of 64 bits isn't after that of a number that is no less
pub keys_in_order : (n m : ℕ) → n ≤ m → m < 2 ^ 64 → IsAtMost (numbered_key n) (numbered_key m)
keys_in_order n m least few = lowest_in_order 8 n m least (omega (arith, least, few))

-- what follows a text isn't before it
pub longer_after : (key more : List ℕ) → IsAtMost key (key ++ more)
longer_after [] [] = refl
longer_after [] (x ∷ xs) = refl
longer_after (x ∷ xs) more =
    subst (λ (o : Ordering). not (is_lt (ordering_then o (slice_cmp nat_cmp (xs ++ more) xs))) ≡ true)
    (nat_cmp_is x x Equal refl) (longer_after xs more)

-- the ends of a range aren't inverted
pub not_inverted : (begin end first second : List ℕ) → begin ≡ first → end ≡ second → IsAtMost first second
    → ¬ (IsBefore end begin)
not_inverted begin end first second is_first is_second at_most before =
    let most : not (is_before end begin) ≡ true = rw (is_first, is_second) at_most in
    let bad : not true ≡ true = subst (λ b. not b ≡ true) before most in
    absurd cc
