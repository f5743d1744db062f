-- Lemmas for callers: heads and common prefixes determine the order of keys.
use Rattle.std.proofs.Common.{
  ◌≡◌,
  ℕ,
  zero,
  suc,
  ◌+◌,
  ◌-◌,
  ◌*◌,
  ◌^◌,
  ◌<◌,
  ◌≤◌,
  min,
  List,
  [],
  ◌∷◌,
  ◌++◌,
  length,
  get_or,
  take,
  drop,
  replicate,
  slice_index,
  false,
  refl,
  sym,
  ap,
  ◌∙◌,
  inl,
  inr,
  arith,
  append-nil,
  length-append,
  length-take,
  drop_of_length-le,
  ext_get_or,
  get_or-take,
}
use Rattle.std.specs.Int.{w64, to_be_bytes}
use Rattle.std.specs.Ordering.{nat_cmp, is_lt, ordering_then}
use Rattle.std.specs.Cmp.{nat_cmp_is}
use Rattle.std.specs.Cmp.Lexicographic.{slice_cmp}
use Rattle.std.specs.declared.cmp.Ordering.TheVariants.{Less, Equal, Greater}
use Rattle.std.proofs.Math.Nat.{pow-suc, one-le-pow, mul-le-mul_left}
use Rattle.std.proofs.Math.Seq.{take-append-add}
use Rattle.std.proofs.lemmas.Bool.{cases_lt, cases_order}
use Rattle.std.proofs.lemmas.List.{
  take-append-le,
  take_all,
  take-replicate,
  drop-replicate,
  length-take-le,
  drop_more,
  get_or_past,
}
use Rattle.std.proofs.lemmas.List.Elements.{
  All-head,
  All-tail,
  All-take,
  All-append,
  All-replicate,
  All-get_or,
}
use Rattle.std.proofs.lemmas.Nat.{be_bytes_8}
use Rattle.keys.specs.Key.{IsBytes, is_before, IsBefore, IsAtMost}
use Rattle.keys.specs.Head.{first_eight, head_of}
use Rattle.keys.proofs.callers.KeyOrder.{not_both}

abbrev IsByte : ℕ → Type 0
IsByte byte = byte < 256

-- the lesser first byte comes first
pub before_by_first : (x y : ℕ) (a b : List ℕ) → x < y → IsBefore (x ∷ a) (y ∷ b)
before_by_first x y a b less =
    ap (λ o. is_lt (ordering_then o (slice_cmp nat_cmp a b))) (sym (nat_cmp_is x y Less less))

-- and the greater one doesn't
pub after_by_first : (x y : ℕ) (a b : List ℕ) → y < x → is_before (x ∷ a) (y ∷ b) ≡ false
after_by_first x y a b greater =
    ap (λ o. is_lt (ordering_then o (slice_cmp nat_cmp a b))) (sym (nat_cmp_is x y Greater greater))

-- after equal first bytes the others decide
pub before_after_first : (x : ℕ) (a b : List ℕ) → is_before (x ∷ a) (x ∷ b) ≡ is_before a b
before_after_first x a b =
    ap (λ o. is_lt (ordering_then o (slice_cmp nat_cmp a b))) (sym (nat_cmp_is x x Equal refl))

-- the first n bytes as one number, the first byte the highest; missing bytes count as zeros
abbrev number_of : ℕ → List ℕ → ℕ
number_of zero bytes = 0
number_of (suc n) [] = 0
number_of (suc n) (x ∷ bytes) = x * 256 ^ n + number_of n bytes

number_of-below : (n : ℕ) (a : List ℕ) → IsBytes a → number_of n a < 256 ^ n
number_of-below zero a bytes = omega arith
number_of-below (suc n) [] bytes = one-le-pow (suc n) 256 (omega arith)
number_of-below (suc n) (x ∷ a) bytes =
    let rest = number_of-below n a (All-tail IsByte x a bytes) in
    let first : x < 256 = All-head IsByte x a bytes in
    let at_most : x ≤ 255 = omega arith in
    omega (arith, pow-suc 256 n, mul-le-mul_left (256 ^ n) at_most)

-- a lesser first byte makes the lesser number
number_of-first : (n x y : ℕ) (a b : List ℕ) → IsBytes a → x < y
    → number_of (suc n) (x ∷ a) < number_of (suc n) (y ∷ b)
number_of-first n x y a b bytes less =
    let next : x + 1 ≤ y = omega arith in
    omega (arith, number_of-below n a bytes, mul-le-mul_left (256 ^ n) next)

-- the lesser number belongs to the key that comes first
number_of-less : (n : ℕ) (a b : List ℕ) → IsBytes a → IsBytes b → number_of n a < number_of n b → IsBefore a b
number_of-less zero a b a_bytes b_bytes less = absurd (omega arith)
number_of-less (suc n) [] [] a_bytes b_bytes less = absurd (omega arith)
number_of-less (suc n) [] (y ∷ b) a_bytes b_bytes less = refl
number_of-less (suc n) (x ∷ a) [] a_bytes b_bytes less = absurd (omega arith)
number_of-less (suc n) (x ∷ a) (y ∷ b) a_bytes b_bytes less =
    elim (cases_order x y) [
      | inl e ↦ ap (λ z. is_before (x ∷ a) (z ∷ b)) (sym e) ∙ before_after_first x a b
          ∙ number_of-less n a b (All-tail IsByte x a a_bytes) (All-tail IsByte y b b_bytes)
          (omega (arith, ap (λ z. z * 256 ^ n) e))
      | inr apart ↦ elim apart [
        | inl below ↦ before_by_first x y a b below
        | inr above ↦ absurd (omega (arith, number_of-first n y x b a (All-tail IsByte y b b_bytes) above))
      ]
    ]

head_of-number : (a : List ℕ) → head_of a ≡ number_of 8 a
unfolding head_of
head_of-number [] = refl
head_of-number (p ∷ []) = omega arith
head_of-number (p ∷ q ∷ []) = omega arith
head_of-number (p ∷ q ∷ r ∷ []) = omega arith
head_of-number (p ∷ q ∷ r ∷ s ∷ []) = omega arith
head_of-number (p ∷ q ∷ r ∷ s ∷ t ∷ []) = omega arith
head_of-number (p ∷ q ∷ r ∷ s ∷ t ∷ u ∷ []) = omega arith
head_of-number (p ∷ q ∷ r ∷ s ∷ t ∷ u ∷ v ∷ []) = omega arith
head_of-number (p ∷ q ∷ r ∷ s ∷ t ∷ u ∷ v ∷ w ∷ a) = omega arith

-- a head has 64 bits
pub head_below : (a : List ℕ) → IsBytes a → head_of a < 2 ^ 64
head_below a bytes = omega (arith, head_of-number a, number_of-below 8 a bytes)

-- the key with the lesser head comes first
pub head_less : (a b : List ℕ) → IsBytes a → IsBytes b → head_of a < head_of b → IsBefore a b
head_less a b a_bytes b_bytes less =
    number_of-less 8 a b a_bytes b_bytes (omega (arith, head_of-number a, head_of-number b))

-- heads never fall from a key to a later one
pub head_at_most : (a b : List ℕ) → IsBytes a → IsBytes b → IsAtMost a b → head_of a ≤ head_of b
head_at_most a b a_bytes b_bytes at_most =
    elim (cases_lt (head_of b) (head_of a)) [
      | inl less ↦ absurd (not_both b a (head_less b a b_bytes a_bytes less) at_most)
      | inr not_less ↦ not_less
    ]

pub length-first_eight : (a : List ℕ) → length (first_eight a) ≡ 8
length-first_eight a =
    omega (arith, length-take 8 (a ++ replicate 8 0), length-append a (replicate 8 0))

first_eight-bytes : (a : List ℕ) → IsBytes a → (i : ℕ) → get_or (first_eight a) i 0 < 256
first_eight-bytes a bytes i =
    let all_bytes : IsBytes (first_eight a) =
    All-take IsByte 8 (a ++ replicate 8 0)
    (All-append IsByte a (replicate 8 0) bytes (All-replicate IsByte 8 0 (omega arith))) in
    elim (cases_lt i (length (first_eight a))) [
      | inl inside ↦ All-get_or IsByte (first_eight a) i 0 inside all_bytes
      | inr past ↦ omega (arith, get_or_past (first_eight a) i 0 past)
    ]

-- fewer than eight bytes, and zeros for those that are missing
filled_up_short : (missing : ℕ) (a : List ℕ) → length a + missing ≡ 8
    → a ++ drop (length a) (replicate 8 0) ≡ first_eight a
filled_up_short missing a eight =
    let left : 8 - length a ≡ missing = omega arith in
    let few : missing ≤ 8 = omega arith in
    let taken : take missing (replicate 8 0) ≡ replicate missing 0 = take-replicate missing 8 0 few in
    ap (λ zeros. a ++ zeros) (drop-replicate (length a) 8 0 ∙ ap (λ k. replicate k 0) left ∙ sym taken)
    ∙ sym (take-append-add a (replicate 8 0) missing) ∙ ap (λ k. take k (a ++ replicate 8 0)) eight

-- as many of the bytes as there are, up to eight, and zeros after them
pub filled_up : (n : ℕ) (a : List ℕ) → n ≡ min (length a) 8 → take n a ++ drop n (replicate 8 0) ≡ first_eight a
filled_up n a is = elim (cases_lt 8 (length a)) [
  | inl long ↦
      let all : n ≡ 8 = omega arith in
      ap (λ k. take k a ++ drop k (replicate 8 0)) all ∙ append-nil (take 8 a)
      ∙ sym (take-append-le 8 a (replicate 8 0) (omega arith))
  | inr short ↦
      let all : n ≡ length a = omega arith in
      ap (λ k. take k a ++ drop k (replicate 8 0)) all
      ∙ ap (λ l. l ++ drop (length a) (replicate 8 0)) (take_all (length a) a (omega arith))
      ∙ filled_up_short (8 - length a) a (omega arith)
]

-- the first eight bytes, written anew from the head
pub head_of-bytes : (a : List ℕ) → IsBytes a → to_be_bytes w64 (head_of a) ≡ first_eight a
unfolding head_of
head_of-bytes a bytes =
    be_bytes_8 (first_eight a) (head_of a) (length-first_eight a) (first_eight-bytes a bytes) refl

-- keys of one head have the same first eight bytes, with zeros for those that are missing
pub head_same : (a b : List ℕ) → IsBytes a → IsBytes b → head_of a ≡ head_of b
    → first_eight a ≡ first_eight b
head_same a b a_bytes b_bytes same =
    sym (head_of-bytes a a_bytes) ∙ ap (to_be_bytes w64) same ∙ head_of-bytes b b_bytes

pub head_same_long : (a b : List ℕ) → IsBytes a → IsBytes b → head_of a ≡ head_of b
    → 8 ≤ length a → 8 ≤ length b → take 8 a ≡ take 8 b
head_same_long a b a_bytes b_bytes same a_long b_long =
    sym (take-append-le 8 a (replicate 8 0) a_long) ∙ head_same a b a_bytes b_bytes same
    ∙ take-append-le 8 b (replicate 8 0) b_long

-- lists that agree at each of the first places begin the same way
pub have_same_begin : (n : ℕ) (a b : List ℕ) → n ≤ length a → n ≤ length b
    → ((k : ℕ) → k < n → slice_index a k ≡ slice_index b k) → take n a ≡ take n b
have_same_begin n a b in_a in_b same =
    let a_length : length (take n a) ≡ n = length-take-le n a in_a in
    let b_length : length (take n b) ≡ n = length-take-le n b in_b in
    let same_at : (i : ℕ) → i < n → get_or (take n a) i 0 ≡ get_or (take n b) i 0 =
    λ i in_n. get_or-take n a i 0 in_n ∙ same i in_n ∙ sym (get_or-take n b i 0 in_n) in
    ext_get_or 0 (take n a) (take n b) (a_length ∙ sym b_length) (λ i below. same_at i (omega arith))

-- keys that begin the same way are compared by what stands after
pub after_common : (n : ℕ) (a b : List ℕ) → n ≤ length a → n ≤ length b → take n a ≡ take n b
    → is_before a b ≡ is_before (drop n a) (drop n b)
after_common zero a b in_a in_b same = refl
after_common (suc n) [] b in_a in_b same = absurd (omega arith)
after_common (suc n) (x ∷ a) [] in_a in_b same = absurd (omega arith)
after_common (suc n) (x ∷ a) (y ∷ b) in_a in_b same =
    let first : x ≡ y = cc in
    let others : take n a ≡ take n b = cc in
    rw (← first) (before_after_first x a b) ∙ after_common n a b (omega arith) (omega arith) others

-- a key that ends where another continues comes before it
pub after_shorter : (n : ℕ) (a b : List ℕ) → length a ≡ n → n < length b → take n a ≡ take n b → IsBefore a b
after_shorter n a b a_length in_b same =
    after_common n a b (omega arith) (omega arith) same
    ∙ ap (λ rest. is_before rest (drop n b)) (drop_of_length-le a (omega arith))
    ∙ ap (λ rest. is_before [] rest) (drop_more b n 0 in_b)

-- the first bytes that differ decide
pub after_differing : (n : ℕ) (a b : List ℕ) → n < length a → n < length b → take n a ≡ take n b
    → slice_index a n < slice_index b n → IsBefore a b
after_differing n a b in_a in_b same less =
    after_common n a b (omega arith) (omega arith) same
    ∙ ap (λ rest. is_before rest (drop n b)) (drop_more a n 0 in_a)
    ∙ ap (λ rest. is_before (get_or a n 0 ∷ drop (n + 1) a) rest) (drop_more b n 0 in_b)
    ∙ before_by_first (get_or a n 0) (get_or b n 0) (drop (n + 1) a) (drop (n + 1) b) less
