-- What the bytes with which a key and the target begin, and the heads of what stands behind, tell of the two.
use Rattle.std.proofs.Common.{◌≡◌, ◌≢◌, ℕ, zero, suc, ◌+◌, ◌-◌, ◌/◌, ◌%◌, ◌<◌, ◌≤◌, Bool, nat_lt, List, [], ◌∷◌, ◌++◌, length, get_or, take, drop, replicate, slice_index, refl, sym, ap, ◌∙◌, inl, inr, arith, length-take, get_or-take, take-add}
use Rattle.std.specs.Int.{w32, w64, to_be_bytes, from_be_bytes}
use Rattle.std.proofs.lemmas.Bool.{cases_lt}
use Rattle.std.proofs.lemmas.Bool.Decides.{nat_tests}
use Rattle.std.proofs.lemmas.List.{take-take, take-append-le, take_all, take_more_same, drop-take, length-drop, get_or_append_left}
use Rattle.std.proofs.lemmas.List.Elements.{All-drop}
use Rattle.keys.specs.Key.{IsBytes, IsBefore}
use Rattle.keys.specs.Head.{first_eight, head_of}
use Rattle.keys.proofs.callers.KeyHeads.{head_less, head_of-bytes, after_common, after_shorter, after_differing}
use Rattle.boundaries.specs.Heads.{head_after, IsBelowInOrder, IsCommonPrefixLen}

pub take_fewer : (m n : ℕ) (a b : List ℕ) → m ≤ n → take n a ≡ take n b → take m a ≡ take m b
take_fewer m n a b le same = cc (take-take m n a le, take-take m n b le)

same_at : (i n : ℕ) (a b : List ℕ) → i < n → take n a ≡ take n b → get_or a i 0 ≡ get_or b i 0
same_at i n a b less same = cc (get_or-take n a i 0 less, get_or-take n b i 0 less)

-- The second one has as many bytes.
as_long : (n : ℕ) (a b : List ℕ) → n ≤ length a → take n a ≡ take n b → n ≤ length b
as_long n a b long same = omega (arith, ap length same, length-take n a, length-take n b)

-- the head of the empty key
pub empty_head : (prefix_len : ℕ) → head_after prefix_len [] ≡ 0
unfolding head_of
empty_head zero = refl
empty_head (suc prefix_len) = refl

-- It comes before the target, if that has another head
pub empty_before : (prefix_len : ℕ) (target : List ℕ) → head_after prefix_len target ≢ 0 → IsBefore [] target
empty_before prefix_len [] differ = absurd (differ (empty_head prefix_len))
empty_before prefix_len (x ∷ xs) differ = refl

-- or isn't before a key that isn't empty.
pub empty_before_too : (text target : List ℕ) → 0 < length text → (IsBefore target text → ⊥) → IsBefore [] target
empty_before_too [] target some not_after = absurd (omega arith)
empty_before_too (y ∷ ys) [] some not_after = absurd (not_after refl)
empty_before_too (y ∷ ys) (x ∷ xs) some not_after = refl

-- Nothing is told of how far the empty key begins as the target.
pub describes_empty : (common_prefix_len : ℕ) (target : List ℕ) → IsCommonPrefixLen common_prefix_len [] target
describes_empty common_prefix_len target zero within = ((λ le. refl), (λ have_prefix. omega arith))
describes_empty common_prefix_len target (suc count) within = absurd (omega arith)

module _ (common_prefix_len n : ℕ) (first text target : List ℕ) (less : common_prefix_len < n) (first_long : n ≤ length first)
    (text_long : n ≤ length text) (same : take n text ≡ take n first)
    (describes : IsCommonPrefixLen common_prefix_len first target) (not_after : IsBefore target first → ⊥) where
  -- Where the first key isn't behind the target, and differs from it before all keys' common beginning ends, the other keys come
  -- before it, and the target begins as they do just as far.
  pub too : IsBefore text target × IsCommonPrefixLen common_prefix_len text target
  too =
      let first_same = (describes common_prefix_len (omega arith)).0 (omega arith) in
      let text_same = take_fewer common_prefix_len n text first (omega arith) same in
      let long = as_long common_prefix_len first target (omega arith) first_same in
      let at = same_at common_prefix_len n text first less same in
      let before = after_differing common_prefix_len text target in
      let following = after_differing common_prefix_len target first in
      let more = describes (common_prefix_len + 1) in (
        grind (arith, before, following, more, after_shorter common_prefix_len target first, take_more_same first target common_prefix_len 0),
        λ count within. (
          (λ le. grind (arith, take_fewer count n text first, describes count)),
          (λ have_prefix. grind (arith, take_fewer (common_prefix_len + 1) n first text, take_fewer (common_prefix_len + 1) count text target, more)),
        ),
      )

-- The upper half of a number is written with its first four bytes.
pub upper_half : (h : ℕ) → to_be_bytes w32 (h / 4294967296) ≡ take 4 (to_be_bytes w64 h)
upper_half h =
    let a : h / 4294967296 / 16777216 % 256 ≡ h / 72057594037927936 % 256 = omega arith in
    let b : h / 4294967296 / 65536 % 256 ≡ h / 281474976710656 % 256 = omega arith in
    let c : h / 4294967296 / 256 % 256 ≡ h / 1099511627776 % 256 = omega arith in
    cc

-- The upper half of a head is the number that the first four bytes make, with zeros for those that are missing.
head_number : (a : List ℕ) → IsBytes a → head_of a / 4294967296 ≡ from_be_bytes w32 (take 4 (first_eight a))
unfolding head_of
head_number a bytes =
    let b = λ (i : ℕ). ap (λ (l : List ℕ). get_or l i 0) (head_of-bytes a bytes) in
    let same = λ (i : ℕ) (inside : i < 4). get_or-take 4 (first_eight a) i 0 inside in
    omega (arith, b 0, b 1, b 2, b 3, b 4, b 5, b 6, b 7, same 0 (omega arith), same 1 (omega arith), same 2 (omega arith), same 3 (omega arith))

-- It is written with these bytes.
head_four : (a : List ℕ) → IsBytes a → to_be_bytes w32 (head_of a / 4294967296) ≡ take 4 (first_eight a)
head_four a bytes = upper_half (head_of a) ∙ ap (take 4) (head_of-bytes a bytes)

take-first_eight : (n : ℕ) (a : List ℕ) → n ≤ 8 → n ≤ length a → take n (first_eight a) ≡ take n a
take-first_eight n a few within = cc (take-take n 8 (a ++ replicate 8 0) few, take-append-le n a (replicate 8 0) within)

-- Two byte strings begin alike as far as their first eight bytes do, zeros for those that are missing, if the first one isn't
-- the later one.
equal_in_eight : (m : ℕ) (a b : List ℕ) → m < 8 → take m (first_eight a) ≡ take m (first_eight b)
    → get_or (first_eight a) m 0 ≢ get_or (first_eight b) m 0 → (IsBefore b a → ⊥) → IsCommonPrefixLen m a b
equal_in_eight m a b few same differ not_after count within =
    let both : (n : ℕ) → n ≤ m → n ≤ length a → n ≤ length b → take n a ≡ take n b = λ n le in_a in_b.
    cc (take_fewer n m _ _ le same, take-first_eight n a (omega arith) in_a, take-first_eight n b (omega arith) in_b) in (
      (λ le. grind (arith, both (length b), both count, after_shorter (length b) b a refl)),
      (λ have_prefix.
          let own : (c : List ℕ) → m < length c → get_or (first_eight c) m 0 ≡ get_or c m 0 = λ c in_c.
          cc (get_or-take 8 (c ++ replicate 8 0) m 0 few, get_or_append_left c (replicate 8 0) 0 m in_c) in
          grind (arith, as_long count a b within have_prefix, same_at m count a b, own a, own b)),
    )

-- How far two byte strings begin alike is told by what stands behind a common beginning.
common_with_after : (prefix_len m : ℕ) (a b : List ℕ) → prefix_len ≤ length a → take prefix_len a ≡ take prefix_len b
    → IsCommonPrefixLen m (drop prefix_len a) (drop prefix_len b) → IsCommonPrefixLen (prefix_len + m) a b
common_with_after prefix_len m a b long same describes count within =
    let n = count - prefix_len in
    let answered = describes n (omega (arith, length-drop prefix_len a)) in (
      (λ le. grind (arith, answered, take_fewer count prefix_len a b, take-add prefix_len n a, take-add prefix_len n b)),
      (λ have_prefix. grind (arith, answered, drop-take prefix_len n a, drop-take prefix_len n b)),
    )

-- a key and the target that begin alike, but have other heads behind that
module _ (n : ℕ) (text target : List ℕ) (text_bytes : IsBytes text) (target_bytes : IsBytes target)
    (long : n ≤ length text) (same : take n text ≡ take n target)
    (apart : head_after n text ≢ head_after n target) where
  abbrev rest : List ℕ → List ℕ
  rest bytes = drop n bytes

  target_long : n ≤ length target
  target_long = as_long n text target long same

  -- the heads tell whether the key is below the bound
  pub answered_by_heads : (is_below : Bool) → IsBelowInOrder text target is_below
      → nat_lt (head_after n text) (head_after n target) ≡ is_below
  answered_by_heads is_below order =
      let t = All-drop (λ byte. byte < 256) n text text_bytes in
      let s = All-drop (λ byte. byte < 256) n target target_bytes in
      let before = after_common n text target long target_long same in
      let following = after_common n target text target_long long (sym same) in
      let less : head_after n text < head_after n target → IsBefore (rest text) (rest target) =
      λ below. head_less (rest text) (rest target) t s (omega (arith, below)) in
      let more : head_after n target < head_after n text → IsBefore (rest target) (rest text) =
      λ above. head_less (rest target) (rest text) s t (omega (arith, above)) in
      grind (arith, nat_tests, less, more, order)

  -- If the key isn't behind the target, the two begin alike as far as the bytes of the heads do.
  pub common_by_heads : (m : ℕ) → m ≤ 4
      → take m (to_be_bytes w32 (head_after n text)) ≡ take m (to_be_bytes w32 (head_after n target))
      → (m < 4
      → slice_index (to_be_bytes w32 (head_after n text)) m ≢ slice_index (to_be_bytes w32 (head_after n target)) m)
      → (IsBefore target text → ⊥) → IsCommonPrefixLen (n + m) text target
  common_by_heads m few have_prefix differ not_after =
      let t = All-drop (λ byte. byte < 256) n text text_bytes in
      let s = All-drop (λ byte. byte < 256) n target target_bytes in
      let four : take m (take 4 (first_eight (rest text))) ≡ take m (take 4 (first_eight (rest target))) =
      ap (take m) (sym (head_four (rest text) t)) ∙ have_prefix ∙ ap (take m) (head_four (rest target) s) in
      elim (cases_lt m 4) [
        | inr many ↦
            let entire : m ≡ 4 = omega (arith, many, few) in
            let all = λ (a : List ℕ). take_all m (take 4 (first_eight a)) (omega (arith, length-take 4 (first_eight a))) in
            let same = sym (all (rest text)) ∙ four ∙ all (rest target) in
            absurd (apart (head_number (rest text) t ∙ ap (from_be_bytes w32) same ∙ sym (head_number (rest target) s)))
        | inl less ↦
            let eight : take m (first_eight (rest text)) ≡ take m (first_eight (rest target)) =
            sym (take-take m 4 (first_eight (rest text)) few) ∙ four ∙ take-take m 4 (first_eight (rest target)) few in
            let at : (a : List ℕ) → IsBytes a
            → slice_index (to_be_bytes w32 (head_of a / 4294967296)) m ≡ get_or (first_eight a) m 0 =
            λ a a_bytes. ap (λ (l : List ℕ). get_or l m 0) (head_four a a_bytes) ∙ get_or-take 4 (first_eight a) m 0 less in
            common_with_after n m text target long same
            (equal_in_eight m (rest text) (rest target) (omega (arith, less)) eight
            (λ e. differ less (at (rest text) t ∙ e ∙ sym (at (rest target) s)))
            (λ before. not_after (after_common n target text target_long long (sym same) ∙ before)))
      ]
