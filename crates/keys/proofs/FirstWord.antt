-- What heads show about the first eight bytes, if there are that many.
use Rattle.std.proofs.Common.{◌≡◌, ◌≢◌, ℕ, ◌+◌, ◌<◌, ◌≤◌, List, ◌++◌, length, get_or, take, drop, replicate, slice_index, sym, ap, ◌∙◌, get_or-take}
use Rattle.std.specs.Int.{w64, to_be_bytes}
use Rattle.std.proofs.Math.Seq.{take-add}
use Rattle.std.proofs.lemmas.List.{take-append-le, take-take}
use Rattle.keys.specs.Key.{IsBytes}
use Rattle.keys.specs.Head.{head_of}
use Rattle.keys.proofs.callers.KeyHeads.{head_of-bytes}

-- the bytes of the head
word : (a : List ℕ) → IsBytes a → 8 ≤ length a → to_be_bytes w64 (head_of a) ≡ take 8 a
word a bytes long = head_of-bytes a bytes ∙ take-append-le 8 a (replicate 8 0) long

module _ (a b : List ℕ) (a_bytes : IsBytes a) (b_bytes : IsBytes b) (a_long : 8 ≤ length a) (b_long : 8 ≤ length b) (n : ℕ) where
  -- as far as the heads begin the same way
  pub equal_by_heads : n ≤ 8 → take n (to_be_bytes w64 (head_of a)) ≡ take n (to_be_bytes w64 (head_of b)) → take n a ≡ take n b
  equal_by_heads few same =
      sym (take-take n 8 a few) ∙ ap (take n) (sym (word a a_bytes a_long)) ∙ same ∙ ap (take n) (word b b_bytes b_long)
      ∙ take-take n 8 b few

  -- and no further
  pub apart_by_heads : n < 8
      → slice_index (to_be_bytes w64 (head_of a)) n ≢ slice_index (to_be_bytes w64 (head_of b)) n
      → slice_index a n ≢ slice_index b n
  apart_by_heads less differ same =
      differ (ap (λ (l : List ℕ). get_or l n 0) (word a a_bytes a_long) ∙ get_or-take 8 a n 0 less ∙ same
      ∙ sym (get_or-take 8 b n 0 less) ∙ sym (ap (λ (l : List ℕ). get_or l n 0) (word b b_bytes b_long)))

-- What both begin with, and then what stands after it.
take_both : (from n : ℕ) (a b a_rest b_rest : List ℕ) → take from a ≡ take from b → a_rest ≡ drop from a → b_rest ≡ drop from b
    → take n a_rest ≡ take n b_rest → take (from + n) a ≡ take (from + n) b
take_both from n a b a_rest b_rest same a_is b_is rest =
    take-add from n a ∙ ap (λ front. front ++ take n (drop from a)) same
    ∙ ap (λ back. take from b ++ back) (ap (take n) (sym a_is) ∙ rest ∙ ap (take n) b_is) ∙ sym (take-add from n b)

-- The same from fewer than that many bytes on.
pub take_fewer_both : (all from n : ℕ) (a b a_rest b_rest : List ℕ) → take all a ≡ take all b → from ≤ all
    → a_rest ≡ drop from a → b_rest ≡ drop from b → take n a_rest ≡ take n b_rest → take (from + n) a ≡ take (from + n) b
take_fewer_both all from n a b a_rest b_rest same few =
    take_both from n a b a_rest b_rest (sym (take-take from all a few) ∙ ap (take from) same ∙ take-take from all b few)
