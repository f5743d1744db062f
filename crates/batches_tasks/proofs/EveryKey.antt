-- No key comes after the greatest one.
use Rattle.std.proofs.Common.{◌≡◌, ℕ, zero, suc, ◌<◌, ◌≤◌, inl, inr, false, not, List, [], ◌∷◌, length, replicate, refl, sym, ap, subst, ◌∙◌, arith}
use Rattle.std.proofs.lemmas.Bool.{cases_lt}
use Rattle.std.proofs.lemmas.List.{length-replicate}
use Rattle.std.proofs.lemmas.List.Elements.{All-head, All-tail}
use Rattle.keys.specs.declared.key.TheConstants.{MAX_KEY_LENGTH}
use Rattle.keys.specs.declared.range.Range.{Range}
use Rattle.keys.specs.Key.{IsBytes, IsKey, is_before, IsAtMost}
use Rattle.keys.specs.Range.{IsEmpty, Meets}
use Rattle.keys.proofs.callers.KeyHeads.{after_by_first, before_after_first}
use Rattle.keys.proofs.callers.KeyOrder.{before_at_most, at_most_before}
use Rattle.keys.proofs.callers.Meeting.{before_unless_empty, meets_by_ends}
use Rattle.wire.specs.Fields.{RangeFields, range_fields}
use Rattle.batches_tasks.specs.Opening.{greatest_key, every_key}

pub empty_is_first : (key : List ℕ) → IsAtMost [] key
empty_is_first [] = refl
empty_is_first (byte ∷ key) = refl

-- no key of at most that many bytes comes after the greatest one
not_after : (count : ℕ) (key : List ℕ) → IsBytes key → length key ≤ count → is_before (replicate count 255) key ≡ false
not_after zero [] bytes short = refl
not_after zero (byte ∷ key) bytes short = absurd (omega (arith, short))
not_after (suc count) [] bytes short = refl
not_after (suc count) (byte ∷ key) bytes short =
    let others = not_after count key (All-tail (λ b. b < 256) byte key bytes) (omega (arith, short)) in
    elim (cases_lt byte 255) [
      | inl less ↦ after_by_first 255 byte (replicate count 255) key less
      | inr most ↦
          let is : byte ≡ 255 = omega (arith, All-head (λ b. b < 256) byte key bytes, most) in
          subst (λ b. is_before (255 ∷ replicate count 255) (b ∷ key) ≡ false) (sym is)
          (before_after_first 255 (replicate count 255) key ∙ others)
    ]

at_most_greatest : (key : List ℕ) → IsKey key → IsAtMost key greatest_key
unfolding greatest_key
at_most_greatest key is = ap not (not_after MAX_KEY_LENGTH key is.bytes is.short)

pub length-greatest_key : length greatest_key ≡ MAX_KEY_LENGTH
unfolding greatest_key
length-greatest_key = length-replicate {A = ℕ} MAX_KEY_LENGTH 255

filled : (every : Range) → range_fields every ≡ every_key → ¬ IsEmpty every
filled every is empty =
    let begin : every.begin ≡ [] = ap (λ (r : RangeFields). r.begin) is in
    let end : every.end ≡ greatest_key = ap (λ (r : RangeFields). r.end) is in
    let none = ap (λ (key : List ℕ). length key) (sym begin ∙ empty ∙ end) ∙ length-greatest_key in
    absurd (omega (arith, none))

-- a range that isn't empty overlaps that of every key
pub meets_every_range : (every range : Range) → range_fields every ≡ every_key → ¬ IsEmpty range → Meets every range
meets_every_range every range is some =
    let begin : every.begin ≡ [] = ap (λ (r : RangeFields). r.begin) is in
    let end : every.end ≡ greatest_key = ap (λ (r : RangeFields). r.end) is in
    let in_order = before_unless_empty range some in
    let starts = subst (λ (key : List ℕ). IsAtMost key range.begin) (sym begin) (empty_is_first range.begin) in
    let ends = subst (λ (key : List ℕ). IsAtMost range.end key) (sym end) (at_most_greatest range.end range.end_is_key) in
    (meets_by_ends every range).1 (
      filled every is,
      some,
      at_most_before every.begin range.begin range.end starts in_order,
      before_at_most range.begin range.end every.end in_order ends,
    )
