-- Lemmas for callers: ranges that hold one key each.
use Rattle.std.proofs.Common.{◌≡◌, false, sym, ap, ◌∙◌, subst}
use Rattle.std.specs.Prelude.{ℕ, Some, IsTrue}
use Rattle.keys.specs.Hash.{hash_of, IsHashOf}
use Rattle.keys.specs.Key.{IsBefore}
use Rattle.keys.specs.Range.{IsSingle, ranges_meet}
use Rattle.keys.specs.declared.range.Range.{Range}
use Rattle.keys.proofs.SingleKeys.{before_next}
use Rattle.keys.proofs.callers.Booleans.{false_unless}
use Rattle.keys.proofs.callers.KeyOrder.{at_most_antisym}
use Rattle.keys.proofs.callers.Meeting.{meets_from_test, meets_by_ends}

-- two such ranges that overlap hold the same key
pub meeting_singles : (a b : Range) → IsSingle a → IsSingle b → IsTrue (ranges_meet a b) → a.begin ≡ b.begin
meeting_singles a b single_a single_b meet =
    let ends = (meets_by_ends a b).0 (meets_from_test a b meet) in
    at_most_antisym a.begin b.begin
    (sym (before_next a.begin b.begin) ∙ subst (IsBefore a.begin) single_b ends.2)
    (sym (before_next b.begin a.begin) ∙ subst (IsBefore b.begin) single_a ends.3)

-- with different hashes they don't overlap
pub apart_by_hashes : (a b : Range) (hash other : ℕ) → IsHashOf a (Some hash) → IsHashOf b (Some other)
    → (hash ≡ other → ⊥) → ranges_meet a b ≡ false
apart_by_hashes a b hash other of_a of_b differ =
    false_unless (ranges_meet a b)
    (λ meet. differ (of_a.1 ∙ ap hash_of (meeting_singles a b of_a.0 of_b.0 meet) ∙ sym of_b.1))
