-- What a sweep has passed, and the writes from which it comes.
use Rattle.std.proofs.Common.{◌≡◌, ◌≢◌, ℕ, false, not, cond, List, [], ◌∷◌, subst, inl, inr}
use Rattle.std.specs.Prelude.{ℤ, All}
use Rattle.std.proofs.lemmas.List.Elements.{All-head, All-tail, All-cons, All-nil}
use Rattle.keys.specs.Key.{is_before}
use Rattle.keyspace.specs.Writes.{Write}
use Rattle.keys.proofs.callers.Booleans.{true_or_false, and_right, false_unless, not_both_ways}
use Rattle.keys.proofs.callers.KeyOrder.{not_before_if}
use Rattle.boundaries.specs.Boundary.{Boundary, below}
use Rattle.boundaries.specs.Swept.{is_left, passed_to}
use Rattle.stepmap.specs.Rooted.{IsEndOf, Ends}
use Rattle.boundaries.proofs.callers.Order.{empty_unless_after}

-- what was passed comes before the cursor, but for the empty key
pub ends_passed : (ws : List Write) (e : ℤ) (cursor : List ℕ) (bs : List Boundary)
    → Ends (below cursor bs) ws e → Ends (passed_to cursor bs) ws e
ends_passed ws e cursor [] h = All-nil (λ b. b.key ≢ [] → IsEndOf ws e b.key)
ends_passed ws e cursor (b ∷ bs) h =
    let P : Boundary → Type 0 = λ b. b.key ≢ [] → IsEndOf ws e b.key in
    elim (true_or_false (is_before b.key cursor)) [
      | inl t ↦
          let k : All P (b ∷ below cursor bs) =
          subst (λ v. All P (cond v (b ∷ below cursor bs) (below cursor bs))) t h in
          let f : is_left cursor b ≡ false =
          false_unless (is_left cursor b)
          (λ l. not_both_ways _ t
          (not_before_if cursor b.key (and_right (is_before [] b.key) (not (is_before b.key cursor)) l)))
          in
          rw f (All-cons P b (passed_to cursor bs) (All-head P b (below cursor bs) k)
          (ends_passed ws e cursor bs (All-tail P b (below cursor bs) k)))
      | inr f ↦
          let k : All P (below cursor bs) =
          subst (λ v. All P (cond v (b ∷ below cursor bs) (below cursor bs))) f h in
          let ih = ends_passed ws e cursor bs k in
          elim (true_or_false (is_before [] b.key)) [
            | inl t ↦ rw (t, f) ih
            | inr g ↦ rw g
                (All-cons P b (passed_to cursor bs) (λ n. absurd (n (empty_unless_after b.key g))) ih)
          ]
    ]
