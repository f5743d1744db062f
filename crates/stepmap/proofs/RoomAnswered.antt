-- Whether room can be made with a later edge: what is counted says it.
use Rattle.std.proofs.Common.{◌≡◌, ℕ, ◌+◌, ◌*◌, ◌<◌, Bool, true, false, List, [], length, refl, sym, ◌∙◌, inl, inr, arith}
use Rattle.std.specs.Prelude.{ℤ, ◌≤ℤ◌, ◌↔◌, nat_le, IsTrue}
use Rattle.keys.proofs.callers.Booleans.{true_or_false}
use Rattle.keyspace.specs.Writes.{Write}
use Rattle.stepmap.specs.StepMap.{Steps, AreSteps}
use Rattle.stepmap.specs.Limit.{HasRoomFor, after_round, made_room, unexpired_all}
use Rattle.stepmap.specs.Rooted.{Rooted}
use Rattle.stepmap.specs.Counting.{live_count}
use Rattle.stepmap.proofs.Changes.{raise_keeps}
use Rattle.stepmap.proofs.Preparing.{room_if, no_room_if, room_stays, full_bound}

module _ (ranges : ℕ) (m : Steps) where
  -- without a sweep
  pub answered_at_once : nat_le (length m.boundaries + 2 * ranges) m.limit ≡ true → HasRoomFor ranges (made_room ranges m)
  answered_at_once room = room_stays ranges m (room_if ranges m room)

  -- by what a complete round would leave
  pub answered_by_round : nat_le (length m.boundaries + 2 * ranges) m.limit ≡ false
      → (after : Bool) → after ≡ nat_le (length (unexpired_all m.edge m.boundaries) + 2 * ranges) m.limit
      → IsTrue after ↔ HasRoomFor ranges (made_room ranges m)
  answered_by_round full after is = rw full (
    λ t. room_if ranges (after_round m) (sym is ∙ t),
    λ room. elim (true_or_false after) [
      | inl t ↦ t
      | inr f ↦ absurd (no_room_if ranges (after_round m) (sym is ∙ f) room)
    ],
  )

-- where room can't be made, live writes are too many
pub answered_bound : (ranges : ℕ) (old : Steps) (edge : ℤ) → AreSteps old → old.edge ≤ℤ edge
    → ¬ HasRoomFor ranges (made_room ranges (record old { edge = edge })) → (ws : List Write) → Rooted old ws
    → old.limit < 1 + 2 * (live_count edge ws + ranges)
answered_bound ranges old edge h late none ws rooted =
    let keeps = raise_keeps edge old h late (record old { edge = edge }) refl in
    full_bound ranges (record old { edge = edge }) keeps.steps none ws (keeps.rooted ws rooted)
