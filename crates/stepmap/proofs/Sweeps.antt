-- A whole sweep of a step map: the writes from which its boundaries come.
use Rattle.std.proofs.Common.{◌≢◌, ℕ, List, [], ◌++◌, subst, inl, refl}
use Rattle.std.specs.Prelude.{ℤ, negsuc, ◌≤ℤ◌}
use Rattle.std.proofs.lemmas.List.Elements.{All-append}
use Rattle.keyspace.specs.Writes.{Write}
use Rattle.boundaries.specs.Boundary.{Boundary, AreInOrder, below}
use Rattle.boundaries.specs.Swept.{unexpired_boundaries, passed_to}
use Rattle.stepmap.specs.Rooted.{IsEndOf, Ends, AreRooted}
use Rattle.boundaries.proofs.callers.Sweeps.{new_of, last_passed, looked, unseen, in_parts}
use Rattle.stepmap.proofs.Rooting.{rooted_front, rooted_back, rooted_join}
use Rattle.stepmap.proofs.Removal.{unexpired_rooted, unexpired_ends}
use Rattle.stepmap.proofs.Looking.{ends_passed}

module _ (edge : ℤ) (cursor : List ℕ) (count : ℕ) where
  pub swept_rooted : (ws : List Write) (bs : List Boundary) → AreInOrder bs → AreRooted ws edge (negsuc 0) bs
      → AreRooted ws edge (negsuc 0) (new_of edge cursor count bs)
  swept_rooted ws bs o r =
      let passed = passed_to cursor bs in
      let parts = subst (AreRooted ws edge (negsuc 0)) (in_parts edge cursor count bs o) r in
      rooted_join ws edge (negsuc 0) passed (unexpired_boundaries edge (last_passed edge cursor count bs) (looked edge cursor count bs) ++ unseen edge cursor count bs)
      (rooted_front ws edge (negsuc 0) passed (looked edge cursor count bs ++ unseen edge cursor count bs) parts)
      (unexpired_rooted ws edge (last_passed edge cursor count bs) (last_passed edge cursor count bs) (looked edge cursor count bs) (unseen edge cursor count bs) (inl refl)
      (rooted_back ws edge (negsuc 0) passed (looked edge cursor count bs ++ unseen edge cursor count bs) parts))

  -- what the round has passed afterwards comes from writes at or above the edge with which it began
  pub passed_now_ends : (ws : List Write) (e : ℤ) (bs : List Boundary) → AreInOrder bs → e ≤ℤ edge
      → AreRooted ws edge (negsuc 0) bs → Ends (below cursor bs) ws e
      → Ends (passed_to cursor bs ++ unexpired_boundaries edge (last_passed edge cursor count bs) (looked edge cursor count bs)) ws e
  passed_now_ends ws e bs o le r h =
      let passed = passed_to cursor bs in
      let parts = subst (AreRooted ws edge (negsuc 0)) (in_parts edge cursor count bs o) r in
      All-append (λ b. b.key ≢ []
      → IsEndOf ws e b.key) passed (unexpired_boundaries edge (last_passed edge cursor count bs) (looked edge cursor count bs))
      (ends_passed ws e cursor bs h)
      (unexpired_ends ws edge e (last_passed edge cursor count bs) (looked edge cursor count bs) le
      (rooted_front ws edge (last_passed edge cursor count bs) (looked edge cursor count bs) (unseen edge cursor count bs)
      (rooted_back ws edge (negsuc 0) passed (looked edge cursor count bs ++ unseen edge cursor count bs) parts)))
