-- A node is put at its slot, and then its right neighbour in a spare one.
use Rattle.std.proofs.Common.{◌≡◌, ℕ, [], ◌∷◌, refl, ◌∙◌, arith}
use Rattle.boundaries.proofs.Words.{Arena, IsLive, record_at, with_header, Node, entries_of, Changes, IsKeyless, entries_at}
use Rattle.boundaries.proofs.Changing.{changes_if_moves, moves_beside, moves_if_changes, moves_trans}
use Rattle.boundaries.proofs.Frames.{entries_same, live_same}
use Rattle.boundaries.proofs.Placing.{live_one, put_entries, put_live, put_moves}

module _ (a b z : Arena Node) (x y : ℕ) (left : Node) (put : b ≡ with_header a x left)
    (placed : Changes b z [] (y ∷ [])) where
  kept : record_at z x ≡ record_at b x
  kept = (moves_if_changes b z [] (y ∷ []) placed).others x refl (put_live a b x left put)

  pub left_entries : entries_at z x ≡ entries_of left
  left_entries = entries_same b z x kept ∙ put_entries a b x left put

  pub left_live : IsLive z x
  left_live = live_same b z x kept (put_live a b x left put)

  pub both_changes : IsLive a x → IsKeyless a → Changes a z (x ∷ []) (x ∷ y ∷ [])
  both_changes live keyless =
      let first = put_moves a b x left put live keyless in
      changes_if_moves a z (x ∷ []) (x ∷ y ∷ [])
      (moves_trans a b z (x ∷ []) (x ∷ []) (x ∷ y ∷ []) first
      (moves_beside b z [] (y ∷ []) (x ∷ []) (x ∷ []) (x ∷ y ∷ [])
      (moves_if_changes b z [] (y ∷ []) placed) (λ s. omega arith) (λ s. omega arith)
      (omega arith) (omega arith) first.few (live_one b x (put_live a b x left put))))
