-- What a write to one slot of an arena changes.
use Rattle.std.proofs.Common.{◌≡◌, ◌≢◌, ◌⊎◌, inl, inr, ℕ, zero, suc, ◌/◌, ◌%◌, ◌<◌, List, [], ◌∷◌, length, set, slice_get, Some, option_map, refl, sym, ap, subst, ◌∙◌, arith, length-set}
use Rattle.std.proofs.lemmas.Option.{slice_get_within}
use Rattle.std.specs.Option.{option_and_then}
use Rattle.arena.specs.Arena.{Record}
use Rattle.arena.specs.Chunk.{Chunk}
use Rattle.arena.specs.Kept.{cell_at, size_at}
use Rattle.arena.specs.Entry.{Entry}

pub same_or_other : (a b : ℕ) → (a ≡ b) ⊎ (a ≢ b)
same_or_other a b = grind arith

-- what holds at one number and at every other
pub at_each : (P : ℕ → Type 0) (own n : ℕ) → P own → (n ≢ own → P n) → P n
at_each P own n here others = by_case (same_or_other n own)
  where
    by_case : (n ≡ own) ⊎ (n ≢ own) → P n
    by_case (inl same) = subst P (sym same) here
    by_case (inr other) = others other

module _ {X : Type 0} where
  pub slice_get-set_same : (xs : List X) (i : ℕ) (x : X) → i < length xs → slice_get (set xs i x) i ≡ Some x
  slice_get-set_same [] i x within = absurd (omega arith)
  slice_get-set_same (y ∷ xs) zero x within = refl
  slice_get-set_same (y ∷ xs) (suc i) x within = slice_get-set_same xs i x (omega arith)

  pub slice_get-set_other : (xs : List X) (i j : ℕ) (x : X) → j ≢ i
      → slice_get (set xs i x) j ≡ slice_get xs j
  slice_get-set_other [] i j x other = refl
  slice_get-set_other (y ∷ xs) zero zero x other = absurd (other refl)
  slice_get-set_other (y ∷ xs) zero (suc j) x other = refl
  slice_get-set_other (y ∷ xs) (suc i) zero x other = refl
  slice_get-set_other (y ∷ xs) (suc i) (suc j) x other = slice_get-set_other xs i j x (λ e. other (ap suc e))

module _ {H : Type 0} where
  -- one slot holds this now, and no other slot or size changed
  pub record Writes (old new : List (Chunk H)) (slot : ℕ) (cell : Entry (Record H)) : Type 0 where
    pub count : length new ≡ length old
    pub sizes : (q : ℕ) → size_at new q ≡ size_at old q
    pub here : cell_at new slot ≡ Some cell
    pub others : (q : ℕ) → q ≢ slot → cell_at new q ≡ cell_at old q

  -- the chunk with this in a slot
  abbrev pub with_cell : Chunk H → ℕ → Entry (Record H) → Chunk H
  with_cell c index cell = record c { cells = set c.cells index cell }

  pub Writes-set : (chunks : List (Chunk H)) (slot : ℕ) (c : Chunk H) (cell : Entry (Record H))
      → slice_get chunks (slot / 512) ≡ Some c → slot % 512 < length c.cells
      → Writes chunks (set chunks (slot / 512) (with_cell c (slot % 512) cell)) slot cell
  Writes-set chunks slot c cell found within =
      record {
        count = length-set chunks (slot / 512) changed;
        sizes = λ q. by_chunk_size q (same_or_other (q / 512) (slot / 512));
        here = at_chunk slot refl ∙ slice_get-set_same c.cells (slot % 512) cell within;
        others = λ q other. by_chunk q other (same_or_other (q / 512) (slot / 512));
      }
    where
      changed : Chunk H
      changed = with_cell c (slot % 512) cell

      written : slice_get (set chunks (slot / 512) changed) (slot / 512) ≡ Some changed
      written = slice_get-set_same chunks (slot / 512) changed (slice_get_within chunks (slot / 512) c found)

      at_chunk : (q : ℕ) → q / 512 ≡ slot / 512
          → cell_at (set chunks (slot / 512) changed) q ≡ slice_get changed.cells (q % 512)
      at_chunk q same =
          ap (option_and_then (λ c. slice_get c.cells (q % 512)))
          (ap (slice_get (set chunks (slot / 512) changed)) same ∙ written)

      was_at : (q : ℕ) → q / 512 ≡ slot / 512 → slice_get chunks (q / 512) ≡ Some c
      was_at q same = ap (slice_get chunks) same ∙ found

      by_chunk_size : (q : ℕ) → (q / 512 ≡ slot / 512) ⊎ (q / 512 ≢ slot / 512)
          → size_at (set chunks (slot / 512) changed) q ≡ size_at chunks q
      by_chunk_size q (inl same) =
          ap (option_map (λ c. c.size)) (ap (slice_get (set chunks (slot / 512) changed)) same ∙ written)
          ∙ sym (ap (option_map (λ c. c.size)) (was_at q same))
      by_chunk_size q (inr other) =
          ap (option_map (λ c. c.size)) (slice_get-set_other chunks (slot / 512) (q / 512) changed other)

      by_chunk : (q : ℕ) → q ≢ slot → (q / 512 ≡ slot / 512) ⊎ (q / 512 ≢ slot / 512)
          → cell_at (set chunks (slot / 512) changed) q ≡ cell_at chunks q
      by_chunk q other (inl same) =
          let apart : q % 512 ≢ slot % 512 = λ e. other (omega arith) in
          at_chunk q same ∙ slice_get-set_other c.cells (slot % 512) (q % 512) cell apart
          ∙ sym (ap (option_and_then (λ c. slice_get c.cells (q % 512))) (was_at q same))
      by_chunk q other (inr apart) =
          ap (option_and_then (λ c. slice_get c.cells (q % 512)))
          (slice_get-set_other chunks (slot / 512) (q / 512) changed apart)
