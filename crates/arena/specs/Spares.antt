-- Which slots are spare. No public clause cites this module.
use Rattle.std.specs.Prelude.{ℕ, zero, suc, ◌+◌, List, [], ◌∷◌, ◌++◌, length, map, replicate, slice_index_or}
use Rattle.arena.specs.declared.size.TheConstants.{SIZES}

-- the spare slots of one size, and how many slots of that size there are at most
pub record Spare : Type 0 where
  pub slots : List ℕ
  pub total : ℕ

abbrev pub none : Spare
none = record { slots = []; total = 0 }

-- what the ten sizes have, which is none before lists are made
abbrev pub of_sizes : List Spare → List Spare
of_sizes [] = replicate SIZES none
of_sizes (s ∷ ss) = s ∷ ss

abbrev pub spare_at : List Spare → ℕ → Spare
spare_at spares size = slice_index_or spares size none

abbrev pub counts_of : List Spare → List ℕ
counts_of spares = map (λ s. length s.slots) spares

-- n slots in a row, from the last down to the first, after the existing ones
abbrev pub with_row : List ℕ → ℕ → ℕ → List ℕ
with_row slots first zero = slots
with_row slots first (suc k) = with_row slots (suc first) k ++ first ∷ []

-- the same of a size
abbrev pub with_chunk : Spare → ℕ → ℕ → Spare
with_chunk s first count = record { slots = with_row s.slots first count; total = s.total + count }

-- one more that is spare
abbrev pub with_slot : Spare → ℕ → Spare
with_slot s slot = record s { slots = s.slots ++ slot ∷ [] }
