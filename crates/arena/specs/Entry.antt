-- What the slots of a chunk hold. No public clause cites this module.
use Rattle.std.specs.Prelude.{◌≡◌, ℕ, List, Option, Some, None, slice_get}
use Rattle.std.specs.Option.{option_and_then}

-- what a slot holds
pub data Entry (T : Type 0) : Type 0 where
  Free : Entry T
  Live : T → Entry T

module _ {T : Type 0} where
  -- what a live slot holds
  abbrev pub held : Entry T → Option T
  held Free = None
  held (Live x) = Some x

  -- what the slot at an index holds, if it is live
  abbrev pub held_at : List (Entry T) → ℕ → Option T
  held_at es index = option_and_then held (slice_get es index)

  -- the slot at an index is free
  abbrev pub IsFree : List (Entry T) → ℕ → Type 0
  IsFree es index = slice_get es index ≡ Some Free
