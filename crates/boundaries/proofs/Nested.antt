-- Bounds of which one comes before the other: what is below the first is below the second.
use Rattle.std.proofs.Common.{◌≡◌, ℕ, Bool, true, false, List, Option, Some, None, option_map, unwrap_or}
use Rattle.keys.specs.Key.{is_before, IsBefore}
use Rattle.keys.proofs.callers.KeyOrder.{at_most_before, before_trans}
use Rattle.boundaries.specs.Bound.{Keys, is_below_at, slot_is_below}
use Rattle.boundaries.specs.Overwrite.{before_end, before_start}
use Rattle.boundaries.specs.declared.overwrite.Overwrite.{Overwrite}
use Rattle.boundaries.proofs.Words.{key_at}

-- what comes before a bound at a key comes before each later key
pub passes_sooner : (up_to : Bool) (begin end k : List ℕ) → IsBefore begin end → is_below_at up_to begin k ≡ true
    → is_before k end ≡ true
passes_sooner true begin end k l h = at_most_before k begin end h l
passes_sooner false begin end k l h = before_trans k begin end h l

module _ (keys : Keys) where
  -- a slot that is below a bound at a key is below the bound before a later key
  pub nested : (up_to : Bool) (begin end : List ℕ) → IsBefore begin end → (slot : ℕ)
      → slot_is_below keys up_to begin slot ≡ true → slot_is_below keys false end slot ≡ true
  nested up_to begin end l slot = of_key (key_at keys slot)
    where
      of_key : (k : Option (List ℕ)) → unwrap_or (option_map (is_below_at up_to begin) k) false ≡ true
          → unwrap_or (option_map (is_below_at false end) k) false ≡ true
      of_key None h = h
      of_key (Some k) h = passes_sooner up_to begin end k l h

  -- what comes before the start comes before the end
  pub start_before_end : (new : Overwrite) (slot : ℕ) → before_start keys new slot ≡ true → before_end keys new slot ≡ true
  start_before_end new = nested false new.start.now new.end.now new.filled
