-- A step map whose boundaries were copied into memory of their own, while no range is ready to be written.
use Rattle.std.proofs.Common.{◌≡◌, ℕ, ◌≤◌, List, [], length, refl, sym, ap, subst, ◌∙◌, arith}
use Rattle.std.specs.Prelude.{ℤ, Option}
use Rattle.stepmap.specs.Filter.{FilterState}
use Rattle.stepmap.specs.Boundary.{Boundary, AreBoundaries}
use Rattle.boundaries.specs.Stored.{Stored}
use Rattle.stepmap.specs.Kept.{steps_of, IsKept}
use Rattle.stepmap.proofs.FilterBounds.{determines_equal}

module _ (stored later : Stored) (f : FilterState) (edge : ℤ) (ready : List (ℕ × ℕ)) (cursor : List ℕ) (round : Option ℤ)
    (limit : ℕ) (none : ready ≡ []) (same : later.boundaries ≡ stored.boundaries) where
  -- it is the same step map
  pub same_in_copy : steps_of later edge [] cursor round limit ≡ steps_of stored edge ready cursor round limit
  same_in_copy =
      ap (λ (bs : List Boundary). record (steps_of later edge [] cursor round limit) { boundaries = bs }) same
      ∙ ap (λ (r : List (ℕ × ℕ)). record (steps_of stored edge [] cursor round limit) { ready = r }) (sym none)

  -- and the new memory does for it
  pub kept_in_copy : (cursor_room : ℕ) → IsKept (steps_of stored edge ready cursor round limit) stored f cursor cursor_room
      → length later.boundaries ≤ later.room → IsKept (steps_of later edge [] cursor round limit) later f cursor cursor_room
  kept_in_copy cursor_room h within = record {
    determines = determines_equal f (steps_of stored edge ready cursor round limit) (steps_of later edge [] cursor round limit) h.determines f
        refl same (λ key. refl);
    steps = record {
      boundaries = subst AreBoundaries (sym same) h.steps.boundaries;
      round = h.steps.round;
      within = omega (arith, h.steps.within, ap length same);
      limit = h.steps.limit;
    };
    boundaries = omega (arith, within);
    keys = λ size lt. omega arith;
    any_key = h.any_key;
    at_cursor = h.at_cursor;
  }
