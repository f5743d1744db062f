-- A step map where no range is ready to be written.
use Rattle.std.proofs.Common.{◌≡◌, ℕ, ◌≤◌, List, [], length, refl, sym, ap, subst, arith}
use Rattle.std.specs.Prelude.{ℤ, Option}
use Rattle.stepmap.specs.Filter.{FilterState, bound}
use Rattle.stepmap.specs.Boundary.{AreBoundaries}
use Rattle.boundaries.specs.Stored.{Stored}
use Rattle.stepmap.specs.Kept.{steps_of, IsKept}
use Rattle.stepmap.proofs.FilterBounds.{determines_equal}

-- the memory that there is does for the boundaries themselves, also where more was taken, and for the filter
pub kept_with_none_ready : (stored later : Stored) (f g : FilterState) (edge : ℤ) (ready : List (ℕ × ℕ)) (cursor : List ℕ)
    (round : Option ℤ) (limit cursor_room : ℕ)
    → IsKept (steps_of stored edge ready cursor round limit) stored f cursor cursor_room
    → later.boundaries ≡ stored.boundaries → stored.room ≤ later.room → ((key : List ℕ) → bound g key ≡ bound f key)
    → IsKept (steps_of later edge [] cursor round limit) later g cursor cursor_room
kept_with_none_ready stored later f g edge ready cursor round limit cursor_room h same more equal = record {
  determines = determines_equal f (steps_of stored edge ready cursor round limit) (steps_of later edge [] cursor round limit) h.determines g
      refl same equal;
  steps = record {
    boundaries = subst AreBoundaries (sym same) h.steps.boundaries;
    round = h.steps.round;
    within = omega (arith, h.steps.within, ap length same);
    limit = h.steps.limit;
  };
  boundaries = omega (arith, h.boundaries, ap length same, more);
  keys = λ size lt. omega arith;
  any_key = h.any_key;
  at_cursor = h.at_cursor;
}
