-- A range is written. This project's own.
use Rattle.std.specs.Prelude.{ℤ, List, [], ◌∷◌, drop}
use Rattle.keys.specs.Key.{IsBefore}
use Rattle.keys.specs.declared.range.Range.{Range}
use Rattle.stepmap.specs.StepMap.{Steps}
pub use Rattle.boundaries.specs.Written.{closed_at, boundaries_after_write, written_to}

-- none is empty, and each ends strictly before the next begins
abbrev pub AreApart : List Range → Type 0
AreApart [] = Unit {0}
AreApart (r ∷ []) = IsBefore r.begin r.end
AreApart (r ∷ s ∷ rs) = IsBefore r.begin r.end × IsBefore r.end s.begin × AreApart (s ∷ rs)

-- the step map after that; one pair of lengths is used up
abbrev pub after_write : Range → ℤ → Steps → Steps
after_write range version m = record m {
  boundaries = boundaries_after_write range version m.boundaries;
  ready = drop 1 m.ready;
}
