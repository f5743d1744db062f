-- Lemmas for callers: what tests of numbers show.
use Rattle.std.proofs.Common.{◌≡◌, Bool, true, false, cond, refl, arith}
use Rattle.std.specs.Prelude.{ℤ, ◌≤ℤ◌, pos, int_lt}
use Rattle.std.specs.Int.{int_max}
use Rattle.std.proofs.lemmas.Int.{ints}

-- what isn't less is as much or more
pub not_less : (x y : ℤ) → int_lt x y ≡ false → y ≤ℤ x
not_less x y h = grind (arith, ints)

above_below : (c d : ℤ) → c ≤ℤ d → int_lt (pos 0) c ≡ true → int_lt (pos 0) d ≡ false → c ≤ℤ pos 0
above_below c d h e f = grind (arith, ints)

pub natural_above : (d : ℤ) → int_lt (pos 0) d ≡ true → pos 0 ≤ℤ d
natural_above d e = grind (arith, ints)

pub at_most_itself : (d : ℤ) → d ≤ℤ d
at_most_itself d = omega (arith, ints)

-- the later of two versions and 0, for a later version
pub max_rises : (c d : ℤ) → c ≤ℤ d → int_max c (pos 0) ≤ℤ int_max d (pos 0)
max_rises c d h = go (int_lt (pos 0) c) (int_lt (pos 0) d) refl refl
  where
    go : (x y : Bool) → int_lt (pos 0) c ≡ x → int_lt (pos 0) d ≡ y → cond x c (pos 0) ≤ℤ cond y d (pos 0)
    go true true e f = h
    go true false e f = above_below c d h e f
    go false true e f = natural_above d f
    go false false e f = at_most_itself (pos 0)
