-- Windows and ages.
use Rattle.std.proofs.Common.{ℤ, pos, ◌-ℤ◌, ◌≤ℤ◌, ◌<ℤ◌, arith}
use Rattle.std.specs.Int.{int_max}
use Rattle.std.proofs.lemmas.Int.{clamps, ints}

pub in_time : (version snapshot window : ℤ) → (version -ℤ snapshot) ≤ℤ window → pos 0 ≤ℤ snapshot
    → snapshot <ℤ int_max (version -ℤ window) (pos 0) → ⊥
in_time version snapshot window covered natural old = omega (arith, ints, clamps)

not_below : (x y : ℤ) → ¬ (x <ℤ y) → y ≤ℤ x
not_below x y fine = grind (arith, ints)

pub covered : (version snapshot window : ℤ) → ¬ (snapshot <ℤ int_max (version -ℤ window) (pos 0)) → (version -ℤ snapshot) ≤ℤ window
covered version snapshot window fine =
    let late = not_below snapshot (int_max (version -ℤ window) (pos 0)) fine in
    omega (arith, ints, clamps)
