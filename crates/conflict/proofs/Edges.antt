-- The edge of a batch beside that of the batch before it.
use Rattle.std.proofs.Common.{w64, SFits, to_z, of_z, ◌≡◌, ap₂, ◌∙◌, arith}
use Rattle.std.proofs.lemmas.Int.{ints, to_z-of_z}
use Rattle.std.specs.Prelude.{ℤ, pos, negsuc, ◌≤ℤ◌, ◌<ℤ◌, ◌-ℤ◌}
use Rattle.std.specs.Int.{int_max}
use Rattle.keyspace.specs.declared.batch.Batch.{Batch}
use Rattle.keyspace.specs.Judged.{edge}

-- it isn't below the edge of a lesser version
pub edge_rises : (window resolved old : ℤ) (b : Batch) → old ≡ int_max (resolved -ℤ window) (pos 0)
    → resolved <ℤ b.version → old ≤ℤ edge window b
edge_rises window resolved old b is rising = rw is (grind (arith, ints, rising))

-- it isn't above the batch's version
pub edge_below : (window : ℤ) (b : Batch) → pos 1 ≤ℤ window → edge window b ≤ℤ b.version
edge_below window b least = grind (arith, ints, least, b.natural)

-- as the code passes it on
pub edge_passed : (window given : ℤ) (b : Batch) → SFits w64 window → SFits w64 b.version → SFits w64 given
    → given ≡ int_max (to_z w64 (of_z w64 b.version) -ℤ to_z w64 (of_z w64 window)) (pos 0)
    → to_z w64 (of_z w64 given) ≡ edge window b
edge_passed window given b window_fits version_fits fits is =
    to_z-of_z w64 given fits ∙ is
    ∙ ap₂ (λ version window. int_max (version -ℤ window) (pos 0)) (to_z-of_z w64 b.version version_fits)
    (to_z-of_z w64 window window_fits)

pub at_most : (a b : ℤ) → a <ℤ b → a ≤ℤ b
at_most a b less = grind (arith, ints, less)

-- no version is below 0
pub from_least : (b : Batch) → negsuc 0 ≤ℤ b.version
from_least b = grind (arith, ints, b.natural)
