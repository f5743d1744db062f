-- Objects that start at a version, and what the library reports on an object. This project's own.
use Rattle.std.specs.Prelude.{◌≡◌, ◌<◌, ◌⊎◌, ◌≤ℤ◌, ℕ, ℤ, pos, negsuc, [], length}
use Rattle.limits.specs.declared.stop.Stop.TheVariants as stop
use Rattle.archcaraway_c.specs.declared.refusal.Refusal.{Refusal}
use Rattle.archcaraway_c.specs.declared.refusal.Refusal.TheVariants.{Stop, Argument}
use Rattle.archcaraway_c.specs.Numbers.{AreSetNumbers, AreCoreNumbers}
use Rattle.archcaraway_c.specs.CoreObject.{CoreParts, still_owed}

-- the numbers are within their ranges, and so is the version to start at
abbrev pub AreSetNumbersAt : ℤ → ℕ → ℤ → Type 0
AreSetNumbersAt window limit version = AreSetNumbers window limit × (negsuc 0 ≤ℤ version)

abbrev pub AreCoreNumbersAt : ℕ → ℤ → ℕ → ℤ → Type 0
AreCoreNumbersAt proxies window limit version =
    AreCoreNumbers proxies window limit × (negsuc 0 ≤ℤ version)

-- the limit can't hold the write of every key at the version
abbrev pub IsTooSmall : ℕ → ℤ → Type 0
IsTooSmall limit version = (pos 0 ≤ℤ version) × (limit < 3)

-- Why no set is made that starts at the version: a number is outside its range, else the limit is
-- too small, else memory is refused.
abbrev pub SetStartRefuses : ℤ → ℕ → ℤ → Refusal → Type 0
SetStartRefuses window limit version refusal =
    ((¬ AreSetNumbersAt window limit version) × (refusal ≡ Argument))
    ⊎ (AreSetNumbersAt window limit version
    × ((IsTooSmall limit version × (refusal ≡ Stop stop.ArenaFull))
    ⊎ ((¬ IsTooSmall limit version) × (refusal ≡ Stop stop.Memory))))

-- the same of a core
abbrev pub CoreStartRefuses : ℕ → ℤ → ℕ → ℤ → Refusal → Type 0
CoreStartRefuses proxies window limit version refusal =
    ((¬ AreCoreNumbersAt proxies window limit version) × (refusal ≡ Argument))
    ⊎ (AreCoreNumbersAt proxies window limit version
    × ((IsTooSmall limit version × (refusal ≡ Stop stop.ArenaFull))
    ⊎ ((¬ IsTooSmall limit version) × (refusal ≡ Stop stop.Memory))))

-- the least proxy that is owed an answer
pub record IsNextOwed (proxy : ℕ) (parts : CoreParts) : Type 0 where
  pub owed : 0 < length (still_owed proxy parts)
  pub none_before : (other : ℕ) → other < proxy → still_owed other parts ≡ []
