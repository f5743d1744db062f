-- Bounds by which the greatest version is sought. This project's own.
use Rattle.std.specs.Prelude.{◌≡◌, ℕ, true}
use Rattle.boundaries.specs.declared.greatest_version.Sought.{Sought}
use Rattle.boundaries.specs.declared.key_bound.KeyBound.{KeyBound}
use Rattle.boundaries.specs.declared.store.Store.{Store}
use Rattle.boundaries.specs.Bound.{Keys, is_below}
use Rattle.boundaries.specs.Position.{CanSearch}

-- what is below the first bound is below the second one
abbrev pub AreNested : Keys → KeyBound → KeyBound → Type 0
AreNested keys from to = (key : ℕ) → is_below keys from key ≡ true → is_below keys to key ≡ true

-- a bound is sought in a subtree
abbrev pub IsSought : Store → Sought → ℕ → ℕ → Type 0
IsSought store sought height slot = CanSearch store sought.bound height slot sought.common_prefix_len
