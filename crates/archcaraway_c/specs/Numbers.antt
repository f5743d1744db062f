-- The limits of the numbers that C gives. This project's own.
use Rattle.std.specs.Prelude.{ℕ, ℤ, pos, ◌≤◌, ◌≤ℤ◌}
use Rattle.limits.specs.declared.settings.TheConstants.{MAX_LIMIT, MAX_PROXIES, MAX_WINDOW}

-- the window and the limit are within their ranges
abbrev pub AreSetNumbers : ℤ → ℕ → Type 0
AreSetNumbers window limit = (pos 1 ≤ℤ window) × (window ≤ℤ MAX_WINDOW) × (1 ≤ limit) × (limit ≤ MAX_LIMIT)

-- and so is the number of proxies
abbrev pub AreCoreNumbers : ℕ → ℤ → ℕ → Type 0
AreCoreNumbers proxies window limit = (1 ≤ proxies) × (proxies ≤ MAX_PROXIES) × AreSetNumbers window limit
