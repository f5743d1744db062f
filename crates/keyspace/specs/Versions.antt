-- The versions that a batch may have: its previous one, its own, and its proxy's last received one. This project's own.
use Rattle.std.specs.Prelude.{ℤ, ◌≤ℤ◌, ◌<ℤ◌, negsuc}

-- the two others are -1 or more, and below its own, which so is 0 or more
pub record AreVersions (previous version received : ℤ) : Type 0 where
  pub previous_from : negsuc 0 ≤ℤ previous
  pub rises : previous <ℤ version
  pub received_from : negsuc 0 ≤ℤ received
  pub received_before : received <ℤ version
