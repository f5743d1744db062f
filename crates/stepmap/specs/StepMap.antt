-- What a step map is seen as.
use Rattle.std.specs.Prelude.{
  ℕ,
  ℤ,
  pos,
  negsuc,
  List,
  [],
  ◌∷◌,
  length,
  Option,
  None,
  IfSome,
  ◌+◌,
  ◌*◌,
  ◌≤◌,
  ◌≤ℤ◌,
  ◌≢◌,
}
use Rattle.keys.specs.Key.{IsKey}
use Rattle.limits.specs.declared.settings.TheConstants.{MAX_LIMIT}
use Rattle.stepmap.specs.Boundary.{Boundary, AreBoundaries}
pub use Rattle.boundaries.specs.Stored.{lengths}

-- a round of the sweep that is under way: the key at which it continues, and the edge with which it began
pub record Round : Type 0 where
  pub cursor : List ℕ
  pub edge : ℤ

-- a step map
pub record Steps : Type 0 where
  -- in the order of their keys
  pub boundaries : List Boundary
  -- below it, the versions of the step function say nothing
  pub edge : ℤ
  -- the lengths of the begins and ends of the ranges that may be written without taking memory, in order
  pub ready : List (ℕ × ℕ)
  pub round : Option Round
  -- how many boundaries there may be
  pub limit : ℕ

-- -1 everywhere
abbrev pub new_map : ℕ → Steps
new_map limit = record {
  boundaries = record { key = []; version = negsuc 0 } ∷ [];
  edge = pos 0;
  ready = [];
  round = None;
  limit = limit;
}

-- a round continues at a key of some length, and began with an edge that isn't above the map's
pub record IsRound (edge : ℤ) (round : Round) : Type 0 where
  pub key : IsKey round.cursor
  pub later : round.cursor ≢ []
  pub began : round.edge ≤ℤ edge

-- what holds of every step map
pub record AreSteps (m : Steps) : Type 0 where
  pub boundaries : AreBoundaries m.boundaries
  pub round : IfSome m.round (IsRound m.edge)
  -- the boundaries, and two for each range that is ready, are within the limit
  pub within : length m.boundaries + 2 * length m.ready ≤ m.limit
  pub limit : m.limit ≤ MAX_LIMIT
