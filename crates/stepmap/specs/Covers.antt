-- How a step function represents the writes that it remembers.
use Rattle.std.specs.Prelude.{ℕ, ℤ, ◌≤ℤ◌, ◌<ℤ◌, ◌↔◌, List, Any}
use Rattle.keys.specs.Key.{IsBytes}
use Rattle.keys.specs.Range.{Holds}
use Rattle.keyspace.specs.Writes.{Write}
use Rattle.keys.specs.declared.range.Range.{Range}
use Rattle.stepmap.specs.Boundary.{value_at}
use Rattle.stepmap.specs.StepMap.{Steps}

-- f and g are above the same numbers at or above the edge
abbrev pub SameFrom : ℤ → (List ℕ → ℤ) → (List ℕ → ℤ) → Type 0
SameFrom edge f g = (key : List ℕ) → IsBytes key → (s : ℤ) → edge ≤ℤ s → (s <ℤ f key) ↔ (s <ℤ g key)

-- For every key and every number s at or above the edge, f is above s exactly if some write holds the key at a
-- version above s.
abbrev pub Covers : (List ℕ → ℤ) → List Write → ℤ → Type 0
Covers f ws edge =
    (key : List ℕ) → IsBytes key → (s : ℤ) → edge ≤ℤ s →
    (s <ℤ f key) ↔ Any (λ w. Holds w.range key × (s <ℤ w.version)) ws

-- a step map covers the writes at its edge
abbrev pub MapCovers : Steps → List Write → Type 0
MapCovers m ws = Covers (value_at m.boundaries) ws m.edge

-- the function is above the number at some key of the range
abbrev pub IsAbove : Steps → Range → ℤ → Type 0
IsAbove m range s = (key : List ℕ) × IsBytes key × Holds range key × (s <ℤ value_at m.boundaries key)
