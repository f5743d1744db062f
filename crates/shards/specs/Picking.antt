-- The keys of a list that come after a key.
use Rattle.std.specs.Prelude.{◌≡◌, ℕ, List, ◌++◌, map, All}
use denote.Ref.{Bor}
use Rattle.keys.specs.Key.{IsBefore, IsAtMost}

-- the key of each reference
abbrev pub keys_of : List (Bor (List ℕ)) → List (List ℕ)
keys_of refs = map (λ key. key.now) refs

-- the rest are those of the keys that come after a key, and they are the last ones
pub record IsRestAfter (key : List ℕ) (keys rest : List (List ℕ)) : Type 0 where
  pub front : List (List ℕ)
  pub parts : keys ≡ front ++ rest
  pub others : All (λ other. IsAtMost other key) front
  pub after : All (λ other. IsBefore key other) rest
