-- What the program reads, part by part, and what it writes for each part.
use Rattle.std.specs.Prelude.{◌≡◌, ℕ, ◌+◌, List, [], ◌∷◌, ◌++◌, length, Option, IfSome}
use Rattle.std.specs.Io.KnownBytes.{Consumes, Appends}
use Rattle.batches_tasks.specs.declared.failure.Failure.{Failure}

-- the bytes are the results of these parts, in sequence
abbrev pub BecomeEach : (List ℕ → List ℕ → Type 0) → List (List ℕ) → List ℕ → Type 0
BecomeEach Becomes [] text = text ≡ []
BecomeEach Becomes (part ∷ parts) text =
    (first others : List ℕ) × (text ≡ first ++ others) × Becomes part first × BecomeEach Becomes parts others

-- these parts, in sequence
abbrev pub joined : List (List ℕ) → List ℕ
joined [] = []
joined (part ∷ parts) = part ++ joined parts

-- The bytes that were left are these parts and then what is left now; and the output grew by what the parts become.
pub record Turns (Becomes : List ℕ → List ℕ → Type 0) (left now before after : Option (List ℕ)) : Type 0 where
  pub parts : List (List ℕ)
  pub text : List ℕ
  pub read : Consumes left now (joined parts)
  pub each : BecomeEach Becomes parts text
  pub written : Appends before after text

-- The bytes that were left are these parts, all of them; and the output grew by what the parts become.
pub record TurnsAll (Becomes : List ℕ → List ℕ → Type 0) (left before after : Option (List ℕ)) : Type 0 where
  pub parts : List (List ℕ)
  pub text : List ℕ
  pub read : IfSome left (λ bytes. bytes ≡ joined parts)
  pub each : BecomeEach Becomes parts text
  pub written : Appends before after text

-- Some parts were turned, and the failure is that of the part after them, counted from 1.
pub record Stops (Becomes : List ℕ → List ℕ → Type 0) (Fails : ℕ → Option (List ℕ) → Failure → Type 0)
    (left before after : Option (List ℕ)) (failure : Failure) : Type 0 where
  pub now : Option (List ℕ)
  pub turned : Turns Becomes left now before after
  pub fails : Fails (length turned.parts + 1) now failure
