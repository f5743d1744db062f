-- What a writer reports, and what becomes of a text that it is given. This project's own.
use Rattle.std.specs.Prelude.{◌≡◌, ℕ, ◌<◌, List, take, Option, IfSome}
use Rattle.std.specs.Io.KnownBytes.{Appends}

-- the bytes that it was given, if it reports them, and how often it has failed
pub record SinkState : Type 0 where
  pub given : Option (List ℕ)
  pub failures : ℕ

-- of a writer, by what its type reports
abbrev pub state_by : {W : Type 0} → (W → Option (List ℕ)) → (W → ℕ) → W → SinkState
state_by given failures writer = record { given = given writer; failures = failures writer }

-- it was given this text, and didn't fail
abbrev pub Takes : SinkState → SinkState → List ℕ → Type 0
Takes before after text = Appends before.given after.given text × (after.failures ≡ before.failures)

-- it has failed, and was given a prefix of this text, if it still reports its bytes
abbrev pub FailsIn : SinkState → SinkState → List ℕ → Type 0
FailsIn before after text =
    (before.failures < after.failures) × IfSome after.given (λ _. (n : ℕ) × Appends before.given after.given (take n text))
