-- What a writer was given, one text after another.
use Rattle.std.specs.Prelude.{◌≡◌, ℕ, ◌<◌, List, [], ◌++◌}
use Rattle.std.proofs.Common.{refl, subst, ◌∙◌}
use Rattle.wire.proofs.callers.Given.{appends_none, appends_then}
use Rattle.replay_output.proofs.callers.Known.{begins_then}
use Rattle.replay_stream.specs.Sinks.{FailsIn, SinkState, Takes}

-- the same state, of the same parts
pub same_state : (a b : SinkState) → a.given ≡ b.given → a.failures ≡ b.failures → a ≡ b
same_state a b given failures i = record { given = given i; failures = failures i }

pub takes_nothing : (a : SinkState) → Takes a a []
takes_nothing a = (appends_none a.given, refl)

pub takes_then : (a b c : SinkState) (first next : List ℕ) → Takes a b first → Takes b c next → Takes a c (first ++ next)
takes_then a b c first next h k = (appends_then a.given b.given c.given first next h.0 k.0, k.1 ∙ h.1)

-- complete texts, and then a prefix of the next
pub fails_then : (a b c : SinkState) (first next : List ℕ) → Takes a b first → FailsIn b c next → FailsIn a c (first ++ next)
fails_then a b c first next h k = (
  subst (λ (n : ℕ). n < c.failures) h.1 k.0,
  begins_then a.given b.given c.given first next h.0 k.1,
)
