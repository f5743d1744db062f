-- What a core promises: it represents a log of the reference resolver. This project's own.
use Rattle.std.specs.Prelude.{
  ◌≡◌,
  ℕ,
  ◌==◌,
  if◌then◌else◌,
  List,
  [],
  ◌∷◌,
  ◌++◌,
  Option,
  Some,
  None,
  option_to_list,
}
use Rattle.keyspace.specs.declared.answer.Answer.{Answer}
use Rattle.keyspace.specs.Run.{Step, run}
use Rattle.limits.specs.declared.stop.Stop.{Stop}
use Rattle.resolver.specs.Core.{CoreState, Given, IsIn, MadeBetween}

-- A stop was met in the last step of the log. All answers of the steps before it were made, and no others than those of
-- the log.
pub record StoppedIn (log : List Step) (given : Given) (core : CoreState) : Type 0 where
  pub before : List Step
  pub last : Step
  pub log_is : log ≡ before ++ last ∷ []
  pub made : MadeBetween (run core.set.window before) (run core.set.window log) given core

-- by whether a stop was met
abbrev pub StandsBy : Option Stop → List Step → Given → CoreState → Type 0
StandsBy None log given core = IsIn (run core.set.window log) given core
StandsBy (Some stop) log given core = StoppedIn log given core

-- The core represents the log, if each proxy was given these answers. Without a stop it is in the state of the
-- reference resolver after the log.
abbrev pub Stands : CoreState → List Step → Given → Type 0
Stands core log given = StandsBy core.stop log given core

-- the proxy was given this answer too, if there is one
abbrev pub given_also : ℕ → Option Answer → Given → Given
given_also proxy answer given =
    λ other. if other == proxy then given other ++ option_to_list answer else given other
