use Rattle.std.proofs.lemmas.Bool.{false≢true}
use Rattle.std.proofs.Common.{◌≡◌, [], sym, ◌∙◌, arith}
use Rattle.std.specs.Prelude.{true}
use Rattle.replay_workers.specs.declared.outcome.RunOutcome.{RunOutcome}
use Rattle.replay_workers.specs.Threads.{IsOutcomeOf}
use Rattle.replay_workers.proofs.opening.make_room.Goals as goal

-- nothing was handed back yet
nothing_back : (outcome : RunOutcome) → outcome.clients.items ≡ [] → outcome.lines.items ≡ [] → outcome.failures.items ≡ []
    → outcome.all_sent ≡ true → IsOutcomeOf [] outcome
nothing_back outcome clients lines failures all_sent = record {
  clients = clients;
  results = record {
    lines = lines;
    failures = failures;
    all_sent = λ _ k d inside. absurd (omega arith);
    unsent = λ none. absurd (false≢true (sym none ∙ all_sent));
  };
}

pub returns-clause-empty : goal.returns-clause-empty
returns-clause-empty g c =
    let made = c.in_ok-outcome.ensures in
    nothing_back c.in_ok-outcome.outcome made.clients made.lines made.failures made.all_sent
