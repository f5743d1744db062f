use Rattle.std.proofs.Common.{◌∙◌, List, ℕ, ap, map, string_bytes, subst, sym}
use Rattle.clap.specs.Words.{App, HasKind, fault_of, is_simple, is_simple_and_free, matches_of}
use Rattle.replay_arguments.specs.Command.{replay_app}
use Rattle.replay_arguments.specs.Arguments.{faults_of, rows_of_words}
use Rattle.replay_arguments.proofs.Getters.{replay_app-simple}
use Rattle.replay_arguments.proofs.Refusals.{IsRefusalBy-of, replay_app-free}
use Rattle.replay_arguments.proofs.arguments.parse.Goals as goal

pub returns-in-Ok-clause-rows : goal.returns-in-Ok-clause-rows
unfolding rows_of_words
returns-in-Ok-clause-rows c =
    let known = c.in-Ok.ensures.matches (ap is_simple c.in_ok-command.ensures.app ∙ replay_app-simple) in
    known.0 ∙ ap (λ (app : App). matches_of app (map string_bytes c.args.words.now)) c.in_ok-command.ensures.app

pub returns-in-Ok-clause-taken : goal.returns-in-Ok-clause-taken
unfolding faults_of
returns-in-Ok-clause-taken c =
    let none = c.in-Ok.ensures.kinds (ap is_simple_and_free c.in_ok-command.ensures.app ∙ replay_app-free) in
    sym (ap (λ (app : App). fault_of app (map string_bytes c.args.words.now)) c.in_ok-command.ensures.app) ∙ none

pub returns-in_ok-of_clap-in-Err-clause-refusal : goal.returns-in_ok-of_clap-in-Err-clause-refusal
unfolding faults_of
returns-in_ok-of_clap-in-Err-clause-refusal c =
    let words : List (List ℕ) = map string_bytes c.args.words.now in
    let kinds = c.in-Err.ensures.kinds (ap is_simple_and_free c.in_ok-command.ensures.app ∙ replay_app-free) in
    IsRefusalBy-of (fault_of replay_app words) _ _
    (subst (λ (app : App). HasKind (fault_of app words) c.in-Err.error) c.in_ok-command.ensures.app kinds)
    c.in_ok-of_clap-in-Err.ensures.kind
