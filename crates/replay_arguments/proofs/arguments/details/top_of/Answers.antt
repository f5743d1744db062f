use Rattle.std.proofs.Common.{◌≡◌, ◌∙◌, ap, sym, subst, codes, option_map, rules, List, ℕ}
use Rattle.std.specs.Prelude.{None, Some, Option, true, false, is_some}
use Rattle.std.proofs.lemmas.Bool.{false≢true}
use Rattle.clap.specs.Words.{found_of}
use Rattle.clap.proofs.WalkLemmas.{first_value-rows}
use Rattle.replay_arguments.specs.Arguments.{IsTop, IsTopOf}
use Rattle.replay_arguments.proofs.arguments.details.top_of.Goals as goal

pub returns-in_default-clause-top : goal.returns-in_default-clause-top
returns-in_default-clause-top c =
    let none = sym (first_value-rows (found_of c.args.matches.now) (codes "top")) ∙ sym c.get_str.ensures
    ∙ ap (option_map (λ s. s.now)) c.in_default.is in
    subst (λ (o : Option (List ℕ)). IsTop o None) (sym none) tt

pub returns-then-not-is_summarized-clause-none : goal.returns-then-not-is_summarized-clause-none
returns-then-not-is_summarized-clause-none c = λ known is has.
    let found = sym (first_value-rows (found_of c.args.matches.now) (codes "top")) ∙ sym c.get_str.ensures
    ∙ ap (option_map (λ s. s.now)) c.in-Some.is in
    let no : c.args.is_summarized ≡ false = search rules in
    false≢true (sym no ∙ known.1 (has.1 (ap is_some found)))

pub returns-in_err-top-clause-none : goal.returns-in_err-top-clause-none
returns-in_err-top-clause-none c = λ known is has.
    let found = sym (first_value-rows (found_of c.args.matches.now) (codes "top")) ∙ sym c.get_str.ensures
    ∙ ap (option_map (λ s. s.now)) c.in-Some.is in
    let reads = subst (λ (o : Option (List ℕ)). IsTop o has.0.0) found has.0.1 in
    is_no_top c.in-Some.text.now has.0.0 (λ top. c.parse_top.ensures.none top c.in_err-top.was) reads
  where
    is_no_top : (text : List ℕ) (top : Option ℕ) → ((n : ℕ) → ¬ (IsTopOf text n)) → ¬ (IsTop (Some text) top)
    is_no_top text None none is = is
    is_no_top text (Some n) none is = none n is

pub returns-clause-top : goal.returns-clause-top
returns-clause-top c =
    let found = sym (first_value-rows (found_of c.args.matches.now) (codes "top")) ∙ sym c.get_str.ensures
    ∙ ap (option_map (λ s. s.now)) c.in-Some.is in
    subst (λ (o : Option (List ℕ)). IsTop o (Some c.in_ok-top.top)) (sym found) c.in_ok-top.ensures.top

pub returns-clause-summarized : goal.returns-clause-summarized
returns-clause-summarized c = λ known some.
    let yes : c.args.is_summarized ≡ true = search rules in
    known.0 yes
