use Rattle.std.proofs.Common.{◌≡◌, ◌∙◌, sym, subst, rules, arith, ℕ, List, ◌∷◌, Bor, SFits, w64}
use Rattle.std.specs.Prelude.{◌≢◌, Option, MatchOption}
use Rattle.std.proofs.lemmas.Int.{to_z-of_z}
use Rattle.std.proofs.lemmas.Str.Pattern.{strip_prefix_char}
use Rattle.replay_arguments.specs.Arguments.{IsEnd}
use Rattle.replay_arguments.proofs.Filters.{cut_there, made, not_cut}
use Rattle.replay_arguments.proofs.arguments.filter_options.parse_versions.Goals as goal

pub returns-in_err-from-clause-none : goal.returns-in_err-from-clause-none
returns-in_err-from-clause-none c = λ least below is has.
    not_cut c.args.text.now c.split_once.result c.split_once.ensures.cases c.in_err-from.was least below has

pub returns-in_err-to-clause-none : goal.returns-in_err-to-clause-none
returns-in_err-to-clause-none c = λ least below is has.
    let ends = cut_there c.args.text.now c.split_once.result c.split_once.ensures.cases c.in_ok-from.from c.in_ok-from.rest
    c.in_ok-from.was least below has in
    subst (λ (o : Option (Bor (List ℕ))). MatchOption o ((l : List ℕ) → c.in_ok-from.rest.now ≢ 46 ∷ l) (λ x. c.in_ok-from.rest.now ≡ 46 ∷ x.now))
    c.in_err-to.was (strip_prefix_char 46 c.in_ok-from.rest.now c.strip_prefix.result c.strip_prefix.ensures.cases (omega arith))
    has.to ends.1

pub returns-in_err-least-clause-none : goal.returns-in_err-least-clause-none
returns-in_err-least-clause-none c = λ least below is has.
    let ends = cut_there c.args.text.now c.split_once.result c.split_once.ensures.cases c.in_ok-from.from c.in_ok-from.rest
    c.in_ok-from.was least below has in
    c.parse_end.ensures.none has.first c.in_err-least.was
    (subst (λ (text : List ℕ). IsEnd text has.first) (sym ends.0) has.from_first)

pub returns-in_err-below-clause-none : goal.returns-in_err-below-clause-none
returns-in_err-below-clause-none c = λ least below is has.
    let ends = cut_there c.args.text.now c.split_once.result c.split_once.ensures.cases c.in_ok-from.from c.in_ok-from.rest
    c.in_ok-from.was least below has in
    let after = subst (λ (o : Option (Bor (List ℕ))). MatchOption o ((l : List ℕ) → c.in_ok-from.rest.now ≢ 46 ∷ l) (λ x. c.in_ok-from.rest.now ≡ 46 ∷ x.now))
    c.in_ok-to.was (strip_prefix_char 46 c.in_ok-from.rest.now c.strip_prefix.result c.strip_prefix.ensures.cases (omega arith)) in
    let same : c.in_ok-to.to.now ≡ has.to = cc (after, ends.1) in
    c.parse_end-2.ensures.none below c.in_err-below.was
    (subst (λ (text : List ℕ). IsEnd text below) (sym same) has.to_below)

pub returns-clause-versions : goal.returns-clause-versions
returns-clause-versions c =
    let after = subst (λ (o : Option (Bor (List ℕ))). MatchOption o ((l : List ℕ) → c.in_ok-from.rest.now ≢ 46 ∷ l) (λ x. c.in_ok-from.rest.now ≡ 46 ∷ x.now))
    c.in_ok-to.was (strip_prefix_char 46 c.in_ok-from.rest.now c.strip_prefix.result c.strip_prefix.ensures.cases (omega arith)) in
    let fits : SFits w64 c.unwrap_or.result = search rules in
    made c.args.text.now c.split_once.result c.split_once.ensures.cases c.in_ok-from.from c.in_ok-from.rest c.in_ok-from.was
    c.in_ok-to.to.now c.in_ok-least.least c.in_ok-below.below _ after c.in_ok-least.ensures.end c.in_ok-below.ensures.end
    (to_z-of_z w64 c.unwrap_or.result fits ∙ c.unwrap_or.ensures)
