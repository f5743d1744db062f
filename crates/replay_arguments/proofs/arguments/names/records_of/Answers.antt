use Rattle.std.proofs.Common.{◌≡◌, ◌∙◌, ap, sym, codes, map, option_map, rules, subst, Bor, List, ℕ}
use Rattle.std.specs.Prelude.{false, is_some}
use Rattle.std.proofs.lemmas.Bool.{false≢true}
use Rattle.clap.specs.Words.{found_of, rows_of}
use Rattle.clap.proofs.WalkLemmas.{raw_values-rows}
use Rattle.replay_arguments.specs.Arguments.{HoldsStream, given_names}
use Rattle.replay_arguments.proofs.Refusals.{not_streamed, other_records}
use Rattle.replay_arguments.proofs.arguments.names.records_of.Goals as goal

pub returns-in_default-clause-records : goal.returns-in_default-clause-records
returns-in_default-clause-records c =
    let none = sym (raw_values-rows (found_of c.args.matches.now) (codes "replies")) ∙ sym c.get_strs.ensures
    ∙ ap (option_map (λ s. map (λ v. v.now) s.now)) c.in_default.is in
    ap (map (λ (v : Bor (List ℕ)). v.now)) c.no_names.ensures.none ∙ sym (ap given_names none)

pub returns-in_default-clause-streamed : goal.returns-in_default-clause-streamed
returns-in_default-clause-streamed c = λ some.
    let none = sym (raw_values-rows (found_of c.args.matches.now) (codes "replies")) ∙ sym c.get_strs.ensures
    ∙ ap (option_map (λ s. map (λ v. v.now) s.now)) c.in_default.is in
    absurd (false≢true (ap is_some (sym none) ∙ some))

pub returns-then-not-is_streamed-clause-none : goal.returns-then-not-is_streamed-clause-none
returns-then-not-is_streamed-clause-none c = λ streamed.
    let found = sym (raw_values-rows (found_of c.args.matches.now) (codes "replies")) ∙ sym c.get_strs.ensures
    ∙ ap (option_map (λ s. map (λ v. v.now) s.now)) c.in-Some.is in
    let off : c.args.is_streamed ≡ false = search rules in (
      ap is_some found,
      not_streamed c.args.file_count (rows_of (found_of c.args.matches.now))
          (subst (HoldsStream (rows_of (found_of c.args.matches.now))) off streamed),
    )

pub returns-then-names-file_count-clause-none : goal.returns-then-names-file_count-clause-none
returns-then-names-file_count-clause-none c = λ streamed.
    let found = sym (raw_values-rows (found_of c.args.matches.now) (codes "replies")) ∙ sym c.get_strs.ensures
    ∙ ap (option_map (λ s. map (λ v. v.now) s.now)) c.in-Some.is in (
      ap is_some found,
      other_records c.args.file_count (rows_of (found_of c.args.matches.now)) c.in-Some.names.now found (search rules),
    )

pub returns-clause-records : goal.returns-clause-records
returns-clause-records c =
    let found = sym (raw_values-rows (found_of c.args.matches.now) (codes "replies")) ∙ sym c.get_strs.ensures
    ∙ ap (option_map (λ s. map (λ v. v.now) s.now)) c.in-Some.is in
    sym (ap given_names found)
