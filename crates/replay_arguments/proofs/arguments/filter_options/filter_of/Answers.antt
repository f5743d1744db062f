use Rattle.std.proofs.Common.{◌≡◌, ◌∙◌, ap, refl, sym, subst, codes, rules, ℤ, List, ℕ, SFits, w64}
use Rattle.std.specs.Prelude.{None, Some, Option, Bool, is_some, false}
use Rattle.std.specs.Str.Parse.{ParsesBool}
use Rattle.std.specs.declared.str.ParseBoolError.{ParseBoolError}
use Rattle.std.proofs.lemmas.Bool.{false≢true}
use Rattle.std.proofs.lemmas.Int.{to_z-of_z}
use Rattle.clap.specs.Words.{first_of, found_of, one_of, rows_of}
use Rattle.clap.specs.Values.{bool_text}
use Rattle.clap.proofs.WalkLemmas.{first_value-rows}
use Rattle.replay_arguments.specs.Arguments.{AreVersions, is_kept}
use Rattle.replay_arguments.proofs.Getters.{bool_text_same, is_some_mapped, text_read, text_of_bool}
use Rattle.replay_arguments.proofs.Numbers.{Some-injective, bool_err, has_read}
use Rattle.replay_arguments.proofs.Filters.{none_found}
use Rattle.replay_arguments.proofs.arguments.filter_options.filter_of.Goals.{else-is_kept-via-then-is_kept+else-is_filtered, else-is_kept-via-else-is_kept}
use Rattle.replay_arguments.proofs.arguments.filter_options.filter_of.Goals as goal

pub returns-in_default-clause-err : goal.returns-in_default-clause-err
returns-in_default-clause-err c = λ holds has.
    let quiet = has.0.0.quiet in
    let read = has_read {E = ParseBoolError} (found_of c.args.matches.now) (codes "quiet") ParsesBool c.get_one.result
    c.get_one.ensures.value (λ text. (on : Bool) × (text ≡ bool_text on)) (λ on. Unit {0}) (λ text on inside parses. tt)
    (λ text e inside parses. bool_err text e inside parses) (bool_text quiet, has.0.1.quiet, (quiet, refl)) in
    let bad : None ≡ Some read.0 = sym c.in_default.is ∙ read.1 in
    cc

pub returns-in_default-only_of-clause-err : goal.returns-in_default-only_of-clause-err
returns-in_default-only_of-clause-err c = λ holds has.
    c.only_of.ensures.none has.0.0.only c.in_default-only_of.is
    (c.get_str-name.ensures ∙ first_value-rows (found_of c.args.matches.now) (codes "only") ∙ has.0.1.only)

pub returns-in_default-versions_of-clause-err : goal.returns-in_default-versions_of-clause-err
returns-in_default-versions_of-clause-err c = λ holds has.
    let filter = has.0.0 in
    let text = c.get_str-text.ensures ∙ first_value-rows (found_of c.args.matches.now) (codes "versions") in
    c.versions_of.ensures.none filter.least filter.below c.in_default-versions_of.is
    (subst (λ (o : Option (List ℕ)). AreVersions o filter.least filter.below) (sym text) has.0.1.versions)

pub returns-then-is_filtered-clause-err : goal.returns-then-is_filtered-clause-err
returns-then-is_filtered-clause-err c = λ holds has.
    let found = found_of c.args.matches.now in
    let all = has.1 (holds.check ∙ ap is_kept (c.is_kept.ensures.kept.0 c.if-is_kept.true)) in
    let read : one_of (codes "quiet") (rows_of found) ≡ Some (bool_text c.in-Some.quiet) =
    text_read {E = ParseBoolError} found (codes "quiet") ParsesBool bool_text c.in-Some.quiet
    c.in-Some.ensures.none c.in-Some.ensures.value (λ text parses. text_of_bool _ text parses) in
    let quiet : c.in-Some.quiet ≡ false = bool_text_same _ false (Some-injective (sym read ∙ all.quiet)) in
    let name = sym (is_some_mapped (λ s. s.now) c.get_str-name.result)
    ∙ ap is_some (c.get_str-name.ensures ∙ first_value-rows found (codes "only") ∙ all.only) in
    let text = sym (is_some_mapped (λ s. s.now) c.get_str-text.result)
    ∙ ap is_some (c.get_str-text.ensures ∙ first_value-rows found (codes "versions") ∙ all.versions) in
    absurd (false≢true (sym (c.is_filtered.ensures.none.1 (quiet, name, text)) ∙ c.if-is_filtered.true))

pub returns-clause-all : goal.returns-clause-all
returns-clause-all c = λ kept.
    let found = found_of c.args.matches.now in
    let none : (c.in-Some.quiet ≡ false) × (is_some c.get_str-name.result ≡ false) × (is_some c.get_str-text.result ≡ false) =
    elim c.else-is_kept.branch [
      | else-is_kept-via-then-is_kept+else-is_filtered w ↦ w.is_filtered.ensures.none.0 w.if-is_filtered.false
      | else-is_kept-via-else-is_kept w ↦ absurd (false≢true (sym w.if-is_kept.false ∙ c.is_kept.ensures.kept.1 kept))
    ] in
    let read : one_of (codes "quiet") (rows_of found) ≡ Some (bool_text c.in-Some.quiet) =
    text_read {E = ParseBoolError} found (codes "quiet") ParsesBool bool_text c.in-Some.quiet
    c.in-Some.ensures.none c.in-Some.ensures.value (λ text parses. text_of_bool _ text parses) in
    record {
      quiet = read ∙ ap (λ (on : Bool). Some (bool_text on)) none.0;
      only = none_found _ c.get_str-name.result none.1
          (c.get_str-name.ensures ∙ first_value-rows found (codes "only"));
      versions = none_found _ c.get_str-text.result none.2
          (c.get_str-text.ensures ∙ first_value-rows found (codes "versions"));
    }

pub returns-clause-filter : goal.returns-clause-filter
returns-clause-filter c =
    let found = found_of c.args.matches.now in
    let text = c.get_str-text.ensures ∙ first_value-rows found (codes "versions") in
    let first = c.in-Some-versions_of.least in
    let fits : SFits w64 first = search rules in
    record {
      quiet = text_read {E = ParseBoolError} found (codes "quiet") ParsesBool bool_text c.in-Some.quiet
          c.in-Some.ensures.none c.in-Some.ensures.value (λ text parses. text_of_bool _ text parses);
      only = sym (c.get_str-name.ensures ∙ first_value-rows found (codes "only")) ∙ c.in-Some-only_of.ensures.only;
      versions = subst (λ (n : ℤ). AreVersions (first_of (codes "versions") (rows_of found)) n c.in-Some-versions_of.below)
          (sym (to_z-of_z w64 first fits))
          (subst (λ (o : Option (List ℕ)). AreVersions o first c.in-Some-versions_of.below) text c.in-Some-versions_of.ensures.versions);
    }
