use Rattle.std.proofs.Common.{◌≡◌, ◌∙◌, ap, refl, sym, codes}
use Rattle.std.specs.Prelude.{None, Some, Bool, is_some, false}
use Rattle.std.specs.Str.Parse.{ParsesBool}
use Rattle.std.specs.declared.str.ParseBoolError.{ParseBoolError}
use Rattle.clap.specs.Words.{found_of, one_of, rows_of}
use Rattle.clap.specs.Values.{bool_text}
use Rattle.clap.proofs.WalkLemmas.{first_value-rows}
use Rattle.replay_arguments.proofs.Getters.{bool_text_same, is_some_mapped, text_read, text_of_bool}
use Rattle.replay_arguments.proofs.Numbers.{Some-injective, bool_err, has_read}
use Rattle.replay_arguments.proofs.Filters.{none_found}
use Rattle.replay_arguments.proofs.Summaries.{not_true, true_not}
use Rattle.replay_arguments.proofs.arguments.summary.asks_for_all.Goals as goal

pub returns-in_err-quiet-clause-none : goal.returns-in_err-quiet-clause-none
returns-in_err-quiet-clause-none c = λ is all.
    let read = has_read {E = ParseBoolError} (found_of c.args.matches.now) (codes "quiet") ParsesBool c.get_one.result
    c.get_one.ensures.value (λ text. (on : Bool) × (text ≡ bool_text on)) (λ on. Unit {0}) (λ text on inside parses. tt)
    (λ text e inside parses. bool_err text e inside parses) (bool_text false, all.quiet, (false, refl)) in
    let bad : None ≡ Some read.0 = sym c.in_err-quiet.was ∙ read.1 in
    cc

pub returns-clause-all : goal.returns-clause-all
returns-clause-all c =
    let found = found_of c.args.matches.now in
    let read : one_of (codes "quiet") (rows_of found) ≡ Some (bool_text c.in_ok-quiet.quiet) =
    text_read {E = ParseBoolError} found (codes "quiet") ParsesBool bool_text c.in_ok-quiet.quiet
    c.in_ok-quiet.ensures.none c.in_ok-quiet.ensures.value (λ text parses. text_of_bool _ text parses) in (
      λ on.
          let none = c.is_filtered.ensures.none.0 (not_true c.is_filtered.result on) in
          record {
            quiet = read ∙ ap (λ (on : Bool). Some (bool_text on)) none.0;
            only = none_found _ c.get_str-name.result none.1
                (c.get_str-name.ensures ∙ first_value-rows found (codes "only"));
            versions = none_found _ c.get_str-text.result none.2
                (c.get_str-text.ensures ∙ first_value-rows found (codes "versions"));
          },
      λ all.
          let quiet : c.in_ok-quiet.quiet ≡ false = bool_text_same _ false (Some-injective (sym read ∙ all.quiet)) in
          let name = sym (is_some_mapped (λ s. s.now) c.get_str-name.result)
          ∙ ap is_some (c.get_str-name.ensures ∙ first_value-rows found (codes "only") ∙ all.only) in
          let text = sym (is_some_mapped (λ s. s.now) c.get_str-text.result)
          ∙ ap is_some (c.get_str-text.ensures ∙ first_value-rows found (codes "versions") ∙ all.versions) in
          true_not c.is_filtered.result (c.is_filtered.ensures.none.1 (quiet, name, text)),
    )
