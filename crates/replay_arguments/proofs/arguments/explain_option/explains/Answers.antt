use Rattle.std.proofs.Common.{◌≡◌, ◌∙◌, ap, refl, sym, codes, rules}
use Rattle.std.specs.Prelude.{None, Some, Bool, true, false}
use Rattle.std.specs.Str.Parse.{ParsesBool}
use Rattle.std.specs.declared.str.ParseBoolError.{ParseBoolError}
use Rattle.std.proofs.lemmas.Bool.{false≢true}
use Rattle.clap.specs.Words.{found_of, one_of, rows_of}
use Rattle.clap.specs.Values.{bool_text}
use Rattle.replay_arguments.proofs.Getters.{text_read, text_of_bool}
use Rattle.replay_arguments.proofs.Numbers.{bool_err, has_read}
use Rattle.replay_arguments.proofs.Explaining.{plain_has, plain_of}
use Rattle.replay_arguments.proofs.arguments.explain_option.explains.Goals as goal

pub returns-in_err-asked-clause-none : goal.returns-in_err-asked-clause-none
returns-in_err-asked-clause-none c = λ holds streams summed is has.
    let read = has_read {E = ParseBoolError} (found_of c.args.matches.now) (codes "explain") ParsesBool c.get_one.result
    c.get_one.ensures.value (λ text. (on : Bool) × (text ≡ bool_text on)) (λ on. Unit {0}) (λ text on inside parses. tt)
    (λ text e inside parses. bool_err text e inside parses) (bool_text has.0, has.1, (has.0, refl)) in
    let bad : None ≡ Some read.0 = sym c.in_err-asked.was ∙ read.1 in
    cc

pub returns-then-not-is_plain-clause-none : goal.returns-then-not-is_plain-clause-none
returns-then-not-is_plain-clause-none c = λ holds streams summed is has.
    let found = found_of c.args.matches.now in
    let read : one_of (codes "explain") (rows_of found) ≡ Some (bool_text c.in_ok-asked.asked) =
    text_read {E = ParseBoolError} found (codes "explain") ParsesBool bool_text c.in_ok-asked.asked
    c.in_ok-asked.ensures.none c.in_ok-asked.ensures.value (λ text parses. text_of_bool _ text parses) in
    let on : c.in_ok-asked.asked ≡ true = search rules in
    let plain = plain_of (rows_of found) (read ∙ ap (λ (b : Bool). Some (bool_text b)) on) has in
    let no : c.is_plain.result ≡ false = search rules in
    false≢true (sym no
    ∙ c.is_plain.ensures.plain.1 (plain_has (rows_of found) c.args.form c.args.is_streamed holds streams c.args.summary summed plain))

pub returns-clause-explains : goal.returns-clause-explains
returns-clause-explains c =
    text_read {E = ParseBoolError} (found_of c.args.matches.now) (codes "explain") ParsesBool bool_text c.in_ok-asked.asked
    c.in_ok-asked.ensures.none c.in_ok-asked.ensures.value (λ text parses. text_of_bool _ text parses)
