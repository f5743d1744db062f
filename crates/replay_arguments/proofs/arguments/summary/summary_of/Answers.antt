use Rattle.std.proofs.Common.{◌≡◌, ◌∙◌, ap, refl, sym, codes, rules}
use Rattle.std.specs.Prelude.{None, Some, Bool, true, false}
use Rattle.std.specs.Str.Parse.{ParsesBool}
use Rattle.std.specs.declared.str.ParseBoolError.{ParseBoolError}
use Rattle.std.proofs.lemmas.Bool.{false≢true}
use Rattle.clap.specs.Words.{found_of, one_of, rows_of}
use Rattle.clap.specs.Values.{bool_text}
use Rattle.replay_arguments.proofs.Getters.{text_read, text_of_bool}
use Rattle.replay_arguments.proofs.Numbers.{bool_err, has_read}
use Rattle.replay_arguments.proofs.Summaries.{alone_has, alone_of, is_alone}
use Rattle.replay_arguments.proofs.arguments.summary.summary_of.Goals as goal

pub returns-in_err-asked-clause-none : goal.returns-in_err-asked-clause-none
returns-in_err-asked-clause-none c = λ holds streams is has.
    let read = has_read {E = ParseBoolError} (found_of c.args.matches.now) (codes "summary") ParsesBool c.get_one.result
    c.get_one.ensures.value (λ text. (on : Bool) × (text ≡ bool_text on)) (λ on. Unit {0}) (λ text on inside parses. tt)
    (λ text e inside parses. bool_err text e inside parses) (bool_text has.0, has.1, (has.0, refl)) in
    let bad : None ≡ Some read.0 = sym c.in_err-asked.was ∙ read.1 in
    cc

pub returns-then-not-asked-clause-summary : goal.returns-then-not-asked-clause-summary
returns-then-not-asked-clause-summary c =
    let found = found_of c.args.matches.now in
    let read : one_of (codes "summary") (rows_of found) ≡ Some (bool_text c.in_ok-asked.asked) =
    text_read {E = ParseBoolError} found (codes "summary") ParsesBool bool_text c.in_ok-asked.asked
    c.in_ok-asked.ensures.none c.in_ok-asked.ensures.value (λ text parses. text_of_bool _ text parses) in
    let off : c.in_ok-asked.asked ≡ false = search rules in
    read ∙ ap (λ (b : Bool). Some (bool_text b)) off

pub returns-in_err-all-clause-none : goal.returns-in_err-all-clause-none
returns-in_err-all-clause-none c = λ holds streams is has.
    let found = found_of c.args.matches.now in
    let read : one_of (codes "summary") (rows_of found) ≡ Some (bool_text c.in_ok-asked.asked) =
    text_read {E = ParseBoolError} found (codes "summary") ParsesBool bool_text c.in_ok-asked.asked
    c.in_ok-asked.ensures.none c.in_ok-asked.ensures.value (λ text parses. text_of_bool _ text parses) in
    let on : c.in_ok-asked.asked ≡ true = search rules in
    let asked = read ∙ ap (λ (b : Bool). Some (bool_text b)) on in
    c.asks_for_all.ensures.none c.in_err-all.was (alone_of (rows_of found) asked has).all

pub returns-in_err-summary-clause-none : goal.returns-in_err-summary-clause-none
returns-in_err-summary-clause-none c = λ holds streams is has.
    let found = found_of c.args.matches.now in
    let read : one_of (codes "summary") (rows_of found) ≡ Some (bool_text c.in_ok-asked.asked) =
    text_read {E = ParseBoolError} found (codes "summary") ParsesBool bool_text c.in_ok-asked.asked
    c.in_ok-asked.ensures.none c.in_ok-asked.ensures.value (λ text parses. text_of_bool _ text parses) in
    let on : c.in_ok-asked.asked ≡ true = search rules in
    let asked = read ∙ ap (λ (b : Bool). Some (bool_text b)) on in
    let alone = alone_of (rows_of found) asked has in
    let parts = alone_has (rows_of found) c.args.form c.args.is_streamed holds streams alone in
    false≢true (sym (c.form_alone.ensures.none c.in_err-summary.was parts.0 (c.in_ok-all.ensures.all.1 alone.all)) ∙ parts.1)

pub returns-clause-summary : goal.returns-clause-summary
returns-clause-summary c =
    let found = found_of c.args.matches.now in
    let read : one_of (codes "summary") (rows_of found) ≡ Some (bool_text c.in_ok-asked.asked) =
    text_read {E = ParseBoolError} found (codes "summary") ParsesBool bool_text c.in_ok-asked.asked
    c.in_ok-asked.ensures.none c.in_ok-asked.ensures.value (λ text parses. text_of_bool _ text parses) in
    let on : c.in_ok-asked.asked ≡ true = search rules in
    let asked = read ∙ ap (λ (b : Bool). Some (bool_text b)) on in
    (asked, c.in_ok-summary.ensures.form)

pub returns-clause-alone : goal.returns-clause-alone
returns-clause-alone c = λ holds streams some.
    let ensures = c.in_ok-summary.ensures in
    is_alone (rows_of (found_of c.args.matches.now)) c.args.form c.args.is_streamed holds streams c.in_ok-summary.summary
    ensures.form ensures.alone.0 (c.in_ok-all.ensures.all.0 ensures.alone.1)
