use Rattle.std.proofs.Common.{◌≡◌, ◌∙◌, ap, refl, sym, codes}
use Rattle.std.specs.Prelude.{None, Some, Bool, is_some}
use Rattle.std.specs.Str.Parse.{ParsesBool}
use Rattle.std.specs.declared.str.ParseBoolError.{ParseBoolError}
use Rattle.clap.specs.Words.{all_of, found_of, one_of, rows_of}
use Rattle.clap.specs.Values.{bool_text}
use Rattle.clap.proofs.WalkLemmas.{raw_values-rows}
use Rattle.replay_arguments.specs.Arguments.{is_frames, is_json}
use Rattle.replay_arguments.proofs.Getters.{HoldsForm-of_parts, IsFormOf-held, is_some_mapped, text_read, text_of_bool}
use Rattle.replay_arguments.proofs.Numbers.{bool_err, has_read}
use Rattle.replay_arguments.proofs.arguments.print_options.form_of.Goals as goal

pub returns-in_err-get_one-clause-none : goal.returns-in_err-get_one-clause-none
returns-in_err-get_one-clause-none c = λ is has.
    let read = has_read {E = ParseBoolError} (found_of c.args.matches.now) (codes "frames") ParsesBool c.get_one.result
    c.get_one.ensures.value (λ text. (on : Bool) × (text ≡ bool_text on)) (λ on. Unit {0}) (λ text on inside parses. tt)
    (λ text e inside parses. bool_err text e inside parses) (bool_text (is_frames has.0), has.1.frames, (is_frames has.0, refl)) in
    let bad : None ≡ Some read.0 = sym c.in_err-get_one.was ∙ read.1 in
    cc

pub returns-in_err-get_one-2-clause-none : goal.returns-in_err-get_one-2-clause-none
returns-in_err-get_one-2-clause-none c = λ is has.
    let read = has_read {E = ParseBoolError} (found_of c.args.matches.now) (codes "json") ParsesBool c.get_one-2.result
    c.get_one-2.ensures.value (λ text. (on : Bool) × (text ≡ bool_text on)) (λ on. Unit {0}) (λ text on inside parses. tt)
    (λ text e inside parses. bool_err text e inside parses) (bool_text (is_json has.0), has.1.json, (is_json has.0, refl)) in
    let bad : None ≡ Some read.0 = sym c.in_err-get_one-2.was ∙ read.1 in
    cc

pub returns-clause-form : goal.returns-clause-form
returns-clause-form c =
    let found = found_of c.args.matches.now in
    let frames : one_of (codes "frames") (rows_of found) ≡ Some (bool_text c.in_ok-get_one.field-0) =
    text_read {E = ParseBoolError} found (codes "frames") ParsesBool bool_text c.in_ok-get_one.field-0
    c.in_ok-get_one.ensures.none c.in_ok-get_one.ensures.value (λ text parses. text_of_bool _ text parses) in
    let json : one_of (codes "json") (rows_of found) ≡ Some (bool_text c.in_ok-get_one-2.field-0) =
    text_read {E = ParseBoolError} found (codes "json") ParsesBool bool_text c.in_ok-get_one-2.field-0
    c.in_ok-get_one-2.ensures.none c.in_ok-get_one-2.ensures.value (λ text parses. text_of_bool _ text parses) in
    let values = raw_values-rows found (codes "check") in
    let check : is_some (all_of (codes "check") (rows_of found)) ≡ c.is_some.result =
    ap is_some (sym values ∙ sym c.get_strs.ensures) ∙ is_some_mapped _ c.get_strs.result ∙ sym c.is_some.ensures in
    HoldsForm-of_parts (rows_of found) c.one_form.result _ _ _ c.one_form.ensures.form frames json check

pub returns-clause-none : goal.returns-clause-none
returns-clause-none c = λ is has.
    let found = found_of c.args.matches.now in
    let frames : one_of (codes "frames") (rows_of found) ≡ Some (bool_text c.in_ok-get_one.field-0) =
    text_read {E = ParseBoolError} found (codes "frames") ParsesBool bool_text c.in_ok-get_one.field-0
    c.in_ok-get_one.ensures.none c.in_ok-get_one.ensures.value (λ text parses. text_of_bool _ text parses) in
    let json : one_of (codes "json") (rows_of found) ≡ Some (bool_text c.in_ok-get_one-2.field-0) =
    text_read {E = ParseBoolError} found (codes "json") ParsesBool bool_text c.in_ok-get_one-2.field-0
    c.in_ok-get_one-2.ensures.none c.in_ok-get_one-2.ensures.value (λ text parses. text_of_bool _ text parses) in
    let values = raw_values-rows found (codes "check") in
    let check : is_some (all_of (codes "check") (rows_of found)) ≡ c.is_some.result =
    ap is_some (sym values ∙ sym c.get_strs.ensures) ∙ is_some_mapped _ c.get_strs.result ∙ sym c.is_some.ensures in
    c.one_form.ensures.none has.0 is (IsFormOf-held (rows_of found) has.0 _ _ _ frames json check has.1)
