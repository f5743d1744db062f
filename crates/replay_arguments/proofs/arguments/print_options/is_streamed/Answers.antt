use Rattle.std.proofs.Common.{◌≡◌, ◌∙◌, ap, refl, subst, sym, codes}
use Rattle.std.specs.Prelude.{None, Some, Bool}
use Rattle.std.specs.Str.Parse.{ParsesBool}
use Rattle.std.specs.declared.str.ParseBoolError.{ParseBoolError}
use Rattle.clap.specs.Words.{found_of, rows_of}
use Rattle.clap.specs.Values.{bool_text}
use Rattle.replay_arguments.specs.Arguments.{HoldsStream, is_kept}
use Rattle.replay_arguments.proofs.Getters.{text_read, text_of_bool}
use Rattle.replay_arguments.proofs.Numbers.{bool_err, has_read}
use Rattle.replay_arguments.proofs.Refusals.{no_stream}
use Rattle.replay_arguments.proofs.arguments.print_options.is_streamed.Goals as goal

pub returns-in_err-is_streamed-clause-none : goal.returns-in_err-is_streamed-clause-none
returns-in_err-is_streamed-clause-none c = λ is holds has.
    let read = has_read {E = ParseBoolError} (found_of c.args.matches.now) (codes "stream") ParsesBool c.get_one.result
    c.get_one.ensures.value (λ text. (on : Bool) × (text ≡ bool_text on)) (λ on. Unit {0}) (λ text on inside parses. tt)
    (λ text e inside parses. bool_err text e inside parses) (bool_text has.0, has.1, (has.0, refl)) in
    let bad : None ≡ Some read.0 = sym c.in_err-is_streamed.was ∙ read.1 in
    cc

pub returns-clause-stream : goal.returns-clause-stream
returns-clause-stream c =
    text_read {E = ParseBoolError} (found_of c.args.matches.now) (codes "stream") ParsesBool bool_text c.in_ok-is_streamed.is_streamed
    c.in_ok-is_streamed.ensures.none c.in_ok-is_streamed.ensures.value (λ text parses. text_of_bool _ text parses)

pub returns-then-is_kept-clause-none : goal.returns-then-is_kept-clause-none
returns-then-is_kept-clause-none c = λ is holds has.
    let rows = rows_of (found_of c.args.matches.now) in
    let read = text_read {E = ParseBoolError} (found_of c.args.matches.now) (codes "stream") ParsesBool bool_text
    c.in_ok-is_streamed.is_streamed c.in_ok-is_streamed.ensures.none c.in_ok-is_streamed.ensures.value
    (λ text parses. text_of_bool _ text parses) in
    no_stream rows c.args.form holds (ap is_kept (c.is_kept.ensures.kept.0 c.if-is_kept.true))
    (subst (HoldsStream rows) c.if-is_streamed.true read) has
