use Rattle.std.proofs.Common.{◌≡◌, ◌∙◌, ap, sym, codes}
use Rattle.std.specs.Prelude.{None, Some, Bool}
use Rattle.std.specs.Str.Parse.{ParsesBool}
use Rattle.std.specs.declared.str.ParseBoolError.{ParseBoolError}
use Rattle.clap.specs.Words.{found_of}
use Rattle.clap.specs.Values.{bool_text}
use Rattle.replay_arguments.specs.Arguments.{reports_all}
use Rattle.replay_arguments.proofs.Getters.{no_flag, text_of_bool, text_read}
use Rattle.replay_arguments.proofs.arguments.report_options.reports_of.Goals as goal

pub returns-in_err-all-clause-none : goal.returns-in_err-all-clause-none
returns-in_err-all-clause-none c = λ is has.
    no_flag ParseBoolError (found_of c.args.matches.now) (codes "report-all") c.get_one.result c.get_one.ensures.value (reports_all has.0)
    c.in_err-all.was has.1

pub returns-clause-reports : goal.returns-clause-reports
returns-clause-reports c =
    text_read {E = ParseBoolError} (found_of c.args.matches.now) (codes "report-all") ParsesBool bool_text c.in_ok-all.all
    c.in_ok-all.ensures.none c.in_ok-all.ensures.value (λ text parses. text_of_bool _ text parses)
    ∙ ap (λ (on : Bool). Some (bool_text on)) (sym c.reports.ensures.all)
