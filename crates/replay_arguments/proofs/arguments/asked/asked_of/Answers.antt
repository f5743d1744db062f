use Rattle.std.proofs.Common.{sym, subst}
use Rattle.clap.specs.Words.{found_of, rows_of}
use Rattle.replay_output.specs.declared.options.reports.Reports.{Reports}
use Rattle.replay_arguments.specs.Arguments.{HoldsReports, IsOfNoUse}
use Rattle.replay_arguments.proofs.Refusals.{on_err}
use Rattle.replay_arguments.proofs.arguments.asked.asked_of.Goals as goal

pub returns-in_err-printing-clause-none : goal.returns-in_err-printing-clause-none
returns-in_err-printing-clause-none c = on_err _ (IsOfNoUse.no_printing c.in_err-printing.ensures.none)

pub returns-in_err-details-clause-none : goal.returns-in_err-details-clause-none
returns-in_err-details-clause-none c =
    let printing = c.in_ok-printing.ensures.printing in
    on_err _ (IsOfNoUse.no_details (c.in_err-details.ensures.none printing.summary))

pub returns-in_default-clause-none : goal.returns-in_default-clause-none
returns-in_default-clause-none c = IsOfNoUse.no_reports (c.reports_of.ensures.none c.in_default.is)

pub returns-in_default-options_of-clause-none : goal.returns-in_default-options_of-clause-none
returns-in_default-options_of-clause-none c = IsOfNoUse.no_numbers (c.options_of.ensures.none c.in_default-options_of.is)

pub returns-in_err-names-clause-none : goal.returns-in_err-names-clause-none
returns-in_err-names-clause-none c =
    let printing = c.in_ok-printing.ensures.printing in
    on_err _ (IsOfNoUse.no_names (c.in_err-names.ensures.none printing.form printing.stream printing.summary printing.explain))

pub returns-in_err-sharding-clause-none : goal.returns-in_err-sharding-clause-none
returns-in_err-sharding-clause-none c =
    let printing = c.in_ok-printing.ensures.printing in
    let details = c.in_ok-details.ensures.details printing.summary in
    on_err _ (IsOfNoUse.no_sharding (c.in_err-sharding.ensures.none printing.stream printing.explain details.top c.in-Some.ensures.reports))

pub returns-clause-asked : goal.returns-clause-asked
returns-clause-asked c =
    let printing = c.in_ok-printing.ensures.printing in
    let details = c.in_ok-details.ensures.details printing.summary in
    record {
      printing = printing;
      details = details;
      numbers = c.in-Some-options_of.ensures.numbers;
      style = c.in-Some-options_of.ensures.style;
      reports = subst (λ (reports : Reports). HoldsReports (rows_of (found_of c.args.matches.now)) reports)
          (sym c.in-Some-options_of.ensures.reports) c.in-Some.ensures.reports;
      names = c.in_ok-names.ensures.names printing.form printing.stream printing.summary printing.explain;
      sharding = c.in_ok-sharding.ensures.sharding printing.stream printing.explain details.top c.in-Some.ensures.reports;
    }
