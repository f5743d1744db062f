use Rattle.replay_arguments.specs.Arguments.{PrintsNothing}
use Rattle.replay_arguments.proofs.Refusals.{on_err}
use Rattle.replay_arguments.proofs.arguments.print_options.printing_of.Goals as goal

pub returns-in_default-clause-none : goal.returns-in_default-clause-none
returns-in_default-clause-none c = PrintsNothing.no_form (c.form_of.ensures.none c.in_default.is)

pub returns-in_err-filter-clause-none : goal.returns-in_err-filter-clause-none
returns-in_err-filter-clause-none c = on_err _ (PrintsNothing.no_filter (c.in_err-filter.ensures.err c.in-Some.ensures.form))

pub returns-in_default-is_streamed-clause-none : goal.returns-in_default-is_streamed-clause-none
returns-in_default-is_streamed-clause-none c =
    PrintsNothing.no_stream (c.is_streamed.ensures.none c.in_default-is_streamed.is c.in-Some.ensures.form)

pub returns-in_default-summary_of-clause-none : goal.returns-in_default-summary_of-clause-none
returns-in_default-summary_of-clause-none c =
    PrintsNothing.no_summary (c.summary_of.ensures.none c.in-Some.ensures.form c.in-Some-is_streamed.ensures.stream
    c.in_default-summary_of.is)

pub returns-in_default-explains-clause-none : goal.returns-in_default-explains-clause-none
returns-in_default-explains-clause-none c =
    PrintsNothing.no_explanations (c.explains.ensures.none c.in-Some.ensures.form c.in-Some-is_streamed.ensures.stream
    c.in-Some-summary_of.ensures.summary c.in_default-explains.is)

pub returns-clause-printing : goal.returns-clause-printing
returns-clause-printing c =
    let form = c.in-Some.ensures.form in
    let stream = c.in-Some-is_streamed.ensures.stream in
    let summary = c.in-Some-summary_of.ensures.summary in
    record {
      form = form;
      filter = c.in_ok-filter.ensures.filter;
      all = c.in_ok-filter.ensures.all;
      stream = stream;
      plain = c.in-Some-is_streamed.ensures.plain;
      summary = summary;
      alone = c.in-Some-summary_of.ensures.alone form stream;
      explain = c.in-Some-explains.ensures.explains;
      explained_plain = c.in-Some-explains.ensures.plain form stream summary;
    }
