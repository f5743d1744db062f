use Rattle.std.proofs.Common.{sym, subst}
use Rattle.std.specs.Prelude.{Bool, ◌↔◌, IsTrue}
use Rattle.clap.specs.Words.{found_of, rows_of}
use Rattle.replay_arguments.specs.Arguments.{DetailsNothing, IsSummarized}
use Rattle.replay_arguments.proofs.Summaries.{summarized_by}
use Rattle.replay_arguments.proofs.arguments.details.details_of.Goals as goal

pub returns-in_default-clause-none : goal.returns-in_default-clause-none
returns-in_default-clause-none c = λ summed.
    let rows = rows_of (found_of c.args.matches.now) in
    let known = subst (λ (b : Bool). IsTrue b ↔ IsSummarized rows) (sym c.is_some.ensures)
    (summarized_by rows c.args.printing.style.form c.args.printing.summary summed) in
    DetailsNothing.no_top (c.top_of.ensures.none known c.in_default.is)

pub returns-in_default-is_verbose-clause-none : goal.returns-in_default-is_verbose-clause-none
returns-in_default-is_verbose-clause-none c = λ summed.
    DetailsNothing.no_verbose (c.is_verbose.ensures.none c.in_default-is_verbose.is)

pub returns-clause-details : goal.returns-clause-details
returns-clause-details c = λ summed.
    let rows = rows_of (found_of c.args.matches.now) in
    let known = subst (λ (b : Bool). IsTrue b ↔ IsSummarized rows) (sym c.is_some.ensures)
    (summarized_by rows c.args.printing.style.form c.args.printing.summary summed) in
    record {
      top = c.in-Some.ensures.top;
      summarized = c.in-Some.ensures.summarized known;
      verbose = c.in-Some-is_verbose.ensures.verbose;
    }
