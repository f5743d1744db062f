-- What the arguments are found to ask for.
use Rattle.std.specs.Prelude.{◌≡◌, ◌≢◌, List, None, Some, true, false}
use Rattle.clap.specs.Words.{Row}
use Rattle.replay_output.specs.declared.options.form.Form.TheVariants.{Kept}
use Rattle.replay_arguments.specs.Details.{HoldsDetails}
use Rattle.replay_arguments.specs.Names.{HoldsNames}
use Rattle.replay_arguments.specs.Printing.{HoldsPrinting}
use Rattle.replay_arguments.specs.Arguments.{HoldsNumbers, HoldsReports, HoldsSharding}
use Rattle.replay_arguments.specs.declared.arguments.CommandLine.{CommandLine}
use Rattle.replay_arguments.specs.declared.arguments.asked.Asked.{Asked}
use Rattle.replay_arguments.specs.declared.arguments.task.Task.{Task}
use Rattle.replay_arguments.specs.declared.arguments.task.Task.TheVariants.{Print, Explain, Summarize, Stream, Check}

pub record HoldsAsked (rows : List Row) (asked : Asked) : Type 0 where
  pub printing : HoldsPrinting rows asked.printing
  pub details : HoldsDetails rows asked.details
  pub numbers : HoldsNumbers rows asked.options
  pub style : asked.options.style ≡ asked.printing.style
  pub reports : HoldsReports rows asked.options.reports
  pub names : HoldsNames rows asked.printing asked.names
  pub sharding : HoldsSharding rows asked.sharding

-- the answers are printed at the end, without a summary or explanations
pub record IsPrinting (asked : Asked) : Type 0 where
  pub printed : asked.printing.style.form ≢ Kept
  pub at_end : asked.printing.is_streamed ≡ false
  pub no_summary : asked.printing.summary ≡ None
  pub unexplained : asked.printing.explains ≡ false

-- the task of what is asked for
abbrev pub IsTaskOf : Asked → Task → Type 0
IsTaskOf asked Print = IsPrinting asked
IsTaskOf asked Explain = asked.printing.explains ≡ true
IsTaskOf asked (Summarize summary top) = (asked.printing.summary ≡ Some summary) × (top ≡ asked.details.top)
IsTaskOf asked (Stream records) = (asked.printing.is_streamed ≡ true) × (records.items ≡ asked.names.records.now)
IsTaskOf asked (Check replies) = (asked.printing.style.form ≡ Kept) × (replies.items ≡ asked.names.replies.now)

-- the command line that asks for this, with vectors of the names
pub record IsLineOf (asked : Asked) (line : CommandLine) : Type 0 where
  pub files : line.files.items ≡ asked.names.files.now
  pub task : IsTaskOf asked line.task
  pub output : line.output ≡ asked.names.output
  pub summary_to : line.summary_to ≡ asked.names.summary
  pub verbose : line.verbose ≡ asked.details.verbose
  pub options : line.options ≡ asked.options
  pub sharding : line.sharding ≡ asked.sharding
