-- What the arguments are found to ask to print.
use Rattle.std.specs.Prelude.{◌≡◌, ◌≢◌, List, true, is_some}
use Rattle.clap.specs.Words.{Row}
use Rattle.replay_output.specs.declared.options.form.Form.TheVariants.{Kept}
use Rattle.replay_arguments.specs.Arguments.{AsksForAll, HoldsExplain, HoldsFilter, HoldsForm, HoldsStream, HoldsSummary, IsAlone, IsPlain}
use Rattle.replay_arguments.specs.declared.arguments.print_options.Printing.{Printing}

-- it is what these rows ask for, and no option contradicts another
pub record HoldsPrinting (rows : List Row) (printing : Printing) : Type 0 where
  pub form : HoldsForm rows printing.style.form
  pub filter : HoldsFilter rows printing.style.filter
  pub all : printing.style.form ≡ Kept → AsksForAll rows
  pub stream : HoldsStream rows printing.is_streamed
  pub plain : printing.is_streamed ≡ true → printing.style.form ≢ Kept
  pub summary : HoldsSummary rows printing.style.form printing.summary
  pub alone : is_some printing.summary ≡ true → IsAlone rows
  pub explain : HoldsExplain rows printing.explains
  pub explained_plain : printing.explains ≡ true → IsPlain rows
