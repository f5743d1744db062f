-- The details that are found among the arguments.
use Rattle.std.specs.Prelude.{◌≡◌, List, true, is_some}
use Rattle.clap.specs.Words.{Row}
use Rattle.replay_arguments.specs.Arguments.{HoldsTop, HoldsVerbose, IsSummarized}
use Rattle.replay_arguments.specs.declared.arguments.details.Details.{Details}

-- they are what these rows ask for: ranges are listed in a summary that is printed
pub record HoldsDetails (rows : List Row) (details : Details) : Type 0 where
  pub top : HoldsTop rows details.top
  pub summarized : is_some details.top ≡ true → IsSummarized rows
  pub verbose : HoldsVerbose rows details.verbose
