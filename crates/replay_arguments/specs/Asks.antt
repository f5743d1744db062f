-- What a command line asks for: its options, its files and its task.
use Rattle.std.specs.Prelude.{◌≡◌, ◌≢◌, ◌≤◌, ◌⊎◌, ℕ, List, Option, None, Some, true, false, codes, is_some, length, map, option_map, vec_len}
use Rattle.std.specs.Borrow.{Bor}
use Rattle.clap.specs.Words.{Row, all_of, first_of}
use Rattle.limits.specs.declared.settings.TheConstants.{MAX_PROXIES}
use Rattle.replay_output.specs.declared.options.form.Form.{Form}
use Rattle.replay_output.specs.declared.options.form.Form.TheVariants.{Kept}
use Rattle.replay_summary.specs.declared.text.SummaryForm.{SummaryForm}
use Rattle.replay_arguments.specs.Arguments.{
  AsksForAll,
  HasInputOnce,
  HoldsExplain,
  HoldsOptions,
  HoldsSharding,
  HoldsStream,
  HoldsSummary,
  HoldsSummaryFile,
  HoldsTop,
  HoldsVerbose,
  IsAlone,
  IsBeside,
  IsPlain,
  IsTaken,
  KeepsInputs,
  given_names,
  rows_of_words,
}
use Rattle.replay_arguments.specs.declared.arguments.CommandLine.{CommandLine}
use Rattle.replay_arguments.specs.declared.arguments.task.Task.{Task}
use Rattle.replay_arguments.specs.declared.arguments.task.Task.TheVariants.{Print, Explain, Summarize, Stream, Check}

-- The command line asks to print the answers once all batches are resolved, and for nothing else.
pub record AsksToPrint (rows : List Row) (form : Form) : Type 0 where
  pub printed : form ≢ Kept
  pub at_end : HoldsStream rows false
  pub no_summary : HoldsSummary rows form None
  pub unexplained : HoldsExplain rows false

-- The answers are to be explained, and `--explain` contradicts no other option.
pub record AsksToExplain (rows : List Row) : Type 0 where
  pub explained : HoldsExplain rows true
  pub plain : IsPlain rows

-- A summary is to be printed in this form instead of answers, and `--summary` contradicts no other option.
pub record AsksToSummarize (rows : List Row) (form : Form) (summary : SummaryForm) : Type 0 where
  pub summarized : HoldsSummary rows form (Some summary)
  pub alone : IsAlone rows
  pub unexplained : HoldsExplain rows false

-- The answers are to be printed as they come, and recorded in the files of these names: one per file of batches, or none.
pub record AsksToStream (rows : List Row) (files : ℕ) (form : Form) (names : List (Bor (List ℕ))) : Type 0 where
  pub printed : form ≢ Kept
  pub streamed : HoldsStream rows true
  pub no_summary : HoldsSummary rows form None
  pub unexplained : HoldsExplain rows false
  pub records : map (λ name. name.now) names ≡ given_names (all_of (codes "replies") rows)
  pub each : (length names ≡ 0) ⊎ (length names ≡ files)

-- All answers are to be compared with the replies in the files of these names, one per file of batches.
pub record AsksToCheck (rows : List Row) (files : ℕ) (form : Form) (names : List (Bor (List ℕ))) : Type 0 where
  pub kept : form ≡ Kept
  pub replies : all_of (codes "check") rows ≡ Some (map (λ name. name.now) names)
  pub each : length names ≡ files
  pub all : AsksForAll rows
  pub at_end : HoldsStream rows false
  pub no_summary : HoldsSummary rows form None
  pub unexplained : HoldsExplain rows false

-- the matches ask for this task, of that many files of batches and with answers of this form
abbrev pub HoldsTask : List Row → ℕ → Form → Task → Type 0
HoldsTask rows files form Print = AsksToPrint rows form
HoldsTask rows files form Explain = AsksToExplain rows
HoldsTask rows files form (Summarize summary top) = AsksToSummarize rows form summary
HoldsTask rows files form (Stream records) = AsksToStream rows files form records.items
HoldsTask rows files form (Check replies) = AsksToCheck rows files form replies.items

-- how many ranges a task lists, if it lists some
abbrev pub top_of : Task → Option ℕ
top_of (Summarize summary top) = top
top_of _ = None

-- `clap` takes the words, and they ask for just what this command line says.
pub record Asks (words : List (List ℕ)) (line : CommandLine) : Type 0 where
  pub taken : IsTaken words
  pub holds_options : HoldsOptions (rows_of_words words) line.options
  pub files : all_of (codes "FILE") (rows_of_words words) ≡ Some (map (λ name. name.now) line.files.items)
  pub least : 1 ≤ vec_len line.files
  pub most : vec_len line.files ≤ MAX_PROXIES
  pub input : HasInputOnce (rows_of_words words)
  pub kept : KeepsInputs (rows_of_words words)
  pub task : HoldsTask (rows_of_words words) (vec_len line.files) line.options.style.form line.task
  pub recorded : is_some (all_of (codes "replies") (rows_of_words words)) ≡ true → HoldsStream (rows_of_words words) true
  pub output : first_of (codes "output") (rows_of_words words) ≡ option_map (λ name. name.now) line.output
  pub summary_file : HoldsSummaryFile (rows_of_words words) line.options.style.form line.summary_to
  pub beside : is_some line.summary_to ≡ true → IsBeside (rows_of_words words)
  pub top : HoldsTop (rows_of_words words) (top_of line.task)
  pub verbose : HoldsVerbose (rows_of_words words) line.verbose
  pub sharding : HoldsSharding (rows_of_words words) line.sharding
