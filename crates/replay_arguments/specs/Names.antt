-- The names of files that are found among the arguments.
use Rattle.std.specs.Prelude.{◌≡◌, ◌≤◌, ◌⊎◌, ℕ, List, true, Some, codes, is_some, length, map, option_map}
use Rattle.std.specs.Borrow.{Bor}
use Rattle.clap.specs.Words.{Row, all_of, first_of}
use Rattle.limits.specs.declared.settings.TheConstants.{MAX_PROXIES}
use Rattle.replay_output.specs.declared.options.form.Form.TheVariants.{Kept}
use Rattle.replay_arguments.specs.Arguments.{HasInputOnce, HoldsSummaryFile, IsBeside, KeepsInputs, given_names}
use Rattle.replay_arguments.specs.declared.arguments.names.Names.{Names}
use Rattle.replay_arguments.specs.declared.arguments.print_options.Printing.{Printing}

-- the texts of names
abbrev pub texts : Bor (List (Bor (List ℕ))) → List (List ℕ)
texts names = map (λ name. name.now) names.now

-- They are the names that these rows give: one file of replies per file if replies are kept to be compared, and one file for records
-- per file of a stream, or none.
pub record HoldsNames (rows : List Row) (printing : Printing) (names : Names) : Type 0 where
  pub files : all_of (codes "FILE") rows ≡ Some (texts names.files)
  pub least : 1 ≤ length names.files.now
  pub most : length names.files.now ≤ MAX_PROXIES
  pub input : HasInputOnce rows
  pub kept : KeepsInputs rows
  pub replies : printing.style.form ≡ Kept → all_of (codes "check") rows ≡ Some (texts names.replies)
  pub as_many : printing.style.form ≡ Kept → length names.replies.now ≡ length names.files.now
  pub records : texts names.records ≡ given_names (all_of (codes "replies") rows)
  pub records_each : (length names.records.now ≡ 0) ⊎ (length names.records.now ≡ length names.files.now)
  pub recorded : is_some (all_of (codes "replies") rows) ≡ true → printing.is_streamed ≡ true
  pub output : first_of (codes "output") rows ≡ option_map (λ name. name.now) names.output
  pub summary : HoldsSummaryFile rows printing.style.form names.summary
  pub beside : is_some names.summary ≡ true → IsBeside rows
