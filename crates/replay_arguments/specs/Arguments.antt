-- What the arguments ask for, by the matches that `clap` finds. `Holds..` says that a value is the one found, and `Has..` that there is one.
use Rattle.std.specs.Prelude.{◌≡◌, ◌≢◌, ◌⊎◌, ℕ, ◌+◌, ◌≤◌, ℤ, pos, FitsSigned, Bool, true, if◌then◌else◌, List, [], ◌∷◌, ◌++◌, codes, false, length, IfSome, Option, None, Some, is_some, option_map, unwrap_or, ⊤}
use Rattle.std.specs.Str.{bytes_eq}
use Rattle.std.specs.Int.{w64}
use Rattle.std.specs.Str.Parse.{IsNumeral, digits_value, signed_digits_value, without_leading_plus, without_leading_sign}
use Rattle.clap.specs.Values.{IsSignedIn, IsUnsignedIn, bool_text}
use Rattle.clap.specs.Words.{IsAmong, Kinds, Row, all_of, fault_of, first_of, matches_of, one_of}
use Rattle.clap.specs.declared.error.kind.ErrorKind.{ErrorKind}
use Rattle.clap.specs.declared.error.kind.ErrorKind.TheVariants.{DisplayHelp, DisplayVersion, OutOfMemory}
use Rattle.limits.specs.declared.settings.TheConstants.{MAX_CAPACITY, MAX_LIMIT, MAX_PROXIES, MAX_WINDOW}
use Rattle.keyspace.specs.declared.reply.Verdict.{Verdict}
use Rattle.replay_output.specs.LineFilter.{least_version}
use Rattle.replay_output.specs.Lines.{verdict_word}
use Rattle.replay_output.specs.declared.options.line_filter.LineFilter.{LineFilter}
use Rattle.replay_output.specs.declared.options.form.Form.{Form}
use Rattle.replay_output.specs.declared.options.form.Form.TheVariants.{Words, Frames, Json, Kept}
use Rattle.replay_output.specs.declared.options.Options.{Options}
use Rattle.replay_output.specs.declared.options.reports.Reports.{Reports}
use Rattle.replay_output.specs.declared.options.reports.Reports.TheVariants.{Asked, All}
use Rattle.replay_summary.specs.declared.text.SummaryForm.{SummaryForm}
use Rattle.replay_summary.specs.declared.text.SummaryForm.TheVariants as summaries
use Rattle.replay_arguments.specs.Command.{replay_app}
pub use Rattle.replay_arguments.specs.KeptInputs.{KeepsInputs, given_names, standard_input}
use Rattle.replay_arguments.specs.declared.arguments.details.TheConstants.{MAX_TOP}
use Rattle.replay_arguments.specs.declared.arguments.shard_options.Sharding.{Sharding}
use Rattle.replay_arguments.specs.declared.arguments.shard_options.TheConstants.{MAX_RESOLVERS}
use Rattle.replay_arguments.specs.declared.arguments.summary_file.SummaryFile.{SummaryFile}
use Rattle.replay_arguments.specs.declared.arguments.refusal.ArgumentsRefusal.{ArgumentsRefusal}
use Rattle.replay_arguments.specs.declared.arguments.refusal.ArgumentsRefusal.TheVariants.{Memory, Refused, Shown}

abbrev pub is_frames : Form → Bool
is_frames Frames = true
is_frames _ = false

abbrev pub is_json : Form → Bool
is_json Json = true
is_json _ = false

abbrev pub is_kept : Form → Bool
is_kept Kept = true
is_kept _ = false

-- the form that these switches ask for, of which at most one is on
abbrev pub IsFormOf : Form → Bool → Bool → Bool → Type 0
IsFormOf form frames json check = (is_frames form ≡ frames) × (is_json form ≡ json) × (is_kept form ≡ check)

-- the form is the one found: replies are kept exactly if files of replies are named, to be checked
pub record HoldsForm (rows : List Row) (form : Form) : Type 0 where
  pub frames : one_of (codes "frames") rows ≡ Some (bool_text (is_frames form))
  pub json : one_of (codes "json") rows ≡ Some (bool_text (is_json form))
  pub check : is_some (all_of (codes "check") rows) ≡ is_kept form

-- the numbers are those found
pub record HoldsNumbers (rows : List Row) (options : Options) : Type 0 where
  pub capacity : option_map (λ text. digits_value 10 (without_leading_plus text)) (one_of (codes "capacity") rows)
      ≡ Some options.capacity
  pub window : option_map (signed_digits_value 10) (one_of (codes "window") rows) ≡ Some options.window
  pub limit : option_map (λ text. digits_value 10 (without_leading_plus text)) (one_of (codes "limit") rows)
      ≡ Some options.limit

-- the name of a verdict: its word without the places of a report
abbrev pub verdict_name : Verdict → List ℕ
verdict_name verdict = verdict_word verdict []

-- the text of a version: a decimal integer of 64 bits, with a sign or without
abbrev pub IsVersion : List ℕ → ℤ → Type 0
IsVersion text version = IsNumeral 10 (without_leading_sign text) × FitsSigned w64 version × (signed_digits_value 10 text ≡ version)

-- the text of an end of a range of versions: empty, if the end is omitted
abbrev pub IsEnd : List ℕ → Option ℤ → Type 0
IsEnd text None = text ≡ []
IsEnd text (Some version) = IsVersion text version

-- The text `A..B`: the versions from `A` on, or from the least one if `A` is omitted, and below `B`, if it is given.
pub record IsVersions (text : List ℕ) (least : ℤ) (below : Option ℤ) : Type 0 where
  pub from : List ℕ
  pub to : List ℕ
  pub split : text ≡ from ++ (codes ".." ++ to)
  pub first : Option ℤ
  pub from_first : IsEnd from first
  pub least_is : least ≡ unwrap_or first least_version
  pub to_below : IsEnd to below

-- the versions are those found: all of them, if none are asked for
abbrev pub AreVersions : Option (List ℕ) → ℤ → Option ℤ → Type 0
AreVersions None least below = (least ≡ least_version) × (below ≡ None)
AreVersions (Some text) least below = IsVersions text least below

-- the filter is the one found
pub record HoldsFilter (rows : List Row) (filter : LineFilter) : Type 0 where
  pub quiet : one_of (codes "quiet") rows ≡ Some (bool_text filter.quiet)
  pub only : first_of (codes "only") rows ≡ option_map verdict_name filter.only
  pub versions : AreVersions (first_of (codes "versions") rows) filter.least filter.below

-- whether all transactions report
abbrev pub reports_all : Reports → Bool
reports_all Asked = false
reports_all All = true

-- the transactions that report are those found
abbrev pub HoldsReports : List Row → Reports → Type 0
HoldsReports rows reports = one_of (codes "report-all") rows ≡ Some (bool_text (reports_all reports))

-- the options are those found
pub record HoldsOptions (rows : List Row) (options : Options) : Type 0 where
  pub numbers : HoldsNumbers rows options
  pub reports : HoldsReports rows options.reports
  pub form : HoldsForm rows options.style.form
  pub filter : HoldsFilter rows options.style.filter

-- the matches of a command line, defaults included
unfoldable pub rows_of_words : List (List ℕ) → List Row
rows_of_words = matches_of replay_app

-- the kind of an error that shows a requested text: help or the version
abbrev pub IsRequest : ErrorKind → Type 0
IsRequest kind = (kind ≡ DisplayHelp) ⊎ (kind ≡ DisplayVersion)

-- the kind of an error that reports a mistake in the arguments
abbrev pub IsMistake : ErrorKind → Type 0
IsMistake kind = (kind ≢ DisplayHelp) × (kind ≢ DisplayVersion) × (kind ≢ OutOfMemory)

-- the refusal is that of an error of this kind
abbrev pub IsRefusalOf : ErrorKind → ArgumentsRefusal → Type 0
IsRefusalOf kind (Shown text) = IsRequest kind
IsRefusalOf kind (Refused text) = IsMistake kind
IsRefusalOf kind Memory = kind ≡ OutOfMemory

-- the refusal fits these faults, which `clap` has found; an allocation may fail with any arguments
abbrev pub IsRefusalBy : Kinds → ArgumentsRefusal → Type 0
IsRefusalBy kinds (Shown text) = (kind : ErrorKind) × IsAmong kind kinds × IsRequest kind
IsRefusalBy kinds (Refused text) = (kind : ErrorKind) × IsAmong kind kinds × IsMistake kind
IsRefusalBy kinds Memory = ⊤

-- the faults that `clap` finds in the arguments
unfoldable pub faults_of : List (List ℕ) → Kinds
faults_of = fault_of replay_app

-- `clap` accepts the arguments
abbrev pub IsTaken : List (List ℕ) → Type 0
IsTaken words = faults_of words ≡ []

-- the arguments ask for help or the version
abbrev pub AsksForText : List (List ℕ) → Type 0
AsksForText words = (kind : ErrorKind) × IsAmong kind (faults_of words) × IsRequest kind

-- the text found for an option is one of these
abbrev pub Has : (List ℕ → Type 0) → List ℕ → List Row → Type 0
Has is_text name rows = (text : List ℕ) × (one_of name rows ≡ Some text) × is_text text

-- each number is within its range
pub record HasNumbers (rows : List Row) : Type 0 where
  pub capacity : Has (IsUnsignedIn 1 MAX_CAPACITY) (codes "capacity") rows
  pub window : Has (IsSignedIn (pos 1) MAX_WINDOW) (codes "window") rows
  pub limit : Has (IsUnsignedIn 1 MAX_LIMIT) (codes "limit") rows

-- some choice of the transactions that report is found
abbrev pub HasReports : List Row → Type 0
HasReports rows = (reports : Reports) × HoldsReports rows reports

-- some form is found
abbrev pub HasForm : List Row → Type 0
HasForm rows = (form : Form) × HoldsForm rows form

-- no option selects lines
pub record AsksForAll (rows : List Row) : Type 0 where
  pub quiet : one_of (codes "quiet") rows ≡ Some (bool_text false)
  pub only : first_of (codes "only") rows ≡ None
  pub versions : first_of (codes "versions") rows ≡ None

-- some filter is found, and if answers are to be compared, no option selects lines
abbrev pub HasFilter : List Row → Type 0
HasFilter rows = ((filter : LineFilter) × HoldsFilter rows filter)
    × (is_some (all_of (codes "check") rows) ≡ true → AsksForAll rows)

-- 1 to `MAX_PROXIES` files are named
pub record HasFiles (rows : List Row) : Type 0 where
  pub names : List (List ℕ)
  pub found : all_of (codes "FILE") rows ≡ Some names
  pub least : 1 ≤ length names
  pub most : length names ≤ MAX_PROXIES

-- one file of replies is named per file
pub record HasReplies (files : ℕ) (rows : List Row) : Type 0 where
  pub names : List (List ℕ)
  pub found : all_of (codes "check") rows ≡ Some names
  pub as_many : length names ≡ files

-- if replies are to be checked, one file of replies is named per file
abbrev pub HasRepliesEach : List Row → Type 0
HasRepliesEach rows = is_some (all_of (codes "check") rows) ≡ true
    → IfSome (all_of (codes "FILE") rows) (λ names. HasReplies (length names) rows)

-- how many of these names are the name of standard input
abbrev pub count_inputs : List (List ℕ) → ℕ
count_inputs [] = 0
count_inputs (name ∷ names) = (if bytes_eq name standard_input then 1 else 0) + count_inputs names

-- the same for optional names
abbrev pub inputs_of : Option (List (List ℕ)) → ℕ
inputs_of None = 0
inputs_of (Some names) = count_inputs names

-- the same for an optional name
abbrev pub inputs_in : Option (List ℕ) → ℕ
inputs_in None = 0
inputs_in (Some name) = count_inputs (name ∷ [])

-- At most one name of a file, of a file of replies or of the file of split points is that of standard input, which can be read only once.
abbrev pub HasInputOnce : List Row → Type 0
HasInputOnce rows =
    inputs_of (all_of (codes "FILE") rows)
    + (inputs_of (all_of (codes "check") rows) + inputs_in (first_of (codes "split-points") rows))
    ≤ 1

-- whether answers are printed as they come
abbrev pub HoldsStream : List Row → Bool → Type 0
HoldsStream rows is_streamed = one_of (codes "stream") rows ≡ Some (bool_text is_streamed)

-- answers that are to be compared aren't printed as they come
abbrev pub HasStream : List Row → Type 0
HasStream rows = (is_streamed : Bool) × HoldsStream rows is_streamed
    × (is_streamed ≡ true → is_some (all_of (codes "check") rows) ≡ false)

-- answers are printed as they come, and one file for records is named per file
pub record HasRecords (files : ℕ) (rows : List Row) : Type 0 where
  pub names : List (List ℕ)
  pub found : all_of (codes "replies") rows ≡ Some names
  pub streamed : HoldsStream rows true
  pub as_many : length names ≡ files

-- the same, if files for records are named
abbrev pub HasRecordsEach : List Row → Type 0
HasRecordsEach rows = is_some (all_of (codes "replies") rows) ≡ true
    → IfSome (all_of (codes "FILE") rows) (λ names. HasRecords (length names) rows)

-- The form of a summary is that of the lines that it replaces. Frames, and replies that are kept, have no summary.
abbrev pub summary_form : Form → Option SummaryForm
summary_form Words = Some summaries.Words
summary_form Json = Some summaries.Json
summary_form Frames = None
summary_form Kept = None

abbrev pub HoldsSummary : List Row → Form → Option SummaryForm → Type 0
HoldsSummary rows form None = one_of (codes "summary") rows ≡ Some (bool_text false)
HoldsSummary rows form (Some summary) = (one_of (codes "summary") rows ≡ Some (bool_text true)) × (summary_form form ≡ Some summary)

-- no option beside `--summary` says what to print
pub record IsAlone (rows : List Row) : Type 0 where
  pub frames : one_of (codes "frames") rows ≡ Some (bool_text false)
  pub check : is_some (all_of (codes "check") rows) ≡ false
  pub stream : HoldsStream rows false
  pub all : AsksForAll rows

-- `--summary` has a value, and if it is on, it says alone what to print
abbrev pub HasSummary : List Row → Type 0
HasSummary rows = (asked : Bool) × (one_of (codes "summary") rows ≡ Some (bool_text asked)) × (asked ≡ true → IsAlone rows)

-- whether rejections are to be explained
abbrev pub HoldsExplain : List Row → Bool → Type 0
HoldsExplain rows explains = one_of (codes "explain") rows ≡ Some (bool_text explains)

-- the answers are to be printed at the end, as lines of words or of JSON
pub record IsPlain (rows : List Row) : Type 0 where
  pub frames : one_of (codes "frames") rows ≡ Some (bool_text false)
  pub check : is_some (all_of (codes "check") rows) ≡ false
  pub stream : HoldsStream rows false
  pub summary : one_of (codes "summary") rows ≡ Some (bool_text false)

-- `--explain` has a value, and if it is on, the answers are to be printed at the end, as lines of words or of JSON
abbrev pub HasExplain : List Row → Type 0
HasExplain rows = (explains : Bool) × HoldsExplain rows explains × (explains ≡ true → IsPlain rows)

-- The file for the summary. The form of the summary is that of the lines.
abbrev pub HoldsSummaryFile : List Row → Form → Option SummaryFile → Type 0
HoldsSummaryFile rows form None = first_of (codes "summary-to") rows ≡ None
HoldsSummaryFile rows form (Some file) =
    (first_of (codes "summary-to") rows ≡ Some file.name.now) × (summary_form form ≡ Some file.form)

-- answers alone are to be printed at the end, as words or JSON
pub record IsBeside (rows : List Row) : Type 0 where
  pub frames : one_of (codes "frames") rows ≡ Some (bool_text false)
  pub check : is_some (all_of (codes "check") rows) ≡ false
  pub stream : HoldsStream rows false
  pub summary : one_of (codes "summary") rows ≡ Some (bool_text false)
  pub explain : HoldsExplain rows false

-- a file for the summary is named only beside such answers
abbrev pub HasSummaryFile : List Row → Type 0
HasSummaryFile rows = is_some (first_of (codes "summary-to") rows) ≡ true → IsBeside rows

-- the text of a number from 1 to `MAX_TOP`
abbrev pub IsTopOf : List ℕ → ℕ → Type 0
IsTopOf text top = IsUnsignedIn 1 MAX_TOP text × (top ≡ digits_value 10 (without_leading_plus text))

-- the number, if one is given
abbrev pub IsTop : Option (List ℕ) → Option ℕ → Type 0
IsTop None None = ⊤
IsTop (Some text) (Some top) = IsTopOf text top
IsTop _ _ = ⊥

-- how many ranges are to be listed
abbrev pub HoldsTop : List Row → Option ℕ → Type 0
HoldsTop rows top = IsTop (first_of (codes "top") rows) top

-- a summary is to be printed instead of answers
abbrev pub IsSummarized : List Row → Type 0
IsSummarized rows = one_of (codes "summary") rows ≡ Some (bool_text true)

-- `--top` has a value within its range or none, and if it has one, a summary is to be printed
abbrev pub HasTop : List Row → Type 0
HasTop rows = ((top : Option ℕ) × HoldsTop rows top) × (is_some (first_of (codes "top") rows) ≡ true → IsSummarized rows)

-- whether a failure is to be explained
abbrev pub HoldsVerbose : List Row → Bool → Type 0
HoldsVerbose rows verbose = one_of (codes "verbose") rows ≡ Some (bool_text verbose)

abbrev pub HasVerbose : List Row → Type 0
HasVerbose rows = (verbose : Bool) × HoldsVerbose rows verbose

-- The options that several resolvers can have: answers are printed at the end, without explanations or ranges. Transactions report if they
-- ask for it, and each file can be opened several times.
pub record IsShared (rows : List Row) : Type 0 where
  pub at_end : HoldsStream rows false
  pub unexplained : HoldsExplain rows false
  pub no_ranges : HoldsTop rows None
  pub asked : HoldsReports rows Asked
  pub no_input : inputs_of (all_of (codes "FILE") rows) ≡ 0

-- the number of resolvers is the one found
pub record HoldsResolvers (rows : List Row) (resolvers : ℕ) : Type 0 where
  pub number : option_map (λ text. digits_value 10 (without_leading_plus text)) (one_of (codes "resolvers") rows) ≡ Some resolvers
  pub least : 1 ≤ resolvers
  pub most : resolvers ≤ MAX_RESOLVERS

-- a number of resolvers within its range is found
abbrev pub HasResolvers : List Row → Type 0
HasResolvers rows = Has (IsUnsignedIn 1 MAX_RESOLVERS) (codes "resolvers") rows

-- the number of resolvers and the file of split points are those found
pub record HoldsSharding (rows : List Row) (sharding : Sharding) : Type 0 where
  pub resolvers : HoldsResolvers rows sharding.resolvers
  pub split_points : first_of (codes "split-points") rows ≡ option_map (λ name. name.now) sharding.split_points
  pub one : sharding.resolvers ≡ 1 → sharding.split_points ≡ None
  pub several : 2 ≤ sharding.resolvers → IsShared rows

-- a number of resolvers is found that fits the other options
abbrev pub HasSharding : List Row → Type 0
HasSharding rows = HasResolvers rows × ((sharding : Sharding) × HoldsSharding rows sharding)

-- The options that say what to print can't be used: two forms; a filter that is none, or that is beside a comparison; a comparison of
-- streamed answers; a summary beside another output; explanations without lines of words or JSON.
pub data PrintsNothing (rows : List Row) : Type 0 where
  no_form : ¬ (HasForm rows) → PrintsNothing rows
  no_filter : ¬ (HasFilter rows) → PrintsNothing rows
  no_stream : ¬ (HasStream rows) → PrintsNothing rows
  no_summary : ¬ (HasSummary rows) → PrintsNothing rows
  no_explanations : ¬ (HasExplain rows) → PrintsNothing rows

-- The names can't be used: no files or too many; standard input twice; a file that is both read and written; not one file of replies, or of
-- records, per file; a file for the summary without answers alone, in words or JSON, at the end.
pub data NamesNothing (rows : List Row) : Type 0 where
  no_files : ¬ (HasFiles rows) → NamesNothing rows
  no_input : ¬ (HasInputOnce rows) → NamesNothing rows
  not_kept : ¬ (KeepsInputs rows) → NamesNothing rows
  no_replies : ¬ (HasRepliesEach rows) → NamesNothing rows
  no_records : ¬ (HasRecordsEach rows) → NamesNothing rows
  no_summary_file : ¬ (HasSummaryFile rows) → NamesNothing rows

-- The details can't be used: `--top` without `--summary`, or `--verbose` without a value.
pub data DetailsNothing (rows : List Row) : Type 0 where
  no_top : ¬ (HasTop rows) → DetailsNothing rows
  no_verbose : ¬ (HasVerbose rows) → DetailsNothing rows

-- The arguments can't be used: what to print, its details, the reports, a number out of its range, the names, or an option that this number
-- of resolvers can't have.
pub data IsOfNoUse (rows : List Row) : Type 0 where
  no_printing : PrintsNothing rows → IsOfNoUse rows
  no_details : DetailsNothing rows → IsOfNoUse rows
  no_reports : ¬ (HasReports rows) → IsOfNoUse rows
  no_numbers : ¬ (HasNumbers rows) → IsOfNoUse rows
  no_names : NamesNothing rows → IsOfNoUse rows
  no_sharding : ¬ (HasSharding rows) → IsOfNoUse rows

-- The arguments are mistaken: `clap` finds a mistake, or else they can't be used.
abbrev pub IsMistaken : List (List ℕ) → Type 0
IsMistaken words = ((kind : ErrorKind) × IsAmong kind (faults_of words) × IsMistake kind) ⊎ IsOfNoUse (rows_of_words words)
