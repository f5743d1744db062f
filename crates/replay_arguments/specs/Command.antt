-- The command as `clap` sees it.
use Rattle.std.specs.Prelude.{pos, true, List, ℕ, [], ◌∷◌, codes, Some}
use Rattle.clap.specs.Words.{App, Rule, new_app, new_rule, with_rule}
use Rattle.clap.specs.declared.builder.action.ArgAction.TheVariants.{Append, SetTrue}
use Rattle.clap.specs.declared.builder.value_parser.ValueParser.{ValueParser}
use Rattle.clap.specs.declared.builder.value_parser.ValueParser.TheVariants.{Signed, Unsigned}
use Rattle.limits.specs.declared.settings.TheConstants.{MAX_CAPACITY, MAX_LIMIT, MAX_WINDOW}
use Rattle.replay_arguments.specs.declared.arguments.details.TheConstants.{MAX_TOP}
use Rattle.replay_arguments.specs.declared.arguments.shard_options.TheConstants.{MAX_RESOLVERS}

-- an option `--name`
abbrev pub flag_rule : List ℕ → Rule
flag_rule name = record (new_rule name) { long = Some name; action = Some SetTrue }

-- an option `--name VALUE`
abbrev pub valued_rule : List ℕ → Rule
valued_rule name = record (new_rule name) { long = Some name; value_names = 1 }

-- an option `--name VALUE`, any number of times
abbrev pub repeated_rule : List ℕ → Rule
repeated_rule name = record (valued_rule name) { action = Some Append }

-- an option `--name N` with this default
abbrev pub number_rule : List ℕ → List ℕ → ValueParser → Rule
number_rule name default_text parser = record (valued_rule name) { defaults = default_text ∷ []; parser = Some parser }

-- one word or more, anywhere among the options
abbrev pub words_rule : List ℕ → Rule
words_rule name = record (new_rule name) { action = Some Append; required = true }

abbrev pub capacity_rule : Rule
capacity_rule = number_rule (codes "capacity") (codes "16") (Unsigned 1 MAX_CAPACITY)

abbrev pub window_rule : Rule
window_rule = number_rule (codes "window") (codes "5000000") (Signed (pos 1) MAX_WINDOW)

abbrev pub limit_rule : Rule
limit_rule = number_rule (codes "limit") (codes "1000000") (Unsigned 1 MAX_LIMIT)

abbrev pub report_all_rule : Rule
report_all_rule = flag_rule (codes "report-all")

abbrev pub resolvers_rule : Rule
resolvers_rule = number_rule (codes "resolvers") (codes "1") (Unsigned 1 MAX_RESOLVERS)

-- an option `--split-points POINTS`
abbrev pub split_points_rule : Rule
split_points_rule = valued_rule (codes "split-points")

abbrev pub frames_rule : Rule
frames_rule = flag_rule (codes "frames")

abbrev pub json_rule : Rule
json_rule = flag_rule (codes "json")

abbrev pub quiet_rule : Rule
quiet_rule = flag_rule (codes "quiet")

-- an option `--only VERDICT`
abbrev pub only_rule : Rule
only_rule = valued_rule (codes "only")

-- an option `--versions A..B`
abbrev pub versions_rule : Rule
versions_rule = valued_rule (codes "versions")

abbrev pub explain_rule : Rule
explain_rule = flag_rule (codes "explain")

abbrev pub summary_rule : Rule
summary_rule = flag_rule (codes "summary")

-- an option `--check REPLIES`, any number of times
abbrev pub check_rule : Rule
check_rule = repeated_rule (codes "check")

abbrev pub stream_rule : Rule
stream_rule = flag_rule (codes "stream")

-- an option `--replies OUT`, any number of times
abbrev pub replies_rule : Rule
replies_rule = repeated_rule (codes "replies")

-- an option `--output FILE`, or `-o FILE`
abbrev pub output_rule : Rule
output_rule = record (valued_rule (codes "output")) { short = Some 111 }

-- an option `--summary-to FILE`
abbrev pub summary_to_rule : Rule
summary_to_rule = valued_rule (codes "summary-to")

-- an option `--top N`
abbrev pub top_rule : Rule
top_rule = record (valued_rule (codes "top")) { parser = Some (Unsigned 1 MAX_TOP) }

abbrev pub verbose_rule : Rule
verbose_rule = flag_rule (codes "verbose")

abbrev pub file_rule : Rule
file_rule = words_rule (codes "FILE")

abbrev pub plain_app : App
plain_app = new_app (codes "replay")

-- `replay` with `--help` and `--version`
abbrev pub program_app : App
program_app = record plain_app { top = record plain_app.top { has_version = true } }

-- the options that say how batches are resolved
abbrev pub with_resolving : App → App
with_resolving app =
    with_rule (with_rule (with_rule (with_rule (with_rule (with_rule app capacity_rule) window_rule) limit_rule) report_all_rule)
    resolvers_rule) split_points_rule

-- the options that say what is printed
abbrev pub with_printing : App → App
with_printing app =
    with_rule (with_rule (with_rule (with_rule (with_rule (with_rule (with_rule app frames_rule) json_rule) quiet_rule) only_rule)
    versions_rule) explain_rule) summary_rule

-- the options that name files beside those of batches, and the last ones
abbrev pub with_files : App → App
with_files app =
    with_rule (with_rule (with_rule (with_rule (with_rule (with_rule (with_rule app check_rule) stream_rule) replies_rule)
    output_rule) summary_to_rule) top_rule) verbose_rule

-- `replay [--capacity N] [--window N] [--limit N] [--report-all] [--resolvers N] [--split-points POINTS] [--frames] [--json] [--quiet]
-- [--only VERDICT] [--versions A..B] [--explain] [--summary] [--check REPLIES].. [--stream] [--replies OUT].. [--output FILE]
-- [--summary-to FILE] [--top N] [--verbose] FILE..`, with `--help` and `--version`
unfoldable pub replay_app : App
replay_app = with_rule (with_files (with_printing (with_resolving program_app))) file_rule
