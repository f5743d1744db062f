-- The command line that is made of what the arguments are found to ask for.
use Rattle.std.specs.Prelude.{◌≡◌, ◌≤◌, ℕ, Bool, true, false, List, Option, None, Some, codes, is_some, length, map, option_map, vec_len}
use Rattle.std.specs.Borrow.{Bor}
use Rattle.std.proofs.Common.{refl, sym, ap, ◌∙◌, subst, inl, inr}
use Rattle.clap.specs.Words.{Row, one_of}
use Rattle.clap.specs.Values.{bool_text}
use Rattle.limits.specs.declared.settings.TheConstants.{MAX_PROXIES}
use Rattle.replay_output.specs.declared.options.Options.{Options}
use Rattle.replay_output.specs.declared.options.form.Form.{Form}
use Rattle.replay_output.specs.declared.options.style.Style.{Style}
use Rattle.replay_summary.specs.declared.text.SummaryForm.{SummaryForm}
use Rattle.replay_arguments.specs.declared.arguments.CommandLine.{CommandLine}
use Rattle.replay_arguments.specs.declared.arguments.asked.Asked.{Asked}
use Rattle.replay_arguments.specs.declared.arguments.shard_options.Sharding.{Sharding}
use Rattle.replay_arguments.specs.declared.arguments.summary_file.SummaryFile.{SummaryFile}
use Rattle.replay_arguments.specs.declared.arguments.task.Task.{Task}
use Rattle.replay_arguments.specs.declared.arguments.task.Task.TheVariants.{Print, Explain, Summarize, Stream, Check}
use Rattle.replay_arguments.specs.Asked.{HoldsAsked, IsLineOf, IsTaskOf}
use Rattle.replay_arguments.specs.Asks.{Asks, HoldsTask, top_of}
use Rattle.replay_arguments.specs.Arguments.{
  HoldsExplain,
  HoldsFilter,
  HoldsForm,
  HoldsNumbers,
  HoldsOptions,
  HoldsReports,
  HoldsSharding,
  HoldsStream,
  HoldsSummary,
  HoldsSummaryFile,
  HoldsTop,
  HoldsVerbose,
  IsTaken,
  rows_of_words,
}
use Rattle.replay_arguments.proofs.Explaining.{no_explanations, plain_without_check, plain_without_stream}
use Rattle.replay_arguments.proofs.Summaries.{no_summary, not_beside_check, not_beside_stream, not_some, off_and_on}

off_unless : (b : Bool) → (b ≡ true → ⊥) → b ≡ false
off_unless false none = refl
off_unless true none = absurd (none refl)

module _ (rows : List Row) (asked : Asked) (holds : HoldsAsked rows asked) where
  abbrev form : Form
  form = asked.printing.style.form

  -- what is found, if what is asked for is known
  summed : (summary : Option SummaryForm) → asked.printing.summary ≡ summary → HoldsSummary rows form summary
  summed summary is = subst (λ (o : Option SummaryForm). HoldsSummary rows form o) is holds.printing.summary

  explained : (explains : Bool) → asked.printing.explains ≡ explains → HoldsExplain rows explains
  explained explains is = subst (HoldsExplain rows) is holds.printing.explain

  streamed : (is_streamed : Bool) → asked.printing.is_streamed ≡ is_streamed → HoldsStream rows is_streamed
  streamed is_streamed is = subst (HoldsStream rows) is holds.printing.stream

  -- ranges are listed in a summary that is printed
  no_top : one_of (codes "summary") rows ≡ Some (bool_text false) → HoldsTop rows None
  no_top off =
      let unlisted = off_unless (is_some asked.details.top)
      (λ some. off_and_on rows (codes "summary") off (holds.details.summarized some)) in
      subst (λ (top : Option ℕ). HoldsTop rows top) (not_some asked.details.top unlisted) holds.details.top

  task_holds : (task : Task) → IsTaskOf asked task
      → HoldsTask rows (length asked.names.files.now) form task × HoldsTop rows (top_of task)
  task_holds Print is = (
    record {
      printed = is.printed;
      at_end = streamed false is.at_end;
      no_summary = summed None is.no_summary;
      unexplained = explained false is.unexplained;
    },
    no_top (summed None is.no_summary),
  )
  task_holds Explain is =
      let plain = holds.printing.explained_plain is in (
        record { explained = explained true is; plain = plain },
        no_top plain.summary,
      )
  task_holds (Summarize summary top) is =
      let found = summed (Some summary) is.0 in
      let unexplained = off_unless asked.printing.explains
      (λ on. off_and_on rows (codes "summary") (holds.printing.explained_plain on).summary found.0) in (
        record {
          summarized = found;
          alone = holds.printing.alone (ap is_some is.0);
          unexplained = explained false unexplained;
        },
        subst (λ (o : Option ℕ). HoldsTop rows o) (sym is.1) holds.details.top,
      )
  task_holds (Stream records) is =
      let on = streamed true is.0 in
      let off = no_summary rows form asked.printing.summary holds.printing.summary
      (λ some. not_beside_stream rows on (holds.printing.alone some)) in
      let unexplained = no_explanations rows asked.printing.explains holds.printing.explain
      (λ explains. plain_without_stream rows on (holds.printing.explained_plain explains)) in (
        record {
          printed = holds.printing.plain is.0;
          streamed = on;
          no_summary = off;
          unexplained = unexplained;
          records = ap (λ (names : List (Bor (List ℕ))). map (λ name. name.now) names) is.1 ∙ holds.names.records;
          each = elim holds.names.records_each [
            | inl none ↦ inl (ap length is.1 ∙ none)
            | inr each ↦ inr (ap length is.1 ∙ each)
          ];
        },
        no_top off,
      )
  task_holds (Check replies) is =
      let found = holds.names.replies is.0 in
      let off = no_summary rows form asked.printing.summary holds.printing.summary
      (λ some. not_beside_check rows _ found (holds.printing.alone some)) in
      let unexplained = no_explanations rows asked.printing.explains holds.printing.explain
      (λ explains. plain_without_check rows _ found (holds.printing.explained_plain explains)) in
      let at_end = off_unless asked.printing.is_streamed (λ on. holds.printing.plain on is.0) in (
        record {
          kept = is.0;
          replies = found ∙ ap (λ (names : List (Bor (List ℕ))). Some (map (λ name. name.now) names)) (sym is.1);
          each = ap length is.1 ∙ holds.names.as_many is.0;
          all = holds.printing.all is.0;
          at_end = streamed false at_end;
          no_summary = off;
          unexplained = unexplained;
        },
        no_top off,
      )

module _ (words : List (List ℕ)) (asked : Asked) (line : CommandLine) (holds : HoldsAsked (rows_of_words words) asked)
    (is : IsLineOf asked line) where
  style : line.options.style ≡ asked.printing.style
  style = ap (λ (options : Options). options.style) is.options ∙ holds.style

  form_of : line.options.style.form ≡ asked.printing.style.form
  form_of = ap (λ (style : Style). style.form) style

  options : HoldsOptions (rows_of_words words) line.options
  options = record {
    numbers = subst (λ (options : Options). HoldsNumbers (rows_of_words words) options) (sym is.options) holds.numbers;
    reports = subst (λ (options : Options). HoldsReports (rows_of_words words) options.reports) (sym is.options) holds.reports;
    form = subst (HoldsForm (rows_of_words words)) (sym form_of) holds.printing.form;
    filter = subst (λ (style : Style). HoldsFilter (rows_of_words words) style.filter) (sym style) holds.printing.filter;
  }

  count : length asked.names.files.now ≡ vec_len line.files
  count = ap length (sym is.files) ∙ sym line.files.ok.0

  task : HoldsTask (rows_of_words words) (vec_len line.files) line.options.style.form line.task
  task =
      subst (λ (files : ℕ). HoldsTask (rows_of_words words) files line.options.style.form line.task) count
      (subst (λ (form : Form). HoldsTask (rows_of_words words) (length asked.names.files.now) form line.task) (sym form_of)
      (task_holds (rows_of_words words) asked holds line.task is.task).0)

  summary_file : HoldsSummaryFile (rows_of_words words) line.options.style.form line.summary_to
  summary_file =
      subst (λ (file : Option SummaryFile). HoldsSummaryFile (rows_of_words words) line.options.style.form file) (sym is.summary_to)
      (subst (λ (form : Form). HoldsSummaryFile (rows_of_words words) form asked.names.summary) (sym form_of) holds.names.summary)

  -- the words ask for this line, if `clap` takes them
  pub line_asks : IsTaken words → Asks words line
  line_asks taken = record {
    taken = taken;
    holds_options = options;
    files = holds.names.files ∙ ap (λ (names : List (Bor (List ℕ))). Some (map (λ name. name.now) names)) (sym is.files);
    least = subst (λ (n : ℕ). 1 ≤ n) count holds.names.least;
    most = subst (λ (n : ℕ). n ≤ MAX_PROXIES) count holds.names.most;
    input = holds.names.input;
    kept = holds.names.kept;
    task = task;
    recorded = λ some. streamed (rows_of_words words) asked holds true (holds.names.recorded some);
    output = holds.names.output ∙ ap (option_map (λ (name : Bor (List ℕ)). name.now)) (sym is.output);
    summary_file = summary_file;
    beside = λ some. holds.names.beside (ap is_some (sym is.summary_to) ∙ some);
    top = (task_holds (rows_of_words words) asked holds line.task is.task).1;
    verbose = subst (HoldsVerbose (rows_of_words words)) (sym is.verbose) holds.details.verbose;
    sharding = subst (λ (sharding : Sharding). HoldsSharding (rows_of_words words) sharding) (sym is.sharding) holds.sharding;
  }
