use Rattle.std.proofs.Common.{◌≡◌, ◌∙◌, ap, sym, subst, codes, rules, Bor, List, ℕ, length, map}
use Rattle.std.proofs.lemmas.List.{length-map}
use Rattle.clap.specs.Words.{found_of, rows_of}
use Rattle.clap.proofs.WalkLemmas.{first_value-rows}
use Rattle.replay_arguments.specs.Arguments.{HasInputOnce, HasRecords, HasReplies, KeepsInputs, HoldsExplain, HoldsForm, HoldsStream, HoldsSummary, NamesNothing, is_kept}
use Rattle.replay_arguments.proofs.Refusals.{no_records_each, not_each, on_err}
use Rattle.replay_arguments.proofs.arguments.names.names_of.Goals as goal

pub returns-in_default-clause-none : goal.returns-in_default-clause-none
returns-in_default-clause-none c = λ form stream summed explained. NamesNothing.no_files (c.files_of.ensures.none c.in_default.is)

pub returns-then-not-has_input_once-clause-none : goal.returns-then-not-has_input_once-clause-none
returns-then-not-has_input_once-clause-none c = λ form stream summed explained.
    let none : ¬ (HasInputOnce (rows_of (found_of c.args.matches.now))) = search rules in
    NamesNothing.no_input none

pub returns-then-writes_input-clause-none : goal.returns-then-writes_input-clause-none
returns-then-writes_input-clause-none c = λ form stream summed explained.
    let none : ¬ (KeepsInputs (rows_of (found_of c.args.matches.now))) = search rules in
    NamesNothing.not_kept none

pub returns-in_err-replies-clause-none : goal.returns-in_err-replies-clause-none
returns-in_err-replies-clause-none c =
    let rows = rows_of (found_of c.args.matches.now) in
    let files = c.in-Some.files.now in
    let names : List (List ℕ) = map (λ (v : Bor (List ℕ)). v.now) files in
    let refused = c.in_err-replies.ensures.none in
    let count : length files ≡ length names = sym (length-map files (λ (v : Bor (List ℕ)). v.now)) in
    let none : HoldsForm rows c.args.printing.style.form → HoldsStream rows c.args.printing.is_streamed
    → HoldsSummary rows c.args.printing.style.form c.args.printing.summary → HoldsExplain rows c.args.printing.explains
    → NamesNothing rows =
    λ form stream summed explained. NamesNothing.no_replies (not_each rows names c.in-Some.ensures.files (form.check ∙ ap is_kept refused.0)
    (subst (λ (n : ℕ). ¬ (HasReplies n rows)) count refused.1)) in
    on_err _ none

pub returns-in_err-records-clause-none : goal.returns-in_err-records-clause-none
returns-in_err-records-clause-none c =
    let rows = rows_of (found_of c.args.matches.now) in
    let files = c.in-Some.files.now in
    let names : List (List ℕ) = map (λ (v : Bor (List ℕ)). v.now) files in
    let count : length files ≡ length names = sym (length-map files (λ (v : Bor (List ℕ)). v.now)) in
    let none : HoldsForm rows c.args.printing.style.form → HoldsStream rows c.args.printing.is_streamed
    → HoldsSummary rows c.args.printing.style.form c.args.printing.summary → HoldsExplain rows c.args.printing.explains
    → NamesNothing rows =
    λ form stream summed explained.
    let refused = c.in_err-records.ensures.none stream in
    NamesNothing.no_records (no_records_each rows names c.in-Some.ensures.files refused.0
    (subst (λ (n : ℕ). ¬ (HasRecords n rows)) count refused.1)) in
    on_err _ none

pub returns-in_default-summary_file-clause-none : goal.returns-in_default-summary_file-clause-none
returns-in_default-summary_file-clause-none c = λ form stream summed explained.
    NamesNothing.no_summary_file (c.summary_file.ensures.none form stream summed explained c.in_default-summary_file.is)

pub returns-clause-names : goal.returns-clause-names
returns-clause-names c = λ form stream summed explained. record {
  files = c.in-Some.ensures.files;
  least = c.in-Some.ensures.least;
  most = c.in-Some.ensures.most;
  input = search rules;
  kept = search rules;
  replies = c.in_ok-replies.ensures.replies;
  as_many = c.in_ok-replies.ensures.as_many;
  records = c.in_ok-records.ensures.records;
  records_each = c.in_ok-records.ensures.each;
  recorded = c.in_ok-records.ensures.streamed;
  output = sym (first_value-rows (found_of c.args.matches.now) (codes "output")) ∙ sym c.get_str.ensures;
  summary = c.in-Some-summary_file.ensures.file;
  beside = c.in-Some-summary_file.ensures.beside form stream summed explained;
}
