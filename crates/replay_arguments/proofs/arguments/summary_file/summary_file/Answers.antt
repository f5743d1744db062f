use Rattle.std.proofs.Common.{◌∙◌, ap, sym, codes, option_map}
use Rattle.std.specs.Prelude.{is_some}
use Rattle.std.proofs.lemmas.Bool.{false≢true}
use Rattle.clap.specs.Words.{found_of, rows_of}
use Rattle.clap.proofs.WalkLemmas.{first_value-rows}
use Rattle.replay_arguments.proofs.Summaries.{beside_has, is_beside}
use Rattle.replay_arguments.proofs.arguments.summary_file.summary_file.Goals as goal

pub returns-in_default-clause-file : goal.returns-in_default-clause-file
returns-in_default-clause-file c =
    sym (first_value-rows (found_of c.args.matches.now) (codes "summary-to")) ∙ sym c.get_str.ensures
    ∙ ap (option_map (λ s. s.now)) c.in_default.is

pub returns-in_err-form-clause-none : goal.returns-in_err-form-clause-none
returns-in_err-form-clause-none c = λ holds streams summed explained is has.
    let rows = rows_of (found_of c.args.matches.now) in
    let printing = c.args.printing in
    let found = sym (first_value-rows (found_of c.args.matches.now) (codes "summary-to")) ∙ sym c.get_str.ensures
    ∙ ap (option_map (λ s. s.now)) c.in-Some.is in
    let parts = beside_has rows printing.style.form printing.is_streamed holds streams printing.summary summed
    printing.explains explained (has (ap is_some found)) in
    false≢true (sym (c.form_alone.ensures.none c.in_err-form.was parts.0 (c.are_alone-alone.ensures.alone.1 parts.1)) ∙ parts.2)

pub returns-clause-file : goal.returns-clause-file
returns-clause-file c = (
  sym (first_value-rows (found_of c.args.matches.now) (codes "summary-to")) ∙ sym c.get_str.ensures
      ∙ ap (option_map (λ s. s.now)) c.in-Some.is,
  c.in_ok-form.ensures.form,
)

pub returns-clause-beside : goal.returns-clause-beside
returns-clause-beside c = λ holds streams summed explained some.
    let printing = c.args.printing in
    let ensures = c.in_ok-form.ensures in
    let alone = c.are_alone-alone.ensures.alone.0 ensures.alone.1 in
    is_beside (rows_of (found_of c.args.matches.now)) printing.style.form printing.is_streamed holds streams c.in_ok-form.form
    ensures.form ensures.alone.0 printing.summary summed alone.0 printing.explains explained alone.1
