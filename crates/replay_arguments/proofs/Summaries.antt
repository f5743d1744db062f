-- Which summary is found to be asked for.
use Rattle.std.specs.Prelude.{◌≡◌, ◌↔◌, ℕ, Bool, true, false, not, IsTrue, List, Option, None, Some, codes, is_some}
use Rattle.std.proofs.Common.{refl, sym, ap, ◌∙◌, subst}
use Rattle.std.proofs.lemmas.Bool.{false≢true}
use Rattle.std.proofs.lemmas.Option.{none-some}
use Rattle.clap.specs.Values.{bool_text}
use Rattle.clap.specs.Words.{Row, all_of, one_of}
use Rattle.replay_output.specs.declared.options.form.Form.{Form}
use Rattle.replay_output.specs.declared.options.form.Form.TheVariants.{Words, Frames, Json, Kept}
use Rattle.replay_summary.specs.declared.text.SummaryForm.{SummaryForm}
use Rattle.replay_arguments.specs.Arguments.{
  AsksForAll,
  HasSummary,
  HoldsExplain,
  HoldsForm,
  HoldsStream,
  HoldsSummary,
  IsAlone,
  IsBeside,
  IsSummarized,
  is_frames,
  is_kept,
  summary_form,
}
use Rattle.replay_arguments.proofs.Getters.{bool_text_same}
use Rattle.replay_arguments.proofs.Numbers.{Some-injective}

pub not_true : (b : Bool) → not b ≡ true → b ≡ false
not_true false is = refl
not_true true is = absurd (false≢true is)

pub true_not : (b : Bool) → b ≡ false → not b ≡ true
true_not b is = ap not is

pub not_some : {A : Type 0} (o : Option A) → is_some o ≡ false → o ≡ None
not_some None is = refl
not_some (Some a) is = absurd (false≢true (sym is))

-- lines of frames, and replies that are kept, have no summary
plain_form : (form : Form) (summary : SummaryForm) → summary_form form ≡ Some summary
    → (is_frames form ≡ false) × (is_kept form ≡ false)
plain_form Words summary is = (refl, refl)
plain_form Json summary is = (refl, refl)
plain_form Frames summary is = absurd (none-some summary is)
plain_form Kept summary is = absurd (none-some summary is)

-- the others have one
has_form : (form : Form) → is_frames form ≡ false → is_kept form ≡ false → is_some (summary_form form) ≡ true
has_form Words frames kept = refl
has_form Json frames kept = refl
has_form Frames frames kept = absurd (false≢true (sym frames))
has_form Kept frames kept = absurd (false≢true (sym kept))

not_printed : (rows : List Row) (form : Form) (summary : Option SummaryForm) → HoldsSummary rows form summary
    → one_of (codes "summary") rows ≡ Some (bool_text false) → summary ≡ None
not_printed rows form None summed off = refl
not_printed rows form (Some summary) summed off =
    absurd (false≢true (bool_text_same false true (Some-injective (sym off ∙ summed.0))))

module _ (rows : List Row) (form : Form) (is_streamed : Bool) (holds : HoldsForm rows form)
    (streams : HoldsStream rows is_streamed) where
  pub is_alone : (summary : SummaryForm) → summary_form form ≡ Some summary → is_streamed ≡ false → AsksForAll rows → IsAlone rows
  is_alone summary is off all =
      let plain = plain_form form summary is in
      record {
        frames = holds.frames ∙ ap (λ (b : Bool). Some (bool_text b)) plain.0;
        check = holds.check ∙ plain.1;
        stream = subst (HoldsStream rows) off streams;
        all = all;
      }

  -- a summary that is found alone has a form, and lines don't come as answers do
  pub alone_has : IsAlone rows → (is_streamed ≡ false) × (is_some (summary_form form) ≡ true)
  alone_has alone =
      let frames = bool_text_same (is_frames form) false (Some-injective (sym holds.frames ∙ alone.frames)) in
      let kept = sym holds.check ∙ alone.check in (
        bool_text_same is_streamed false (Some-injective (sym streams ∙ alone.stream)),
        has_form form frames kept,
      )

  -- a file for the summary that is found beside answers: they have a summary, are printed at the end, and alone
  pub beside_has : (summary : Option SummaryForm) → HoldsSummary rows form summary → (explains : Bool) → HoldsExplain rows explains
      → IsBeside rows
      → (is_streamed ≡ false) × ((summary ≡ None) × (explains ≡ false)) × (is_some (summary_form form) ≡ true)
  beside_has summary summed explains explained beside =
      let frames = bool_text_same (is_frames form) false (Some-injective (sym holds.frames ∙ beside.frames)) in
      let kept = sym holds.check ∙ beside.check in (
        bool_text_same is_streamed false (Some-injective (sym streams ∙ beside.stream)),
        (
          not_printed rows form summary summed beside.summary,
          bool_text_same explains false (Some-injective (sym explained ∙ beside.explain)),
        ),
        has_form form frames kept,
      )

  pub is_beside : (file : SummaryForm) → summary_form form ≡ Some file → is_streamed ≡ false → (summary : Option SummaryForm)
      → HoldsSummary rows form summary → summary ≡ None → (explains : Bool) → HoldsExplain rows explains → explains ≡ false
      → IsBeside rows
  is_beside file is off summary summed none explains explained plainly =
      let plain = plain_form form file is in
      let printed : HoldsSummary rows form None = subst (HoldsSummary rows form) none summed in
      record {
        frames = holds.frames ∙ ap (λ (b : Bool). Some (bool_text b)) plain.0;
        check = holds.check ∙ plain.1;
        stream = subst (HoldsStream rows) off streams;
        summary = printed;
        explain = subst (HoldsExplain rows) plainly explained;
      }

-- a summary is found to be printed exactly if there is a form for it
pub summarized_by : (rows : List Row) (form : Form) (summary : Option SummaryForm) → HoldsSummary rows form summary
    → (IsTrue (is_some summary) ↔ IsSummarized rows)
summarized_by rows form None summed =
    (λ is. absurd (false≢true is), λ is. bool_text_same false true (Some-injective (sym summed ∙ is)))
summarized_by rows form (Some summary) summed = (λ is. summed.0, λ is. refl)

-- a switch isn't found to be both off and on
pub off_and_on : (rows : List Row) (id : List ℕ) → one_of id rows ≡ Some (bool_text false) → one_of id rows ≡ Some (bool_text true) → ⊥
off_and_on rows id off on = false≢true (bool_text_same false true (Some-injective (sym off ∙ on)))

-- if a summary can't be alone there is none
pub no_summary : (rows : List Row) (form : Form) (summary : Option SummaryForm) → HoldsSummary rows form summary
    → (is_some summary ≡ true → ⊥) → HoldsSummary rows form None
no_summary rows form None holds other = holds
no_summary rows form (Some summary) holds other = absurd (other refl)

pub not_beside_check : (rows : List Row) (names : List (List ℕ)) → all_of (codes "check") rows ≡ Some names → ¬ (IsAlone rows)
not_beside_check rows names found alone = false≢true (sym alone.check ∙ ap is_some found)

pub not_beside_stream : (rows : List Row) → HoldsStream rows true → ¬ (IsAlone rows)
not_beside_stream rows streams alone = false≢true (bool_text_same false true (Some-injective (sym alone.stream ∙ streams)))

-- a summary that is found to be asked for is alone, if one may be
pub alone_of : (rows : List Row) → one_of (codes "summary") rows ≡ Some (bool_text true) → HasSummary rows → IsAlone rows
alone_of rows asked has =
    has.2 (bool_text_same has.0 true (Some-injective (sym has.1 ∙ asked)))
