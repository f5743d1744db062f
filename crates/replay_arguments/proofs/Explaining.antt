-- Whether rejections are found to be explained.
use Rattle.std.specs.Prelude.{◌≡◌, ◌⊎◌, ℕ, Bool, true, false, List, Option, None, Some, codes, is_some}
use Rattle.std.proofs.Common.{inl, inr, refl, sym, ap, ◌∙◌}
use Rattle.std.proofs.lemmas.Bool.{false≢true}
use Rattle.clap.specs.Words.{Row, all_of}
use Rattle.replay_output.specs.declared.options.form.Form.{Form}
use Rattle.replay_output.specs.declared.options.form.Form.TheVariants.{Words, Frames, Json, Kept}
use Rattle.replay_summary.specs.declared.text.SummaryForm.{SummaryForm}
use Rattle.replay_arguments.specs.Arguments.{
  HasExplain,
  HoldsExplain,
  HoldsForm,
  HoldsStream,
  HoldsSummary,
  IsPlain,
  is_frames,
  is_kept,
}
use Rattle.replay_arguments.proofs.Getters.{bool_text_same}
use Rattle.replay_arguments.proofs.Numbers.{Some-injective}

words_or_json : (form : Form) → is_frames form ≡ false → is_kept form ≡ false → (form ≡ Words) ⊎ (form ≡ Json)
words_or_json Words frames kept = inl refl
words_or_json Frames frames kept = absurd (false≢true (sym frames))
words_or_json Json frames kept = inr refl
words_or_json Kept frames kept = absurd (false≢true (sym kept))

module _ (rows : List Row) (form : Form) (is_streamed : Bool) (holds : HoldsForm rows form)
    (streams : HoldsStream rows is_streamed) where
  summary_alone : (summary : Option SummaryForm) → HoldsSummary rows form summary → IsPlain rows → summary ≡ None
  summary_alone None summed plain = refl
  summary_alone (Some summary) summed plain =
      absurd (false≢true (bool_text_same false true (Some-injective (sym plain.summary ∙ summed.0))))

  -- lines of words or of JSON are found alone
  pub plain_has : (summary : Option SummaryForm) → HoldsSummary rows form summary → IsPlain rows
      → ((form ≡ Words) ⊎ (form ≡ Json)) × (is_streamed ≡ false) × (summary ≡ None)
  plain_has summary summed plain = (
    words_or_json form (bool_text_same (is_frames form) false (Some-injective (sym holds.frames ∙ plain.frames)))
        (sym holds.check ∙ plain.check),
    bool_text_same is_streamed false (Some-injective (sym streams ∙ plain.stream)),
    summary_alone summary summed plain,
  )

-- if rejections are found to be explained, and may be, lines of words or of JSON are found alone
pub plain_of : (rows : List Row) → HoldsExplain rows true → HasExplain rows → IsPlain rows
plain_of rows asked has = has.2 (bool_text_same has.0 true (Some-injective (sym has.1 ∙ asked)))

pub no_explanations : (rows : List Row) (explains : Bool) → HoldsExplain rows explains → (explains ≡ true → ⊥) → HoldsExplain rows false
no_explanations rows false holds other = holds
no_explanations rows true holds other = absurd (other refl)

pub plain_without_check : (rows : List Row) (names : List (List ℕ)) → all_of (codes "check") rows ≡ Some names → ¬ (IsPlain rows)
plain_without_check rows names found plain = false≢true (sym plain.check ∙ ap is_some found)

pub plain_without_stream : (rows : List Row) → HoldsStream rows true → ¬ (IsPlain rows)
plain_without_stream rows streams plain = false≢true (bool_text_same false true (Some-injective (sym plain.stream ∙ streams)))
