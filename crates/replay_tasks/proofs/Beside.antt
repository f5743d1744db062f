-- What failed, where the answers are printed and their summary is written beside them.
use Rattle.std.specs.Prelude.{◌≡◌, ◌⊎◌, ℕ, ◌<◌, List, length, map, Option, Result, Ok, Err, OnOk, OnErr, IsOk, IsErr}
use Rattle.std.proofs.Common.{refl, subst, inl, inr, arith}
use Rattle.std.proofs.lemmas.Bool.{false≢true}
use Rattle.replay_output.specs.declared.failures.Ending.{Ending}
use Rattle.replay_output.specs.declared.failures.ProxyFailure.{ProxyFailure}
use Rattle.replay_output.specs.declared.line.Line.{Line}
use Rattle.replay_output.specs.declared.options.style.Style.{Style}
use Rattle.replay_output.specs.Failures.{failure_lines, with_loss, NothingFailed}
use Rattle.replay_output.specs.Line.{answers_of}
use Rattle.replay_output.specs.Lines.{lines}
use Rattle.replay_summary.specs.declared.occupancy.Occupancy.{Occupancy}
use Rattle.replay_summary.specs.declared.text.SummaryForm.{SummaryForm}
use Rattle.replay_tasks.specs.Replayed.{HasFailed, Took, TookPrefix, Written}
use Rattle.replay_tasks.specs.Summarized.{BothFailed, TakesToSummarize, TookUnlessFailed, run_summary}
use Rattle.replay_tasks.proofs.callers.Replaying.{loss_is_no_clean}

-- what holds of a success
pub held : {T E P : Type 0} (result : Result T E) → OnOk result P → IsOk result → P
held (Ok x) holds ok = holds
held (Err e) holds ok = absurd (false≢true ok)

-- a writer was given a text, or failed in it
took : {T E : Type 0} (result : Result T E) (writer : Written) (text : List ℕ) → OnOk result (Took writer text)
    → OnErr result (TookPrefix writer text) → OnErr result (HasFailed writer) → TookUnlessFailed writer text
took (Ok x) writer text entire prefix failed = inl entire
took (Err e) writer text entire prefix failed = inr (failed, prefix)

pub lines_reported : {T E : Type 0} (reported : Result T E) (error : Written) (text : List ℕ) → OnOk reported (Took error text)
    → (IsErr reported → HasFailed error) → HasFailed error ⊎ Took error text
lines_reported (Ok x) error text entire failed = inr entire
lines_reported (Err e) error text entire failed = inl (failed refl)

module _ (form : SummaryForm) (occupancy : Option Occupancy) (style : Style) (received : List (List Line)) (failures : List ProxyFailure)
    (ending : Ending) (out beside error : Written) where
  -- which of four failed
  why_failed : {S T U E F G : Type 0} (printed : Result S E) (put : Result T F) (reported : Result U G) → OnErr printed (HasFailed out)
      → OnErr put (HasFailed beside) → (IsErr reported → HasFailed error)
      → ¬ (NothingFailed failures ending × IsOk printed × IsOk put × IsOk reported)
      → HasFailed out ⊎ (HasFailed beside ⊎ (HasFailed error ⊎ ¬ (NothingFailed failures ending)))
  why_failed (Err e) put reported out_failed beside_failed error_failed not_all = inl out_failed
  why_failed (Ok x) (Err f) reported out_failed beside_failed error_failed not_all = inr (inl beside_failed)
  why_failed (Ok x) (Ok y) (Err g) out_failed beside_failed error_failed not_all = inr (inr (inl (error_failed refl)))
  why_failed (Ok x) (Ok y) (Ok z) out_failed beside_failed error_failed not_all =
      inr (inr (inr (λ nothing. not_all (nothing, refl, refl, refl))))

  -- both texts were begun
  pub both_failed : {S T U E F G : Type 0} (printed : Result S E) (put : Result T F) (reported : Result U G)
      → OnOk printed (Took out (lines style (map answers_of received)))
      → OnErr printed (TookPrefix out (lines style (map answers_of received))) → OnErr printed (HasFailed out)
      → OnOk put (Took beside (run_summary form occupancy (map answers_of received)))
      → OnErr put (TookPrefix beside (run_summary form occupancy (map answers_of received))) → OnErr put (HasFailed beside)
      → OnOk reported (Took error (failure_lines failures ending)) → (IsErr reported → HasFailed error)
      → ¬ (NothingFailed failures ending × IsOk printed × IsOk put × IsOk reported)
      → BothFailed form occupancy style received failures ending out beside error
  both_failed printed put reported entire prefix failed put_entire put_prefix put_failed reported_entire reported_failed not_all = record {
    reported = failures;
    texts = inl (
      refl,
      took printed out (lines style (map answers_of received)) entire prefix failed,
      took put beside (run_summary form occupancy (map answers_of received)) put_entire put_prefix put_failed,
    );
    lines_of_failures = lines_reported reported error (failure_lines failures ending) reported_entire reported_failed;
    why = why_failed printed put reported failed put_failed reported_failed not_all;
  }

  -- neither text was begun, since memory was refused
  pub both_lost : {U G : Type 0} (proxy : ℕ) (after : List ProxyFailure) (reported : Result U G) → proxy < length received
      → length failures ≡ length received → TakesToSummarize received proxy → after ≡ with_loss proxy failures
      → OnOk reported (Took error (failure_lines after ending)) → (IsErr reported → HasFailed error) → out.after ≡ out.before
      → beside.after ≡ beside.before → BothFailed form occupancy style received failures ending out beside error
  both_lost proxy after reported inside same takes is reported_entire reported_failed out_kept beside_kept = record {
    reported = after;
    texts = inr ((proxy, inside, takes, is), out_kept, beside_kept);
    lines_of_failures = lines_reported reported error (failure_lines after ending) reported_entire reported_failed;
    why =
        inr (inr (inr (λ nothing.
        loss_is_no_clean proxy failures (omega (arith, inside, same))
        (subst (λ (f : List ProxyFailure). NothingFailed f ending) is nothing).proxies)));
  }
