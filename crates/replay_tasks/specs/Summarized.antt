-- What is printed of answers that are summarized. This project's own.
use Rattle.std.specs.Prelude.{◌≡◌, ℕ, ◌+◌, ◌⊎◌, Bool, List, ◌++◌, length, map, Option, None, Some, IfSome, Result, Err, OnOk}
use Rattle.std.specs.Io.KnownBytes.{Appends}
use Rattle.keyspace.specs.declared.answer.Answer.{Answer}
use Rattle.keyspace.specs.Processed.{Processed}
use Rattle.keyspace.specs.Run.{run}
use Rattle.limits.specs.declared.stop.Stop.{Stop}
use Rattle.replay_hot_ranges.specs.declared.hot_range.Top.{Top}
use Rattle.replay_hot_ranges.specs.Text.{members, lines as hot_lines}
use Rattle.replay_hot_ranges.specs.Top.{IsTopOf}
use Rattle.replay_summary.specs.declared.occupancy.Occupancy.{Occupancy}
use Rattle.replay_summary.specs.declared.text.SummaryForm.{SummaryForm}
use Rattle.replay_summary.specs.declared.text.SummaryForm.TheVariants.{Words, Json}
use Rattle.replay_summary.specs.Counted.{counted_of}
use Rattle.replay_summary.specs.Summary.{summary_of}
use Rattle.replay_summary.specs.Text.{text}
use Rattle.replay_output.specs.declared.failures.Ending.{Ending}
use Rattle.replay_output.specs.declared.failures.ProxyFailure.{ProxyFailure}
use Rattle.replay_output.specs.declared.line.Line.{Line}
use Rattle.replay_output.specs.declared.options.Options.{Options}
use Rattle.replay_output.specs.declared.options.style.Style.{Style}
use Rattle.replay_output.specs.declared.report.lines.PrintError.{PrintError}
use Rattle.replay_output.specs.declared.report.lines.PrintError.TheVariants.{Memory, Write}
use Rattle.replay_output.specs.Failures.{failure_lines, NothingFailed}
use Rattle.replay_output.specs.Line.{TakesToSort, answers_of}
use Rattle.replay_output.specs.Lines.{in_order, lines}
use Rattle.replay_output.specs.Notes.{with_member}
use Rattle.replay_workers.specs.Occupied.{IsOccupancyOver}
use Rattle.replay_workers.specs.Run.{IsMeasuredRun}
use Rattle.replay_tasks.specs.Replayed.{
  DidNotStart,
  HasFailed,
  IsReplayedOver,
  IsWithLoss,
  RanAndFailed,
  Took,
  TookPrefix,
  Written,
  ending_of,
}

-- the complete text, given the answers to each proxy as received: that of their summaries, and of how full the resolver was if that is known
abbrev pub run_summary : SummaryForm → Option Occupancy → List (List Answer) → List ℕ
run_summary form occupancy answers = text form occupancy (map (λ own. summary_of (map counted_of (in_order own))) answers)

-- the ranges that conflict most, in the form of a summary: lines, or members of its object
abbrev pub text_of_top : SummaryForm → Top → List ℕ
text_of_top Words top = hot_lines top
text_of_top Json top = members top

-- a summary, and after its lines or in its object these ranges
abbrev pub with_ranges : SummaryForm → List ℕ → List ℕ → List ℕ
with_ranges Words summary ranges = summary ++ ranges
with_ranges Json summary ranges = with_member summary ranges

-- the complete text if ranges are listed too
abbrev pub summary_and_top : SummaryForm → Occupancy → Top → List (List Answer) → List ℕ
summary_and_top form occupancy top answers = with_ranges form (run_summary form (Some occupancy) answers) (text_of_top form top)

-- it is the text of the ranges that conflict most among these batches, at most this many of each kind
pub record IsTextOfTop (form : SummaryForm) (most : ℕ) (processed : List Processed) (ranges : List ℕ) : Type 0 where
  pub top : Top
  pub is_top : IsTopOf processed most top
  pub is_text : ranges ≡ text_of_top form top

-- All was read, resolved and summarized. The text printed is that of the summaries of all answers, and of how full the resolver was over
-- the same log. If ranges are to be listed, it also has those that conflict most among the batches that the reference resolver processes
-- over it.
abbrev pub IsSummarized : SummaryForm → Option ℕ → Options → List (Option (List ℕ)) → Option (List ℕ) → Option (List ℕ) → Type 0
IsSummarized form None options files before after =
    IsReplayedOver
    (λ log answers. (occupancy : Occupancy) × IsOccupancyOver options.limit options.window log occupancy
    × Appends before after (run_summary form (Some occupancy) answers)) options files
IsSummarized form (Some most) options files before after =
    IsReplayedOver
    (λ log answers. (occupancy : Occupancy) × IsOccupancyOver options.limit options.window log occupancy
    × ((top : Top) × IsTopOf (run options.window log).processed most top
    × Appends before after (summary_and_top form occupancy top answers))) options files

-- Memory is taken to sort the lines of the proxy of this number, or for the summaries, the ranges and their text: after those of the last
-- proxy. That proxy also has the loss if a number of the summaries is beyond 64 bits.
abbrev pub TakesToSummarize : List (List Line) → ℕ → Type 0
TakesToSummarize received proxy = TakesToSort received proxy ⊎ (proxy + 1 ≡ length received)

-- the text of a summary with ranges; without, if memory was refused for them
abbrev pub summary_with : SummaryForm → Occupancy → Option Top → List (List Answer) → List ℕ
summary_with form occupancy None answers = run_summary form (Some occupancy) answers
summary_with form occupancy (Some top) answers = summary_and_top form occupancy top answers

-- A summary of these answers was printed, with the ranges that conflict most among these batches, unless the writer failed or memory was
-- refused.
pub record PrintsWithTop {T : Type 0} (form : SummaryForm) (most : ℕ) (occupancy : Occupancy) (processed : List Processed)
    (answers : List (List Answer)) (printed : Result T PrintError) (out : Written) : Type 0 where
  pub top : Option Top
  pub is_top : IfSome top (IsTopOf processed most)
  pub without : top ≡ None → (proxy : ℕ) × (printed ≡ Err (Memory proxy))
  pub lines : OnOk printed (Took out (summary_with form occupancy top answers))
  pub prefix : printed ≡ Err Write → TookPrefix out (summary_with form occupancy top answers)

-- The files were replayed, and something failed. This is how full the resolver was: over the log, or before its last step if a stop was met
-- in that.
pub record MeasuredAndFailed (form : SummaryForm) (options : Options) (files : List (Option (List ℕ))) (out error : Written) : Type 0
  where
    pub occupancy : Occupancy
    pub failed :
        RanAndFailed (IsMeasuredRun (λ _. Unit {0}) occupancy options files) (run_summary form (Some occupancy)) TakesToSummarize
        (length files) out error

-- The same with ranges. They are those of these batches: of all that were processed, unless a stop was met. Then those of the last step may
-- be missing.
pub record CountedAndFailed (form : SummaryForm) (most : ℕ) (options : Options) (files : List (Option (List ℕ))) (out error : Written)
    : Type 0 where
  pub counted : List Processed
  pub occupancy : Occupancy
  -- none if memory was refused for them, and then nothing was printed
  pub top : Option Top
  pub is_top : IfSome top (IsTopOf counted most)
  pub nothing_without : top ≡ None → out.after ≡ out.before
  pub failed :
      RanAndFailed (IsMeasuredRun (λ seen. seen ≡ counted) occupancy options files) (summary_with form occupancy top) TakesToSummarize
      (length files) out error

-- The program failed, which was to print a summary.
abbrev pub FailsToSummarize : SummaryForm → Option ℕ → Options → List (Option (List ℕ)) → Written → Written → Type 0
FailsToSummarize form None options files out error = DidNotStart out error ⊎ MeasuredAndFailed form options files out error
FailsToSummarize form (Some most) options files out error =
    DidNotStart out error ⊎ CountedAndFailed form most options files out error

-- A summary beside the answers.

-- All was read and resolved. The text printed is the lines of the answers that are shown. Another writer was given the summary of all
-- answers, and how full the resolver was over the same log.
abbrev pub IsReplayedAndSummarized : SummaryForm → Options → List (Option (List ℕ)) → Option (List ℕ) → Option (List ℕ)
    → Option (List ℕ) → Option (List ℕ) → Type 0
IsReplayedAndSummarized form options files before after before_beside after_beside =
    IsReplayedOver
    (λ log answers. Appends before after (lines options.style answers)
    × ((occupancy : Occupancy) × IsOccupancyOver options.limit options.window log occupancy
    × Appends before_beside after_beside (run_summary form (Some occupancy) answers))) options files

-- a writer was given this text, or failed after a prefix of it
abbrev pub TookUnlessFailed : Written → List ℕ → Type 0
TookUnlessFailed writer text = Took writer text ⊎ (HasFailed writer × TookPrefix writer text)

-- What was printed of these lines and written of their summary, where something failed. `reported` is what failed: with the loss of a proxy if
-- memory was refused for its lines, or of the last one if it was refused for the summary. Then neither text was begun.
pub record BothFailed (form : SummaryForm) (occupancy : Option Occupancy) (style : Style) (received : List (List Line))
    (failures : List ProxyFailure) (ending : Ending) (out beside error : Written) : Type 0 where
  pub reported : List ProxyFailure
  pub texts :
      ((reported ≡ failures) × TookUnlessFailed out (lines style (map answers_of received))
      × TookUnlessFailed beside (run_summary form occupancy (map answers_of received)))
      ⊎ (IsWithLoss (length received) (TakesToSummarize received) failures reported × (out.after ≡ out.before)
      × (beside.after ≡ beside.before))
  pub lines_of_failures : HasFailed error ⊎ Took error (failure_lines reported ending)
  pub why : HasFailed out ⊎ (HasFailed beside ⊎ (HasFailed error ⊎ ¬ (NothingFailed reported ending)))

-- the files were replayed, and something failed
pub record RanAndBothFailed (form : SummaryForm) (options : Options) (files : List (Option (List ℕ))) (out beside error : Written)
    : Type 0 where
  pub received : List (List Line)
  pub failures : List ProxyFailure
  pub complete : Bool
  pub stop : Option Stop
  -- how full the resolver was: over the log, or before its last step if a stop was met in that
  pub occupancy : Occupancy
  pub run : IsMeasuredRun (λ _. Unit {0}) occupancy options files received failures complete stop
  pub failed : BothFailed form (Some occupancy) options.style received failures (ending_of complete stop) out beside error

-- The program failed, which was to print the answers, and to write their summary beside them.
abbrev pub FailsToReplayAndSummarize : SummaryForm → Options → List (Option (List ℕ)) → Written → Written → Written → Type 0
FailsToReplayAndSummarize form options files out beside error =
    (DidNotStart out error × (beside.after ≡ beside.before)) ⊎ RanAndBothFailed form options files out beside error
