-- If the numbers of a summary fit in 64 bits, so do those of the summary of its first answers.
use Rattle.std.specs.Prelude.{◌≡◌, ℕ, ◌+◌, ◌≤◌, ◌<◌, ◌^◌, Bool, List, [], length, take, drop, sum_by, Option, Some, None, IfNone}
use Rattle.std.proofs.Common.{ap, ◌∙◌, arith, length-append}
use Rattle.std.proofs.lemmas.List.Sums.{sum_by-append, sum_by-take-le}
use Rattle.replay_summary.specs.declared.counted.Counted.{Counted}
use Rattle.replay_summary.specs.declared.summary.Summary.{Summary}
use Rattle.replay_summary.specs.Summary.{Fits, is_first, is_repeat, selected_items, summary_of, total_of, transactions_in, verdicts}
use Rattle.replay_summary.proofs.Selecting.{selected-split}

module _ {X : Type 0} (test : List X → X → Bool) (xs : List X) (k : ℕ) where
  fewer_selected : length (selected_items test [] (take k xs)) ≤ length (selected_items test [] xs)
  fewer_selected =
      let all : length (selected_items test [] xs) ≡ length (selected_items test [] (take k xs)) + length (selected_items test (take k xs) (drop k xs)) =
      ap length (selected-split test xs k) ∙ length-append (selected_items test [] (take k xs)) _ in omega arith

  less_selected : (f : X → ℕ) → sum_by f (selected_items test [] (take k xs)) ≤ sum_by f (selected_items test [] xs)
  less_selected f =
      let all : sum_by f (selected_items test [] xs) ≡ sum_by f (selected_items test [] (take k xs)) + sum_by f (selected_items test (take k xs) (drop k xs)) =
      ap (sum_by f) (selected-split test xs k) ∙ sum_by-append f (selected_items test [] (take k xs)) _ in omega arith

below_too : (m n : ℕ) → m ≤ n → n < 2 ^ 64 → m < 2 ^ 64
below_too m n less small = omega arith

pub fewer_fit : (cs : List Counted) (k : ℕ) → Fits (summary_of cs) → Fits (summary_of (take k cs))
fewer_fit cs k fits = record {
  batches = below_too _ _ (fewer_selected is_first cs k) fits.batches;
  transactions = below_too _ _ (less_selected is_first cs k (λ x. transactions_in (verdicts x.outcome))) fits.transactions;
  committed = below_too _ _ (less_selected is_first cs k (λ x. (verdicts x.outcome).committed)) fits.committed;
  conflict = below_too _ _ (less_selected is_first cs k (λ x. (verdicts x.outcome).conflict)) fits.conflict;
  too_old = below_too _ _ (less_selected is_first cs k (λ x. (verdicts x.outcome).too_old)) fits.too_old;
  repeats = below_too _ _ (fewer_selected is_repeat cs k) fits.repeats;
  never = below_too _ _ (sum_by-take-le _ cs k) fits.never;
  held = below_too _ _ (sum_by-take-le _ cs k) fits.held;
}

pub fewer_fit_in_total : (ss : List Summary) (k : ℕ) → Fits (total_of ss) → Fits (total_of (take k ss))
fewer_fit_in_total ss k fits = record {
  batches = below_too _ _ (sum_by-take-le _ ss k) fits.batches;
  transactions = below_too _ _ (sum_by-take-le _ ss k) fits.transactions;
  committed = below_too _ _ (sum_by-take-le _ ss k) fits.committed;
  conflict = below_too _ _ (sum_by-take-le _ ss k) fits.conflict;
  too_old = below_too _ _ (sum_by-take-le _ ss k) fits.too_old;
  repeats = below_too _ _ (sum_by-take-le _ ss k) fits.repeats;
  never = below_too _ _ (sum_by-take-le _ ss k) fits.never;
  held = below_too _ _ (sum_by-take-le _ ss k) fits.held;
}

-- what is said if there is none
pub if_none : {A P : Type 0} (found : Option A) → P → IfNone found P
if_none None p = p
if_none (Some a) p = tt
