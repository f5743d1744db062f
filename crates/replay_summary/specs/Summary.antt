-- What a summary of answers says. This project's own.
--
-- A row: the answers to a proxy are replies at version 100 (committed), 200 (conflict, committed) and again 200 (the same), and
-- `Never` at 200. Its summary has 2 batches with 3 transactions, 2 committed and 1 in conflict, 1 repeat, 1 never, and versions
-- 100 to 200.
use Rattle.std.specs.Prelude.{ℕ, ◌+◌, ◌<◌, ◌^◌, ℤ, Bool, true, false, not, ◌&&◌, if◌then◌else◌, List, [], ◌∷◌, ◌++◌, length, map, filter, fold, sum_by, count_by, Option, None, Some}
use Rattle.std.specs.List.{list_any}
use Rattle.std.specs.Int.{int_min, int_max}
use Rattle.std.specs.Ordering.{int_eq}
use Rattle.replay_summary.specs.declared.counts.Counts.{Counts}
use Rattle.replay_summary.specs.declared.counted.Counted.{Counted}
use Rattle.replay_summary.specs.declared.counted.Outcome.{Outcome}
use Rattle.replay_summary.specs.declared.counted.Outcome.TheVariants.{Replied, Never, Held}
use Rattle.replay_summary.specs.declared.summary.Summary.{Summary}
use Rattle.replay_summary.specs.declared.versions.Versions.{Versions}

abbrev pub says_reply : Outcome → Bool
says_reply (Replied counts) = true
says_reply Never = false
says_reply Held = false

abbrev pub says_never : Outcome → Bool
says_never (Replied counts) = false
says_never Never = true
says_never Held = false

abbrev pub says_held : Outcome → Bool
says_held (Replied counts) = false
says_held Never = false
says_held Held = true

-- the verdicts of an answer: those of a reply, or none
abbrev pub verdicts : Outcome → Counts
verdicts (Replied counts) = counts
verdicts Never = record { committed = 0; conflict = 0; too_old = 0 }
verdicts Held = record { committed = 0; conflict = 0; too_old = 0 }

-- how many transactions have a verdict
abbrev pub transactions_in : Counts → ℕ
transactions_in counts = counts.committed + counts.conflict + counts.too_old

abbrev pub is_reply : Counted → Bool
is_reply c = says_reply c.outcome

-- the versions of the replies
abbrev pub reply_versions : List Counted → List ℤ
reply_versions cs = map (λ (c : Counted). c.version) (filter is_reply cs)

-- a reply of this version is among the answers
abbrev pub has_reply : ℤ → List Counted → Bool
has_reply version cs = list_any (int_eq version) (reply_versions cs)

-- a reply with another version than all earlier replies
abbrev pub is_first : List Counted → Counted → Bool
is_first before c = is_reply c && not (has_reply c.version before)

-- a reply with the version of an earlier reply
abbrev pub is_repeat : List Counted → Counted → Bool
is_repeat before c = is_reply c && has_reply c.version before

-- the items that pass a test, which sees all items before each; the given ones are before the first
abbrev pub selected_items : {X : Type 0} → (List X → X → Bool) → List X → List X → List X
selected_items test before [] = []
selected_items test before (x ∷ xs) = (if test before x then x ∷ [] else []) ++ selected_items test (before ++ x ∷ []) xs

-- the first reply of each version
abbrev pub first_replies : List Counted → List Counted
first_replies cs = selected_items is_first [] cs

-- the other replies
abbrev pub repeats : List Counted → List Counted
repeats cs = selected_items is_repeat [] cs

-- the least and the greatest version of both
abbrev pub span_of_both : Option Versions → Option Versions → Option Versions
span_of_both None other = other
span_of_both (Some one) None = Some one
span_of_both (Some one) (Some other) =
    Some (record { first = int_min one.first other.first; last = int_max one.last other.last })

abbrev pub only : ℤ → Option Versions
only version = Some (record { first = version; last = version })

-- the least and the greatest version of all
abbrev pub span : List (Option Versions) → Option Versions
span all = fold span_of_both None all

-- The summary of the answers to a proxy, in order of versions. The transactions of a repeat don't count again.
abbrev pub summary_of : List Counted → Summary
summary_of cs = record {
  batches = length (first_replies cs);
  transactions = sum_by (λ (c : Counted). transactions_in (verdicts c.outcome)) (first_replies cs);
  committed = sum_by (λ (c : Counted). (verdicts c.outcome).committed) (first_replies cs);
  conflict = sum_by (λ (c : Counted). (verdicts c.outcome).conflict) (first_replies cs);
  too_old = sum_by (λ (c : Counted). (verdicts c.outcome).too_old) (first_replies cs);
  repeats = length (repeats cs);
  never = count_by (λ (c : Counted). says_never c.outcome) cs;
  held = count_by (λ (c : Counted). says_held c.outcome) cs;
  versions = span (map only (reply_versions cs));
}

-- the summary of the answers to all proxies, given that of each
abbrev pub total_of : List Summary → Summary
total_of summaries = record {
  batches = sum_by (λ (s : Summary). s.batches) summaries;
  transactions = sum_by (λ (s : Summary). s.transactions) summaries;
  committed = sum_by (λ (s : Summary). s.committed) summaries;
  conflict = sum_by (λ (s : Summary). s.conflict) summaries;
  too_old = sum_by (λ (s : Summary). s.too_old) summaries;
  repeats = sum_by (λ (s : Summary). s.repeats) summaries;
  never = sum_by (λ (s : Summary). s.never) summaries;
  held = sum_by (λ (s : Summary). s.held) summaries;
  versions = span (map (λ (s : Summary). s.versions) summaries);
}

-- each number of the summary fits in 64 bits
pub record Fits (s : Summary) : Type 0 where
  pub batches : s.batches < 2 ^ 64
  pub transactions : s.transactions < 2 ^ 64
  pub committed : s.committed < 2 ^ 64
  pub conflict : s.conflict < 2 ^ 64
  pub too_old : s.too_old < 2 ^ 64
  pub repeats : s.repeats < 2 ^ 64
  pub never : s.never < 2 ^ 64
  pub held : s.held < 2 ^ 64
