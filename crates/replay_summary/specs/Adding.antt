-- How a summary changes by one more answer. This project's own.
use Rattle.std.specs.Prelude.{◌+◌, ℤ, Bool, true, false, Option, None, Some}
use Rattle.std.specs.Ordering.{int_eq}
use Rattle.replay_summary.specs.declared.counts.Counts.{Counts}
use Rattle.replay_summary.specs.declared.counted.Outcome.{Outcome}
use Rattle.replay_summary.specs.declared.counted.Outcome.TheVariants.{Replied, Never, Held}
use Rattle.replay_summary.specs.declared.summary.Summary.{Summary}
use Rattle.replay_summary.specs.declared.versions.Versions.{Versions}
use Rattle.replay_summary.specs.Summary.{only, span_of_both, transactions_in}

-- the summary of no answers
abbrev pub nothing : Summary
nothing = record {
  batches = 0;
  transactions = 0;
  committed = 0;
  conflict = 0;
  too_old = 0;
  repeats = 0;
  never = 0;
  held = 0;
  versions = None;
}

-- the greatest of the versions is this one
abbrev pub is_last : ℤ → Option Versions → Bool
is_last version None = false
is_last version (Some versions) = int_eq version versions.last

-- the summary of a reply alone, which is a repeat or not
abbrev pub reply_part : Bool → ℤ → Counts → Summary
reply_part true version counts = record {
  batches = 0;
  transactions = 0;
  committed = 0;
  conflict = 0;
  too_old = 0;
  repeats = 1;
  never = 0;
  held = 0;
  versions = only version;
}
reply_part false version counts = record {
  batches = 1;
  transactions = transactions_in counts;
  committed = counts.committed;
  conflict = counts.conflict;
  too_old = counts.too_old;
  repeats = 0;
  never = 0;
  held = 0;
  versions = only version;
}

-- the summary of an answer alone; if it is a reply, it is a repeat or not
abbrev pub part : Bool → ℤ → Outcome → Summary
part repeat version (Replied counts) = reply_part repeat version counts
part repeat version Never = record {
  batches = 0;
  transactions = 0;
  committed = 0;
  conflict = 0;
  too_old = 0;
  repeats = 0;
  never = 1;
  held = 0;
  versions = None;
}
part repeat version Held = record {
  batches = 0;
  transactions = 0;
  committed = 0;
  conflict = 0;
  too_old = 0;
  repeats = 0;
  never = 0;
  held = 1;
  versions = None;
}

-- the sum of two summaries
abbrev pub plus : Summary → Summary → Summary
plus s t = record {
  batches = s.batches + t.batches;
  transactions = s.transactions + t.transactions;
  committed = s.committed + t.committed;
  conflict = s.conflict + t.conflict;
  too_old = s.too_old + t.too_old;
  repeats = s.repeats + t.repeats;
  never = s.never + t.never;
  held = s.held + t.held;
  versions = span_of_both s.versions t.versions;
}
