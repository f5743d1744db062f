-- Which lines of answers are printed. This project's own.
use Rattle.std.specs.Prelude.{ℤ, negsuc, int_le, int_lt, Bool, true, false, not, ◌&&◌, Option, None, Some}
use Rattle.std.specs.List.{list_any}
use Rattle.keyspace.specs.declared.answer.Answer.{Answer}
use Rattle.keyspace.specs.declared.answer.Answer.TheVariants as answer
use Rattle.keyspace.specs.Answer.{version_of_answer}
use Rattle.keyspace.specs.declared.reply.Entry.{Entry}
use Rattle.keyspace.specs.declared.reply.Verdict.{Verdict}
use Rattle.checking.specs.Difference.{is_same_verdict}
use Rattle.replay_output.specs.declared.options.line_filter.LineFilter.{LineFilter}

-- the least number of 64 bits
abbrev pub least_version : ℤ
least_version = negsuc 9223372036854775807

-- the filter that shows every line
abbrev pub all_lines : LineFilter
all_lines = record { quiet = false; only = None; least = least_version; below = None }

-- The answer is a reply in which at least one transaction has this verdict. If none is asked for, every answer will do.
abbrev pub has_verdict : Option Verdict → Answer → Bool
has_verdict None answer = true
has_verdict (Some verdict) (answer.Reply reply) = list_any (λ (entry : Entry). is_same_verdict verdict entry.verdict) reply.entries
has_verdict (Some verdict) (answer.Never version) = false
has_verdict (Some verdict) (answer.Held version) = false

-- the version is below this one, if there is one
abbrev pub is_below : Option ℤ → ℤ → Bool
is_below None version = true
is_below (Some below) version = int_lt version below

-- the line of the answer is printed
abbrev pub is_shown : LineFilter → Answer → Bool
is_shown filter answer =
    not filter.quiet && (has_verdict filter.only answer
    && (int_le filter.least (version_of_answer answer) && is_below filter.below (version_of_answer answer)))
