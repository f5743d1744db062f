-- The rate of conflicts. This project's own.
--
-- Rows: 2 conflicts of 6 transactions are 33.3 percent, 2 of 3 are 66.7, 1 of 2,000 is 0.1 (from the middle up), and of no
-- transactions there is no rate.
use Rattle.std.specs.Prelude.{ℕ, ◌+◌, ◌*◌, ◌/◌, ◌%◌, ◌==◌, if◌then◌else◌, List, [], ◌++◌, codes}
use Rattle.std.specs.Fmt.{decimal}
use Rattle.replay_summary.specs.declared.summary.Summary.{Summary}

-- the share of a part in tenths of a percent, rounded to the nearest one, and up from the middle
abbrev pub tenths : ℕ → ℕ → ℕ
tenths part entire = (1000 * part + entire / 2) / entire

-- tenths of a percent, in percent with one decimal
abbrev pub percent : ℕ → List ℕ
percent count = decimal (count / 10) ++ codes "." ++ decimal (count % 10)

-- the percentage of transactions that are in conflict
abbrev pub conflict_percent : Summary → List ℕ
conflict_percent s = percent (tenths s.conflict s.transactions)

-- the name of the rate and then its unit, or the text if there is no transaction
abbrev pub rate_between : List ℕ → List ℕ → List ℕ → Summary → List ℕ
rate_between name unit none s = name ++ (if s.transactions == 0 then none else conflict_percent s ++ unit)

-- the rate in words
abbrev pub rate_words : Summary → List ℕ
rate_words = rate_between (codes ", conflict rate ") (codes " %") (codes "none")

-- the rate as a member of an object
abbrev pub rate_member : Summary → List ℕ
rate_member = rate_between (codes ",\"conflict_percent\":") [] (codes "null")
