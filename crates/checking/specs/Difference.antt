-- How the replies that were recorded differ from those that a resolver's answers expect, for one proxy. This project's own.
--
-- A row: the answers are replies at version 100 (committed) and 200 (committed, conflict at place 0), and `Held` at 300. Recorded are
-- replies at 400 (committed) and at 200 (committed, conflict at place 1). Then the reply at 100 is missing, transaction 1 at
-- 200 differs, by its places, and the reply at 400 is unexpected.
use Rattle.std.specs.Prelude.{ℕ, ◌+◌, ℤ, Bool, true, false, ◌&&◌, ◌==◌, if◌then◌else◌, List, [], ◌∷◌, ◌++◌, length, map, Option, None, Some}
use Rattle.std.specs.List.{flat_map}
use Rattle.std.specs.Ordering.{int_eq}
use Rattle.std.specs.Str.{bytes_eq}
use Rattle.keyspace.specs.declared.answer.Answer.{Answer}
use Rattle.keyspace.specs.declared.answer.Answer.TheVariants as answer
use Rattle.keyspace.specs.declared.reply.Reply.{Reply}
use Rattle.keyspace.specs.declared.reply.Entry.{Entry}
use Rattle.keyspace.specs.declared.reply.Verdict.{Verdict}
use Rattle.keyspace.specs.declared.reply.Verdict.TheVariants.{Conflict, TooOld, Committed}
use Rattle.checking.specs.declared.difference.Difference.{Difference}
use Rattle.checking.specs.declared.difference.DifferenceKind.TheVariants.{Missing, Unexpected, Count, Transaction}
use Rattle.keyspace.specs.storage.InOrder.{in_order_by}

-- the reply that an answer expects, if any
abbrev pub expected_by : Answer → List Reply
expected_by (answer.Reply reply) = reply ∷ []
expected_by (answer.Never version) = []
expected_by (answer.Held version) = []

-- the replies that a proxy's answers expect
abbrev pub expected_replies : List Answer → List Reply
expected_replies answers = flat_map expected_by answers

abbrev pub is_same_verdict : Verdict → Verdict → Bool
is_same_verdict Conflict Conflict = true
is_same_verdict TooOld TooOld = true
is_same_verdict Committed Committed = true
is_same_verdict _ _ = false

-- the same verdict, and the same places
abbrev pub is_same : Entry → Entry → Bool
is_same e f = is_same_verdict e.verdict f.verdict && bytes_eq e.places f.places

-- each transaction whose entries aren't the same, by its index, counted from this one
abbrev pub entry_differences : ℤ → ℕ → List Entry → List Entry → List Difference
entry_differences version index (e ∷ es) (f ∷ fs) =
    if is_same e f then entry_differences version (index + 1) es fs
    else record { version = version; kind = Transaction index e f } ∷ entry_differences version (index + 1) es fs
entry_differences version index _ _ = []

-- the differences between two replies to one batch: if they have equally many verdicts, those of the transactions
abbrev pub reply_differences : Reply → Reply → List Difference
reply_differences e f =
    if length e.entries == length f.entries then entry_differences e.version 0 e.entries f.entries
    else record { version = e.version; kind = Count (length e.entries) (length f.entries) } ∷ []

abbrev pub missing_reply : Reply → Difference
missing_reply reply = record { version = reply.version; kind = Missing }

abbrev pub unexpected_reply : Reply → Difference
unexpected_reply reply = record { version = reply.version; kind = Unexpected }

-- the same found, with one more among the others
abbrev pub with_another : Reply → Option (Reply × List Reply) → Option (Reply × List Reply)
with_another reply None = None
with_another reply (Some found) = Some (found.0, reply ∷ found.1)

-- the first reply of this version, if there is one, and all others
abbrev pub first_of : ℤ → List Reply → Option (Reply × List Reply)
first_of version [] = None
first_of version (reply ∷ replies) =
    if int_eq reply.version version then Some (reply, replies) else with_another reply (first_of version replies)

-- An expected reply is matched with what is found for it, and the next ones with the others.
abbrev pub matched_with : Reply → List Reply → (List Reply → List Difference) → Option (Reply × List Reply) → List Difference
matched_with reply recorded continue_with None = missing_reply reply ∷ continue_with recorded
matched_with reply recorded continue_with (Some found) = reply_differences reply found.0 ++ continue_with found.1

-- Each expected reply, in turn, is matched with the first recorded one of its version that is left. What is left in the end
-- is unexpected.
abbrev pub match_differences : List Reply → List Reply → List Difference
match_differences [] recorded = map unexpected_reply recorded
match_differences (reply ∷ replies) recorded = matched_with reply recorded (match_differences replies) (first_of reply.version recorded)

abbrev pub version_of_reply : Reply → ℤ
version_of_reply reply = reply.version

-- the differences between expected and recorded replies, both taken in order of versions
abbrev pub differences : List Reply → List Reply → List Difference
differences expected_ones recorded =
    match_differences (in_order_by version_of_reply expected_ones) (in_order_by version_of_reply recorded)
