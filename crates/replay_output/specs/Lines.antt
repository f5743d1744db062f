-- The printed text of answers: this project's own formats, one line per answer that is shown.
use Rattle.std.specs.Prelude.{ℕ, Bool, true, false, if◌then◌else◌, List, [], ◌∷◌, ◌++◌, codes, map}
use Rattle.std.specs.List.{flat_map, join_by, enumerate_from}
use Rattle.std.specs.Fmt.{decimal, signed_decimal}
use Rattle.hex.specs.Hex.{encode_lower}
use Rattle.wire.specs.Fields.{reply_fields}
use Rattle.wire.specs.Spelling.{frame, reply_body}
use Rattle.keyspace.specs.declared.answer.Answer.{Answer}
use Rattle.keyspace.specs.declared.answer.Answer.TheVariants as answer
use Rattle.keyspace.specs.Answer.{version_of_answer}
use Rattle.keyspace.specs.declared.reply.Reply.{Reply}
use Rattle.keyspace.specs.declared.reply.Entry.{Entry}
use Rattle.keyspace.specs.declared.reply.Verdict.{Verdict}
use Rattle.keyspace.specs.declared.reply.Verdict.TheVariants.{Conflict, TooOld, Committed}
use Rattle.keyspace.specs.storage.InOrder.{in_order_by}
use Rattle.replay_output.specs.declared.options.style.Style.{Style}
use Rattle.replay_output.specs.declared.options.form.Form.{Form}
use Rattle.replay_output.specs.declared.options.form.Form.TheVariants.{Words, Frames, Json, Kept}
use Rattle.replay_output.specs.LineFilter.{is_shown}

-- a conflict, with the places of its report where it has any
abbrev pub conflict_word : List ℕ → List ℕ
conflict_word [] = codes "conflict"
conflict_word (place ∷ places) = codes "conflict:" ++ join_by decimal (codes ",") (place ∷ places)

-- the word of a verdict with these places
abbrev pub verdict_word : Verdict → List ℕ → List ℕ
verdict_word Committed places = codes "committed"
verdict_word TooOld places = codes "tooold"
verdict_word Conflict places = conflict_word places

-- the word of one transaction
abbrev pub entry_word : Entry → List ℕ
entry_word entry = verdict_word entry.verdict entry.places

-- the words of the transactions in their order, one blank between
abbrev pub words : List Entry → List ℕ
words [] = codes "empty"
words (entry ∷ entries) = join_by entry_word (codes " ") (entry ∷ entries)

-- the frame of a reply, in lower-case hexadecimal
abbrev pub frame_word : Reply → List ℕ
frame_word reply = encode_lower (frame (reply_body (reply_fields reply)))

-- what became of the batch; a reply is its frame, or else its words
abbrev pub outcome : Bool → Answer → List ℕ
outcome frames (answer.Reply reply) = if frames then frame_word reply else words reply.entries
outcome frames (answer.Never version) = codes "never"
outcome frames (answer.Held version) = codes "held"

-- the line of words of an answer to this proxy; with frames a reply is its frame
abbrev pub plain_line : Bool → ℕ → Answer → List ℕ
plain_line frames proxy answer = decimal proxy ++ codes " " ++ signed_decimal (version_of_answer answer) ++ codes " "
    ++ outcome frames answer ++ codes "\n"

-- a conflict in JSON, with the places of its report where it has any
abbrev pub conflict_json : List ℕ → List ℕ
conflict_json [] = codes "\"conflict\""
conflict_json (place ∷ places) = codes "{\"conflict\":[" ++ join_by decimal (codes ",") (place ∷ places) ++ codes "]}"

abbrev pub verdict_json : Verdict → List ℕ → List ℕ
verdict_json Committed places = codes "\"committed\""
verdict_json TooOld places = codes "\"tooold\""
verdict_json Conflict places = conflict_json places

-- a verdict in JSON: its name, or for a conflict with places an object that has these
abbrev pub entry_json : Entry → List ℕ
entry_json entry = verdict_json entry.verdict entry.places

-- the verdicts in their order, with a comma between
abbrev pub entries_json : List Entry → List ℕ
entries_json [] = []
entries_json (entry ∷ entries) = join_by entry_json (codes ",") (entry ∷ entries)

-- what became of the batch, as the last member of an object
abbrev pub outcome_json : Answer → List ℕ
outcome_json (answer.Reply reply) = codes "\"verdicts\":[" ++ entries_json reply.entries ++ codes "]"
outcome_json (answer.Never version) = codes "\"answer\":\"never\""
outcome_json (answer.Held version) = codes "\"answer\":\"held\""

-- the line of JSON of an answer to this proxy
abbrev pub json_line : ℕ → Answer → List ℕ
json_line proxy answer = codes "{\"proxy\":" ++ decimal proxy ++ codes ",\"version\":" ++ signed_decimal (version_of_answer answer)
    ++ codes "," ++ outcome_json answer ++ codes "}\n"

-- the line of an answer to this proxy in a form; there is none where the reply is kept
abbrev pub formed_line : Form → ℕ → Answer → List ℕ
formed_line Words proxy answer = plain_line false proxy answer
formed_line Frames proxy answer = plain_line true proxy answer
formed_line Json proxy answer = json_line proxy answer
formed_line Kept proxy answer = []

-- the line of an answer to this proxy, if it is shown
abbrev pub line : Style → ℕ → Answer → List ℕ
line style proxy answer = if is_shown style.filter answer then formed_line style.form proxy answer else []

-- by version, and those of one version in the order received
abbrev pub in_order : List Answer → List Answer
in_order received = in_order_by version_of_answer received

-- what is printed of an answer to the proxy of a number
abbrev pub Print : Type 0
Print = ℕ → Answer → List ℕ

-- the lines of a proxy, given its number and its answers in order
abbrev pub lines_of_proxy : Print → ℕ × List Answer → List ℕ
lines_of_proxy print proxy = flat_map (print proxy.0) proxy.1

-- the text of answers that are in order, given those of each proxy
abbrev pub lines_in_order : Print → List (List Answer) → List ℕ
lines_in_order print answers = flat_map (lines_of_proxy print) (enumerate_from 0 answers)

-- the complete text, given each proxy's answers as received; a proxy's number is its index
abbrev pub lines_by : Print → List (List Answer) → List ℕ
lines_by print received = lines_in_order print (map in_order received)

-- the same of lines in a style
abbrev pub lines : Style → List (List Answer) → List ℕ
lines style received = lines_by (line style) received
