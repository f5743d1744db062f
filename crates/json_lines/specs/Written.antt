-- The line that is written for a batch, and for a reply.
use Rattle.std.specs.Prelude.{ℕ, ℤ, List, [], ◌∷◌, codes, map, flat_map, if◌then◌else◌}
use Rattle.std.specs.Fmt.{signed_decimal}
use Rattle.std.specs.Prelude.{decimal}
use Rattle.json.specs.Token as token
use Rattle.json.specs.Token.{Token}
use Rattle.json.specs.Json.{Json, boolean, number, string, array, object, no_items, item, no_members, member}
use Rattle.json.specs.Print.{print}
use Rattle.json.specs.Tree.{json_tokens}
use Rattle.json.specs.Value.{items_of}
use Rattle.keyspace.specs.declared.reply.Verdict.{Verdict}
use Rattle.keyspace.specs.declared.reply.Verdict.TheVariants as verdict
use Rattle.wire.specs.Fields.{RangeFields, TxnFields, BatchFields, EntryFields, ReplyFields}
use Rattle.wire.specs.Spelling.{is_single_key}
use Rattle.json_lines.specs.KeyForm.{key_form}
use Rattle.json_lines.specs.Names.{name_of}
use Rattle.json_lines.specs.declared.member.Member.{Member}
use Rattle.json_lines.specs.declared.member.Member.TheVariants.{Previous, Version, Received, Transactions, Snapshot, Report, Reads, Writes, Verdicts, Conflict}

abbrev pub number_json : ℤ → Json
number_json n = number (signed_decimal n)

abbrev pub key_json : List ℕ → Json
key_json key = string (key_form key)

-- a list of values, each as JSON
abbrev pub list_json : {A : Type 0} → (A → Json) → List A → Json
list_json one xs = array (items_of (map one xs))

-- the tokens of values, in sequence
abbrev pub all_tokens : {A : Type 0} → (A → Json) → List A → List Token
all_tokens one xs = flat_map (λ x. json_tokens (one x)) xs

abbrev pub pair_json : List ℕ → List ℕ → Json
pair_json begin end = array (item (key_json begin) (item (key_json end) no_items))

-- the range of a single key is that key, and any other a pair
unfoldable pub range_json : RangeFields → Json
range_json range =
    if is_single_key range then key_json range.begin
    else pair_json range.begin range.end

unfoldable pub txn_json : TxnFields → Json
txn_json txn =
    object (member (name_of Snapshot) (number_json txn.snapshot)
    (member (name_of Report) (boolean txn.marked)
    (member (name_of Reads) (list_json range_json txn.reads)
    (member (name_of Writes) (list_json range_json txn.writes) no_members))))

unfoldable pub batch_json : BatchFields → Json
batch_json batch =
    object (member (name_of Previous) (number_json batch.previous)
    (member (name_of Version) (number_json batch.version)
    (member (name_of Received) (number_json batch.received)
    (member (name_of Transactions) (list_json txn_json batch.txns) no_members))))

abbrev pub word_of : Verdict → List ℕ
word_of verdict.Conflict = codes "conflict"
word_of verdict.TooOld = codes "tooold"
word_of verdict.Committed = codes "committed"

abbrev pub place_json : ℕ → Json
place_json place = number (decimal place)

abbrev pub report_json : List ℕ → Json
report_json places = object (member (name_of Conflict) (list_json place_json places) no_members)

-- a verdict is a word, and a conflict with a report names its places
abbrev pub entry_with : Verdict → List ℕ → Json
entry_with v [] = string (word_of v)
entry_with v (place ∷ places) = report_json (place ∷ places)

unfoldable pub entry_json : EntryFields → Json
entry_json entry = entry_with entry.verdict entry.places

unfoldable pub reply_json : ReplyFields → Json
reply_json reply =
    object (member (name_of Version) (number_json reply.version)
    (member (name_of Verdicts) (list_json entry_json reply.entries) no_members))

-- a member that is an integer
abbrev pub number_tokens : Member → ℤ → List Token
number_tokens name n = token.key (name_of name) ∷ json_tokens (number_json n)

-- the texts that are written: no space, and no line feed
abbrev pub batch_line : BatchFields → List ℕ
batch_line batch = print (json_tokens (batch_json batch))

abbrev pub reply_line : ReplyFields → List ℕ
reply_line reply = print (json_tokens (reply_json reply))
