-- What is asked of the history for a batch, and what the answers say. This project's own.
use Rattle.std.specs.Prelude.{◌≡◌, ◌↔◌, ℕ, ◌+◌, ℤ, Bool, false, not, ◌&&◌, ◌||◌, if◌then◌else◌, IsTrue, List, [], ◌∷◌, ◌++◌, length, map, flat_map, take, drop, Option, Some, slice_get, option_and_then, option_map, option_to_list}
use Rattle.std.specs.List.{AllZip, list_any}
use Rattle.keys.specs.declared.range.Range.{Range}
use Rattle.keyspace.specs.declared.txn.Txn.{Txn}
use Rattle.keyspace.specs.storage.BatchRanges.{ranges_in}
use Rattle.keyspace.specs.Writes.{Write}
use Rattle.keyspace.specs.Judge.{is_hit, is_too_old}
use Rattle.conflict.specs.declared.lookup.AnswerCounts.{AnswerCounts}
use Rattle.conflict.specs.declared.lookup.ReadName.{ReadName}
use Rattle.stepmap.specs.StepMap.{Steps}
use Rattle.stepmap.specs.Covers.{IsAbove}

-- what a name asks for: the range, at the snapshot of its transaction
abbrev pub query_named : List Txn → ReadName → Option (Range × ℤ)
query_named txns name =
    option_and_then (λ t. option_map (λ range. (range, t.snapshot)) (slice_get (ranges_in txns) name.range))
    (slice_get txns name.txn)

-- what the names ask for, in order
abbrev pub queries_named : List Txn → List ReadName → List (Range × ℤ)
queries_named txns names = flat_map (λ name. option_to_list (query_named txns name)) names

-- each name is that of a range
abbrev pub AreNamed : List Txn → List ReadName → Type 0
AreNamed txns names = map (query_named txns) names ≡ map Some (queries_named txns names)

-- what is asked for these ranges at a snapshot
abbrev pub asked_at : ℤ → List Range → List (Range × ℤ)
asked_at snapshot ranges = map (λ range. (range, snapshot)) ranges

-- these hits settle the transaction: one is enough where its places aren't reported
abbrev pub is_settled : Txn → List Bool → Bool
is_settled t hits = not t.marked && list_any (λ hit. hit) hits

-- the read ranges that are asked for first: the first one, unless the transaction is too old
abbrev pub first_asked : ℤ → Txn → List Range
first_asked oldest t = if is_too_old oldest t then [] else take 1 t.reads

-- the read ranges that are asked for then: the others, unless the transaction is too old or the first hits settle it
abbrev pub then_asked : ℤ → Txn → List Bool → List Range
then_asked oldest t hits = if is_too_old oldest t || is_settled t hits then [] else drop 1 t.reads

-- what is asked for all of them first, in order
abbrev pub all_first : ℤ → List Txn → List (Range × ℤ)
all_first oldest txns = flat_map (λ t. asked_at t.snapshot (first_asked oldest t)) txns

-- what is asked for all of them then, in order, after the answers to what was asked first
abbrev pub all_then : ℤ → List Txn → List Bool → List (Range × ℤ)
all_then oldest [] hits = []
all_then oldest (t ∷ txns) hits =
    asked_at t.snapshot (then_asked oldest t (take (length (first_asked oldest t)) hits))
    ++ all_then oldest txns (drop (length (first_asked oldest t)) hits)

-- how many of the answers are those of each transaction: of those to what was asked first, and of the others
abbrev pub all_parts : ℤ → List Txn → List Bool → List AnswerCounts
all_parts oldest [] hits = []
all_parts oldest (t ∷ txns) hits =
    record {
      first = length (first_asked oldest t);
      others = length (then_asked oldest t (take (length (first_asked oldest t)) hits));
    } ∷ all_parts oldest txns (drop (length (first_asked oldest t)) hits)

-- an answer a question: whether the step map is above the version at some key of the range
abbrev pub AreAnswers : Steps → List (Range × ℤ) → List Bool → Type 0
AreAnswers m asked answers = AllZip (λ a above. IsTrue above ↔ IsAbove m a.0 a.1) asked answers

-- The hits say of the first read ranges whether the writes hit them, unless the transaction is too old. They say it of all
-- read ranges unless they settle the transaction.
abbrev pub AreHits : ℤ → List Write → Txn → List Bool → Type 0
AreHits oldest ws t hits = is_too_old oldest t ≡ false
    → ((others : List Bool) × (hits ++ others ≡ map (is_hit ws t) t.reads))
    × (is_settled t hits ≡ false → hits ≡ map (is_hit ws t) t.reads)

-- the places, counted from i on, of those that are true
abbrev pub true_places : ℕ → List Bool → List ℕ
true_places i [] = []
true_places i (hit ∷ hits) = if hit then i ∷ true_places (i + 1) hits else true_places (i + 1) hits
