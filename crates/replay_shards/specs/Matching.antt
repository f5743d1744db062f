-- Not of the meaning: how the code matches answers in the order of their versions, one shard with those before it.
use Rattle.std.specs.Prelude.{◌≡◌, ℕ, ℤ, List, [], ◌∷◌, ◌++◌, length, drop, map, All, Option, None, Some, int_lt, if◌then◌else◌}
use Rattle.std.specs.Ordering.{int_eq}
use Rattle.keyspace.specs.declared.answer.Answer.{Answer}
use Rattle.keyspace.specs.Answer.{version_of_answer}
use Rattle.replay_shards.specs.declared.answer_match.Cursor.{Cursor}
use Rattle.replay_shards.specs.declared.answer_match.Matched.{Matched}
use Rattle.replay_shards.specs.Merging.{Match}

abbrev pub match_of : Matched → Match
match_of m = record { version = m.version; answers = m.answers.items }

-- it has that many answers, all of its version
pub record IsComplete (count : ℕ) (m : Match) : Type 0 where
  pub as_many : length m.answers ≡ count
  pub of_version : All (λ a. version_of_answer a ≡ m.version) m.answers

-- the answers of a shard that are left
abbrev pub left_in : Cursor → List Answer
left_in cursor = drop cursor.next cursor.answers.items

-- the answers without the first ones, of earlier versions
abbrev pub without_earlier : ℤ → List Answer → List Answer
without_earlier version [] = []
without_earlier version (a ∷ answers) =
    if int_lt (version_of_answer a) version then without_earlier version answers else a ∷ answers

-- the first answer, if it has this version, and the others then
abbrev pub first_at : ℤ → List Answer → Option Answer
first_at version [] = None
first_at version (a ∷ answers) = if int_eq (version_of_answer a) version then Some a else None

abbrev pub after_first_at : ℤ → List Answer → List Answer
after_first_at version [] = []
after_first_at version (a ∷ answers) = if int_eq (version_of_answer a) version then answers else a ∷ answers

-- the match with one answer more
abbrev pub more : Match → Answer → Match
more m a = record { version = m.version; answers = m.answers ++ a ∷ [] }

-- if there is one
abbrev pub with_answer : Match → Option Answer → List Match
with_answer m None = []
with_answer m (Some a) = more m a ∷ []

-- the matches that have an answer of the next shard, with it
abbrev pub match_next : List Match → List Answer → List Match
match_next [] left = []
match_next (m ∷ matched) left =
    let from = without_earlier m.version left in
    with_answer m (first_at m.version from) ++ match_next matched (after_first_at m.version from)

-- those of one shard
abbrev pub single : Answer → Match
single a = record { version = version_of_answer a; answers = a ∷ [] }

abbrev pub match_one : List Answer → List Match
match_one answers = map single answers

-- and of further ones, one by one
abbrev pub match_rest : List Match → List (List Answer) → List Match
match_rest matched [] = matched
match_rest matched (own ∷ rest) = match_rest (match_next matched own) rest

abbrev pub match_all : List (List Answer) → List Match
match_all [] = []
match_all (first ∷ rest) = match_rest (match_one first) rest
