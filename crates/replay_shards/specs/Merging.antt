-- Answers of several shards to one proxy, matched by version: the first of a version with the first, the second with the second. Their
-- order among the answers of a shard doesn't matter. This project's own.
use Rattle.std.specs.Prelude.{◌≡◌, ℕ, ℤ, List, [], ◌∷◌, length, filter, min, Some, slice_get}
use Rattle.std.specs.List.{AllZip}
use Rattle.std.specs.Ordering.{int_eq}
use Rattle.keyspace.specs.declared.answer.Answer.{Answer}
use Rattle.keyspace.specs.Answer.{version_of_answer}
use Rattle.keyspace.specs.storage.InOrder.{Rise}
use Rattle.replay_shards.specs.declared.note.Note.{Note}
use Rattle.replay_shards.specs.Notes.{first_notes}
use Rattle.replay_shards.specs.Answers.{IsAnswerTogether}

-- the items of this version, in order
abbrev pub at_version : {X : Type 0} → (X → ℤ) → ℤ → List X → List X
at_version version_of version items = filter (λ item. int_eq (version_of item) version) items

abbrev pub answers_at : ℤ → List Answer → List Answer
answers_at version answers = at_version version_of_answer version answers

-- how many answers of this version every shard has
abbrev pub common : ℤ → List (List Answer) → ℕ
common version [] = 0
common version (first ∷ []) = length (answers_at version first)
common version (first ∷ second ∷ rest) = min (length (answers_at version first)) (common version (second ∷ rest))

-- the answer at index i of this version, of every shard
abbrev pub AreAt : ℤ → ℕ → List (List Answer) → List Answer → Type 0
AreAt version i each answers = AllZip (λ own a. slice_get (answers_at version own) i ≡ Some a) each answers

-- an answer of every shard, to a batch of this version
pub record Match : Type 0 where
  pub version : ℤ
  pub answers : List Answer

abbrev pub version_of_match : Match → ℤ
version_of_match m = m.version

abbrev pub matches_at : ℤ → List Match → List Match
matches_at version matched = at_version version_of_match version matched

-- The answers of all shards, matched: in the order of their versions, and of each version as many as every shard has.
pub record AreMatched (each : List (List Answer)) (matched : List Match) : Type 0 where
  pub in_order : Rise version_of_match matched
  pub count : (version : ℤ) → length (matches_at version matched) ≡ common version each
  pub answers :
      (version : ℤ) (i : ℕ) (m : Match) → slice_get (matches_at version matched) i ≡ Some m → AreAt version i each m.answers

-- the answer of all shards, given those of each, and the notes of each
abbrev pub IsOfMatch : List (List Note) → Match → Answer → Type 0
IsOfMatch notes m together = IsAnswerTogether m.version m.answers (first_notes m.version notes) together

-- the combined answers to a proxy, in the order of their versions
abbrev pub AreMerged : List (List Answer) → List (List Note) → List Answer → Type 0
AreMerged each notes together =
    (matched : List Match) × AreMatched each matched × AllZip (IsOfMatch notes) matched together
