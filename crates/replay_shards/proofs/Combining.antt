-- The combined answers of matches, in sequence.
use Rattle.std.specs.Prelude.{◌≡◌, ℕ, List, [], ◌∷◌, ◌++◌, map, All}
use Rattle.std.proofs.Common.{refl, sym, ap, ◌∙◌, subst, append_assoc, append-nil}
use Rattle.std.specs.List.{AllZip}
use Rattle.std.proofs.lemmas.List.Elements.{All-head, All-tail}
use Rattle.std.proofs.lemmas.Slice.Zip.{all_zipped_more}
use Rattle.keyspace.specs.declared.answer.Answer.{Answer}
use Rattle.replay_shards.specs.declared.note.Note.{Note}
use Rattle.replay_shards.specs.declared.answer_match.Matched.{Matched}
use Rattle.replay_shards.specs.Matching.{IsComplete, match_of}
use Rattle.replay_shards.specs.Merging.{IsOfMatch, Match}

-- what was combined so far, and what is left
pub record SoFar (notes : List (List Note)) (count : ℕ) (all : List Match) (left : List Matched) (together : List Answer) : Type 0 where
  pub front : List Match
  pub parts : all ≡ front ++ map match_of left
  pub combined : AllZip (IsOfMatch notes) front together
  pub complete : All (IsComplete count) (map match_of left)

pub so_far_none : (notes : List (List Note)) (count : ℕ) (matched : List Matched) (together : List Answer)
    → All (IsComplete count) (map match_of matched) → together ≡ [] → SoFar notes count (map match_of matched) matched together
so_far_none notes count matched together complete empty = record {
  front = [];
  parts = refl;
  combined = subst (λ (l : List Answer). AllZip (IsOfMatch notes) [] l) (sym empty) tt;
  complete = complete;
}

pub so_far_next : (notes : List (List Note)) (count : ℕ) (all : List Match) (left : List Matched) (one : Matched) (rest : List Matched)
    (together : List Answer) → left ≡ one ∷ rest → SoFar notes count all left together → IsComplete count (match_of one)
so_far_next notes count all left one rest together is so_far =
    All-head (IsComplete count) (match_of one) (map match_of rest)
    (subst (λ (l : List Matched). All (IsComplete count) (map match_of l)) is so_far.complete)

pub so_far_more : (notes : List (List Note)) (count : ℕ) (all : List Match) (left : List Matched) (one : Matched) (rest : List Matched)
    (together new : List Answer) (answer : Answer) → left ≡ one ∷ rest → new ≡ together ++ answer ∷ []
    → IsOfMatch notes (match_of one) answer → SoFar notes count all left together → SoFar notes count all rest new
so_far_more notes count all left one rest together new answer is pushed right so_far = record {
  front = so_far.front ++ match_of one ∷ [];
  parts = so_far.parts ∙ ap (λ (l : List Matched). so_far.front ++ map match_of l) is
      ∙ sym (append_assoc so_far.front (match_of one ∷ []) (map match_of rest));
  combined = subst (λ (l : List Answer). AllZip (IsOfMatch notes) (so_far.front ++ match_of one ∷ []) l) (sym pushed)
      (all_zipped_more (IsOfMatch notes) so_far.front together (match_of one) answer so_far.combined right);
  complete = All-tail (IsComplete count) (match_of one) (map match_of rest)
      (subst (λ (l : List Matched). All (IsComplete count) (map match_of l)) is so_far.complete);
}

pub so_far_all : (notes : List (List Note)) (count : ℕ) (all : List Match) (left : List Matched) (together : List Answer)
    → left ≡ [] → SoFar notes count all left together → AllZip (IsOfMatch notes) all together
so_far_all notes count all left together none so_far =
    subst (λ (l : List Match). AllZip (IsOfMatch notes) l together)
    (sym (so_far.parts ∙ ap (λ (l : List Matched). so_far.front ++ map match_of l) none ∙ append-nil so_far.front)) so_far.combined
