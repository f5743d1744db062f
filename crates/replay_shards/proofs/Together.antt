-- The combined answers don't depend on the order in which a shard has answered different versions.
use Rattle.std.specs.Prelude.{◌≡◌, ℕ, ℤ, min, List, [], ◌∷◌, length, map, Option, None, Some, slice_get, vec_items, Vec, All}
use Rattle.std.proofs.Common.{Global, refl, sym, ap, ap₂, ◌∙◌, subst, inl, inr}
use Rattle.std.specs.List.{AllZip}
use Rattle.std.specs.Ordering.{int_eq}
use Rattle.std.proofs.lemmas.Bool.{cases_Bool, cond-true, cond-false}
use Rattle.std.proofs.lemmas.List.Elements.{All-head, All-tail}
use Rattle.keyspace.specs.declared.answer.Answer.{Answer}
use Rattle.replay_shards.specs.declared.answered.Answered.{Answered}
use Rattle.replay_shards.specs.declared.note.Note.{Note}
use Rattle.replay_shards.specs.Answered.{AreAnswersTogether, AreKept, answers_by, notes_by, sorted_answers, sorted_notes}
use Rattle.replay_shards.specs.Answers.{IsAnswerTogether}
use Rattle.replay_shards.specs.Merging.{AreAt, AreMatched, AreMerged, IsOfMatch, Match, at_version, common}
use Rattle.replay_shards.specs.Notes.{first_note, first_notes, version_of_note}
use Rattle.replay_shards.proofs.Sorted.{at_in_order, at_sorted}
use Rattle.replay_shards.proofs.Versions.{at_kept, at_dropped}

-- the indices of the first of these notes
abbrev first_reads : List Note → Option (List (List ℕ))
first_reads [] = None
first_reads (note ∷ notes) = Some note.reads

first_at_version : (v : ℤ) (notes : List Note) → first_note v notes ≡ first_reads (at_version version_of_note v notes)
first_at_version v [] = refl
first_at_version v (note ∷ notes) =
    elim (cases_Bool (int_eq note.version v)) [
      | inl same ↦ cond-true _ _ _ same ∙ sym (ap first_reads (at_kept version_of_note v note notes same))
      | inr differs ↦
          cond-false _ _ _ differs ∙ first_at_version v notes
          ∙ sym (ap first_reads (at_dropped version_of_note v note notes differs))
    ]

first_sorted : (v : ℤ) (own : Answered) → first_note v (sorted_notes own) ≡ first_note v (notes_by own)
first_sorted v own =
    first_at_version v (sorted_notes own) ∙ ap first_reads (at_in_order version_of_note v own.notes.items)
    ∙ sym (first_at_version v (notes_by own))

firsts_sorted : (v : ℤ) (each : List Answered) → first_notes v (map sorted_notes each) ≡ first_notes v (map notes_by each)
firsts_sorted v [] = refl
firsts_sorted v (own ∷ each) =
    ap₂ (λ (first : Option (List (List ℕ))) (rest : List (Option (List (List ℕ)))). first ∷ rest) (first_sorted v own)
    (firsts_sorted v each)

common_sorted : (v : ℤ) (each : List Answered) → All AreKept each → common v (map sorted_answers each) ≡ common v (map answers_by each)
common_sorted v [] kept = refl
common_sorted v (own ∷ []) kept = ap length (at_sorted v own (All-head AreKept own [] kept))
common_sorted v (own ∷ next ∷ each) kept =
    ap₂ min (ap length (at_sorted v own (All-head AreKept own (next ∷ each) kept)))
    (common_sorted v (next ∷ each) (All-tail AreKept own (next ∷ each) kept))

are_at_sorted : (v : ℤ) (i : ℕ) (each : List Answered) (answers : List Answer) → All AreKept each
    → AreAt v i (map sorted_answers each) answers → AreAt v i (map answers_by each) answers
are_at_sorted v i [] [] kept are = tt
are_at_sorted v i [] (a ∷ answers) kept are = absurd are
are_at_sorted v i (own ∷ each) [] kept are = absurd are
are_at_sorted v i (own ∷ each) (a ∷ answers) kept are = (
  ap (λ (l : List Answer). slice_get l i) (sym (at_sorted v own (All-head AreKept own each kept))) ∙ are.0,
  are_at_sorted v i each answers (All-tail AreKept own each kept) are.1,
)

matched_sorted : (each : List Answered) (matched : List Match) → All AreKept each → AreMatched (map sorted_answers each) matched
    → AreMatched (map answers_by each) matched
matched_sorted each matched kept are = record {
  in_order = are.in_order;
  count = λ v. are.count v ∙ common_sorted v each kept;
  answers = λ v i m at. are_at_sorted v i each m.answers kept (are.answers v i m at);
}

of_matches : (each : List Answered) (matched : List Match) (together : List Answer)
    → AllZip (IsOfMatch (map sorted_notes each)) matched together → AllZip (IsOfMatch (map notes_by each)) matched together
of_matches each [] [] are = tt
of_matches each [] (a ∷ together) are = absurd are
of_matches each (m ∷ matched) [] are = absurd are
of_matches each (m ∷ matched) (a ∷ together) are = (
  subst (λ (notes : List (Option (List (List ℕ)))). IsAnswerTogether m.version m.answers notes a) (firsts_sorted m.version each) are.0,
  of_matches each matched together are.1,
)

merged_sorted : (each : List Answered) (together : List Answer) → All AreKept each
    → AreMerged (map sorted_answers each) (map sorted_notes each) together → AreAnswersTogether each together
merged_sorted each together kept merged =
    (merged.0, matched_sorted each merged.0 kept merged.1, of_matches each merged.0 together merged.2)

pub together : (each : List Answered) (answers : List (Vec Answer Global)) (notes : List (Vec Note Global)) (together : List Answer) → All AreKept each
    → map vec_items answers ≡ map sorted_answers each → map vec_items notes ≡ map sorted_notes each
    → AreMerged (map vec_items answers) (map vec_items notes) together → AreAnswersTogether each together
together each answers notes all kept of_answers of_notes merged =
    merged_sorted each all kept
    (subst (λ (l : List (List Note)). AreMerged (map sorted_answers each) l all) of_notes
    (subst (λ (l : List (List Answer)). AreMerged l (map vec_items notes) all) of_answers merged))
