-- Each match has an answer of every shard, and all of them have its version.
use Rattle.std.specs.Prelude.{◌≡◌, ℕ, suc, ◌+◌, ℤ, List, [], ◌∷◌, ◌++◌, length, Option, None, Some, All}
use Rattle.std.proofs.Common.{refl, sym, ap, ◌∙◌, subst, inl, inr, arith, length-append}
use Rattle.std.specs.Ordering.{int_eq}
use Rattle.std.proofs.lemmas.Bool.{cases_Bool, cond-true, cond-false}
use Rattle.std.proofs.lemmas.List.Elements.{All-nil, All-cons, All-head, All-tail, All-push}
use Rattle.keyspace.specs.declared.answer.Answer.{Answer}
use Rattle.keyspace.specs.Answer.{version_of_answer}
use Rattle.replay_shards.specs.Merging.{Match}
use Rattle.replay_shards.specs.Matching.{IsComplete, without_earlier, first_at, after_first_at, more, with_answer, match_next, single, match_one, match_rest, match_all}
use Rattle.replay_shards.proofs.Versions.{same_if}

taken_version : (w : ℤ) (answers : List Answer) (a : Answer) → first_at w answers ≡ Some a → version_of_answer a ≡ w
taken_version w [] a at = absurd (let no : ⊥ = cc in no)
taken_version w (x ∷ answers) a at =
    elim (cases_Bool (int_eq (version_of_answer x) w)) [
      | inl same ↦
          let is : Some x ≡ Some a = sym (cond-true _ _ _ same) ∙ at in
          let here : x ≡ a = cc in
          ap version_of_answer (sym here) ∙ same_if (version_of_answer x) w same
      | inr differs ↦ let clash : None ≡ Some a = sym (cond-false _ _ _ differs) ∙ at in absurd (let no : ⊥ = cc in no)
    ]

complete_more : (n : ℕ) (m : Match) (a : Answer) → IsComplete n m → version_of_answer a ≡ m.version → IsComplete (n + 1) (more m a)
complete_more n m a entire of_version =
    let count = entire.as_many in
    record {
      as_many = length-append m.answers (a ∷ []) ∙ ap (λ k. k + 1) count;
      of_version = All-push (λ (a : Answer). version_of_answer a ≡ m.version) m.answers a entire.of_version of_version;
    }

complete_one : (n : ℕ) (m : Match) (o : Option Answer) (ms : List Match) → IsComplete n m
    → ((a : Answer) → o ≡ Some a → version_of_answer a ≡ m.version) → All (IsComplete (n + 1)) ms
    → All (IsComplete (n + 1)) (with_answer m o ++ ms)
complete_one n m None ms entire taken all = all
complete_one n m (Some a) ms entire taken all = All-cons (IsComplete (n + 1)) (more m a) ms (complete_more n m a entire (taken a refl)) all

complete_next : (n : ℕ) (ms : List Match) (left : List Answer) → All (IsComplete n) ms → All (IsComplete (n + 1)) (match_next ms left)
complete_next n [] left all = All-nil (IsComplete (n + 1))
complete_next n (m ∷ ms) left all =
    let from = without_earlier m.version left in
    complete_one n m (first_at m.version from) (match_next ms (after_first_at m.version from)) (All-head (IsComplete n) m ms all)
    (taken_version m.version from) (complete_next n ms (after_first_at m.version from) (All-tail (IsComplete n) m ms all))

complete_single : (answers : List Answer) → All (IsComplete 1) (match_one answers)
complete_single [] = All-nil (IsComplete 1)
complete_single (a ∷ answers) =
    let P = λ (b : Answer). version_of_answer b ≡ version_of_answer a in
    All-cons (IsComplete 1) (single a) (match_one answers) (record { as_many = refl; of_version = All-cons P a [] refl (All-nil P) }) (complete_single answers)

complete_rest : (n : ℕ) (ms : List Match) (rest : List (List Answer)) → All (IsComplete n) ms
    → All (IsComplete (n + length rest)) (match_rest ms rest)
complete_rest n ms [] all = let none : n ≡ n + 0 = omega arith in subst (λ k. All (IsComplete k) ms) none all
complete_rest n ms (own ∷ rest) all =
    let more : (n + 1) + length rest ≡ n + suc (length rest) = omega arith in
    subst (λ k. All (IsComplete k) (match_rest (match_next ms own) rest)) more
    (complete_rest (n + 1) (match_next ms own) rest (complete_next n ms own all))

pub complete_all : (each : List (List Answer)) → All (IsComplete (length each)) (match_all each)
complete_all [] = All-nil (IsComplete 0)
complete_all (first ∷ rest) =
    let more : 1 + length rest ≡ suc (length rest) = omega arith in
    subst (λ k. All (IsComplete k) (match_rest (match_one first) rest)) more (complete_rest 1 (match_one first) rest (complete_single first))
