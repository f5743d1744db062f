-- What is left of the answers of a shard, after those of earlier versions and one of this version.
use Rattle.std.specs.Prelude.{◌≡◌, ℤ, int_lt, true, false, List, [], ◌∷◌, ◌++◌, None, Some, option_to_list}
use Rattle.std.proofs.Common.{refl, sym, ap, ◌∙◌, subst, inl, inr}
use Rattle.std.specs.Ordering.{int_eq}
use Rattle.std.proofs.lemmas.Bool.{cases_Bool, cond-true, cond-false}
use Rattle.keyspace.specs.declared.answer.Answer.{Answer}
use Rattle.keyspace.specs.Answer.{version_of_answer}
use Rattle.keyspace.specs.storage.InOrder.{Rise}
use Rattle.replay_shards.specs.Merging.{answers_at}
use Rattle.replay_shards.specs.Matching.{without_earlier, first_at, after_first_at}
use Rattle.replay_shards.proofs.Versions.{none_at, at_kept, at_dropped, not_same_if_after, after_if, same_if, is_same, not_both_ways}

module _ (w : ℤ) where
  passes : (a : Answer) (answers : List Answer) → int_lt (version_of_answer a) w ≡ true
      → without_earlier w (a ∷ answers) ≡ without_earlier w answers
  passes a answers h = cond-true _ _ _ h

  stays : (a : Answer) (answers : List Answer) → int_lt (version_of_answer a) w ≡ false → without_earlier w (a ∷ answers) ≡ a ∷ answers
  stays a answers h = cond-false _ _ _ h

  rise_without : (answers : List Answer) → Rise version_of_answer answers → Rise version_of_answer (without_earlier w answers)
  rise_without [] rise = tt
  rise_without (a ∷ answers) rise =
      elim (cases_Bool (int_lt (version_of_answer a) w)) [
        | inl before ↦ subst (Rise version_of_answer) (sym (passes a answers before)) (rise_without answers rise.1)
        | inr not_before ↦ subst (Rise version_of_answer) (sym (stays a answers not_before)) rise
      ]

  rise_after : (answers : List Answer) → Rise version_of_answer answers → Rise version_of_answer (after_first_at w answers)
  rise_after [] rise = tt
  rise_after (a ∷ answers) rise =
      elim (cases_Bool (int_eq (version_of_answer a) w)) [
        | inl same ↦ subst (Rise version_of_answer) (sym (cond-true _ _ _ same)) rise.1
        | inr differs ↦ subst (Rise version_of_answer) (sym (cond-false _ _ _ differs)) rise
      ]

  -- what is left is in order
  pub rise_left : (answers : List Answer) → Rise version_of_answer answers
      → Rise version_of_answer (after_first_at w (without_earlier w answers))
  rise_left answers rise = rise_after (without_earlier w answers) (rise_without answers rise)

  -- no answer of this version or a later one is passed over
  without_same : (v : ℤ) (answers : List Answer) → int_lt v w ≡ false → answers_at v (without_earlier w answers) ≡ answers_at v answers
  without_same v [] late = refl
  without_same v (a ∷ answers) late =
      elim (cases_Bool (int_lt (version_of_answer a) w)) [
        | inl before ↦
            let other : int_eq (version_of_answer a) v ≡ false =
            elim (cases_Bool (int_eq (version_of_answer a) v)) [
              | inl same ↦
                  let clash : int_lt v w ≡ true = ap (λ u. int_lt u w) (sym (same_if (version_of_answer a) v same)) ∙ before in
                  absurd (let no : true ≡ false = sym clash ∙ late in cc)
              | inr differs ↦ differs
            ] in
            ap (answers_at v) (passes a answers before) ∙ without_same v answers late ∙ sym (at_dropped version_of_answer v a answers other)
        | inr not_before ↦ ap (answers_at v) (stays a answers not_before)
      ]

  -- the first one of this version is taken, if there is one
  after_one : (answers : List Answer)
      → answers_at w answers ≡ option_to_list (first_at w answers) ++ answers_at w (after_first_at w answers)
  after_one [] = refl
  after_one (a ∷ answers) =
      elim (cases_Bool (int_eq (version_of_answer a) w)) [
        | inl same ↦
            at_kept version_of_answer w a answers same
            ∙ sym (ap (λ o. option_to_list o ++ answers_at w (after_first_at w (a ∷ answers))) (cond-true _ _ _ same)
            ∙ ap (λ l. a ∷ answers_at w l) (cond-true _ _ _ same))
        | inr differs ↦
            sym (ap (λ o. option_to_list o ++ answers_at w (after_first_at w (a ∷ answers))) (cond-false _ _ _ differs)
            ∙ ap (answers_at w) (cond-false _ _ _ differs))
      ]

  pub taken_first : (answers : List Answer) → answers_at w answers
      ≡ option_to_list (first_at w (without_earlier w answers)) ++ answers_at w (after_first_at w (without_earlier w answers))
  taken_first answers = sym (without_same w answers irreflexive) ∙ after_one (without_earlier w answers)
    where
      irreflexive : int_lt w w ≡ false
      irreflexive = elim (cases_Bool (int_lt w w)) [
        | inl before ↦ let differs = not_same_if_after w w before in
            absurd (let no : true ≡ false = sym (is_same w) ∙ differs in cc)
        | inr not_before ↦ not_before
      ]

  -- those of later versions stay
  after_later : (v : ℤ) (answers : List Answer) → int_lt w v ≡ true → answers_at v (after_first_at w answers) ≡ answers_at v answers
  after_later v [] late = refl
  after_later v (a ∷ answers) late =
      elim (cases_Bool (int_eq (version_of_answer a) w)) [
        | inl same ↦
            let other : int_eq (version_of_answer a) v ≡ false =
            not_same_if_after v (version_of_answer a) (ap (λ u. int_lt u v) (same_if (version_of_answer a) w same) ∙ late) in
            ap (answers_at v) (cond-true _ _ _ same) ∙ sym (at_dropped version_of_answer v a answers other)
        | inr differs ↦ ap (answers_at v) (cond-false _ _ _ differs)
      ]

  pub left_later : (v : ℤ) (answers : List Answer) → int_lt w v ≡ true
      → answers_at v (after_first_at w (without_earlier w answers)) ≡ answers_at v answers
  left_later v answers late =
      after_later v (without_earlier w answers) late ∙ without_same v answers (not_both_ways w v late)

  -- if none is taken, none of this version is left
  pub none_left : (answers : List Answer) → Rise version_of_answer answers → first_at w (without_earlier w answers) ≡ None
      → answers_at w (after_first_at w (without_earlier w answers)) ≡ []
  none_left [] rise none = refl
  none_left (a ∷ answers) rise none =
      elim (cases_Bool (int_lt (version_of_answer a) w)) [
        | inl before ↦
            ap (λ l. answers_at w (after_first_at w l)) (passes a answers before)
            ∙ none_left answers rise.1 (ap (first_at w) (sym (passes a answers before)) ∙ none)
        | inr not_before ↦
            let none_first : first_at w (a ∷ answers) ≡ None = ap (first_at w) (sym (stays a answers not_before)) ∙ none in
            elim (cases_Bool (int_eq (version_of_answer a) w)) [
              | inl same ↦
                  let clash : Some a ≡ None = sym (cond-true _ _ _ same) ∙ none_first in absurd (let no : ⊥ = cc in no)
              | inr differs ↦
                  ap (λ l. answers_at w (after_first_at w l)) (stays a answers not_before)
                  ∙ ap (answers_at w) (cond-false _ _ _ differs) ∙ at_dropped version_of_answer w a answers differs
                  ∙ none_at version_of_answer w (version_of_answer a) answers
                  (after_if w (version_of_answer a) not_before differs) rise.0
            ]
      ]
