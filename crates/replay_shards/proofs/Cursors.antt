-- The answers of a shard from an index on.
use Rattle.std.specs.Prelude.{◌≡◌, ℕ, zero, suc, ◌+◌, ◌≤◌, ℤ, int_lt, true, false, List, [], ◌∷◌, length, drop, set, None, Some, slice_get}
use Rattle.std.proofs.Common.{refl, sym, ap, ◌∙◌, arith}
use Rattle.std.specs.Ordering.{int_eq}
use Rattle.std.proofs.lemmas.Bool.{cond-true, cond-false}
use Rattle.keyspace.specs.declared.answer.Answer.{Answer}
use Rattle.keyspace.specs.Answer.{version_of_answer}
use Rattle.replay_shards.specs.Matching.{without_earlier, first_at, after_first_at}

drop_at : {X : Type 0} (xs : List X) (n : ℕ) (x : X) → slice_get xs n ≡ Some x → drop n xs ≡ x ∷ drop (n + 1) xs
drop_at [] n x at = absurd (let no : ⊥ = cc in no)
drop_at (y ∷ xs) zero x at = let same : y ≡ x = cc in ap (λ z. z ∷ xs) same
drop_at (y ∷ xs) (suc n) x at =
    let more : suc n + 1 ≡ suc (n + 1) = omega arith in
    drop_at xs n x at ∙ ap (λ m. x ∷ drop m (y ∷ xs)) (sym more)

drop_past : {X : Type 0} (xs : List X) (n : ℕ) → length xs ≤ n → drop n xs ≡ []
drop_past [] zero past = refl
drop_past [] (suc n) past = refl
drop_past (x ∷ xs) zero past = absurd (omega (arith, past))
drop_past (x ∷ xs) (suc n) past = drop_past xs n (omega (arith, past))

drop_set : {X : Type 0} (xs : List X) (n : ℕ) (x : X) → drop (n + 1) (set xs n x) ≡ drop (n + 1) xs
drop_set [] zero x = refl
drop_set [] (suc n) x = refl
drop_set (y ∷ xs) zero x = refl
drop_set (y ∷ xs) (suc n) x =
    let more : suc n + 1 ≡ suc (n + 1) = omega arith in
    ap (λ m. drop m (y ∷ set xs n x)) more ∙ drop_set xs n x ∙ ap (λ m. drop m (y ∷ xs)) (sym more)

module _ (w : ℤ) (xs : List Answer) (n : ℕ) where
  -- an answer of an earlier version is passed over
  pub pass_one : (a : Answer) → slice_get xs n ≡ Some a → int_lt (version_of_answer a) w ≡ true
      → without_earlier w (drop (n + 1) xs) ≡ without_earlier w (drop n xs)
  pass_one a at before = sym (ap (without_earlier w) (drop_at xs n a at) ∙ cond-true _ _ _ before)

  -- and no other one
  pub pass_none : length xs ≤ n → drop n xs ≡ without_earlier w (drop n xs)
  pass_none past = drop_past xs n past ∙ sym (ap (without_earlier w) (drop_past xs n past))

  pub pass_stop : (a : Answer) → slice_get xs n ≡ Some a → int_lt (version_of_answer a) w ≡ false
      → drop n xs ≡ without_earlier w (drop n xs)
  pass_stop a at not_before =
      drop_at xs n a at ∙ sym (ap (without_earlier w) (drop_at xs n a at) ∙ cond-false _ _ _ not_before)

  -- the next one, if it has this version
  pub next_none : length xs ≤ n → first_at w (drop n xs) ≡ None
  next_none past = ap (first_at w) (drop_past xs n past)

  pub left_none : length xs ≤ n → after_first_at w (drop n xs) ≡ drop n xs
  left_none past = ap (after_first_at w) (drop_past xs n past) ∙ sym (drop_past xs n past)

  pub next_other : (a : Answer) → slice_get xs n ≡ Some a → int_eq (version_of_answer a) w ≡ false
      → first_at w (drop n xs) ≡ None
  next_other a at differs = ap (first_at w) (drop_at xs n a at) ∙ cond-false _ _ _ differs

  pub left_other : (a : Answer) → slice_get xs n ≡ Some a → int_eq (version_of_answer a) w ≡ false
      → after_first_at w (drop n xs) ≡ drop n xs
  left_other a at differs =
      ap (after_first_at w) (drop_at xs n a at) ∙ cond-false _ _ _ differs ∙ sym (drop_at xs n a at)

  pub next_same : (a : Answer) → slice_get xs n ≡ Some a → int_eq (version_of_answer a) w ≡ true
      → first_at w (drop n xs) ≡ Some a
  next_same a at same = ap (first_at w) (drop_at xs n a at) ∙ cond-true _ _ _ same

  pub left_same : (a put : Answer) → slice_get xs n ≡ Some a → int_eq (version_of_answer a) w ≡ true
      → after_first_at w (drop n xs) ≡ drop (n + 1) (set xs n put)
  left_same a put at same =
      ap (after_first_at w) (drop_at xs n a at) ∙ cond-true _ _ _ same ∙ sym (drop_set xs n put)
