-- Answers matched shard by shard are those of all shards of each version, answers many answers every shard has.
use Rattle.std.specs.Prelude.{◌≡◌, ℕ, zero, suc, ◌<◌, min, ℤ, int_lt, true, false, List, [], ◌∷◌, ◌++◌, length, Option, None, Some, option_to_list, slice_get, All}
use Rattle.std.proofs.Common.{refl, sym, ap, ap₂, ◌∙◌, subst, inl, inr, arith, append_assoc}
use Rattle.std.specs.Ordering.{int_eq}
use Rattle.std.proofs.lemmas.Bool.{cases_Bool}
use Rattle.std.proofs.lemmas.List.Elements.{All-head, All-tail, filter-append}
use Rattle.std.proofs.lemmas.Slice.Zip.{all_zipped_more}
use Rattle.keyspace.specs.declared.answer.Answer.{Answer}
use Rattle.keyspace.specs.Answer.{version_of_answer}
use Rattle.keyspace.specs.storage.InOrder.{NoneBefore, Rise}
use Rattle.replay_shards.specs.Merging.{answers_at, matches_at, version_of_match, common, AreAt, Match, AreMatched}
use Rattle.replay_shards.specs.Matching.{without_earlier, first_at, after_first_at, more, with_answer, match_next, single, match_one, match_rest, match_all}
use Rattle.replay_shards.proofs.Versions.{none_at, at_kept, at_dropped, after_if, same_if, is_same}
use Rattle.replay_shards.proofs.Left.{rise_left, taken_first, left_later, none_left}

-- the answer at each index added to the match at that index
abbrev add_each : List Match → List Answer → List Match
add_each [] answers = []
add_each (m ∷ ms) [] = []
add_each (m ∷ ms) (a ∷ answers) = more m a ∷ add_each ms answers

add_none : (ms : List Match) → add_each ms [] ≡ []
add_none [] = refl
add_none (m ∷ ms) = refl

-- one match more, with an answer or none
of_same : (m : Match) (o : Option Answer) (ms : List Match) (answers : List Answer)
    → (o ≡ None → answers ≡ []) → int_eq m.version m.version ≡ true
    → matches_at m.version (with_answer m o) ++ add_each ms answers ≡ add_each (m ∷ ms) (option_to_list o ++ answers)
of_same m None ms answers none same = ap (add_each ms) (none refl) ∙ add_none ms ∙ sym (ap (add_each (m ∷ ms)) (none refl))
of_same m (Some a) ms answers none same = ap (λ l. l ++ add_each ms answers) (at_kept version_of_match m.version (more m a) [] same)

of_other : (v : ℤ) (m : Match) (o : Option Answer) → int_eq m.version v ≡ false → matches_at v (with_answer m o) ≡ []
of_other v m None differs = refl
of_other v m (Some a) differs = at_dropped version_of_match v (more m a) [] differs

-- of each version
pub adds : (ms : List Match) (left : List Answer) → Rise version_of_match ms → Rise version_of_answer left → (v : ℤ)
    → matches_at v (match_next ms left) ≡ add_each (matches_at v ms) (answers_at v left)
adds [] left rise rises v = refl
adds (m ∷ ms) left rise rises v =
    let w = m.version in
    let taken = first_at w (without_earlier w left) in
    let rest = after_first_at w (without_earlier w left) in
    let later = adds ms rest rise.1 (rise_left w left rises) v in
    filter-append (λ (item : Match). int_eq (version_of_match item) v) (with_answer m taken) (match_next ms rest)
    ∙ ap (λ l. matches_at v (with_answer m taken) ++ l) later
    ∙ elim (cases_Bool (int_eq w v)) [
      | inl same ↦
          let is : w ≡ v = same_if w v same in
          subst (λ u. matches_at u (with_answer m taken) ++ add_each (matches_at u ms) (answers_at u rest)
          ≡ add_each (matches_at u (m ∷ ms)) (answers_at u left)) is
          (of_same m taken (matches_at w ms) (answers_at w rest) (none_left w left rises) (is_same w)
          ∙ ap₂ add_each (sym (at_kept version_of_match w m ms (is_same w))) (sym (taken_first w left)))
      | inr differs ↦
          ap (λ l. l ++ add_each (matches_at v ms) (answers_at v rest)) (of_other v m taken differs)
          ∙ elim (cases_Bool (int_lt v w)) [
            | inl before ↦
                let none = none_at version_of_match v w ms before rise.0 in
                ap (λ l. add_each l (answers_at v rest)) none
                ∙ sym (ap (λ l. add_each l (answers_at v left)) (at_dropped version_of_match v m ms differs ∙ none))
            | inr not_before ↦
                ap₂ add_each (sym (at_dropped version_of_match v m ms differs))
                (left_later w v left (after_other v w not_before differs))
          ]
    ]
  where
    after_other : (v w : ℤ) → int_lt v w ≡ false → int_eq w v ≡ false → int_lt w v ≡ true
    after_other v w not_before differs =
        elim (cases_Bool (int_eq v w)) [
          | inl same ↦ let clash : int_eq w v ≡ true = ap (λ u. int_eq w u) (same_if v w same) ∙ is_same w in
              absurd (let no : true ≡ false = sym clash ∙ differs in cc)
          | inr other ↦ after_if w v not_before other
        ]

-- the matches stay in order
none_before_one : (least : ℤ) (m : Match) (o : Option Answer) (ms : List Match) → int_lt m.version least ≡ false
    → NoneBefore version_of_match least ms → NoneBefore version_of_match least (with_answer m o ++ ms)
none_before_one least m None ms h none = none
none_before_one least m (Some a) ms h none = (h, none)

none_before_next : (least : ℤ) (ms : List Match) (left : List Answer) → NoneBefore version_of_match least ms
    → NoneBefore version_of_match least (match_next ms left)
none_before_next least [] left none = tt
none_before_next least (m ∷ ms) left none =
    let from = without_earlier m.version left in
    none_before_one least m (first_at m.version from) (match_next ms (after_first_at m.version from)) none.0
    (none_before_next least ms (after_first_at m.version from) none.1)

rise_one : (m : Match) (o : Option Answer) (ms : List Match) → NoneBefore version_of_match m.version ms
    → Rise version_of_match ms → Rise version_of_match (with_answer m o ++ ms)
rise_one m None ms none rise = rise
rise_one m (Some a) ms none rise = (none, rise)

rise_next : (ms : List Match) (left : List Answer) → Rise version_of_match ms → Rise version_of_match (match_next ms left)
rise_next [] left rise = tt
rise_next (m ∷ ms) left rise =
    let from = without_earlier m.version left in
    let rest = after_first_at m.version from in
    rise_one m (first_at m.version from) (match_next ms rest) (none_before_next m.version ms rest rise.0) (rise_next ms rest rise.1)

-- how many there are then
length_added : (ms : List Match) (answers : List Answer) → length (add_each ms answers) ≡ min (length ms) (length answers)
length_added [] answers = omega arith
length_added (m ∷ ms) [] = omega arith
length_added (m ∷ ms) (a ∷ answers) = let rest = length_added ms answers in omega (arith, rest)

min_of_three : (a b c : ℕ) → min a (min b c) ≡ min (min a b) c
min_of_three a b c = omega arith

common_more : (v : ℤ) (front : List (List Answer)) (own : List Answer) → 0 < length front
    → common v (front ++ own ∷ []) ≡ min (common v front) (length (answers_at v own))
common_more v [] own some = absurd (omega (arith, some))
common_more v (first ∷ []) own some = refl
common_more v (first ∷ second ∷ rest) own some =
    ap (min (length (answers_at v first))) (common_more v (second ∷ rest) own (omega arith))
    ∙ min_of_three (length (answers_at v first)) (common v (second ∷ rest)) (length (answers_at v own))

-- and which
record IsMore (ms : List Match) (answers : List Answer) (i : ℕ) (m : Match) : Type 0 where
  one : Match
  one_at : slice_get ms i ≡ Some one
  answer : Answer
  answer_at : slice_get answers i ≡ Some answer
  is : m ≡ more one answer

more_at : (ms : List Match) (answers : List Answer) (i : ℕ) (m : Match) → slice_get (add_each ms answers) i ≡ Some m → IsMore ms answers i m
more_at [] answers i m at = absurd (let no : ⊥ = cc in no)
more_at (n ∷ ms) [] i m at = absurd (let no : ⊥ = cc in no)
more_at (n ∷ ms) (a ∷ answers) zero m at = record {
  one = n;
  one_at = refl;
  answer = a;
  answer_at = refl;
  is = let same : more n a ≡ m = cc in sym same;
}
more_at (n ∷ ms) (a ∷ answers) (suc i) m at =
    let rest = more_at ms answers i m at in record {
      one = rest.one;
      one_at = rest.one_at;
      answer = rest.answer;
      answer_at = rest.answer_at;
      is = rest.is;
    }

-- one shard more
matched_more : (front : List (List Answer)) (own : List Answer) (matched : List Match) → 0 < length front
    → Rise version_of_answer own → AreMatched front matched → AreMatched (front ++ own ∷ []) (match_next matched own)
matched_more front own matched some rise are = record {
  in_order = rise_next matched own are.in_order;
  count = λ v.
      ap length (adds matched own are.in_order rise v) ∙ length_added (matches_at v matched) (answers_at v own)
      ∙ ap (λ n. min n (length (answers_at v own))) (are.count v) ∙ sym (common_more v front own some);
  answers = λ v i m at.
      let found = more_at (matches_at v matched) (answers_at v own) i m
      (ap (λ (l : List Match). slice_get l i) (sym (adds matched own are.in_order rise v)) ∙ at) in
      subst (λ (n : Match). AreAt v i (front ++ own ∷ []) n.answers) (sym found.is)
      (all_zipped_more (λ (own : List Answer) (a : Answer). slice_get (answers_at v own) i ≡ Some a) front found.one.answers own
      found.answer (are.answers v i found.one found.one_at) found.answer_at);
}

-- those of one shard alone
one_none_before : (least : ℤ) (answers : List Answer) → NoneBefore version_of_answer least answers
    → NoneBefore version_of_match least (match_one answers)
one_none_before least [] none = tt
one_none_before least (a ∷ answers) none = (none.0, one_none_before least answers none.1)

one_rise : (answers : List Answer) → Rise version_of_answer answers → Rise version_of_match (match_one answers)
one_rise [] rise = tt
one_rise (a ∷ answers) rise = (one_none_before (version_of_answer a) answers rise.0, one_rise answers rise.1)

one_at : (v : ℤ) (answers : List Answer) → matches_at v (match_one answers) ≡ match_one (answers_at v answers)
one_at v [] = refl
one_at v (a ∷ answers) =
    let m = single a in
    elim (cases_Bool (int_eq (version_of_answer a) v)) [
      | inl same ↦
          at_kept version_of_match v m (match_one answers) same ∙ ap (λ l. m ∷ l) (one_at v answers)
          ∙ sym (ap match_one (at_kept version_of_answer v a answers same))
      | inr differs ↦
          at_dropped version_of_match v m (match_one answers) differs ∙ one_at v answers
          ∙ sym (ap match_one (at_dropped version_of_answer v a answers differs))
    ]

one_long : (answers : List Answer) → length (match_one answers) ≡ length answers
one_long [] = refl
one_long (a ∷ answers) = ap suc (one_long answers)

one_found : (answers : List Answer) (i : ℕ) (m : Match) → slice_get (match_one answers) i ≡ Some m
    → (a : Answer) × (slice_get answers i ≡ Some a) × (m.answers ≡ a ∷ [])
one_found [] i m at = absurd (let no : ⊥ = cc in no)
one_found (a ∷ answers) zero m at =
    let same : single a ≡ m = cc in
    (a, refl, sym (ap (λ (n : Match). n.answers) same))
one_found (a ∷ answers) (suc i) m at = one_found answers i m at

matched_one : (first : List Answer) → Rise version_of_answer first → AreMatched (first ∷ []) (match_one first)
matched_one first rise = record {
  in_order = one_rise first rise;
  count = λ v. ap length (one_at v first) ∙ one_long (answers_at v first);
  answers = λ v i m at.
      let found = one_found (answers_at v first) i m (ap (λ (l : List Match). slice_get l i) (sym (one_at v first)) ∙ at) in
      subst (λ (answers : List Answer). AreAt v i (first ∷ []) answers) (sym found.2) (found.1, tt);
}

-- and those of all
matched_rest : (front rest : List (List Answer)) (matched : List Match) → 0 < length front
    → All (λ own. Rise version_of_answer own) rest → AreMatched front matched
    → AreMatched (front ++ rest) (match_rest matched rest)
matched_rest front [] matched some rise are =
    subst (λ (each : List (List Answer)). AreMatched each matched) (sym (all_front front)) are
  where
    all_front : (front : List (List Answer)) → front ++ [] ≡ front
    all_front [] = refl
    all_front (first ∷ front) = ap (λ l. first ∷ l) (all_front front)
matched_rest front (own ∷ rest) matched some rise are =
    let P = λ (own : List Answer). Rise version_of_answer own in
    subst (λ (each : List (List Answer)). AreMatched each (match_rest (match_next matched own) rest)) (append_assoc front (own ∷ []) rest)
    (matched_rest (front ++ own ∷ []) rest (match_next matched own) (longer front own) (All-tail P own rest rise)
    (matched_more front own matched some (All-head P own rest rise) are))
  where
    longer : (front : List (List Answer)) (own : List Answer) → 0 < length (front ++ own ∷ [])
    longer [] own = omega arith
    longer (first ∷ front) own = omega arith

pub matched_all : (each : List (List Answer)) → 0 < length each → All (λ own. Rise version_of_answer own) each
    → AreMatched each (match_all each)
matched_all [] some rise = absurd (omega (arith, some))
matched_all (first ∷ rest) some rise =
    let P = λ (own : List Answer). Rise version_of_answer own in
    matched_rest (first ∷ []) rest (match_one first) (omega arith) (All-tail P first rest rise)
    (matched_one first (All-head P first rest rise))
