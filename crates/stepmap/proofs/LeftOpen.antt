-- Those that are left open, and the answers that are told for them.
use Rattle.std.proofs.Common.{◌≡◌, ℕ, zero, suc, ◌+◌, ◌<◌, ◌≤◌, ℤ, Bool, true, false, cond, List, [], ◌∷◌, ◌++◌, length, take, drop, refl, sym, ◌∙◌, ap, subst, arith, append-nil, drop_of_length-le, length-append, length-drop, length-take, map}
use Rattle.std.specs.Prelude.{◌↔◌, IsTrue, IsSomeAnd, Some, count_by, slice_get}
use Rattle.std.specs.List.{All, AllZip}
use Rattle.std.proofs.Math.Seq.{take-add}
use Rattle.std.proofs.lemmas.List.{take_all, get_or-drop, get_or-take, length-take-le}
use Rattle.std.proofs.lemmas.List.Sums.{sum_by-cons}
use Rattle.std.proofs.lemmas.Option.{get_or_from_slice_get, slice_get-get_or, slice_get_within}
use Rattle.std.proofs.lemmas.Slice.Zip.{AllZip-long, all_zipped_more}
use Rattle.keys.specs.Range.{IsEmpty}
use Rattle.keys.specs.declared.range.Range.{Range}
use Rattle.keys.proofs.callers.Lists.{part_more}
use Rattle.stepmap.specs.Covers.{IsAbove}
use Rattle.stepmap.specs.Filtering.{left_of, with_answers, AreMarked}
use Rattle.stepmap.specs.StepMap.{Steps}
use Rattle.boundaries.proofs.callers.InTurn.{AllZip-append, AllZip-second, AllZip-through}

module _ (Above : Range × ℤ → Type 0) where
  -- answers that are right of those that are left, and no of the others, are right of all
  pub answered_of_all : (queries : List (Range × ℤ)) (marks answered : List Bool)
      → AllZip (λ q mark. ¬ IsTrue mark → ¬ Above q) queries marks
      → AllZip (λ q above. IsTrue above ↔ Above q) (left_of queries marks) answered
      → AllZip (λ q above. IsTrue above ↔ Above q) queries (with_answers marks answered)
  answered_of_all [] [] answered others left = tt
  answered_of_all [] (mark ∷ marks) answered others left = absurd others
  answered_of_all (q ∷ queries) [] answered others left = absurd others
  answered_of_all (q ∷ queries) (false ∷ marks) answered others left =
      let no : ¬ Above q = others.0 (λ e. cc) in
      ((λ e. cc, λ above. absurd (no above)), answered_of_all queries marks answered others.1 left)
  answered_of_all (q ∷ queries) (true ∷ marks) [] others left = absurd left
  answered_of_all (q ∷ queries) (true ∷ marks) (above ∷ answered) others left =
      (left.0, answered_of_all queries marks answered others.1 left.1)

-- as many are left as are marked
pub length-left_of : (queries : List (Range × ℤ)) (marks : List Bool) → length marks ≤ length queries
    → length (left_of queries marks) ≡ count_by (λ mark. mark) marks
length-left_of [] [] le = refl
length-left_of [] (mark ∷ marks) le = absurd (omega (arith, le))
length-left_of (q ∷ queries) [] le = refl
length-left_of (q ∷ queries) (false ∷ marks) le = length-left_of queries marks (omega (arith, le))
length-left_of (q ∷ queries) (true ∷ marks) le =
    omega (arith, length-left_of queries marks (omega (arith, le)), sum_by-cons (λ (mark : Bool). cond mark 1 0) true marks)

-- one more is marked
left_of_more : (queries : List (Range × ℤ)) (marks : List Bool) (q : Range × ℤ) (mark : Bool)
    → length queries ≡ length marks
    → left_of (queries ++ q ∷ []) (marks ++ mark ∷ []) ≡ left_of queries marks ++ cond mark (q ∷ []) []
left_of_more [] [] q true same = refl
left_of_more [] [] q false same = refl
left_of_more [] (m ∷ marks) q mark same = absurd (omega (arith, same))
left_of_more (p ∷ queries) [] q mark same = absurd (omega (arith, same))
left_of_more (p ∷ queries) (false ∷ marks) q mark same = left_of_more queries marks q mark (omega (arith, same))
left_of_more (p ∷ queries) (true ∷ marks) q mark same =
    ap (λ rest. p ∷ rest) (left_of_more queries marks q mark (omega (arith, same)))

module _ (m : Steps) (queries : List (Range × ℤ)) (from : ℕ) where
  module _ (marks : List Bool) (places : List ℕ) (are : AreMarked m queries from marks places) where
    abbrev part : List (Range × ℤ)
    part = take (length marks) (drop from queries)

    long : length part ≡ length marks
    long = length-take-le (length marks) (drop from queries) (omega (arith, are.within, length-drop from queries))

    module _ (q : Range × ℤ) (is : slice_get queries (from + length marks) ≡ Some q) where
      more : (mark : Bool) → length (marks ++ mark ∷ []) ≡ length marks + 1
      more mark = length-append marks (mark ∷ [])

      next : (mark : Bool) → take (length (marks ++ mark ∷ [])) (drop from queries) ≡ part ++ q ∷ []
      next mark = ap (λ n. take n (drop from queries)) (more mark) ∙ part_more queries from (length marks) q is

      within : (mark : Bool) → from + length (marks ++ mark ∷ []) ≤ length queries
      within mark = omega (arith, more mark, slice_get_within queries (from + length marks) q is)

      others : (mark : Bool) → (¬ IsTrue mark → ¬ IsAbove m q.0 q.1)
          → AllZip (λ q mark. ¬ IsTrue mark → ¬ IsAbove m q.0 q.1)
          (take (length (marks ++ mark ∷ [])) (drop from queries)) (marks ++ mark ∷ [])
      others mark it = subst (λ qs. AllZip (λ q mark. ¬ IsTrue mark → ¬ IsAbove m q.0 q.1) qs (marks ++ mark ∷ []))
          (sym (next mark)) (all_zipped_more _ part marks q mark are.others it)

      left : (mark : Bool) → left_of (take (length (marks ++ mark ∷ [])) (drop from queries)) (marks ++ mark ∷ [])
          ≡ left_of part marks ++ cond mark (q ∷ []) []
      left mark = ap (λ qs. left_of qs (marks ++ mark ∷ [])) (next mark) ∙ left_of_more part marks q mark long

      abbrev At : Range × ℤ → ℕ → Type 0
      At q place = (slice_get queries place ≡ Some q) × (¬ IsEmpty q.0)

      -- one more is marked that is left open
      pub marked_open : ¬ IsEmpty q.0 → AreMarked m queries from (marks ++ true ∷ []) (places ++ (from + length marks) ∷ [])
      marked_open filled = record {
        within = within true;
        others = others true (λ h. absurd (h cc));
        left = subst (λ qs. AllZip At qs (places ++ (from + length marks) ∷ [])) (sym (left true))
            (all_zipped_more At (left_of part marks) places q (from + length marks) are.left (is, filled));
      }

      -- one more is marked that isn't
      pub marked_other : ¬ IsAbove m q.0 q.1 → AreMarked m queries from (marks ++ false ∷ []) places
      marked_other below = record {
        within = within false;
        others = others false (λ e. below);
        left = subst (λ qs. AllZip At qs places) (sym (left false ∙ append-nil (left_of part marks))) are.left;
      }

    -- the ranges that are left open aren't empty
    pub places_filled : All (λ place. IsSomeAnd (slice_get queries place) (λ q. ¬ IsEmpty q.0)) places
    places_filled = AllZip-second (λ (q : Range × ℤ) place. (slice_get queries place ≡ Some q) × (¬ IsEmpty q.0))
        (λ place. IsSomeAnd (slice_get queries place) (λ q. ¬ IsEmpty q.0))
        (λ q place at. subst (λ o. IsSomeAnd o (λ q. ¬ IsEmpty q.0)) (sym at.0) at.1) (left_of part marks) places are.left

    -- answers that are right of the queries at the places are right of those that are left
    module _ (answered : List Bool)
        (right : AllZip (λ place above. IsSomeAnd (slice_get queries place) (λ q. IsTrue above ↔ IsAbove m q.0 q.1)) places answered)
      where
        answered_left : AllZip (λ q above. IsTrue above ↔ IsAbove m q.0 q.1) (left_of part marks) answered
        answered_left = AllZip-through (λ (q : Range × ℤ) place. (slice_get queries place ≡ Some q) × (¬ IsEmpty q.0))
            (λ place above. IsSomeAnd (slice_get queries place) (λ q. IsTrue above ↔ IsAbove m q.0 q.1))
            (λ q above. IsTrue above ↔ IsAbove m q.0 q.1)
            (λ q place above at it. subst (λ o. IsSomeAnd o (λ q. IsTrue above ↔ IsAbove m q.0 q.1)) at.0 it)
            (left_of part marks) places answered are.left right

        -- as many are told as are marked
        pub answered_many : count_by (λ mark. mark) marks ≤ length answered
        answered_many = omega (
          arith,
          length-left_of part marks (omega (arith, long)),
          AllZip-long _ (left_of part marks) answered answered_left,
        )

        answered_part : AllZip (λ q above. IsTrue above ↔ IsAbove m q.0 q.1) part (with_answers marks answered)
        answered_part = answered_of_all (λ q. IsAbove m q.0 q.1) part marks answered are.others answered_left

        -- one answer a mark
        pub length-answered : length (with_answers marks answered) ≡ length marks
        length-answered = omega (arith, AllZip-long _ part (with_answers marks answered) answered_part, long)

        -- behind answers that are right, they are right
        pub answered_after : (answers : List Bool) → length answers ≡ from
            → AllZip (λ q above. IsTrue above ↔ IsAbove m q.0 q.1) (take from queries) answers
            → AllZip (λ q above. IsTrue above ↔ IsAbove m q.0 q.1)
            (take (length (answers ++ with_answers marks answered)) queries) (answers ++ with_answers marks answered)
        answered_after answers is before =
            let count : length (answers ++ with_answers marks answered) ≡ from + length marks =
            omega (arith, length-append answers (with_answers marks answered), length-answered) in
            subst (λ qs. AllZip (λ q above. IsTrue above ↔ IsAbove m q.0 q.1) qs (answers ++ with_answers marks answered))
            (sym (ap (λ n. take n queries) count ∙ take-add from (length marks) queries))
            (AllZip-append _ (take from queries) part answers (with_answers marks answered) before answered_part)

-- what is put back in place of all
pub put_back : (n : ℕ) (new old : List Bool) → n ≡ length old → length new ≡ length old
    → take n (new ++ drop (length new) old) ≡ new
put_back n new old is same =
    ap (λ rest. take n (new ++ rest)) (drop_of_length-le old (omega arith)) ∙ ap (take n) (append-nil new)
    ∙ take_all n new (omega arith)

pub is_false : (b : Bool) → b ≡ false → ¬ IsTrue b
is_false true e h = absurd (different e)
  where
    different : true ≡ false → ⊥
    different e = cc
is_false false e h = absurd (different h)
  where
    different : false ≡ true → ⊥
    different e = cc

-- what a function makes of each is so related to its partner
pub AllZip-mapped : {X Y Z : Type 0} (R : X → Y → Type 0) (S : X → Z → Type 0) (f : Y → Z)
    → ((x : X) (y : Y) → R x y → S x (f y)) → (xs : List X) (ys : List Y) → AllZip R xs ys → AllZip S xs (map f ys)
AllZip-mapped R S f each [] [] all = tt
AllZip-mapped R S f each [] (y ∷ ys) all = absurd all
AllZip-mapped R S f each (x ∷ xs) [] all = absurd all
AllZip-mapped R S f each (x ∷ xs) (y ∷ ys) all = (each x y all.0, AllZip-mapped R S f each xs ys all.1)

-- equal ones are related to all, if that one is
pub AllZip-equal : {X Y : Type 0} (R : X → Y → Type 0) (y : Y) → ((x : X) → R x y) → (xs : List X) (ys : List Y)
    → length xs ≡ length ys → All (λ other. other ≡ y) ys → AllZip R xs ys
AllZip-equal R y each [] [] same equal = tt
AllZip-equal R y each [] (other ∷ ys) same equal = absurd (omega (arith, same))
AllZip-equal R y each (x ∷ xs) [] same equal = absurd (omega (arith, same))
AllZip-equal R y each (x ∷ xs) (other ∷ ys) same equal =
    let first : other ≡ y = equal 0 y (omega arith) in (
      subst (R x) (sym first) (each x),
      AllZip-equal R y each xs ys (omega (arith, same)) (λ k d l. equal (suc k) d (omega (arith, l))),
    )

-- those at one place are related
AllZip-at : {X Y : Type 0} (R : X → Y → Type 0) (xs : List X) (ys : List Y) → AllZip R xs ys → (k : ℕ) (x : X) (y : Y)
    → slice_get xs k ≡ Some x → slice_get ys k ≡ Some y → R x y
AllZip-at R [] [] are k x y x_is y_is = absurd cc
AllZip-at R [] (b ∷ ys) are k x y x_is y_is = absurd are
AllZip-at R (a ∷ xs) [] are k x y x_is y_is = absurd are
AllZip-at R (a ∷ xs) (b ∷ ys) are zero x y x_is y_is =
    let left : a ≡ x = cc in
    let right : b ≡ y = cc in
    subst (λ z. R z y) left (subst (R a) right are.0)
AllZip-at R (a ∷ xs) (b ∷ ys) are (suc k) x y x_is y_is = AllZip-at R xs ys are.1 k x y x_is y_is

-- those at one place of a part are related
pub AllZip-part : {X Y : Type 0} (R : X → Y → Type 0) (xs : List X) (from : ℕ) (ys : List Y)
    → AllZip R (take (length ys) (drop from xs)) ys → (k : ℕ) (x : X) (y : Y) → slice_get xs (from + k) ≡ Some x
    → slice_get ys k ≡ Some y → R x y
AllZip-part R xs from ys are k x y x_is y_is =
    let within = slice_get_within ys k y y_is in
    let inside = slice_get_within xs (from + k) x x_is in
    let there : k < length (drop from xs) = omega (arith, inside, length-drop from xs) in
    let item = get_or-take (length ys) (drop from xs) k x within ∙ get_or-drop from xs k x ∙ get_or_from_slice_get xs (from + k) x x x_is in
    let at : slice_get (take (length ys) (drop from xs)) k ≡ Some x =
    slice_get-get_or (take (length ys) (drop from xs)) k x (omega (arith, within, there, length-take (length ys) (drop from xs))) ∙ ap Some item in
    AllZip-at R (take (length ys) (drop from xs)) ys are k x y at y_is
