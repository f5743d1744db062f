-- Matching expected replies with recorded ones that are both in order: what was passed over is before all that is still expected.
use Rattle.std.specs.Prelude.{◌≡◌, ℕ, zero, suc, ◌+◌, ◌≤◌, ◌<◌, ℤ, int_lt, Bool, true, false, cond, List, [], ◌∷◌, ◌++◌, length, map, take, drop, Option, None, Some, ⊤, slice_index_or as get_or}
use Rattle.std.specs.Ordering.{int_eq, is_eq}
use Rattle.std.specs.declared.cmp.Ordering.TheVariants.{Less, Equal, Greater}
use Rattle.std.specs.Cmp.{signed_Decides}
use Rattle.std.specs.List.{take_while}
use Rattle.std.proofs.Common.{refl, sym, ap, ◌∙◌, subst, inl, inr, arith, append_assoc, add-one}
use Rattle.std.proofs.lemmas.Bool.{cond-true, cond-false, cases_Bool, false≢true}
use Rattle.std.proofs.lemmas.List.{map-append, take-append-drop}
use Rattle.std.proofs.Math.ListN.{drop_of_length-le}
use Rattle.std.proofs.Math.Seq.{drop-cons}
use Rattle.std.proofs.lemmas.List.Sums.{take_while-cons}
use Rattle.keyspace.specs.declared.reply.Reply.{Reply}
use Rattle.checking.specs.declared.difference.Difference.{Difference}
use Rattle.keyspace.specs.storage.InOrder.{NoneBefore, Rise}
use Rattle.checking.specs.Difference.{first_of, with_another, match_differences, matched_with, missing_reply, unexpected_reply, version_of_reply}
use Rattle.keyspace.proofs.callers.Ordered.{order}

-- a is below b, and c isn't below b, so a is below c
below_far : (a b c : ℤ) → int_lt a b ≡ true → int_lt c b ≡ false → int_lt a c ≡ true
below_far a b c below far =
    elim (cases_Bool (int_lt a c)) [
      | inl holds ↦ holds
      | inr fails ↦ absurd (false≢true (sym ((order (λ (z : ℤ). z)).chain a c b fails far) ∙ below))
    ]

not_equal : (a b : ℤ) → int_lt a b ≡ true → int_eq a b ≡ false
not_equal a b below =
    elim (cases_Bool (int_eq a b)) [
      | inl holds ↦
          let same = (signed_Decides a b).0 holds in
          let itself : int_lt b b ≡ true = subst (λ (z : ℤ). int_lt z b ≡ true) same below in
          absurd (false≢true (sym ((order (λ (z : ℤ). z)).one_way b b itself) ∙ itself))
      | inr fails ↦ fails
    ]

not_equal_above : (a b : ℤ) → int_lt b a ≡ true → int_eq a b ≡ false
not_equal_above a b below =
    elim (cases_Bool (int_eq a b)) [
      | inl holds ↦
          let same = (signed_Decides a b).0 holds in
          let itself : int_lt b b ≡ true = subst (λ (z : ℤ). int_lt b z ≡ true) same below in
          absurd (false≢true (sym ((order (λ (z : ℤ). z)).one_way b b itself) ∙ itself))
      | inr fails ↦ fails
    ]

equal_if_neither : (first second : Bool) → first ≡ false → second ≡ false
    → is_eq (cond first Less (cond second Greater Equal)) ≡ true
equal_if_neither true second e f = absurd (false≢true (sym e))
equal_if_neither false true e f = absurd (false≢true (sym f))
equal_if_neither false false e f = refl

-- neither below b nor b, so above it
pub above : (a b : ℤ) → int_lt a b ≡ false → (a ≡ b → ⊥) → int_lt b a ≡ true
above a b far other =
    elim (cases_Bool (int_lt b a)) [
      | inl holds ↦ holds
      | inr fails ↦ absurd (other ((signed_Decides a b).0 (equal_if_neither (int_lt a b) (int_lt b a) far fails)))
    ]

-- each has a lesser version than this
abbrev pub AllBefore : ℤ → List Reply → Type 0
AllBefore version [] = ⊤
AllBefore version (r ∷ rs) = (int_lt r.version version ≡ true) × AllBefore version rs

AllBefore-append : (version : ℤ) (rs ss : List Reply) → AllBefore version rs → AllBefore version ss
    → AllBefore version (rs ++ ss)
AllBefore-append version [] ss one other = other
AllBefore-append version (r ∷ rs) ss one other = (one.0, AllBefore-append version rs ss one.1 other)

AllBefore-later : (version later : ℤ) (rs : List Reply) → int_lt later version ≡ false → AllBefore version rs
    → AllBefore later rs
AllBefore-later version later [] far all = tt
AllBefore-later version later (r ∷ rs) far all =
    (below_far r.version version later all.0 far, AllBefore-later version later rs far all.1)

-- each has a lesser version than each that is still expected
abbrev pub After : List Reply → List Reply → Type 0
After rs [] = ⊤
After rs (e ∷ es) = AllBefore e.version rs × After rs es

After-none : (es : List Reply) → After [] es
After-none [] = tt
After-none (e ∷ es) = (tt, After-none es)

After-more : (version : ℤ) (rs ss es : List Reply) → AllBefore version ss → NoneBefore version_of_reply version es
    → After rs es → After (rs ++ ss) es
After-more version rs ss [] all far after = tt
After-more version rs ss (e ∷ es) all far after = (
  AllBefore-append e.version rs ss after.0 (AllBefore-later version e.version ss far.0 all),
  After-more version rs ss es all far.1 after.1,
)

-- what is found after those that are before the version
abbrev passed_all : List Reply → Option (Reply × List Reply) → Option (Reply × List Reply)
passed_all rs None = None
passed_all rs (Some found) = Some (found.0, rs ++ found.1)

passed_all-none : (o : Option (Reply × List Reply)) → passed_all [] o ≡ o
passed_all-none None = refl
passed_all-none (Some found) = refl

passed-all : (r : Reply) (rs : List Reply) (o : Option (Reply × List Reply))
    → with_another r (passed_all rs o) ≡ passed_all (r ∷ rs) o
passed-all r rs None = refl
passed-all r rs (Some found) = refl

first_of-after : (version : ℤ) (rs ys : List Reply) → AllBefore version rs
    → first_of version (rs ++ ys) ≡ passed_all rs (first_of version ys)
first_of-after version [] ys all = sym (passed_all-none (first_of version ys))
first_of-after version (r ∷ rs) ys all =
    cond-false _ _ _ (not_equal r.version version all.0)
    ∙ ap (with_another r) (first_of-after version rs ys all.1)
    ∙ passed-all r rs (first_of version ys)

-- nothing is found above
pub first_of-above : (version : ℤ) (least : ℤ) (rs : List Reply) → int_lt version least ≡ true
    → NoneBefore version_of_reply least rs → first_of version rs ≡ None
first_of-above version least [] high none = refl
first_of-above version least (r ∷ rs) high none =
    cond-false _ _ _ (not_equal_above r.version version (below_far version least r.version high none.0))
    ∙ ap (with_another r) (first_of-above version least rs high none.1)

pub found_first : (version : ℤ) (r : Reply) (rs : List Reply) → r.version ≡ version
    → first_of version (r ∷ rs) ≡ Some (r, rs)
found_first version r rs same = cond-true _ _ _ ((signed_Decides r.version version).1 same)

pub found_none : (version : ℤ) (r : Reply) (rs : List Reply) → NoneBefore version_of_reply version (r ∷ rs)
    → Rise version_of_reply (r ∷ rs) → (r.version ≡ version → ⊥) → first_of version (r ∷ rs) ≡ None
found_none version r rs none rise other =
    let high = above r.version version none.0 other in
    cond-false _ _ _ (not_equal_above r.version version high)
    ∙ ap (with_another r) (first_of-above version r.version rs high rise.0)

-- what an expected reply is matched with, after those that were passed over
matched_after : (e : Reply) (rs ys : List Reply) (continue_with : List Reply → List Difference) (o : Option (Reply × List Reply))
    → matched_with e (rs ++ ys) continue_with (passed_all rs o) ≡ matched_with e ys (λ zs. continue_with (rs ++ zs)) o
matched_after e rs ys continue_with None = refl
matched_after e rs ys continue_with (Some found) = refl

-- how many at the front are before the version
abbrev pub front : ℤ → List Reply → ℕ
front version rs = length (take_while (λ (r : Reply). int_lt r.version version) rs)

front-more : (version : ℤ) (r : Reply) (rs : List Reply) → int_lt r.version version ≡ true
    → front version (r ∷ rs) ≡ suc (front version rs)
front-more version r rs below =
    ap length (take_while-cons (λ (r : Reply). int_lt r.version version) r rs ∙ cond-true _ _ _ below)

front-none : (version : ℤ) (r : Reply) (rs : List Reply) → int_lt r.version version ≡ false
    → front version (r ∷ rs) ≡ 0
front-none version r rs far =
    ap length (take_while-cons (λ (r : Reply). int_lt r.version version) r rs ∙ cond-false _ _ _ far)

front_before : (version : ℤ) (rs : List Reply) → AllBefore version (take (front version rs) rs)
front_before version [] = tt
front_before version (r ∷ rs) =
    elim (cases_Bool (int_lt r.version version)) [
      | inl below ↦ subst (λ (n : ℕ). AllBefore version (take n (r ∷ rs))) (sym (front-more version r rs below))
          (below, front_before version rs)
      | inr far ↦ subst (λ (n : ℕ). AllBefore version (take n (r ∷ rs))) (sym (front-none version r rs far)) tt
    ]

-- what is above what isn't before the version isn't before it either
NoneBefore-lower : (version least : ℤ) (rs : List Reply) → int_lt least version ≡ false
    → NoneBefore version_of_reply least rs → NoneBefore version_of_reply version rs
NoneBefore-lower version least [] far none = tt
NoneBefore-lower version least (r ∷ rs) far none =
    ((order (λ (z : ℤ). z)).chain r.version least version none.0 far, NoneBefore-lower version least rs far none.1)

Rise-drop : (n : ℕ) (rs : List Reply) → Rise version_of_reply rs → Rise version_of_reply (drop n rs)
Rise-drop zero rs rise = rise
Rise-drop (suc n) [] rise = tt
Rise-drop (suc n) (r ∷ rs) rise = Rise-drop n rs rise.1

front_after : (version : ℤ) (rs : List Reply) → Rise version_of_reply rs
    → NoneBefore version_of_reply version (drop (front version rs) rs)
front_after version [] rise = tt
front_after version (r ∷ rs) rise =
    elim (cases_Bool (int_lt r.version version)) [
      | inl below ↦ subst (λ (n : ℕ). NoneBefore version_of_reply version (drop n (r ∷ rs))) (sym (front-more version r rs below))
          (front_after version rs rise.1)
      | inr far ↦ subst (λ (n : ℕ). NoneBefore version_of_reply version (drop n (r ∷ rs))) (sym (front-none version r rs far))
          (far, NoneBefore-lower version r.version rs far rise.0)
    ]

-- How far the expected replies were matched, up to an index: some recorded ones were passed over, and the rest is left.
pub record HasMatched (expected recorded : List Reply) (index : ℕ) (rest : List Reply) (found passed_over : List Difference) :
    Type 0 where
  pub skipped : List Reply
  pub reported : passed_over ≡ map unexpected_reply skipped
  pub after : After skipped (drop index expected)
  pub left : Rise version_of_reply (drop index expected)
  pub rises : Rise version_of_reply rest
  pub continues : found ++ match_differences (drop index expected) (skipped ++ rest) ≡ match_differences expected recorded

pub matched_none : (expected recorded : List Reply) → Rise version_of_reply expected → Rise version_of_reply recorded
    → HasMatched expected recorded 0 recorded [] []
matched_none expected recorded left rises = record {
  skipped = [];
  reported = refl;
  after = After-none expected;
  left = left;
  rises = rises;
  continues = refl;
}

-- what continues after those that this reply passes over
abbrev pub Continues : Reply → List Reply → List Reply → List Difference → List Difference → Type 0
Continues e recorded rest before now = (continue_with : List Reply → List Difference)
    → now ++ continue_with rest ≡ before ++ matched_with e recorded continue_with (first_of e.version recorded)

pub matched_step : (expected recorded rest rest' : List Reply) (index : ℕ) (found found' passed_over : List Difference)
    (e : Reply) (es : List Reply) → drop index expected ≡ e ∷ es → drop (suc index) expected ≡ es
    → HasMatched expected recorded index rest found passed_over → Rise version_of_reply rest'
    → Continues e (drop (front e.version rest) rest) rest' found found'
    → HasMatched expected recorded (suc index) rest' found' (passed_over ++ map unexpected_reply (take (front e.version rest) rest))
matched_step expected recorded rest rest' index found found' passed_over e es here next had rises goes =
    let n = front e.version rest in
    let before = take n rest in
    let others = drop n rest in
    let skipped = had.skipped ++ before in
    let after : After had.skipped (e ∷ es) = subst (After had.skipped) here had.after in
    let left : Rise version_of_reply (e ∷ es) = subst (Rise version_of_reply) here had.left in
    let all = AllBefore-append e.version had.skipped before after.0 (front_before e.version rest) in
    let entire : had.skipped ++ rest ≡ skipped ++ others =
    ap (λ (l : List Reply). had.skipped ++ l) (sym (take-append-drop n rest)) ∙ sym (append_assoc had.skipped before others) in
    let so_far : found ++ match_differences (e ∷ es) (skipped ++ others) ≡ match_differences expected recorded =
    subst (λ (l : List Reply). found ++ match_differences (e ∷ es) l ≡ match_differences expected recorded) entire
    (subst (λ (l : List Reply). found ++ match_differences l (had.skipped ++ rest) ≡ match_differences expected recorded) here had.continues) in
    let continue_with : List Reply → List Difference = λ zs. match_differences es (skipped ++ zs) in
    let step : found' ++ match_differences es (skipped ++ rest') ≡ found ++ match_differences (e ∷ es) (skipped ++ others) =
    goes continue_with
    ∙ ap (λ (ds : List Difference). found ++ ds)
    (sym (matched_after e skipped others (match_differences es) (first_of e.version others))
    ∙ ap (matched_with e (skipped ++ others) (match_differences es)) (sym (first_of-after e.version skipped others all))) in
    record {
      skipped = skipped;
      reported = ap (λ (ds : List Difference). ds ++ map unexpected_reply before) had.reported ∙ sym (map-append unexpected_reply had.skipped before);
      after = subst (After skipped) (sym next) (After-more e.version had.skipped before es (front_before e.version rest) left.0 after.1);
      left = subst (Rise version_of_reply) (sym next) left.1;
      rises = rises;
      continues = subst (λ (l : List Reply). found' ++ match_differences l (skipped ++ rest') ≡ match_differences expected recorded) (sym next) (step ∙ so_far);
    }

pub matched_all : (expected recorded rest : List Reply) (index : ℕ) (found passed_over : List Difference)
    → length expected ≤ index → HasMatched expected recorded index rest found passed_over
    → found ++ (passed_over ++ map unexpected_reply rest) ≡ match_differences expected recorded
matched_all expected recorded rest index found passed_over end had =
    ap (λ (ds : List Difference). found ++ (ds ++ map unexpected_reply rest)) had.reported
    ∙ ap (λ (ds : List Difference). found ++ ds) (sym (map-append unexpected_reply had.skipped rest))
    ∙ subst (λ (l : List Reply). found ++ match_differences l (had.skipped ++ rest) ≡ match_differences expected recorded)
    (drop_of_length-le expected end) had.continues

-- one turn: those before the reply are passed over, and it is matched with what follows
pub matched_turn : (expected recorded rest rest' before others : List Reply) (index n : ℕ)
    (found found' passed_over passed_over' : List Difference) (e : Reply)
    → index < length expected → e ≡ get_or expected index e → n ≡ front e.version rest → before ≡ take n rest → others ≡ drop n rest
    → passed_over' ≡ passed_over ++ map unexpected_reply before → HasMatched expected recorded index rest found passed_over
    → Rise version_of_reply rest' → Continues e others rest' found found'
    → HasMatched expected recorded (index + 1) rest' found' passed_over'
matched_turn expected recorded rest rest' before others index n found found' passed_over passed_over' e inside is count front_is back_is pushed had rises goes =
    let here : drop index expected ≡ e ∷ drop (suc index) expected =
    drop-cons expected index e inside ∙ ap (λ (r : Reply). r ∷ drop (suc index) expected) (sym is) in
    let passed_is = pushed ∙ ap (λ (l : List Reply). passed_over ++ map unexpected_reply l)
    (front_is ∙ ap (λ (k : ℕ). take k rest) count) in
    let goes' = subst (λ (l : List Reply). Continues e l rest' found found')
    (back_is ∙ ap (λ (k : ℕ). drop k rest) count) goes in
    rw add-one (subst (HasMatched expected recorded (suc index) rest' found') (sym passed_is)
    (matched_step expected recorded rest rest' index found found' passed_over e (drop (suc index) expected) here refl had rises goes'))

-- what isn't before the version, of what is left after those that are
pub after_front : (version : ℤ) (rest others : List Reply) (n : ℕ) → n ≡ front version rest → others ≡ drop n rest
    → Rise version_of_reply rest → NoneBefore version_of_reply version others × Rise version_of_reply others
after_front version rest others n count back_is rises =
    let others_are = back_is ∙ ap (λ (k : ℕ). drop k rest) count in (
      subst (NoneBefore version_of_reply version) (sym others_are) (front_after version rest rises),
      subst (Rise version_of_reply) (sym others_are) (Rise-drop (front version rest) rest rises),
    )

found_in : (version : ℤ) (rs : List Reply) (r : Reply) (others : List Reply) → rs ≡ r ∷ others
    → NoneBefore version_of_reply version rs → Rise version_of_reply rs → (r.version ≡ version → ⊥) → first_of version rs ≡ None
found_in version rs r others is none rise other =
    ap (first_of version) is
    ∙ found_none version r others (subst (NoneBefore version_of_reply version) is none) (subst (Rise version_of_reply) is rise) other

found_empty : (version : ℤ) (rs : List Reply) → length rs ≡ 0 → first_of version rs ≡ None
found_empty version [] empty = refl
found_empty version (r ∷ rs) empty = absurd (omega arith)

-- nothing is found, and the reply is reported as missing
missed : (e : Reply) (recorded : List Reply) (before now : List Difference) → first_of e.version recorded ≡ None
    → now ≡ before ++ missing_reply e ∷ [] → Continues e recorded recorded before now
missed e recorded before now none is =
    λ continue_with. ap (λ (ds : List Difference). ds ++ continue_with recorded) is
    ∙ append_assoc before (missing_reply e ∷ []) (continue_with recorded)
    ∙ ap (λ (o : Option (Reply × List Reply)). before ++ matched_with e recorded continue_with o) (sym none)

pub missed_first : (e : Reply) (recorded : List Reply) (r : Reply) (others : List Reply) (before now : List Difference)
    → recorded ≡ r ∷ others → NoneBefore version_of_reply e.version recorded → Rise version_of_reply recorded
    → (r.version ≡ e.version → ⊥) → now ≡ before ++ missing_reply e ∷ [] → Continues e recorded recorded before now
missed_first e recorded r others before now is none rise other reported =
    missed e recorded before now (found_in e.version recorded r others is none rise other) reported

pub missed_empty : (e : Reply) (recorded : List Reply) (before now : List Difference)
    → length recorded ≡ 0 → now ≡ before ++ missing_reply e ∷ [] → Continues e recorded recorded before now
missed_empty e recorded before now empty reported = missed e recorded before now (found_empty e.version recorded empty) reported
