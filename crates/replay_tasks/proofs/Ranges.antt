-- Summaries with the text of ranges, and without.
use Rattle.std.specs.Prelude.{◌≡◌, ℕ, zero, suc, ◌-◌, ◌<◌, ◌==◌, Bool, false, List, [], ◌∷◌, ◌++◌, codes, length, take, if◌then◌else◌, Result, Ok, Err, OnOk, is_ok}
use Rattle.std.proofs.Common.{refl, sym, ap, ◌∙◌, append-nil, arith}
use Rattle.std.proofs.lemmas.Bool.{false≢true}
use Rattle.replay_output.specs.Notes.{with_member}
use Rattle.replay_summary.specs.declared.text.SummaryForm.{SummaryForm}
use Rattle.replay_summary.specs.declared.text.SummaryForm.TheVariants.{Words, Json}
use Rattle.replay_tasks.specs.Summarized.{with_ranges}

-- an empty text changes nothing
pub no_ranges : (form : SummaryForm) (summary ranges : List ℕ) → ranges ≡ [] → with_ranges form summary ranges ≡ summary
no_ranges Words summary ranges none = ap (λ (xs : List ℕ). summary ++ xs) none ∙ append-nil summary
no_ranges Json [] ranges none = refl
no_ranges Json (letter ∷ text) ranges none = ap (λ (xs : List ℕ). with_member (letter ∷ text) xs) none

-- a number that is not 0
pub not_zero : (n : ℕ) (is_zero : Bool) → is_zero ≡ false → is_zero ≡ (n == 0) → 0 < n
not_zero zero is_zero is tested = absurd (false≢true (sym is ∙ tested))
not_zero (suc n) is_zero is tested = omega arith

-- what a call has appended, if it succeeded
pub appended : {T E : Type 0} (result : Result T E) (new old more : List ℕ) → new ≡ (if is_ok result then old ++ more else old)
    → OnOk result (new ≡ old ++ more)
appended (Ok x) new old more is = is
appended (Err e) new old more is = tt

-- members are put before the last two characters
pub members_added : (object members cut new : List ℕ) (end : ℕ) → 0 < length object → 0 < length members
    → end ≡ length object - 2 → cut ≡ take end object → new ≡ cut ++ codes "," ++ members ++ codes "}\n"
    → new ≡ with_member object members
members_added [] members cut new end some more at kept added = absurd (omega (arith, some))
members_added (letter ∷ text) [] cut new end some more at kept added = absurd (omega (arith, more))
members_added (letter ∷ text) (first ∷ members) cut new end some more at kept added =
    let place : end ≡ length text - 1 = omega (arith, at) in
    added ∙ ap (λ (xs : List ℕ). xs ++ codes "," ++ (first ∷ members) ++ codes "}\n")
    (kept ∙ ap (λ (n : ℕ). take n (letter ∷ text)) place)
