-- Which texts are ranges of versions: how they are cut.
use Rattle.std.specs.Prelude.{◌≡◌, ◌≢◌, ℕ, zero, suc, ◌<◌, ◌==◌, ℤ, Bool, true, false, cond, List, [], ◌∷◌, ◌++◌, length, drop, Option, None, Some, MatchOption, is_some, option_map, unwrap_or}
use Rattle.std.specs.Borrow.{Bor}
use Rattle.std.specs.Str.Parse.{AllDigits, IsNumeral, without_leading_sign}
use Rattle.std.proofs.Common.{refl, sym, ap, ◌∙◌, subst, arith, get_or}
use Rattle.std.proofs.lemmas.Bool.{false≢true}
use Rattle.std.proofs.lemmas.Str.Parse.{digit_at}
use Rattle.std.proofs.lemmas.Str.Pattern.{IsSplitOnceResult, split_after, split_parts}
use Rattle.replay_output.specs.LineFilter.{least_version}
use Rattle.replay_arguments.specs.Arguments.{IsEnd, IsVersions}

-- no text is found where none was read
pub none_found : (found : Option (List ℕ)) (read : Option (Bor (List ℕ))) → is_some read ≡ false
    → option_map (λ s. s.now) read ≡ found → found ≡ None
none_found found None none is = sym is
none_found found (Some text) none is = absurd (false≢true (sym none))

no_stop_in_digits : (ds : List ℕ) (i : ℕ) → AllDigits 10 ds → i < length ds → get_or ds i 0 ≢ 46
no_stop_in_digits ds i digits inside is =
    let range = digit_at ds i digits inside in
    absurd (omega (arith, range.0, is))

after_first : (b : ℕ) (bs : List ℕ) (minus plus : Bool) → IsNumeral 10 (cond minus bs (drop (cond plus 1 0) (b ∷ bs)))
    → AllDigits 10 bs
after_first b bs true plus numeral = numeral.1
after_first b bs false true numeral = numeral.1
after_first b bs false false numeral = numeral.1.1

no_stop_in_number : (text : List ℕ) → IsNumeral 10 (without_leading_sign text) → (i : ℕ) → i < length text
    → get_or text i 0 ≢ 46
no_stop_in_number [] numeral i inside is = absurd (omega (arith, inside))
no_stop_in_number (b ∷ bs) numeral zero inside is =
    let digits : IsNumeral 10 (46 ∷ bs) = subst (λ (c : ℕ). IsNumeral 10 (without_leading_sign (c ∷ bs))) is numeral in
    no_stop_in_digits (46 ∷ bs) zero digits.1 (omega arith) refl
no_stop_in_number (b ∷ bs) numeral (suc i) inside is =
    no_stop_in_digits bs i (after_first b bs (b == 45) (b == 43) numeral) (omega (arith, inside)) is

-- an end has no full stop
no_stop : (text : List ℕ) (end : Option ℤ) → IsEnd text end → (i : ℕ) → i < length text → get_or text i 0 ≢ 46
no_stop text None end i inside is = absurd (omega (arith, inside, ap length end))
no_stop text (Some version) end i inside is = no_stop_in_number text end.0 i inside is

module _ (text : List ℕ) (r : Option (Bor (List ℕ) × Bor (List ℕ))) (split : IsSplitOnceResult 46 text r) where
  cut : (least : ℤ) (below : Option ℤ) (has : IsVersions text least below)
      → MatchOption r ⊥ (λ x. (x.0.now ≡ has.from) × (x.1.now ≡ 46 ∷ has.to))
  cut least below has =
      split_after 46 text has.from (46 ∷ has.to) r split (omega arith) has.split (no_stop has.from has.first has.from_first)

  -- a range of versions has a full stop
  pub not_cut : r ≡ None → (least : ℤ) (below : Option ℤ) → ¬ (IsVersions text least below)
  not_cut none least below has =
      subst (λ (o : Option (Bor (List ℕ) × Bor (List ℕ))). MatchOption o ⊥ (λ x. (x.0.now ≡ has.from) × (x.1.now ≡ 46 ∷ has.to)))
      none (cut least below has)

  module _ (from rest : Bor (List ℕ)) (some : r ≡ Some (from, rest)) where
    -- it is cut there
    pub cut_there : (least : ℤ) (below : Option ℤ) (has : IsVersions text least below)
        → (from.now ≡ has.from) × (rest.now ≡ 46 ∷ has.to)
    cut_there least below has =
        subst (λ (o : Option (Bor (List ℕ) × Bor (List ℕ))). MatchOption o ⊥ (λ x. (x.0.now ≡ has.from) × (x.1.now ≡ 46 ∷ has.to)))
        some (cut least below has)

    -- a text that is cut twice, with these ends, is a range of versions
    pub made : (to : List ℕ) (first below : Option ℤ) (least : ℤ) → rest.now ≡ 46 ∷ to → IsEnd from.now first → IsEnd to below
        → least ≡ unwrap_or first least_version → IsVersions text least below
    made to first below least after start end is =
        let parts = subst (λ (o : Option (Bor (List ℕ) × Bor (List ℕ))). MatchOption o ((i : ℕ) → i < length text → get_or text i 0 ≢ 46)
        (λ x. (text ≡ x.0.now ++ (46 ∷ x.1.now)) × ((i : ℕ) → i < length x.0.now → get_or x.0.now i 0 ≢ 46)))
        some (split_parts 46 text r split (omega arith)) in
        record {
          from = from.now;
          to = to;
          split = parts.0 ∙ ap (λ (l : List ℕ). from.now ++ (46 ∷ l)) after;
          first = first;
          from_first = start;
          least_is = is;
          to_below = end;
        }
