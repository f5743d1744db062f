-- A tally with one conflict more, and with one transaction more.
use Rattle.std.proofs.Common.{◌≡◌, ℕ, ◌+◌, ◌<◌, Bool, true, false, cond, not, ◌&&◌, ◌||◌, ◌==◌, List, [], ◌∷◌, ◌++◌, Some, refl, sym, ap, ◌∙◌, arith}
use Rattle.std.specs.BTreeMap as tree
use Rattle.std.specs.BTreeMap.{is_at}
use Rattle.std.specs.Map.{lookup}
use Rattle.std.proofs.lemmas.List.Folds.{list_any-append}
use Rattle.std.proofs.lemmas.List.Sums.{sum_by_push}
use Rattle.std.proofs.lemmas.Map.Views.{tells_apart}
use Rattle.keys.specs.declared.range.Range.{Range}
use Rattle.replay_hot_ranges.specs.Conflicts.{InConflict}
use Rattle.replay_hot_ranges.specs.Counts.{Ends, Side, count_of, has_ends, is_about}
use Rattle.replay_hot_ranges.specs.RangeTally.{IsTallyOf, IsTallyWith, conflicts_at, conflicts_in, is_last, is_last_in}
use Rattle.replay_hot_ranges.specs.Top.{ends_cmp}
use Rattle.replay_hot_ranges.specs.declared.tally.Count.{Count}
use Rattle.replay_hot_ranges.specs.declared.tally.RangeTally.{RangeTally}
use Rattle.replay_hot_ranges.proofs.Keys.{ends_exact, is_at-range}

-- an empty map
pub none_counted : (tally : RangeTally) → tally.counts.entries ≡ [] → (ends : Ends) → conflicts_at tally ends ≡ 0
none_counted tally empty ends = ap (λ es. conflicts_in (lookup (is_at (ends_cmp ends)) es)) empty

pub none_last : (tally : RangeTally) → tally.counts.entries ≡ [] → (ends : Ends) (txn : ℕ) → is_last tally txn ends ≡ false
none_last tally empty ends txn = ap (λ es. is_last_in (lookup (is_at (ends_cmp ends)) es) txn) empty

-- what is set at the key of a range
module _ (old new : RangeTally) (range : Range) (txn : ℕ) (count : Count)
    (sets : (ends : Ends) → tree.get ends_cmp new.counts ends
    ≡ cond (is_at (ends_cmp (range.begin, range.end)) ends) (Some count) (tree.get ends_cmp old.counts ends))
    (last_is : count.last ≡ txn)
    (conflicts_are : count.conflict_count
    ≡ cond (is_last old txn (range.begin, range.end)) (conflicts_at old (range.begin, range.end))
    (conflicts_at old (range.begin, range.end) + 1)) where
  pub noted_last : (ends : Ends) (other : ℕ) → is_last new other ends ≡ cond (has_ends ends range) (txn == other) (is_last old other ends)
  noted_last ends other =
      ap (λ o. is_last_in o other) (sets ends)
      ∙ ap (λ b. is_last_in (cond b (Some count) (tree.get ends_cmp old.counts ends)) other) (is_at-range range ends)
      ∙ go (has_ends ends range)
    where
      go : (b : Bool) → is_last_in (cond b (Some count) (tree.get ends_cmp old.counts ends)) other
          ≡ cond b (txn == other) (is_last old other ends)
      go true = ap (λ n. n == other) last_is
      go false = refl

  pub noted_conflicts : (ends : Ends) → conflicts_at new ends
      ≡ cond (has_ends ends range && not (is_last old txn ends)) (conflicts_at old ends + 1) (conflicts_at old ends)
  noted_conflicts ends =
      ap conflicts_in (sets ends)
      ∙ go (is_at (ends_cmp (range.begin, range.end)) ends) refl
      ∙ ap (λ b. cond (b && not (is_last old txn ends)) (conflicts_at old ends + 1) (conflicts_at old ends)) (is_at-range range ends)
    where
      turned : (b : Bool) (n m : ℕ) → cond b n m ≡ cond (not b) m n
      turned true n m = refl
      turned false n m = refl

      go : (b : Bool) → is_at (ends_cmp (range.begin, range.end)) ends ≡ b
          → conflicts_in (cond b (Some count) (tree.get ends_cmp old.counts ends))
          ≡ cond (b && not (is_last old txn ends)) (conflicts_at old ends + 1) (conflicts_at old ends)
      go true is =
          let same : (range.begin, range.end) ≡ ends = tells_apart ends_exact (range.begin, range.end) ends is in
          conflicts_are
          ∙ ap (λ (e : Ends). cond (is_last old txn e) (conflicts_at old e) (conflicts_at old e + 1)) same
          ∙ turned (is_last old txn ends) (conflicts_at old ends) (conflicts_at old ends + 1)
      go false is = refl

or_false : (a : Bool) → (a || false) ≡ a
or_false true = refl
or_false false = refl

-- one conflict more
about_more : (side : Side) (ends : Ends) (conflicts : List InConflict) (conflict : InConflict)
    → is_about side ends (conflicts ++ conflict ∷ []) ≡ (is_about side ends conflicts || has_ends ends (side conflict))
about_more side ends conflicts conflict =
    list_any-append (λ (c : InConflict). has_ends ends (side c)) conflicts (conflict ∷ [])
    ∙ ap (λ b. is_about side ends conflicts || b) (or_false (has_ends ends (side conflict)))

same_number : (n : ℕ) → (n == n) ≡ true
same_number n = grind arith

other_number : (n m : ℕ) → n < m → (n == m) ≡ false
other_number n m h = grind arith

module _ (side : Side) (txns : List (List InConflict)) (conflicts : List InConflict) (newest : ℕ) (old new : RangeTally) (range : Range)
    (conflict : InConflict) (side_is : side conflict ≡ range)
    (counts : (ends : Ends) → conflicts_at new ends
    ≡ cond (has_ends ends range && not (is_last old newest ends)) (conflicts_at old ends + 1) (conflicts_at old ends))
    (last : (ends : Ends) (other : ℕ) → is_last new other ends ≡ cond (has_ends ends range) (newest == other) (is_last old other ends))
    (before : IsTallyWith side txns conflicts newest old) where
  about_is : (ends : Ends) → is_about side ends (conflicts ++ conflict ∷ []) ≡ (is_about side ends conflicts || has_ends ends range)
  about_is ends = about_more side ends conflicts conflict ∙ ap (λ r. is_about side ends conflicts || has_ends ends r) side_is

  add : (a b : Bool) (n total : ℕ) → n ≡ total + cond a 1 0 → cond (b && not a) (n + 1) n ≡ total + cond (a || b) 1 0
  add true true n total is = is
  add true false n total is = is
  add false true n total is = omega arith
  add false false n total is = is

  mark : (a b : Bool) (n : ℕ) → cond b (n == n) a ≡ (a || b)
  mark true true n = same_number n
  mark true false n = refl
  mark false true n = same_number n
  mark false false n = refl

  later : (b : Bool) (n m : ℕ) (a : Bool) → n < m → a ≡ false → cond b (n == m) a ≡ false
  later true n m a less is = other_number n m less
  later false n m a less is = is

  pub noted : IsTallyWith side txns (conflicts ++ conflict ∷ []) newest new
  noted = record {
    counts = λ ends.
        counts ends
        ∙ ap (λ b. cond (has_ends ends range && not b) (conflicts_at old ends + 1) (conflicts_at old ends)) (before.marks ends)
        ∙ add (is_about side ends conflicts) (has_ends ends range) (conflicts_at old ends) (count_of side txns ends) (before.counts ends)
        ∙ ap (λ b. count_of side txns ends + cond b 1 0) (sym (about_is ends));
    numbers = λ ends txn less.
        last ends txn ∙ later (has_ends ends range) newest txn (is_last old txn ends) less (before.numbers ends txn less);
    marks = λ ends.
        last ends newest
        ∙ ap (λ b. cond (has_ends ends range) (newest == newest) b) (before.marks ends)
        ∙ mark (is_about side ends conflicts) (has_ends ends range) newest
        ∙ sym (about_is ends);
  }

-- a transaction is begun
pub begun : (side : Side) (txns : List (List InConflict)) (newest next : ℕ) (tally : RangeTally) → next ≡ newest + 1
    → IsTallyOf side txns newest tally → IsTallyWith side txns [] next tally
begun side txns newest next tally one_more before = record {
  counts = λ ends. before.counts ends ∙ plus_none (count_of side txns ends);
  numbers = λ ends txn less. before.numbers ends txn (omega arith);
  marks = λ ends. before.numbers ends next (omega arith);
}
  where
    plus_none : (n : ℕ) → n ≡ n + 0
    plus_none n = omega arith

-- and has all its conflicts
pub ended : (side : Side) (txns : List (List InConflict)) (conflicts : List InConflict) (newest : ℕ) (tally : RangeTally)
    → IsTallyWith side txns conflicts newest tally → IsTallyOf side (txns ++ conflicts ∷ []) newest tally
ended side txns conflicts newest tally entire = record {
  counts = λ ends. entire.counts ends ∙ sym (sum_by_push (λ (c : List InConflict). cond (is_about side ends c) 1 0) txns conflicts);
  numbers = entire.numbers;
}
