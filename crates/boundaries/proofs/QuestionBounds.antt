-- The two bounds of a question.
use Rattle.std.proofs.Common.{◌≡◌, ℕ, true, false, List, Option, None, Some, option_map, unwrap_or, refl, ap, ◌∙◌}
use Rattle.keys.specs.Key.{is_before}
use Rattle.keys.proofs.SingleKeys.{before_next}
use Rattle.keys.proofs.callers.KeyOrder.{at_most_before}
use Rattle.boundaries.specs.Bound.{is_below_at}
use Rattle.boundaries.specs.Question.{begun, before_end}
use Rattle.boundaries.specs.declared.question.Question.{Question}
use Rattle.boundaries.proofs.Words.{Keys, key_at}

-- What is below the first one is below the second one.
pub nested : (keys : Keys) (q : Question) (slot : ℕ) → begun keys q slot ≡ true → before_end keys q slot ≡ true
nested keys q slot = of_key (key_at keys slot)
  where
    of_key : (k : Option (List ℕ)) → unwrap_or (option_map (is_below_at true q.begin.now) k) false ≡ true
        → unwrap_or (option_map (is_below_at false q.end.now) k) false ≡ true
    of_key None below = below
    of_key (Some k) below = at_most_before k q.begin.now q.end.now below q.filled

-- Where the range holds its begin alone, no other key is below the second one.
pub same_below : (keys : Keys) (q : Question) → q.is_single ≡ true → (slot : ℕ) → before_end keys q slot ≡ begun keys q slot
same_below keys q single slot = of_key (key_at keys slot)
  where
    of_key : (k : Option (List ℕ)) → unwrap_or (option_map (is_below_at false q.end.now) k) false
        ≡ unwrap_or (option_map (is_below_at true q.begin.now) k) false
    of_key None = refl
    of_key (Some k) = ap (is_before k) (q.single single) ∙ before_next k q.begin.now
