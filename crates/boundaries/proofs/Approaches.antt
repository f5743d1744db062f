-- Where a question leads.
use Rattle.std.proofs.Common.{ℕ, Bool, false, Option, Some}
use Rattle.boundaries.specs.declared.approach.Rest.{Rest}
use Rattle.boundaries.specs.declared.question.Question.{Question}
use Rattle.boundaries.proofs.Words.{Approach, Leaf, Clear, Open, Store, IsAnswer, IsApproach, IsLeading, items_in}

module _ (store : Store) (q : Question) where
  -- What answers for a part answers for the whole, where what is told of the part is told of the whole.
  pub approach_wider : (height slot low child : ℕ) (r next : Rest) (approach : Approach)
      → ((result : Option Bool) → IsAnswer store.keys q next (items_in store.nodes low child) result
      → IsAnswer store.keys q r (items_in store.nodes height slot) result)
      → IsApproach store low child next q approach → IsApproach store height slot r q approach
  approach_wider height slot low child r next (Leaf hint) wider is = record {
    hint_is = is.hint_is;
    asked = is.asked;
    describes = λ result answered. wider result (is.describes result answered);
  }
  approach_wider height slot low child r next Clear wider is = wider (Some false) is
  approach_wider height slot low child r next Open wider is = tt

  pub leading_of : (height slot : ℕ) (r : Rest) (approach : Approach) → IsApproach store height slot r q approach
      → IsLeading store q approach
  leading_of height slot r (Leaf hint) is = is.hint_is
  leading_of height slot r Clear is = tt
  leading_of height slot r Open is = tt
