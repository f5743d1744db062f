-- Keys of different heads are in the order of these.
use Rattle.std.proofs.Common.{◌≡◌, ◌∙◌, ℕ, List, sym, inl, inr, arith}
use Rattle.std.specs.Prelude.{nat_lt}
use Rattle.std.proofs.lemmas.Bool.{cases_order}
use Rattle.keys.specs.Head.{head_of}
use Rattle.keys.specs.Key.{IsBytes, is_before}
use Rattle.keys.specs.Laws.{KeyHeadsDetermineOrder}
use Rattle.keys.proofs.callers.KeyOrder.{before_at_most_same, not_before_if}
use Rattle.shards.proofs.Counts.{below_test, past_test}

pub before_by_heads : KeyHeadsDetermineOrder → (a b : List ℕ) → IsBytes a → IsBytes b → (head_of a ≡ head_of b → ⊥)
    → nat_lt (head_of a) (head_of b) ≡ is_before a b
before_by_heads report a b a_bytes b_bytes differ =
    elim (cases_order (head_of a) (head_of b)) [
      | inl same ↦ absurd (differ same)
      | inr apart ↦ elim apart [
        | inl below ↦ below_test (head_of a) (head_of b) below ∙ sym ((report a b a_bytes b_bytes).less below)
        | inr above ↦ past_test (head_of a) (head_of b) (omega (arith, above))
            ∙ sym (not_before_if b a (before_at_most_same b a ((report b a b_bytes a_bytes).less above)))
      ]
    ]
