-- The words of a command line, one by one.
use Rattle.std.proofs.Common.{◌≡◌, ℕ, ◌<◌, ◌≤◌, List, [], ◌∷◌, length, map, get_or, refl, sym, ◌∙◌, ap, subst, arith}
use Rattle.std.specs.Prelude.{Option, Some, None, IfNone}
use Rattle.workload_program.specs.declared.plan.Plan.{Plan}
use Rattle.workload_program.specs.declared.plan.TheConstants.{MAX_BATCHES, MAX_TRANSACTIONS}
use Rattle.workload_program.specs.Arguments.{AskFor, IsNumberTo}

pub if_none : {T X : Type 0} (o : Option T) → X → IfNone o X
if_none None x = x
if_none (Some value) x = tt

-- four words are the first one and those that were found after it
pub are_four : {X : Type 0} (f : X → List ℕ) (words : List X) (name batches transactions : X) → 4 ≤ length words
    → length words < 5 → name ≡ get_or words 1 name → batches ≡ get_or words 2 batches
    → transactions ≡ get_or words 3 transactions
    → (program : List ℕ) × (map f words ≡ program ∷ f name ∷ f batches ∷ f transactions ∷ [])
are_four f [] name batches transactions least most at_1 at_2 at_3 = absurd (omega (arith, least))
are_four f (p ∷ []) name batches transactions least most at_1 at_2 at_3 = absurd (omega (arith, least))
are_four f (p ∷ n ∷ []) name batches transactions least most at_1 at_2 at_3 = absurd (omega (arith, least))
are_four f (p ∷ n ∷ b ∷ []) name batches transactions least most at_1 at_2 at_3 = absurd (omega (arith, least))
are_four f (p ∷ n ∷ b ∷ t ∷ []) name batches transactions least most at_1 at_2 at_3 =
    (f p, rw (at_1, at_2, at_3) refl)
are_four f (p ∷ n ∷ b ∷ t ∷ u ∷ us) name batches transactions least most at_1 at_2 at_3 =
    absurd (omega (arith, most))

-- the numbers that four words ask for
pub numbers_of : (plan : Plan) (line : List (List ℕ)) (program name batches transactions : List ℕ)
    → line ≡ program ∷ name ∷ batches ∷ transactions ∷ [] → AskFor plan line
    → IsNumberTo MAX_BATCHES batches plan.batches × IsNumberTo MAX_TRANSACTIONS transactions plan.transactions
numbers_of plan line program name batches transactions is asked =
    let same = sym asked.words ∙ is in (
      subst (λ text. IsNumberTo MAX_BATCHES text plan.batches) (ap (λ l. get_or l 2 []) same) asked.batch_count,
      subst (λ text. IsNumberTo MAX_TRANSACTIONS text plan.transactions) (ap (λ l. get_or l 3 []) same)
          asked.txn_count,
    )
