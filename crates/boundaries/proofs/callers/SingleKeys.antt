-- The range from a key to the one right after it holds that key alone.
use Rattle.std.proofs.Common.{◌≡◌, ℕ, List, sym, ◌∙◌, subst}
use Rattle.keys.specs.Key.{IsBefore}
use Rattle.keys.specs.Range.{Holds, IsSingle}
use Rattle.keys.specs.declared.range.Range.{Range}
use Rattle.keys.proofs.SingleKeys.{before_next}
use Rattle.keys.proofs.callers.KeyOrder.{at_most_antisym}

pub single_holds : (range : Range) (key : List ℕ) → IsSingle range → Holds range key
    → key ≡ range.begin
single_holds range key single holds =
    at_most_antisym key range.begin (sym (before_next key range.begin) ∙ subst (IsBefore key) single holds.1) holds.0
