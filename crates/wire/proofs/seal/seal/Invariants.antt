use Rattle.std.proofs.Common.{◌≡◌, ℕ, ◌+◌, [], ◌∷◌, ◌++◌, drop, length}
use Rattle.wire.specs.Lying.{AreApart}
use Rattle.wire.proofs.Sealing.{sealed_bytes}
use Rattle.wire.proofs.seal.seal.Given as goal

abbrev pub invariant-loop-span : goal.invariant-loop-span
invariant-loop-span l =
    (sealed_bytes l.frame.items (drop l.span-index l.spans) ≡ sealed_bytes (l.fn.frame.items ++ 0 ∷ []) l.spans)
    × (length l.frame.items ≡ length l.fn.frame.items + 1)
    × (from : ℕ) × AreApart from (drop l.span-index l.spans) (length l.fn.frame.items)
