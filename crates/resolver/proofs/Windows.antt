-- How far back a core remembers what was written.
use Rattle.std.specs.Prelude.{ℤ, pos, ◌≤ℤ◌, ◌-ℤ◌}
use Rattle.std.specs.Int.{int_max}
use Rattle.std.proofs.Common.{subst, sym, arith}
use Rattle.std.proofs.lemmas.Int.{ints}
use Rattle.conflict.specs.ConflictSet.{IsSet}
use Rattle.resolver.specs.Core.{CoreState, IsCore, RemembersWindow}
use Rattle.keys.proofs.callers.Numbers.{max_rises}

less_further : (a b c : ℤ) → a ≤ℤ b → (a -ℤ c) ≤ℤ (b -ℤ c)
less_further a b c within = grind (arith, ints, within)

-- its edge is no later than that of its version
pub remembers_window : (core : CoreState) → IsCore core → IsSet core.set → RemembersWindow core
remembers_window core are is none =
    let set = core.set in
    let resolves = are.takes_more none in
    let rises = max_rises (set.resolved -ℤ set.window) (core.version -ℤ set.window)
    (less_further set.resolved core.version set.window (are.resolved resolves)) in
    subst (λ (edge : ℤ). edge ≤ℤ int_max (core.version -ℤ set.window) (pos 0)) (sym (is.edge resolves)) rises
