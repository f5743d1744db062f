-- What is known at a refusal.
use Rattle.std.proofs.Common.{◌≡◌, Option, None, Result, Ok, Err, refl, sym, subst}
use Rattle.std.specs.Prelude.{OnOk, OnErr, IfErr, IsErrAnd, IfSome, IsSome}
use Rattle.std.proofs.lemmas.Bool.{false≢true}
use Rattle.std.proofs.lemmas.Result.{err_from_is_err_and}
use Rattle.conflict.specs.declared.error.SetStop.{SetStop}
use Rattle.conflict.specs.declared.error.SetStop.TheVariants as set
use Rattle.limits.specs.declared.stop.Stop.{Stop}
use Rattle.limits.specs.declared.stop.Stop.TheVariants.{Memory, GateFull, ArenaFull}
use Rattle.conflict.specs.Stop.{stop_at_set}

-- the resolver says that the limit is exceeded only if its conflict set does
pub set_is_full : (stop : SetStop) → stop_at_set stop ≡ ArenaFull → stop ≡ set.ArenaFull
set_is_full set.Memory is = cc
set_is_full set.ArenaFull is = refl

-- and it never says that the gate is full
pub set_not_gate : (stop : SetStop) → stop_at_set stop ≡ GateFull → ⊥
set_not_gate set.Memory is = cc
set_not_gate set.ArenaFull is = cc

-- where `Memory` alone may come, no other stop has come
pub memory_alone : {T : Type 0} (r : Result T Stop) (stop : Stop) → IfErr r (λ met. met ≡ Memory) → r ≡ Err stop
    → stop ≡ Memory
memory_alone (Ok x) stop memory is = absurd cc
memory_alone (Err met) stop memory is = let same : met ≡ Memory = memory in cc

-- what the exit of a `?` returns is the stop that was met
pub same_stop : {T : Type 0} (r : Result T Stop) (met stop : Stop) → IsErrAnd r (λ s. s ≡ met)
    → r ≡ Err stop → met ≡ stop
same_stop r met stop exit is = let e = err_from_is_err_and r exit in cc (is, e.1, e.2)

-- and it is that stop
pub residual_is : {T : Type 0} (r : Result T Stop) (met : Stop) → IsErrAnd r (λ s. s ≡ met) → r ≡ Err met
residual_is r met exit = let e = err_from_is_err_and r exit in cc (e.1, e.2)

pub same_error : {T : Type 0} (met stop : Stop) → ◌≡◌ {A = Result T Stop} (Err met) (Err stop) → met ≡ stop
same_error met stop is = cc

-- what holds anyway holds after a success and after a refusal
pub OnOk-always : {T E P : Type 0} (r : Result T E) → P → OnOk r P
OnOk-always (Ok x) p = p
OnOk-always (Err e) p = tt

pub OnErr-always : {T E P : Type 0} (r : Result T E) → P → OnErr r P
OnErr-always (Ok x) p = tt
OnErr-always (Err e) p = p

pub IfErr-always : {T E P : Type 0} (r : Result T E) → P → IfErr r (λ _. P)
IfErr-always (Ok x) p = tt
IfErr-always (Err e) p = p

-- no stop was met
pub none_stays : (o : Option Stop) (P : Stop → Type 0) → o ≡ None → IfSome o P
none_stays o P none = subst (λ x. IfSome x P) (sym none) tt

pub not_some : {T : Type 0} (o : Option T) → o ≡ None → IsSome o → ⊥
not_some o none some = false≢true (subst IsSome none some)
