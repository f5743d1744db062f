-- Failures of shards, in sequence.
use Rattle.std.specs.Prelude.{◌≡◌, ℕ, zero, suc, ◌+◌, Bool, true, false, ◌||◌, List, [], ◌∷◌, map, take, Option, None, Some, slice_get}
use Rattle.std.specs.Option.{option_or}
use Rattle.std.proofs.Common.{refl, ap, ◌∙◌, arith}
use Rattle.std.specs.List.{list_any}
use Rattle.replay_output.specs.declared.failures.ProxyFailure.{ProxyFailure}
use Rattle.replay_shards.specs.Failures.{fault_of, first_some, has_loss}

or_none : {X : Type 0} (o : Option X) → option_or o None ≡ o
or_none None = refl
or_none (Some x) = refl

or_assoc : {X : Type 0} (a b c : Option X) → option_or a (option_or b c) ≡ option_or (option_or a b) c
or_assoc None b c = refl
or_assoc (Some x) b c = refl

pub fault_next : (each : List ProxyFailure) (i : ℕ) (own : ProxyFailure) → slice_get each i ≡ Some own
    → first_some (map fault_of (take (i + 1) each)) ≡ option_or (first_some (map fault_of (take i each))) own.fault
fault_next [] i own at = absurd (let no : ⊥ = cc in no)
fault_next (x ∷ each) zero own at = let same : x ≡ own = cc in or_none x.fault ∙ ap fault_of same
fault_next (x ∷ each) (suc i) own at =
    let more : suc i + 1 ≡ suc (i + 1) = omega arith in
    ap (λ n. first_some (map fault_of (take n (x ∷ each)))) more
    ∙ ap (option_or x.fault) (fault_next each i own at)
    ∙ or_assoc x.fault (first_some (map fault_of (take i each))) own.fault

either_false : (a : Bool) → (a || false) ≡ a
either_false true = refl
either_false false = refl

either_assoc : (a b c : Bool) → (a || (b || c)) ≡ ((a || b) || c)
either_assoc true b c = refl
either_assoc false b c = refl

pub loss_next : (each : List ProxyFailure) (i : ℕ) (own : ProxyFailure) → slice_get each i ≡ Some own
    → list_any has_loss (take (i + 1) each) ≡ (list_any has_loss (take i each) || own.lost)
loss_next [] i own at = absurd (let no : ⊥ = cc in no)
loss_next (x ∷ each) zero own at = let same : x ≡ own = cc in either_false x.lost ∙ ap has_loss same
loss_next (x ∷ each) (suc i) own at =
    let more : suc i + 1 ≡ suc (i + 1) = omega arith in
    ap (λ n. list_any has_loss (take n (x ∷ each))) more
    ∙ ap (λ b. x.lost || b) (loss_next each i own at)
    ∙ either_assoc x.lost (list_any has_loss (take i each)) own.lost
