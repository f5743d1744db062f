-- Reading values in sequence, as a loop does.
use Rattle.std.proofs.Common.{◌≡◌, ℕ, suc, ◌-◌, ◌+◌, ◌≤◌, ◌<◌, List, [], ◌∷◌, ◌++◌, Result, Ok, Err, refl, sym, ap, ◌∙◌, append_assoc, arith}
use Rattle.std.proofs.lemmas.List.{append-nil}
use Rattle.wire.specs.declared.error.WireError.{WireError}
use Rattle.wire.specs.Reading.{◌>>=◌, Refuses, many_at}

abbrev pub Reading : Type 0 → Type 0
Reading A = Result (A × List ℕ) WireError

-- what was read before, and what is still read
abbrev pub with_front : {A : Type 0} → List A → Reading (List A) → Reading (List A)
with_front front read = read >>= λ x. Ok (front ++ x.0, x.1)

pub with_none : {A : Type 0} (read : Reading (List A)) → with_front [] read ≡ read
with_none (Ok x) = refl
with_none (Err e) = refl

regroup : {A : Type 0} (front : List A) (a : A) (read : Reading (List A))
    → with_front front (read >>= λ x. Ok (a ∷ x.0, x.1)) ≡ with_front (front ++ a ∷ []) read
regroup {A} front a (Ok x) = ap (λ (all : List A). Ok (all, x.1)) (simp append_assoc)
regroup front a (Err e) = refl

pub continues : {A : Type 0} (one : List ℕ → Reading A) (front : List A) (count i : ℕ) (bytes : List ℕ) (a : A)
    (after : List ℕ) (total : Reading (List A)) → i < count → one bytes ≡ Ok (a, after)
    → with_front front (many_at one (count - i) bytes) ≡ total
    → with_front (front ++ a ∷ []) (many_at one (count - (i + 1)) after) ≡ total
unfolding many_at
continues one front count i bytes a after total lt h so_far =
    let k : count - i ≡ suc (count - (i + 1)) = omega arith in
    let next = with_front front (many_at one (count - i) bytes) in
    let step : next ≡ with_front (front ++ a ∷ []) (many_at one (count - (i + 1)) after) =
    rw (k, h) (regroup front a (many_at one (count - (i + 1)) after)) in
    sym step ∙ so_far

pub ends : {A : Type 0} (one : List ℕ → Reading A) (e : WireError) (front : List A) (count i : ℕ)
    (bytes : List ℕ) (total : Reading (List A)) → i < count → Refuses e (one bytes)
    → with_front front (many_at one (count - i) bytes) ≡ total → Refuses e total
unfolding many_at
ends one e front count i bytes total lt refused so_far =
    let k : count - i ≡ suc (count - (i + 1)) = omega arith in (
      refused.0,
      refused.1,
      λ not_memory. let h = refused.2 not_memory in
          let step : with_front front (many_at one (count - i) bytes) ≡ Err e = rw (k, h) refl in
          sym so_far ∙ step,
    )

pub is_done : {A : Type 0} (one : List ℕ → Reading A) (front : List A) (count i : ℕ) (bytes : List ℕ)
    (total : Reading (List A)) → count ≤ i → with_front front (many_at one (count - i) bytes) ≡ total
    → total ≡ Ok (front, bytes)
unfolding many_at
is_done {A} one front count i bytes total le so_far =
    let k : count - i ≡ 0 = omega arith in
    let step : with_front front (many_at one (count - i) bytes) ≡ Ok (front, bytes) =
    rw k (ap (λ (all : List A). Ok (all, bytes)) (append-nil front)) in
    sym so_far ∙ step
