-- How many slots keys of a size take, and how many are spare for them.
use Rattle.std.proofs.Common.{◌≡◌, ◌≢◌, ℕ, zero, suc, ◌+◌, ◌<◌, ◌≤◌, ◌==◌, if◌then◌else◌, cond, List, [], ◌∷◌, length, refl, sym, ◌∙◌, ap, subst, inl, inr, arith}
use Rattle.std.specs.Prelude.{nat_eq, Result, Ok, OnOk}
use Rattle.std.proofs.lemmas.Result.{IfOk-at_ok}
use Rattle.std.proofs.lemmas.Bool.{eq-eqb, ne_eqb}
use Rattle.arena.specs.Arena.{Arena, HasRoomFor, spare_of, size_of, slots_of, wanted_of}
use Rattle.arena.specs.declared.size.TheConstants.{MAX_LENGTH}
use Rattle.arena.proofs.callers.Sizes.{size_fits}
use Rattle.boundaries.proofs.Releasing.{same_or_other}

-- how many slots of the size a key takes
abbrev pub takes : List ℕ → ℕ → ℕ
takes key size = wanted_of (length key ∷ []) size

-- a key is of its own size
wanted_own : (n : ℕ) → wanted_of (n ∷ []) (size_of n) ≡ 1
wanted_own n = own (size_of n)
  where
    own : (size : ℕ) → 0 + cond (nat_eq size size) 1 0 ≡ 1
    own size = ap (λ t. 0 + cond t 1 0) (eq-eqb size size refl)

-- a key takes one slot, of its own size
takes_own : (key : List ℕ) → takes key (size_of (length key)) ≡ 1
takes_own key = wanted_own (length key)

module _ {H : Type 0} (a b : Arena H) (key : List ℕ) where
  -- a key was placed: one slot of its size fewer is spare
  pub taken_by_place : {E : Type 0} (r : Result ℕ E) (slot : ℕ) → r ≡ Ok slot
      → OnOk r (let size = size_of (length key) in spare_of b size + 1
      ≡ (if spare_of a size == 0 then slots_of size else spare_of a size))
      → OnOk r ((size : ℕ) → size ≢ size_of (length key) → spare_of b size ≡ spare_of a size)
      → (size : ℕ) → spare_of a size ≤ spare_of b size + takes key size
  taken_by_place r slot e more others size =
      elim (same_or_other size (size_of (length key))) [
        | inl same ↦
            let spare = OnOk-at_ok _ e more in
            subst (λ n. spare_of a n ≤ spare_of b n + takes key n) (sym same)
            (omega (arith, takes_own key, one_less (spare_of a (size_of (length key))) _ _ spare))
        | inr other ↦ omega (arith, (OnOk-at_ok _ e others) size other)
      ]
    where
      one_less : (n m slots : ℕ) → m + 1 ≡ (if n == 0 then slots else n) → n ≤ m + 1
      one_less zero m slots h = omega arith
      one_less (suc n) m slots h =
          let e : m + 1 ≡ suc n = h ∙ ap (λ t. if t then slots else suc n) (ne_eqb (suc n) 0 (omega arith)) in omega arith

      OnOk-at_ok : {T E : Type 0} {r : Result T E} {x : T} (P : Type 0) → r ≡ Ok x → OnOk r P → P
      OnOk-at_ok P e h = IfOk-at_ok (λ _. P) e h

-- where slots are spare for the begin and the end of a range, and the begin's is taken, one is for the end
module _ (begin end : ℕ) (old : ℕ → ℕ) (keys : HasRoomFor old (begin ∷ end ∷ [])) where
  pub spare_for_begin : begin ≤ MAX_LENGTH → 0 < old (size_of begin)
  spare_for_begin short =
      spare (size_of begin) (keys (size_of begin) (size_fits begin short).0) (wanted_own begin)
    where
      spare : (size : ℕ) → wanted_of (begin ∷ end ∷ []) size ≤ old size → wanted_of (begin ∷ []) size ≡ 1 → 0 < old size
      spare size room own = omega (arith, room, own)

  pub spare_for_end : (begun : ℕ → ℕ) → ((size : ℕ) → old size ≤ begun size + wanted_of (begin ∷ []) size)
      → end ≤ MAX_LENGTH → 0 < begun (size_of end)
  spare_for_end begun used short =
      spare (size_of end) (keys (size_of end) (size_fits end short).0) (wanted_own end)
    where
      spare : (size : ℕ) → wanted_of (begin ∷ end ∷ []) size ≤ old size → wanted_of (end ∷ []) size ≡ 1 → 0 < begun size
      spare size room own = omega (arith, room, used size, own)
