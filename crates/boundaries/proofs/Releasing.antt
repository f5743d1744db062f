-- Slots of an arena are released one after the other.
use Rattle.std.proofs.Common.{◌≡◌, ◌≢◌, ◌⊎◌, ℕ, zero, suc, ◌+◌, ◌-◌, ◌<◌, ◌≤◌, false, cond, List, [], ◌∷◌, ◌++◌, length, get_or, take, drop, Option, Some, None, IsSome, is_some, option_map, refl, sym, ap, subst, ◌∙◌, inl, inr, arith}
use Rattle.std.specs.Prelude.{IfSome, nat_eq}
use Rattle.std.specs.List.{IsDistinct}
use Rattle.std.specs.FinMap as finite
use Rattle.std.specs.Ordering.{nat_cmp}
use Rattle.std.specs.Cmp.{nat_cmp_total}
use Rattle.std.proofs.lemmas.Bool.Decides.{eqb_tells}
use Rattle.std.proofs.lemmas.List.{take_more, length-take-le}
use Rattle.arena.specs.Arena.{Arena, Record, IsLive, record_at, key_at, spare_of, size_of}
use Rattle.boundaries.proofs.callers.Times.{times, once, once_same, times-append, once_if_distinct}
use Rattle.boundaries.proofs.callers.Lists.{around_element}

pub same_or_other : (a b : ℕ) → (a ≡ b) ⊎ (a ≢ b)
same_or_other a b = elim (eqb_tells a b) [ inl same ↦ inl same.1 | inr other ↦ inr other.1 ]

not_both : {X : Type 0} (o : Option X) → o ≡ None → IsSome o → ⊥
not_both o none live = let e : is_some o ≡ false = ap is_some none in cc

-- of distinct slots one is not among those before it
not_before : (slots : List ℕ) → IsDistinct nat_eq slots → (i slot : ℕ) → i < length slots
    → get_or slots i slot ≡ slot → times slot (take i slots) ≡ 0
not_before slots distinct i slot lt is =
    let rest = drop (i + 1) slots in
    let around : slots ≡ take i slots ++ slot ∷ rest =
    around_element slots i slot lt ∙ ap (λ x. take i slots ++ x ∷ rest) is in
    let parts : times slot slots ≡ times slot (take i slots) + (once slot slot + times slot rest) =
    ap (times slot) around ∙ times-append slot (take i slots) (slot ∷ rest) in
    omega (arith, parts, once_same slot, once_if_distinct slots distinct slot)

module _ {H : Type 0} where
  -- the slots are released, each of them live, and no other record is touched
  pub record AreReleased (old new : Arena H) (slots : List ℕ) : Type 0 where
    pub others : (s : ℕ) → times s slots ≡ 0 → record_at new s ≡ record_at old s
    pub counted : finite.len new.records + length slots ≡ finite.len old.records
    pub spare : (size : ℕ) → spare_of old size ≤ spare_of new size

  -- a live slot is counted
  pub some_record : (m : finite.FinMap nat_cmp (Record H)) (slot : ℕ) → IsSome (finite.get m slot)
      → 1 ≤ finite.len m
  some_record m slot live = by_len (finite.len m) refl
    where
      by_len : (n : ℕ) → finite.len m ≡ n → 1 ≤ finite.len m
      by_len zero none =
          let empty : finite.get m slot ≡ None =
          ap (λ n. finite.get n slot) (finite.empty_of_len m none) ∙ finite.get-empty nat_cmp slot in
          absurd (not_both (finite.get m slot) empty live)
      by_len (suc n) some = omega arith

  -- one record fewer
  len_released : (a b : Arena H) (slot : ℕ) → IsLive a slot → b.records ≡ finite.remove a.records slot
      → finite.len b.records + 1 ≡ finite.len a.records
  len_released a b slot live released =
      let count : finite.len b.records ≡ finite.len a.records - 1 =
      ap finite.len released ∙ finite.len-remove nat_cmp_total a.records slot
      ∙ ap (λ t. cond t (finite.len a.records - 1) (finite.len a.records)) live in
      let some : 1 ≤ finite.len a.records = some_record a.records slot live in
      omega arith

  -- no size has fewer spare slots then
  pub spare_released : (a b : Arena H) (slot : ℕ) → IsLive a slot
      → IfSome (key_at a slot) (λ key. spare_of b (size_of (length key)) ≡ spare_of a (size_of (length key)) + 1)
      → IfSome (key_at a slot) (λ key. (size : ℕ) → size ≢ size_of (length key) → spare_of b size ≡ spare_of a size)
      → (size : ℕ) → spare_of a size ≤ spare_of b size
  spare_released a b slot live = of_record (record_at a slot) live
    where
      of_record : (r : Option (Record H)) → IsSome r
          → IfSome (option_map (λ x. x.key) r)
          (λ key. spare_of b (size_of (length key)) ≡ spare_of a (size_of (length key)) + 1)
          → IfSome (option_map (λ x. x.key) r)
          (λ key. (size : ℕ) → size ≢ size_of (length key) → spare_of b size ≡ spare_of a size)
          → (size : ℕ) → spare_of a size ≤ spare_of b size
      of_record None s more others size = cc
      of_record (Some r) s more others size = elim (same_or_other size (size_of (length r.key))) [
        | inl same ↦ subst (λ n. spare_of a n ≤ spare_of b n) (sym same) (omega arith)
        | inr other ↦ (let e : spare_of b size ≡ spare_of a size = others size other in omega arith)
      ]

  -- none is released at first
  pub none_released : (a : Arena H) → AreReleased a a []
  none_released a = record { others = λ s none. refl; counted = omega arith; spare = λ size. omega arith }

  module _ (slots : List ℕ) (distinct : IsDistinct nat_eq slots) (i slot : ℕ) (lt : i < length slots)
      (is : get_or slots i slot ≡ slot) where
    -- the next is live where all were at first
    pub next_live : (a b : Arena H) → AreReleased a b (take i slots) → IsLive a slot → IsLive b slot
    next_live a b h live = ap is_some (h.others slot (not_before slots distinct i slot lt is)) ∙ live

    -- the next is released
    pub next_released : (a b c : Arena H) → AreReleased a b (take i slots) → IsLive b slot
        → c.records ≡ finite.remove b.records slot
        → ((s : ℕ) → s ≢ slot → record_at c s ≡ record_at b s)
        → ((size : ℕ) → spare_of b size ≤ spare_of c size)
        → AreReleased a c (take (i + 1) slots)
    next_released a b c h live released others spare =
        let more : take (i + 1) slots ≡ take i slots ++ slot ∷ [] = take_more slots i slot lt
        ∙ ap (λ x. take i slots ++ x ∷ []) is in
        record {
          others = λ s none.
              let parts : times s (take (i + 1) slots) ≡ times s (take i slots) + (once s slot + 0) =
              ap (times s) more ∙ times-append s (take i slots) (slot ∷ []) in
              let apart : s ≢ slot = λ same.
              let e : once s slot ≡ 1 = ap (once s) (sym same) ∙ once_same s in absurd (omega arith) in
              others s apart ∙ h.others s (omega arith);
          counted =
              omega (
                arith,
                len_released b c slot live released,
                h.counted,
                length-take-le i slots (omega arith),
                length-take-le (i + 1) slots (omega arith),
              );
          spare = λ size. omega (arith, h.spare size, spare size);
        }
