-- Changes of the slots that are used, by how often each stands in the lists.
use Rattle.std.proofs.Common.{◌≡◌, ◌≢◌, ◌⊎◌, inl, inr, ℕ, ◌+◌, ◌-◌, ◌≤◌, true, false, List, [], ◌∷◌, length, Option, Some, None, IsSome, is_some, unwrap_or, refl, sym, ap, ◌∙◌, arith, IfSome, rules, Contains}
use Rattle.std.specs.FinMap as map
use Rattle.std.specs.Ordering.{nat_cmp, eq_by_cmp}
use Rattle.std.specs.Cmp.{nat_cmp_total, eq_by_cmp_equiv}
use Rattle.std.proofs.lemmas.Bool.Decides.{nat_tests, eqb_tells}
use Rattle.boundaries.proofs.Words.{Arena, Record, IsLive, record_at, key_at, spare_of, with_header, Node, Changes, IsKeyless}
use Rattle.boundaries.proofs.callers.Times.{times, once, once_same, once_cases, none_or_some, times_if_contains, contains_if_times, times_unless_contains, once_if_distinct, distinct_if_once}
use Rattle.boundaries.proofs.Frames.{Agree}

pub same_number : (a b : ℕ) → a ≡ b → eq_by_cmp nat_cmp a b ≡ true
same_number a b e = ap (eq_by_cmp nat_cmp a) (sym e) ∙ (eq_by_cmp_equiv nat_cmp_total).refl a

pub other_number : (a b : ℕ) → a ≢ b → eq_by_cmp nat_cmp a b ≡ false
other_number a b other = grind (arith, nat_tests)

none_or_live : {X : Type 0} (o : Option X) → (o ≡ None) ⊎ IsSome o
none_or_live None = inl refl
none_or_live (Some x) = inr refl

not_both : {X : Type 0} (o : Option X) → o ≡ None → IsSome o → ⊥
not_both o none live = let e : is_some o ≡ false = ap is_some none in cc

once_few : (s x : ℕ) → once s x ≤ 1
once_few s x = elim (once_cases s x) [ inl same ↦ omega (arith, same.1) | inr other ↦ omega (arith, other.1) ]

apart : (s x : ℕ) → times s (x ∷ []) ≡ 0 → s ≢ x
apart s x none same = let e : once s x ≡ 1 = rw (← same) (once_same s) in omega arith

no_key : (o : Option (List ℕ)) → IfSome o (λ key. key ≡ []) → unwrap_or o [] ≡ []
no_key None h = refl
no_key (Some key) h = h

pub record Moves (old new : Arena Node) (was now : List ℕ) : Type 0 where
  pub few : (s : ℕ) → times s now ≤ 1
  pub from : (s : ℕ) → 1 ≤ times s now → times s was ≡ 0 → record_at old s ≡ None
  pub others : (s : ℕ) → times s was ≡ 0 → IsLive old s → record_at new s ≡ record_at old s
  pub live : map.len new.records + length was ≡ map.len old.records + length now
  pub spare : spare_of new 0 + map.len new.records ≡ spare_of old 0 + map.len old.records
  pub keyless : IsKeyless new

pub moves_if_changes : (a b : Arena Node) (was now : List ℕ) → Changes a b was now → Moves a b was now
moves_if_changes a b was now h =
    let from : (s : ℕ) → 1 ≤ times s now → times s was ≡ 0 → record_at a s ≡ None =
    λ s some none. grind (arith, h.slots s (contains_if_times s now some), times_if_contains s was) in
    let others = λ (s : ℕ) (none : times s was ≡ 0). h.others s (λ has. absurd (omega (arith, times_if_contains s was has))) in
    search (rules, once_if_distinct now h.distinct, from, others)

pub changes_if_moves : (a b : Arena Node) (was now : List ℕ) → Moves a b was now → Changes a b was now
changes_if_moves a b was now h =
    let slots : (s : ℕ) → Contains now s → Contains was s ⊎ (record_at a s ≡ None) =
    λ s has. grind (arith, none_or_some (times s was), h.from s (times_if_contains s now has), contains_if_times s was) in
    let others = λ (s : ℕ) (without : ¬ Contains was s). h.others s (times_unless_contains s was without) in
    search (rules, distinct_if_once now h.few, slots, others)

pub moves_trans : (a b c : Arena Node) (xs ys zs : List ℕ) → Moves a b xs ys → Moves b c ys zs
    → Moves a c xs zs
moves_trans a b c xs ys zs h k = record {
  few = k.few;
  from = λ s some none.
      grind (arith, none_or_some (times s ys), none_or_live (record_at a s), h.others s none, k.from s some, h.from s);
  others = λ s none live. grind (arith, none_or_some (times s ys), h.others s none live, k.others s, h.from s);
  live = omega (arith, h.live, k.live);
  spare = omega (arith, h.spare, k.spare);
  keyless = k.keyless;
}

pub moves_same : (a : Arena Node) (xs ys : List ℕ) → IsKeyless a → ((s : ℕ) → times s xs ≤ 1)
    → ((s : ℕ) → times s ys ≡ times s xs) → length ys ≡ length xs → Moves a a xs ys
moves_same a xs ys keyless few same len = record {
  few = λ s. omega (arith, few s, same s);
  from = λ s some none. absurd (omega (arith, same s));
  others = λ s none live. refl;
  live = omega arith;
  spare = refl;
  keyless = keyless;
}

-- slots of others stay
pub moves_beside : (a b : Arena Node) (xs ys zs was now : List ℕ) → Moves a b xs ys
    → ((s : ℕ) → times s was ≡ times s xs + times s zs) → ((s : ℕ) → times s now ≡ times s ys + times s zs)
    → length was ≡ length xs + length zs → length now ≡ length ys + length zs
    → ((s : ℕ) → times s was ≤ 1) → ((s : ℕ) → 1 ≤ times s zs → IsLive a s) → Moves a b was now
moves_beside a b xs ys zs was now h before after len_was len_now few live = record {
  few = λ s.
      grind (arith, none_or_some (times s zs), none_or_some (times s ys), h.few s, few s, before s, after s, h.from s, live s);
  from = λ s some none. h.from s (omega (arith, before s, after s)) (omega (arith, before s));
  others = λ s none. h.others s (omega (arith, before s));
  live = omega (arith, h.live);
  spare = h.spare;
  keyless = h.keyless;
}

pub moves_agree : (a b : Arena Node) (xs ys zs : List ℕ) → Moves a b xs ys
    → ((s : ℕ) → 1 ≤ times s zs → IsLive a s) → ((s : ℕ) → times s xs + times s zs ≤ 1) → Agree a b zs
moves_agree a b xs ys zs h live few s some = h.others s (omega (arith, few s)) (live s some)

-- Where only this slot is touched, no other gets key bytes.
keyless_except : (a b : Arena Node) (slot : ℕ) → IsKeyless a → ((s : ℕ) → s ≢ slot → record_at b s ≡ record_at a s)
    → IfSome (key_at b slot) (λ key. key ≡ []) → IsKeyless b
keyless_except a b slot keyless others here s = elim (eqb_tells s slot) [
  | inl same ↦ rw same.1 here
  | inr other ↦ rw (others s other.1) (keyless s)
]

module _ (a : Arena Node) (slot : ℕ) (node : Node) where
  abbrev put_record : Record Node
  put_record = record { header = node; key = unwrap_or (key_at a slot) [] }

  pub record_put : record_at (with_header a slot node) slot ≡ Some put_record
  record_put = rw (map.get-insert nat_cmp_total a.records slot put_record slot, same_number slot slot refl) refl

  pub record_kept : (s : ℕ) → s ≢ slot → record_at (with_header a slot node) s ≡ record_at a s
  record_kept s other = rw (map.get-insert nat_cmp_total a.records slot put_record s, other_number s slot other) refl

  pub moves_header : IsLive a slot → IsKeyless a → Moves a (with_header a slot node) (slot ∷ []) (slot ∷ [])
  moves_header live keyless =
      let count : map.len (with_header a slot node).records ≡ map.len a.records =
      rw (map.len-insert nat_cmp_total a.records slot put_record, live) refl in
      record {
        few = λ s. omega (arith, once_few s slot);
        from = λ s some none. absurd (omega arith);
        others = λ s none alive. record_kept s (apart s slot none);
        live = omega arith;
        spare = omega arith;
        keyless = keyless_except a (with_header a slot node) slot keyless record_kept
            (rw record_put (no_key (key_at a slot) (keyless slot)));
      }

-- a record is placed
pub moves_placed : (a b : Arena Node) (slot : ℕ) (node : Node) → IsKeyless a → record_at a slot ≡ None
    → b.records ≡ map.insert a.records slot (record { header = node; key = [] })
    → record_at b slot ≡ Some (record { header = node; key = [] })
    → ((s : ℕ) → s ≢ slot → record_at b s ≡ record_at a s)
    → spare_of b 0 + 1 ≡ spare_of a 0 → Moves a b [] (slot ∷ [])
moves_placed a b slot node keyless free placed here others spare =
    let r : Record Node = record { header = node; key = [] } in
    let count : map.len b.records ≡ map.len a.records + 1 =
    rw (placed, map.len-insert nat_cmp_total a.records slot r, free) refl in
    record {
      few = λ s. omega (arith, once_few s slot);
      from = λ s some none. grind (arith, once_cases s slot);
      others = λ s none alive. others s (λ same. absurd (cc (ap is_some free)));
      live = omega arith;
      spare = omega arith;
      keyless = keyless_except a b slot keyless others (rw here refl);
    }

-- a record is released
pub moves_released : (a b : Arena Node) (slot : ℕ) → IsKeyless a → IsLive a slot
    → b.records ≡ map.remove a.records slot → ((s : ℕ) → s ≢ slot → record_at b s ≡ record_at a s)
    → spare_of b 0 ≡ spare_of a 0 + 1 → Moves a b (slot ∷ []) []
moves_released a b slot keyless live released others spare =
    let here : record_at b slot ≡ None =
    rw (released, map.get-remove nat_cmp_total a.records slot slot, same_number slot slot refl) refl in
    let count : map.len b.records ≡ map.len a.records - 1 =
    rw (released, map.len-remove nat_cmp_total a.records slot, live) refl in
    let some : 1 ≤ map.len a.records =
    grind (arith, none_or_some (map.len a.records), map.empty_of_len a.records, map.get-empty {X = Record Node} nat_cmp slot) in
    record {
      few = λ s. omega arith;
      from = λ s some none. absurd (omega arith);
      others = λ s none alive. others s (apart s slot none);
      live = omega arith;
      spare = omega arith;
      keyless = keyless_except a b slot keyless others (rw here tt);
    }
