-- The records of an arena, as its slots show them.
use Rattle.std.proofs.Common.{
  ◌≡◌,
  ◌≢◌,
  ◌⊎◌,
  inl,
  inr,
  ℕ,
  zero,
  suc,
  ◌+◌,
  ◌-◌,
  ◌*◌,
  ◌/◌,
  ◌%◌,
  ◌<◌,
  ◌≤◌,
  true,
  false,
  cond,
  List,
  ◌++◌,
  length,
  slice_get,
  Option,
  Some,
  None,
  is_some,
  IsSome,
  refl,
  sym,
  ap,
  ◌∙◌,
  arith,
}
use Rattle.std.proofs.lemmas.Option.{slice_get_past}
use Rattle.std.proofs.lemmas.Bool.Decides.{nat_tests}
use Rattle.std.specs.Option.{option_and_then}
use Rattle.std.specs.Ordering.{nat_cmp, eq_by_cmp}
use Rattle.std.specs.Cmp.{nat_cmp_total, eq_by_cmp_equiv}
use Rattle.std.specs.FinMap as map
use Rattle.arena.specs.Arena.{Record, Records}
use Rattle.arena.specs.Entry.{Free, Live, held}
use Rattle.arena.specs.Chunk.{Chunk}
use Rattle.arena.specs.Kept.{cell_at, record_in, entry_of, live_below, records_of}
use Rattle.arena.proofs.Slots.{same_or_other, Writes}

same_number : (a b : ℕ) → a ≡ b → eq_by_cmp nat_cmp a b ≡ true
same_number a b e = ap (eq_by_cmp nat_cmp a) (sym e) ∙ (eq_by_cmp_equiv nat_cmp_total).refl a

other_number : (a b : ℕ) → a ≢ b → eq_by_cmp nat_cmp a b ≡ false
other_number a b other = grind (arith, nat_tests)

module _ {H : Type 0} where
  abbrev found : ℕ → List (ℕ × Record H) → Option (Record H)
  found q es = map.find nat_cmp q es

  found_first : (q slot : ℕ) (o : Option (Record H)) (es : List (ℕ × Record H)) → q ≡ slot
      → (o ≡ None → found q es ≡ None) → found q (entry_of slot o ++ es) ≡ o
  found_first q slot None es same later = later refl
  found_first q slot (Some r) es same later = ap (λ b. cond b (Some r) (found q es)) (same_number q slot same)

  found_later : (q slot : ℕ) (o : Option (Record H)) (es : List (ℕ × Record H)) → q ≢ slot
      → found q (entry_of slot o ++ es) ≡ found q es
  found_later q slot None es other = refl
  found_later q slot (Some r) es other = ap (λ b. cond b (Some r) (found q es)) (other_number q slot other)

  none_from : (chunks : List (Chunk H)) (n q : ℕ) → n ≤ q → found q (live_below chunks n) ≡ None
  none_from chunks zero q from = refl
  none_from chunks (suc n) q from =
      found_later q n (record_in chunks n) (live_below chunks n) (λ e. omega arith)
      ∙ none_from chunks n q (omega arith)

  found_below : (chunks : List (Chunk H)) (n q : ℕ) → q < n
      → found q (live_below chunks n) ≡ record_in chunks q
  found_below chunks zero q below = absurd (omega arith)
  found_below chunks (suc n) q below = by_case (same_or_other q n) (λ before. found_below chunks n q before)
    where
      by_case : (q ≡ n) ⊎ (q ≢ n) → (q < n → found q (live_below chunks n) ≡ record_in chunks q)
          → found q (live_below chunks (suc n)) ≡ record_in chunks q
      by_case (inl same) earlier =
          found_first q n (record_in chunks n) (live_below chunks n) same
          (λ _. none_from chunks n q (omega arith)) ∙ ap (record_in chunks) (sym same)
      by_case (inr other) earlier = found_later q n (record_in chunks n) (live_below chunks n) other
          ∙ earlier (omega arith)

  -- no record lies past the chunks
  pub record_in-past : (chunks : List (Chunk H)) (q : ℕ) → 512 * length chunks ≤ q → record_in chunks q ≡ None
  record_in-past chunks q past =
      ap (λ o. option_and_then held (option_and_then (λ c. slice_get c.cells (q % 512)) o))
      (slice_get_past chunks (q / 512) (omega arith))

  -- what the map has at a slot is what the slot holds
  pub get-records_of : (chunks : List (Chunk H)) (q : ℕ) → map.get (records_of chunks) q ≡ record_in chunks q
  get-records_of chunks q = map.get-from_entries nat_cmp_total (live_below chunks (512 * length chunks)) q
      ∙ by_case (below_or_past q (512 * length chunks))
    where
      below_or_past : (a b : ℕ) → (a < b) ⊎ (b ≤ a)
      below_or_past a b = grind arith

      by_case : (q < 512 * length chunks) ⊎ (512 * length chunks ≤ q)
          → found q (live_below chunks (512 * length chunks)) ≡ record_in chunks q
      by_case (inl below) = found_below chunks (512 * length chunks) q below
      by_case (inr past) = none_from chunks (512 * length chunks) q past ∙ sym (record_in-past chunks q past)

  pub same_records : (old new : List (Chunk H)) → ((q : ℕ) → record_in new q ≡ record_in old q)
      → records_of new ≡ records_of old
  same_records old new same =
      map.same_map nat_cmp_total map.nat_cmp-IsAntisymmetric _ _ (λ q. get-records_of new q ∙ same q
      ∙ sym (get-records_of old q))

  -- a record that is written into a slot is put into the map
  pub records_of-put : (old new : List (Chunk H)) (slot : ℕ) (r : Record H) → Writes old new slot (Live r)
      → records_of new ≡ map.insert (records_of old) slot r
  records_of-put old new slot r writes =
      map.same_map nat_cmp_total map.nat_cmp-IsAntisymmetric _ _
      (λ q. get-records_of new q ∙ at q (same_or_other q slot)
      ∙ sym (map.get-insert nat_cmp_total (records_of old) slot r q))
    where
      at : (q : ℕ) → (q ≡ slot) ⊎ (q ≢ slot)
          → record_in new q ≡ cond (eq_by_cmp nat_cmp q slot) (Some r) (map.get (records_of old) q)
      at q (inl same) =
          ap (λ s. option_and_then held (cell_at new s)) same ∙ ap (option_and_then held) writes.here
          ∙ sym (ap (λ b. cond b (Some r) (map.get (records_of old) q)) (same_number q slot same))
      at q (inr other) =
          ap (option_and_then held) (writes.others q other) ∙ sym (get-records_of old q)
          ∙ sym (ap (λ b. cond b (Some r) (map.get (records_of old) q)) (other_number q slot other))

  -- a slot that is freed leaves the map
  pub records_of-freed : (old new : List (Chunk H)) (slot : ℕ)
      → Writes old new slot Free → records_of new ≡ map.remove (records_of old) slot
  records_of-freed old new slot writes =
      map.same_map nat_cmp_total map.nat_cmp-IsAntisymmetric _ _
      (λ q. get-records_of new q ∙ at q (same_or_other q slot)
      ∙ sym (map.get-remove nat_cmp_total (records_of old) slot q))
    where
      at : (q : ℕ) → (q ≡ slot) ⊎ (q ≢ slot)
          → record_in new q ≡ cond (eq_by_cmp nat_cmp q slot) None (map.get (records_of old) q)
      at q (inl same) =
          ap (λ s. option_and_then held (cell_at new s)) same ∙ ap (option_and_then held) writes.here
          ∙ sym (ap (λ b. cond b None (map.get (records_of old) q)) (same_number q slot same))
      at q (inr other) =
          ap (option_and_then held) (writes.others q other) ∙ sym (get-records_of old q)
          ∙ sym (ap (λ b. cond b None (map.get (records_of old) q)) (other_number q slot other))

  -- how many records there are then
  pub len-put_new : (m : Records H) (slot : ℕ) (r : Record H) → map.get m slot ≡ None
      → map.len (map.insert m slot r) ≡ map.len m + 1
  len-put_new m slot r free = map.len-insert nat_cmp_total m slot r
      ∙ ap (λ o. cond (is_some o) (map.len m) (map.len m + 1)) free

  pub len-put_again : (m : Records H) (slot : ℕ) (r : Record H) → IsSome (map.get m slot)
      → map.len (map.insert m slot r) ≡ map.len m
  len-put_again m slot r live = map.len-insert nat_cmp_total m slot r
      ∙ ap (λ b. cond b (map.len m) (map.len m + 1)) live

  pub len-freed : (m : Records H) (slot : ℕ) → IsSome (map.get m slot)
      → map.len (map.remove m slot) ≡ map.len m - 1
  len-freed m slot live = map.len-remove nat_cmp_total m slot
      ∙ ap (λ b. cond b (map.len m - 1) (map.len m)) live

  pub some_record : (m : Records H) (slot : ℕ) → IsSome (map.get m slot) → 0 < map.len m
  some_record m slot live = by_len (map.len m) refl
    where
      by_len : (n : ℕ) → map.len m ≡ n → 0 < map.len m
      by_len zero none =
          let empty : map.get m slot ≡ None =
          ap (λ n. map.get n slot) (map.empty_of_len m none) ∙ map.get-empty nat_cmp slot in
          cc
      by_len (suc n) some = omega arith

  -- what the other slots have then
  pub get-put_same : (m : Records H) (slot : ℕ) (r : Record H) → map.get (map.insert m slot r) slot ≡ Some r
  get-put_same m slot r = map.get-insert nat_cmp_total m slot r slot
      ∙ ap (λ b. cond b (Some r) (map.get m slot)) (same_number slot slot refl)

  pub get-put_other : (m : Records H) (slot : ℕ) (r : Record H) (q : ℕ) → q ≢ slot
      → map.get (map.insert m slot r) q ≡ map.get m q
  get-put_other m slot r q other = map.get-insert nat_cmp_total m slot r q
      ∙ ap (λ b. cond b (Some r) (map.get m q)) (other_number q slot other)

  pub get-freed_other : (m : Records H) (slot q : ℕ) → q ≢ slot → map.get (map.remove m slot) q ≡ map.get m q
  get-freed_other m slot q other = map.get-remove nat_cmp_total m slot q
      ∙ ap (λ b. cond b None (map.get m q)) (other_number q slot other)

module _ {H : Type 0} where
  -- a slot of a chunk that there isn't has no record
  pub none_past : (chunks : List (Chunk H)) (slot : ℕ) → length chunks ≤ slot / 512
      → is_some (map.get (records_of chunks) slot) ≡ false
  none_past chunks slot past =
      ap is_some (get-records_of chunks slot
      ∙ ap (λ o. option_and_then held (option_and_then (λ (c : Chunk H). slice_get c.cells (slot % 512)) o))
      (slice_get_past chunks (slot / 512) past))
