-- What an arena keeps stays true as slots are written.
use Rattle.std.proofs.Common.{◌≡◌, ◌≢◌, ◌⊎◌, inl, inr, ℕ, suc, ◌+◌, ◌-◌, ◌<◌, true, nat_eq, List, [], ◌∷◌, ◌++◌, length, replicate, set, sum, slice_index, Some, IsSome, refl, sym, ap, subst, ◌∙◌, arith, length-append, length-set}
use Rattle.std.proofs.lemmas.List.{get_or-replicate}
use Rattle.std.proofs.lemmas.List.Sums.{sum_by-set}
use Rattle.std.specs.Option.{option_and_then}
use Rattle.std.specs.FinMap as map
use Rattle.std.specs.List.{IsDistinct}
use Rattle.std.specs.Set.{is_member}
use Rattle.arena.specs.Arena.{Record, size_of}
use Rattle.arena.specs.Entry.{Entry, Free, Live, held}
use Rattle.arena.specs.Chunk.{Chunk}
use Rattle.arena.specs.Spares.{Spare, none, spare_at, counts_of, with_slot}
use Rattle.arena.specs.Kept.{cell_at, size_at, record_in, records_of, IsOfSize, IsSpare, IsKept}
use Rattle.arena.proofs.Slots.{same_or_other, Writes}
use Rattle.arena.proofs.Lists.{
  pushed,
  pushed_old,
  pushed_new,
  push_distinct,
  popped_distinct,
  no_longer,
  spare_at-set_same,
  spare_at-set_other,
  count_of,
  counts_of-set,
}
use Rattle.arena.proofs.Records.{
  get-records_of,
  records_of-put,
  records_of-freed,
  len-put_new,
  len-put_again,
  len-freed,
  some_record,
}

pub sum-set : (xs : List ℕ) (i x : ℕ) → i < length xs → sum (set xs i x) + slice_index xs i ≡ sum xs + x
sum-set xs i x within = sum_by-set (λ n. n) xs i x 0 within

length-counts_of : (spares : List Spare) → length (counts_of spares) ≡ length spares
length-counts_of [] = refl
length-counts_of (s ∷ ss) = ap suc (length-counts_of ss)

-- the counts with one size's changed
pub sum_counts : (spares : List Spare) (size : ℕ) (s : Spare) → size < length spares
    → sum (counts_of (set spares size s)) + length (spare_at spares size).slots
    ≡ sum (counts_of spares) + length s.slots
sum_counts spares size s within =
    rw (counts_of-set spares size s, ← count_of spares size)
    (sum-set (counts_of spares) size (length s.slots) (omega (arith, length-counts_of spares)))

module _ {H : Type 0} where
  -- of a size that no chunk has
  IsSpare-none : (size : ℕ) (s : Spare) → s ≡ none → IsSpare {H = H} [] size s
  unfolding IsDistinct
  IsSpare-none size s is = rw is (record {
    distinct = tt;
    free = λ slot at. cc;
    all = [];
    counted = omega arith;
    covers = λ slot of. let its = of.0 in cc;
    bounded = omega arith;
  })

  pub IsKept-new : IsKept {H = H} [] (replicate 10 none) 0
  IsKept-new =
      record {
        few = omega arith;
        ten = refl;
        lists = λ size below. IsSpare-none size _ (get_or-replicate 10 size none none below);
        sized = λ slot r is. cc;
        counted = sym (map.len-empty _ _);
        bounded = omega arith;
      }

  -- a slot that is of a size after a write was so before
  of_size_before : (old new : List (Chunk H)) (slot : ℕ) (cell : Entry (Record H)) → Writes old new slot cell
      → IsSome (cell_at old slot) → (size q : ℕ) → IsOfSize new size q → IsOfSize old size q
  of_size_before old new slot cell writes was size q of =
      (sym (writes.sizes q) ∙ of.0, by_case (same_or_other q slot))
    where
      by_case : (q ≡ slot) ⊎ (q ≢ slot) → IsSome (cell_at old q)
      by_case (inl same) = rw same was
      by_case (inr other) = rw (← writes.others q other) of.1

  -- a list stays where the slot that is written isn't on it
  pub IsSpare-write : (old new : List (Chunk H)) (slot : ℕ) (cell : Entry (Record H)) → Writes old new slot cell
      → IsSome (cell_at old slot) → (size : ℕ) (s : Spare) → (is_member nat_eq s.slots slot ≡ true → ⊥)
      → IsSpare old size s → IsSpare new size s
  IsSpare-write old new slot cell writes was size s off kept =
      record {
        distinct = kept.distinct;
        free = λ q at.
            let apart : q ≢ slot = λ e. off (subst (λ q. is_member nat_eq s.slots q ≡ true) e at) in
            let free = kept.free q at in
            (writes.sizes q ∙ free.0, writes.others q apart ∙ free.1);
        all = kept.all;
        counted = kept.counted;
        covers = λ q of. kept.covers q (of_size_before old new slot cell writes was size q of);
        bounded = rw writes.count kept.bounded;
      }

  -- a live slot is on no list
  pub off_live : (chunks : List (Chunk H)) (slot : ℕ) (r : Record H) → cell_at chunks slot ≡ Some (Live r)
      → (size : ℕ) (s : Spare) → IsSpare chunks size s → is_member nat_eq s.slots slot ≡ true → ⊥
  off_live chunks slot r live size s kept at = let free = (kept.free slot at).1 in cc

  -- nor is one of another size
  off_size : (chunks : List (Chunk H)) (slot own : ℕ) → size_at chunks slot ≡ Some own → (size : ℕ) (s : Spare)
      → size ≢ own → IsSpare chunks size s → is_member nat_eq s.slots slot ≡ true → ⊥
  off_size chunks slot own is size s other kept at = let its = (kept.free slot at).0 in other cc

  -- the slot that is given is free
  pub given_free : (chunks : List (Chunk H)) (size slot : ℕ) (s : Spare)
      → IsSpare chunks size (with_slot s slot)
      → (size_at chunks slot ≡ Some size) × (cell_at chunks slot ≡ Some Free)
  given_free chunks size slot s kept = kept.free slot (pushed_new s.slots slot)

  IsSpare-taken : (old new : List (Chunk H)) (slot : ℕ) (cell : Entry (Record H)) → Writes old new slot cell
      → (size : ℕ) (s : Spare) → IsSpare old size (with_slot s slot) → IsSpare new size s
  IsSpare-taken old new slot cell writes size s kept =
      let apart = popped_distinct s.slots slot kept.distinct in
      let free = given_free old size slot s kept in
      let was : IsSome (cell_at old slot) = rw free.1 refl in
      IsSpare-write old new slot cell writes was size s apart.1
      (record {
        distinct = apart.0;
        free = λ q at. kept.free q (pushed_old s.slots slot q at);
        all = kept.all;
        counted = kept.counted;
        covers = kept.covers;
        bounded = kept.bounded;
      })

  IsSpare-put : (old new : List (Chunk H)) (slot : ℕ) (r : Record H) → Writes old new slot Free
      → cell_at old slot ≡ Some (Live r) → (size : ℕ) → size_at old slot ≡ Some size
      → (s : Spare) → IsSpare old size s → IsSpare new size (with_slot s slot)
  IsSpare-put old new slot r writes live size its s kept =
      let off = off_live old slot r live size s kept in
      let was : IsSome (cell_at old slot) = rw live refl in
      let stays = IsSpare-write old new slot Free writes was size s off kept in
      record {
        distinct = push_distinct s.slots slot kept.distinct off;
        free = λ q at. by_case q (pushed s.slots slot q at) (stays.free q);
        all = stays.all;
        counted = stays.counted;
        covers = stays.covers;
        bounded = stays.bounded;
      }
    where
      by_case : (q : ℕ) → (is_member nat_eq s.slots q ≡ true) ⊎ (q ≡ slot)
          → (is_member nat_eq s.slots q ≡ true → (size_at new q ≡ Some size) × (cell_at new q ≡ Some Free))
          → (size_at new q ≡ Some size) × (cell_at new q ≡ Some Free)
      by_case q (inl old) earlier = earlier old
      by_case q (inr same) earlier = rw same (writes.sizes slot ∙ its, writes.here)

  -- there is room for a slot of the size that isn't spare
  pub room_for : (chunks : List (Chunk H)) (slot : ℕ) (r : Record H) → cell_at chunks slot ≡ Some (Live r)
      → (size : ℕ) → size_at chunks slot ≡ Some size → (s : Spare) → IsSpare chunks size s
      → length s.slots < s.total
  room_for chunks slot r live size its s kept =
      let off = off_live chunks slot r live size s kept in
      let longer = no_longer (s.slots ++ slot ∷ []) kept.all (push_distinct s.slots slot kept.distinct off)
      (λ q at. by_case q (pushed s.slots slot q at)) in
      omega (arith, longer, kept.counted, length-append s.slots (slot ∷ []))
    where
      by_case : (q : ℕ) → (is_member nat_eq s.slots q ≡ true) ⊎ (q ≡ slot)
          → is_member nat_eq kept.all q ≡ true
      by_case q (inl old) = let free = kept.free q old in kept.covers q (free.0, rw free.1 refl)
      by_case q (inr same) = kept.covers q (rw same (its, rw live refl))

  pub IsKept-taken : (old new : List (Chunk H)) (before after : List Spare) (live size slot : ℕ) (r : Record H)
      → IsKept old before live → size < 10 → length after ≡ length before
      → before ≡ set after size (with_slot (spare_at after size) slot)
      → Writes old new slot (Live r) → size_of (length r.key) ≡ size
      → IsKept new after (live + 1)
  IsKept-taken old new before after live size slot r kept below ten is writes fits =
      record {
        few = rw writes.count kept.few;
        ten = ten ∙ kept.ten;
        lists = λ s s_below. by_size s s_below (same_or_other s size);
        sized = λ q x found. by_slot q x found (same_or_other q slot);
        counted = ap (λ n. n + 1) kept.counted
            ∙ sym (len-put_new (records_of old) slot r (get-records_of old slot
            ∙ ap (option_and_then held) free.1)) ∙ ap map.len (sym (records_of-put old new slot r writes));
        bounded =
            let sums = sum_counts after size (with_slot (spare_at after size) slot) within in
            omega (
              arith,
              rw is at kept.bounded,
              writes.count,
              sums,
              length-append (spare_at after size).slots (slot ∷ []),
            );
      }
    where
      within : size < length after
      within = omega (arith, kept.ten)

      own : IsSpare old size (with_slot (spare_at after size) slot)
      own = rw (← spare_at-set_same after size (with_slot (spare_at after size) slot) within, ← is)
          (kept.lists size below)

      free : (size_at old slot ≡ Some size) × (cell_at old slot ≡ Some Free)
      free = given_free old size slot (spare_at after size) own

      by_size : (s : ℕ) → s < 10 → (s ≡ size) ⊎ (s ≢ size) → IsSpare new s (spare_at after s)
      by_size s s_below (inl same) =
          rw same (IsSpare-taken old new slot (Live r) writes size (spare_at after size) own)
      by_size s s_below (inr other) =
          let its : IsSpare old s (spare_at after s) =
          rw (← spare_at-set_other after size s (with_slot (spare_at after size) slot) other, ← is)
          (kept.lists s s_below) in
          IsSpare-write old new slot (Live r) writes (rw free.1 refl) s (spare_at after s)
          (off_size old slot size free.0 s (spare_at after s) other its) its

      by_slot : (q : ℕ) (x : Record H) → record_in new q ≡ Some x → (q ≡ slot) ⊎ (q ≢ slot)
          → size_at new q ≡ Some (size_of (length x.key))
      by_slot q x found (inl same) =
          let here = ap (option_and_then held) (ap (cell_at new) same ∙ writes.here) in
          let its : r ≡ x = cc in
          writes.sizes q ∙ ap (size_at old) same ∙ free.0 ∙ ap Some (sym fits)
          ∙ ap (λ y. Some (size_of (length y.key))) its
      by_slot q x found (inr other) =
          writes.sizes q ∙ kept.sized q x (sym (ap (option_and_then held) (writes.others q other)) ∙ found)

  pub IsKept-freed : (old new : List (Chunk H)) (spares : List Spare) (live size slot : ℕ) (r : Record H)
      → IsKept old spares live → size < 10 → cell_at old slot ≡ Some (Live r) → size_at old slot ≡ Some size
      → Writes old new slot Free
      → IsKept new (set spares size (with_slot (spare_at spares size) slot)) (live - 1)
  IsKept-freed old new spares live size slot r kept below is its writes =
      record {
        few = rw writes.count kept.few;
        ten = length-set spares size _ ∙ kept.ten;
        lists = λ s s_below. by_size s s_below (same_or_other s size);
        sized = λ q x found. by_slot q x found (same_or_other q slot);
        counted = ap (λ n. n - 1) kept.counted ∙ sym (len-freed (records_of old) slot present)
            ∙ ap map.len (sym (records_of-freed old new slot writes));
        bounded =
            omega (
              arith,
              kept.bounded,
              kept.counted,
              writes.count,
              some_record (records_of old) slot present,
              sum_counts spares size (with_slot (spare_at spares size) slot) within,
              length-append (spare_at spares size).slots (slot ∷ []),
            );
      }
    where
      within : size < length spares
      within = omega (arith, kept.ten)

      present : IsSome (map.get (records_of old) slot)
      present = rw (get-records_of old slot, is)

      by_size : (s : ℕ) → s < 10 → (s ≡ size) ⊎ (s ≢ size)
          → IsSpare new s (spare_at (set spares size (with_slot (spare_at spares size) slot)) s)
      by_size s s_below (inl same) =
          rw (same, spare_at-set_same spares size (with_slot (spare_at spares size) slot) within)
          (IsSpare-put old new slot r writes is size its (spare_at spares size) (kept.lists size below))
      by_size s s_below (inr other) =
          rw (spare_at-set_other spares size s (with_slot (spare_at spares size) slot) other)
          (IsSpare-write old new slot Free writes (rw is refl) s (spare_at spares s)
          (off_live old slot r is s (spare_at spares s) (kept.lists s s_below)) (kept.lists s s_below))

      by_slot : (q : ℕ) (x : Record H) → record_in new q ≡ Some x → (q ≡ slot) ⊎ (q ≢ slot)
          → size_at new q ≡ Some (size_of (length x.key))
      by_slot q x found (inl same) = let here =
          ap (option_and_then held) (ap (cell_at new) same ∙ writes.here) in cc
      by_slot q x found (inr other) =
          writes.sizes q ∙ kept.sized q x (sym (ap (option_and_then held) (writes.others q other)) ∙ found)

  -- a live slot gets another header
  pub IsKept-lent : (old new : List (Chunk H)) (spares : List Spare) (live slot : ℕ) (r s : Record H)
      → IsKept old spares live → cell_at old slot ≡ Some (Live r) → length s.key ≡ length r.key
      → Writes old new slot (Live s)
      → IsKept new spares live
  IsKept-lent old new spares live slot r s kept is key writes =
      record {
        few = rw writes.count kept.few;
        ten = kept.ten;
        lists = λ size below. IsSpare-write old new slot (Live s) writes (rw is refl) size (spare_at spares size)
            (off_live old slot r is size (spare_at spares size) (kept.lists size below)) (kept.lists size below);
        sized = λ q x found. by_slot q x found (same_or_other q slot);
        counted = kept.counted ∙ sym (len-put_again (records_of old) slot s present)
            ∙ ap map.len (sym (records_of-put old new slot s writes));
        bounded = rw writes.count kept.bounded;
      }
    where
      present : IsSome (map.get (records_of old) slot)
      present = rw (get-records_of old slot, is)

      by_slot : (q : ℕ) (x : Record H) → record_in new q ≡ Some x → (q ≡ slot) ⊎ (q ≢ slot)
          → size_at new q ≡ Some (size_of (length x.key))
      by_slot q x found (inl same) =
          let here = ap (option_and_then held) (ap (cell_at new) same ∙ writes.here) in
          let its : s ≡ x = cc in
          let was = kept.sized slot r (ap (option_and_then held) is) in
          writes.sizes q ∙ ap (size_at old) same ∙ was ∙ ap (λ n. Some (size_of n)) (sym key)
          ∙ ap (λ y. Some (size_of (length y.key))) its
      by_slot q x found (inr other) =
          writes.sizes q ∙ kept.sized q x (sym (ap (option_and_then held) (writes.others q other)) ∙ found)
