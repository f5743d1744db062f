-- What a new chunk adds.
use Rattle.std.proofs.Common.{
  ◌≡◌,
  ◌≢◌,
  ◌⊎◌,
  inl,
  inr,
  ℕ,
  zero,
  suc,
  ◌+◌,
  ◌*◌,
  ◌/◌,
  ◌%◌,
  ◌<◌,
  ◌≤◌,
  true,
  nat_eq,
  List,
  [],
  ◌∷◌,
  ◌++◌,
  length,
  set,
  slice_get,
  Option,
  Some,
  None,
  IsSome,
  option_map,
  refl,
  sym,
  ap,
  ◌∙◌,
  length-append,
  length-set,
  arith,
}
use Rattle.std.proofs.lemmas.Option.{slice_get_within, slice_get_past}
use Rattle.std.specs.Option.{option_and_then}
use Rattle.std.specs.FinMap as map
use Rattle.std.specs.Set.{is_member}
use Rattle.arena.specs.Arena.{Record}
use Rattle.arena.specs.Entry.{Entry, held}
use Rattle.arena.specs.Chunk.{Chunk, IsFresh}
use Rattle.arena.specs.Spares.{Spare, spare_at, with_row, with_chunk}
use Rattle.arena.specs.Kept.{cell_at, size_at, record_in, records_of, IsFree, IsOfSize, IsSpare, IsKept}
use Rattle.arena.proofs.Slots.{same_or_other}
use Rattle.arena.proofs.Lists.{
  row_distinct,
  row_member,
  row_old,
  row_new,
  length-with_row,
  spare_at-set_same,
  spare_at-set_other,
}
use Rattle.arena.proofs.Records.{same_records}
use Rattle.arena.proofs.Keeping.{sum_counts}

module _ {X : Type 0} where
  slice_get-push : (xs : List X) (x : X) → slice_get (xs ++ x ∷ []) (length xs) ≡ Some x
  slice_get-push [] x = refl
  slice_get-push (y ∷ xs) x = slice_get-push xs x

  slice_get-before : (xs : List X) (x : X) (i : ℕ) → i < length xs
      → slice_get (xs ++ x ∷ []) i ≡ slice_get xs i
  slice_get-before [] x i before = absurd (omega arith)
  slice_get-before (y ∷ xs) x zero before = refl
  slice_get-before (y ∷ xs) x (suc i) before = slice_get-before xs x i (omega arith)

module _ {H : Type 0} where
  before_push : (chunks : List (Chunk H)) (c : Chunk H) (q : ℕ) → q / 512 < length chunks
      → (cell_at (chunks ++ c ∷ []) q ≡ cell_at chunks q) × (size_at (chunks ++ c ∷ []) q ≡ size_at chunks q)
  before_push chunks c q before =
      let same = slice_get-before chunks c (q / 512) before in
      (ap (option_and_then (λ c. slice_get c.cells (q % 512))) same, ap (option_map (λ c. c.size)) same)

  within_some : (cells : List (Entry (Record H))) (i : ℕ) → IsSome (slice_get cells i) → i < length cells
  within_some cells i some = by_get (slice_get cells i) refl
    where
      by_get : (o : Option (Entry (Record H))) → slice_get cells i ≡ o → i < length cells
      by_get None none = cc
      by_get (Some e) found = slice_get_within cells i e found

  -- a slot that some chunk has
  pub in_chunk : (chunks : List (Chunk H)) (q size : ℕ) → size_at chunks q ≡ Some size
      → q / 512 < length chunks
  in_chunk chunks q size is = by_get (slice_get chunks (q / 512)) refl
    where
      by_get : (o : Option (Chunk H)) → slice_get chunks (q / 512) ≡ o → q / 512 < length chunks
      by_get None none = let absent = ap (option_map (λ c. c.size)) none in cc
      by_get (Some c) found = slice_get_within chunks (q / 512) c found

  -- a slot of the new chunk
  in_last : (chunks : List (Chunk H)) (c : Chunk H) (q : ℕ) → q / 512 ≡ length chunks
      → (cell_at (chunks ++ c ∷ []) q ≡ slice_get c.cells (q % 512))
      × (size_at (chunks ++ c ∷ []) q ≡ Some c.size)
  in_last chunks c q last =
      let found = ap (slice_get (chunks ++ c ∷ [])) last ∙ slice_get-push chunks c in
      (ap (option_and_then (λ c. slice_get c.cells (q % 512))) found, ap (option_map (λ c. c.size)) found)

  -- a slot of some size lies in a chunk from before or in the new one
  which_chunk : (chunks : List (Chunk H)) (c : Chunk H) (q size : ℕ)
      → size_at (chunks ++ c ∷ []) q ≡ Some size → (q / 512 < length chunks) ⊎ (q / 512 ≡ length chunks)
  which_chunk chunks c q size is =
      less_or_same (omega (arith, in_chunk (chunks ++ c ∷ []) q size is, length-append chunks (c ∷ [])))
    where
      less_or_same : {a b : ℕ} → a < b + 1 → (a < b) ⊎ (a ≡ b)
      less_or_same below = grind arith

  -- a slot that was free or has a record is of the size that it was before
  of_size_before : (chunks : List (Chunk H)) (c : Chunk H) (size q : ℕ) → q / 512 < length chunks
      → IsOfSize (chunks ++ c ∷ []) size q → IsOfSize chunks size q
  of_size_before chunks c size q before of =
      let same = before_push chunks c q before in
      (sym same.1 ∙ of.0, rw (← same.0) of.1)

  free_still : (chunks : List (Chunk H)) (c : Chunk H) (size q : ℕ) → IsFree chunks size q
      → IsFree (chunks ++ c ∷ []) size q
  free_still chunks c size q free =
      let same = before_push chunks c q (in_chunk chunks q size free.0) in
      (same.1 ∙ free.0, same.0 ∙ free.1)

  -- the lists of the other sizes
  IsSpare-push : (chunks : List (Chunk H)) (c : Chunk H) (size : ℕ) (s : Spare) → size ≢ c.size
      → IsSpare chunks size s → IsSpare (chunks ++ c ∷ []) size s
  IsSpare-push chunks c size s other kept =
      record {
        distinct = kept.distinct;
        free = λ q at. free_still chunks c size q (kept.free q at);
        all = kept.all;
        counted = kept.counted;
        covers = λ q of. by_chunk q of (which_chunk chunks c q size of.0);
        bounded = omega (arith, kept.bounded, length-append chunks (c ∷ []));
      }
    where
      by_chunk : (q : ℕ) → IsOfSize (chunks ++ c ∷ []) size q
          → (q / 512 < length chunks) ⊎ (q / 512 ≡ length chunks) → is_member nat_eq kept.all q ≡ true
      by_chunk q of (inl before) = kept.covers q (of_size_before chunks c size q before of)
      by_chunk q of (inr last) =
          let its = sym (in_last chunks c q last).1 ∙ of.0 in
          absurd (other cc)

  -- the list of the new chunk's size
  IsSpare-grown : (chunks : List (Chunk H)) (c : Chunk H) (size count : ℕ) (s : Spare) → c.size ≡ size
      → count ≤ 512 → IsFresh c.cells count → IsSpare chunks size s
      → IsSpare (chunks ++ c ∷ []) size (with_chunk s (length chunks * 512) count)
  IsSpare-grown chunks c size count s own few fresh kept =
      record {
        distinct = row_distinct s.slots first count kept.distinct
            (λ q at. omega (arith, in_chunk chunks q size (kept.free q at).0));
        free = λ q at. by_list q (row_member s.slots first count q at);
        all = with_row kept.all first count;
        counted = omega (arith, length-with_row kept.all first count, kept.counted);
        covers = λ q of. by_chunk q of (which_chunk chunks c q size of.0);
        bounded = omega (arith, kept.bounded, length-append chunks (c ∷ []));
      }
    where
      first : ℕ
      first = length chunks * 512

      by_list : (q : ℕ) → (is_member nat_eq s.slots q ≡ true) ⊎ ((first ≤ q) × (q < first + count))
          → IsFree (chunks ++ c ∷ []) size q
      by_list q (inl old) = free_still chunks c size q (kept.free q old)
      by_list q (inr new) =
          let last : q / 512 ≡ length chunks = omega (arith, new.0, new.1) in
          let below : q % 512 < count = omega (arith, new.0, new.1) in
          let lies = in_last chunks c q last in
          (lies.1 ∙ ap Some own, lies.0 ∙ fresh.free (q % 512) below)

      by_chunk : (q : ℕ) → IsOfSize (chunks ++ c ∷ []) size q
          → (q / 512 < length chunks) ⊎ (q / 512 ≡ length chunks)
          → is_member nat_eq (with_row kept.all first count) q ≡ true
      by_chunk q of (inl before) =
          row_old kept.all first count q (kept.covers q (of_size_before chunks c size q before of))
      by_chunk q of (inr last) =
          let below = within_some c.cells (q % 512) (rw (in_last chunks c q last).0 at of.1) in
          row_new kept.all first count q (omega (arith, last)) (omega (arith, last, below, fresh.slots))

  -- no slot of the new chunk is live
  record_in-push : (chunks : List (Chunk H)) (c : Chunk H) (count : ℕ)
      → IsFresh c.cells count → (q : ℕ) → record_in (chunks ++ c ∷ []) q ≡ record_in chunks q
  record_in-push chunks c count fresh q = by_chunk (nat_cases (q / 512) (length chunks))
    where
      nat_cases : (a b : ℕ) → (a < b) ⊎ (b ≤ a)
      nat_cases a b = grind arith

      absent : slice_get chunks (q / 512) ≡ None → record_in chunks q ≡ None
      absent none = ap (λ o. option_and_then held (option_and_then (λ c. slice_get c.cells (q % 512)) o)) none

      in_fresh : (i : ℕ) → (i < count) ⊎ (count ≤ i) → option_and_then held (slice_get c.cells i) ≡ None
      in_fresh i (inl below) = ap (option_and_then held) (fresh.free i below)
      in_fresh i (inr past) =
          ap (option_and_then held) (slice_get_past c.cells i (omega (arith, fresh.slots)))

      at_last : (o : Option (Chunk H)) → (o ≡ Some c) ⊎ (o ≡ None)
          → option_and_then held (option_and_then (λ c. slice_get c.cells (q % 512)) o) ≡ None
      at_last o (inl is) =
          ap (λ o. option_and_then held (option_and_then (λ c. slice_get c.cells (q % 512)) o)) is
          ∙ in_fresh (q % 512) (nat_cases (q % 512) count)
      at_last o (inr is) =
          ap (λ o. option_and_then held (option_and_then (λ c. slice_get c.cells (q % 512)) o)) is

      from_last : length chunks ≤ q / 512 → (q / 512 ≡ length chunks) ⊎ (q / 512 ≢ length chunks)
          → (slice_get (chunks ++ c ∷ []) (q / 512) ≡ Some c)
          ⊎ (slice_get (chunks ++ c ∷ []) (q / 512) ≡ None)
      from_last past (inl same) = inl (ap (slice_get (chunks ++ c ∷ [])) same ∙ slice_get-push chunks c)
      from_last past (inr other) =
          inr (slice_get_past (chunks ++ c ∷ []) (q / 512) (omega (arith, length-append chunks (c ∷ []))))

      by_chunk : (q / 512 < length chunks) ⊎ (length chunks ≤ q / 512)
          → record_in (chunks ++ c ∷ []) q ≡ record_in chunks q
      by_chunk (inl before) = ap (option_and_then held) (before_push chunks c q before).0
      by_chunk (inr past) =
          at_last _ (from_last past (same_or_other (q / 512) (length chunks)))
          ∙ sym (absent (slice_get_past chunks (q / 512) past))

  pub records_of-push : (chunks : List (Chunk H)) (c : Chunk H) (count : ℕ)
      → IsFresh c.cells count → records_of (chunks ++ c ∷ []) ≡ records_of chunks
  records_of-push chunks c count fresh =
      same_records chunks (chunks ++ c ∷ []) (record_in-push chunks c count fresh)

  pub IsKept-grown : (chunks : List (Chunk H)) (spares : List Spare) (live size count : ℕ) (c : Chunk H)
      → IsKept chunks spares live → length chunks < 8388608 → size < 10 → c.size ≡ size → count ≤ 512
      → IsFresh c.cells count
      → IsKept (chunks ++ c ∷ [])
      (set spares size (with_chunk (spare_at spares size) (length chunks * 512) count)) live
  IsKept-grown chunks spares live size count c kept room below own few fresh =
      record {
        few = omega (arith, length-append chunks (c ∷ []));
        ten = length-set spares size _ ∙ kept.ten;
        lists = λ s s_below. by_size s s_below (same_or_other s size);
        sized = λ q x found. let was = kept.sized q x (sym (record_in-push chunks c _ fresh q) ∙ found) in
            (before_push chunks c q (in_chunk chunks q _ was)).1 ∙ was;
        counted = kept.counted ∙ ap map.len (sym (records_of-push chunks c _ fresh));
        bounded =
            omega (
              arith,
              kept.bounded,
              length-append chunks (c ∷ []),
              sum_counts spares size grown within,
              length-with_row (spare_at spares size).slots (length chunks * 512) count,
            );
      }
    where
      grown : Spare
      grown = with_chunk (spare_at spares size) (length chunks * 512) count

      within : size < length spares
      within = omega (arith, kept.ten)

      by_size : (s : ℕ) → s < 10 → (s ≡ size) ⊎ (s ≢ size)
          → IsSpare (chunks ++ c ∷ []) s (spare_at (set spares size grown) s)
      by_size s s_below (inl same) =
          rw (same, spare_at-set_same spares size grown within)
          (IsSpare-grown chunks c size count (spare_at spares size) own few fresh (kept.lists size below))
      by_size s s_below (inr other) =
          rw (spare_at-set_other spares size s grown other)
          (IsSpare-push chunks c s (spare_at spares s) (λ e. other (e ∙ own)) (kept.lists s s_below))
