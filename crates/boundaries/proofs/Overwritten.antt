-- A range of stored boundaries is written over, or some of those at its end are removed.
use Rattle.std.proofs.Common.{◌≡◌, ◌≢◌, ℕ, ◌+◌, ◌<◌, ◌≤◌, if◌then◌else◌, arith, Bool, true, false, List, [], ◌∷◌, ◌++◌, length, None, Some, unwrap_or, refl, sym, ◌∙◌, ap, ap₂, subst, append_assoc, inl, inr}
use Rattle.std.specs.Prelude.{ℤ, Any, IsTrue}
use Rattle.std.specs.List.{All, Contains}
use Rattle.std.specs.FinMap as finite
use Rattle.std.proofs.lemmas.List.{length-append, map-append}
use Rattle.std.proofs.lemmas.List.Elements.{All-cons, All-nil}
use Rattle.arena.specs.Arena.{IsLive, record_at}
use Rattle.keys.specs.Key.{is_before}
use Rattle.keys.specs.Range.{IsEmpty}
use Rattle.keys.specs.declared.range.Range.{Range}
use Rattle.keys.proofs.callers.KeyOrder.{before_at_most_same, not_before_itself}
use Rattle.keys.proofs.callers.Booleans.{not_both_ways}
use Rattle.boundaries.specs.declared.overwrite.Overwrite.{Overwrite}
use Rattle.boundaries.specs.declared.store.Store.{Store}
use Rattle.boundaries.specs.Bound.{Keys}
use Rattle.boundaries.specs.Boundary.{Boundary, AreBoundaries, AreInOrder, below, from_on, value_at}
use Rattle.boundaries.specs.Item.{Item}
use Rattle.boundaries.specs.Items.{IsLast, ended_by}
use Rattle.boundaries.specs.Overwrite.{before_end, before_start, up_to_end}
use Rattle.boundaries.specs.Path.{items_below, items_not_below, between}
use Rattle.boundaries.specs.Store.{PutsKeys}
use Rattle.boundaries.specs.Stored.{boundary_of, overwritten, version_at_end}
use Rattle.boundaries.specs.Written.{closed_at}
use Rattle.boundaries.proofs.Between.{between_bounds}
use Rattle.boundaries.proofs.Clearing.{inside, two_parts, three_parts, left, fewer_left, left_in_order, left_boundaries, left_written}
use Rattle.boundaries.proofs.Closing.{standing_at, none_at, some_at, some_below, closed_there, closed_gap, up_to_below}
use Rattle.boundaries.proofs.KeyBytes.{known_bytes}
use Rattle.boundaries.proofs.LastAndInside.{last_of}
use Rattle.boundaries.proofs.LastFound.{value_of_last}
use Rattle.boundaries.proofs.Nested.{start_before_end}
use Rattle.boundaries.proofs.Overwriting.{answered_by_first}
use Rattle.boundaries.proofs.Partitioning.{stored_partitioned}
use Rattle.boundaries.proofs.PartWritten.{Clears, Overwrites}
use Rattle.boundaries.proofs.Placing.{pair_once}
use Rattle.boundaries.proofs.Puts.{live_by_key, puts_stay}
use Rattle.boundaries.proofs.StoredItems.{AreKept, around_added, boundaries_in, mid_record, now_kept}
use Rattle.boundaries.proofs.Unlinked.{AreParted, slots_of, none_go, middle_goes}
use Rattle.boundaries.proofs.callers.Order.{rising_in_order}
use Rattle.boundaries.proofs.callers.Times.{once_cases, times}
use Rattle.boundaries.proofs.callers.WritingOrder.{written_in_order}

-- the range of what is written
abbrev pub range_of : Overwrite → Range
range_of new = record {
  begin = new.start.now;
  end = new.end.now;
  begin_is_key = new.start_is_key;
  end_is_key = new.end_is_key;
  ordered = before_at_most_same new.start.now new.end.now new.filled;
}

pub not_empty : (new : Overwrite) → ¬ IsEmpty (range_of new)
not_empty new same =
    not_both_ways _ (subst (λ k. is_before k new.end.now ≡ true) same new.filled) (not_before_itself new.end.now)

-- a boundary that closes a range, unless one is there
abbrev closed_by : Bool → Boundary → List Boundary
closed_by ended b = if ended then [] else b ∷ []

-- items that came in, whose keys were placed
record AreAdded (old mid : Keys) (added : List Item) (boundaries : List Boundary) : Type 0 where
  fresh : All (λ x. record_at old x.key ≡ None) added
  live : All (λ x. IsLive mid x.key) added
  distinct : (s : ℕ) → times s (slots_of added) ≤ 1
  counted : finite.len mid.records ≡ finite.len old.records + length added
  are : boundaries_in mid added ≡ boundaries

are_added : {old mid : Keys} {start end : List ℕ} {first : ℕ} (second : ℕ) (v w : ℤ) (ended : Bool)
    → PutsKeys old mid start end first (if ended then None else Some second)
    → AreAdded old mid (record { key = first; version = v } ∷ ended_by ended (record { key = second; version = w }))
    (record { key = start; version = v } ∷ closed_by ended (record { key = end; version = w }))
are_added {old} {mid} {start} {end} {first} second v w true p =
    let x : Item = record { key = first; version = v } in
    let Fresh = λ (x : Item). record_at old x.key ≡ None in
    let Live = λ (x : Item). IsLive mid x.key in
    record {
      fresh = All-cons Fresh x [] p.free (All-nil Fresh);
      live = All-cons Live x [] (live_by_key mid first start p.start_is) (All-nil Live);
      distinct = λ s. elim (once_cases s first) [ inl same ↦ omega (arith, same.1) | inr other ↦ omega (arith, other.1) ];
      counted = p.counted;
      are = ap (λ k. record { key = k; version = v } ∷ []) (known_bytes mid first start p.start_is);
    }
are_added {old} {mid} {start} {end} {first} second v w false p =
    let x : Item = record { key = first; version = v } in
    let y : Item = record { key = second; version = w } in
    let Fresh = λ (x : Item). record_at old x.key ≡ None in
    let Live = λ (x : Item). IsLive mid x.key in
    let e = p.free_end second refl in
    record {
      fresh = All-cons Fresh x (y ∷ []) p.free (All-cons Fresh y [] e.0 (All-nil Fresh));
      live = All-cons Live x (y ∷ []) (live_by_key mid first start p.start_is)
          (All-cons Live y [] (live_by_key mid second end e.2) (All-nil Live));
      distinct = pair_once first second (λ same. e.1 (sym same));
      counted = p.counted;
      are = ap₂ (λ k l. record { key = k; version = v } ∷ record { key = l; version = w } ∷ [])
          (known_bytes mid first start p.start_is) (known_bytes mid second end e.2);
    }

-- a last element of the rest of a list is its last one
last_after : {X : Type 0} (x : X) (xs ys : List X) → IsLast x ys → IsLast x (xs ++ ys)
last_after x xs ys last = (xs ++ last.0, ap (λ zs. xs ++ zs) last.1 ∙ sym (append_assoc xs last.0 (x ∷ [])))

no_items : (keys : Keys) (xs : List Item) → boundaries_in keys xs ≡ [] → xs ≡ []
no_items keys [] e = refl
no_items keys (x ∷ xs) e = absurd (let k : boundary_of keys x ∷ boundaries_in keys xs ≡ [] = e in cc)

module _ (old mid : Store) (new : Overwrite) (was now : List Item) (stored : AreKept old.keys was) where
  abbrev bs : List Boundary
  bs = boundaries_in old.keys was

  abbrev start : List ℕ
  start = new.start.now

  abbrev end : List ℕ
  end = new.end.now

  abbrev front : List Item
  front = items_below (before_start old.keys new) was

  abbrev pub middle : List Item
  middle = between (Some (before_start old.keys new)) (Some (before_end old.keys new)) was

  abbrev rest : List Item
  rest = items_not_below (before_end old.keys new) was

  items_are : was ≡ front ++ (middle ++ rest)
  items_are =
      three_parts (λ (x : Item). before_start old.keys new x.key) (λ (x : Item). before_end old.keys new x.key)
      (λ x. start_before_end old.keys new x.key) was (stored_partitioned old.keys was stored false start).partitioned
      (stored_partitioned old.keys was stored false end).partitioned

  before_end_are : items_below (before_end old.keys new) was ≡ front ++ middle
  before_end_are =
      two_parts (λ (x : Item). before_start old.keys new x.key) (λ (x : Item). before_end old.keys new x.key)
      (λ x. start_before_end old.keys new x.key) was (stored_partitioned old.keys was stored false start).partitioned
      (stored_partitioned old.keys was stored false end).partitioned

  front_are : boundaries_in old.keys front ≡ below start bs
  front_are = (stored_partitioned old.keys was stored false start).before

  middle_are : boundaries_in old.keys middle ≡ inside (range_of new) (not_empty new) bs
  middle_are = between_bounds old.keys was stored false false start end

  rest_are : boundaries_in old.keys rest ≡ from_on end bs
  rest_are = (stored_partitioned old.keys was stored false end).following

  -- some item comes before the end
  some_before : items_below (before_end old.keys new) was ≢ []
  some_before none =
      some_below start end new.filled bs stored.in_order
      (sym (stored_partitioned old.keys was stored false end).before ∙ ap (boundaries_in old.keys) none)

  -- where none stands at the end, the last item before it tells the version there
  value_before : (x : Item) → IsLast x (items_below (before_end old.keys new) was) → ¬ Any (λ b. b.key ≡ end) bs
      → x.version ≡ value_at bs end
  value_before x last gap =
      let b = boundary_of old.keys x in
      let below_end : IsLast b (below end bs) = (
        boundaries_in old.keys last.0,
        sym (stored_partitioned old.keys was stored false end).before ∙ ap (boundaries_in old.keys) last.1
            ∙ map-append (boundary_of old.keys) last.0 (x ∷ []),
      ) in
      sym (value_of_last end bs stored.in_order b (subst (IsLast b) (sym (up_to_below end bs gap)) below_end))

  -- The range is written over.
  module _ (h : Overwrites new old mid was now) where
    abbrev w : ℤ
    w = version_at_end new bs

    abbrev added : List Item
    added = record { key = h.first; version = new.version } ∷ ended_by h.ended (record { key = h.second; version = w })

    -- whether a boundary stands at the end
    ended_answered : (IsTrue h.ended → Any (λ b. b.key ≡ end) bs) × ((h.ended ≡ false) → ¬ Any (λ b. b.key ≡ end) bs)
    ended_answered =
        let xs = between (Some (before_end old.keys new)) (Some (up_to_end old.keys new)) was in
        let around : boundaries_in old.keys xs ≡ standing_at end bs = between_bounds old.keys was stored false true end end in
        let by = answered_by_first (before_end old.keys new) (up_to_end old.keys new) was h.ended
        (stored_partitioned old.keys was stored false end).partitioned (stored_partitioned old.keys was stored true end).partitioned h.ended_is in (
          λ there. some_at end bs (λ none. by.0 there (no_items old.keys xs (around ∙ none))),
          λ gap. none_at end bs (sym around ∙ ap (boundaries_in old.keys) (none_of xs (λ some. not_true (by.1 some) gap))),
        )
      where
        not_true : {t : Bool} → t ≡ true → t ≡ false → ⊥
        not_true there gap = cc

        none_of : (xs : List Item) → ¬ (xs ≢ []) → xs ≡ []
        none_of [] n = refl
        none_of (x ∷ xs) n = absurd (n (λ e. cc))

    now_are : now ≡ front ++ (added ++ rest)
    now_are =
        let last = last_of (items_below (before_end old.keys new) was) some_before in
        h.written last.0 last.1
        ∙ ap (λ xs. front ++ (record { key = h.first; version = new.version } ∷ xs ++ rest)) (second_is h.ended ended_answered.1 last.0 last.1)
      where
        second_is : (t : Bool) → ((t ≡ false) → ¬ Any (λ b. b.key ≡ end) bs)
            → (last : Item) → IsLast last (items_below (before_end old.keys new) was)
            → ended_by t (record { key = h.second; version = unwrap_or new.at_end last.version })
            ≡ ended_by t (record { key = h.second; version = w })
        second_is true gap last is = refl
        second_is false gap last is =
            ap (λ (version : ℤ). record { key = h.second; version = version } ∷ [])
            (ap (unwrap_or new.at_end) (value_before last is (gap refl)))

    placed : AreAdded old.keys mid.keys added (record { key = start; version = new.version } ∷ closed_by h.ended (record { key = end; version = w }))
    placed = are_added h.second new.version w h.ended h.puts

    pub parts : AreParted was (front ++ rest) middle
    parts = subst (λ items. AreParted items (front ++ rest) middle) (sym items_are) (middle_goes front middle rest)

    made : AreParted now (front ++ rest) added
    made = subst (λ items. AreParted items (front ++ rest) added) (sym now_are) (middle_goes front added rest)

    -- the keys of the removed boundaries are released
    module _ (final : Keys) (released : (slot : ℕ) → ¬ Contains (slots_of middle) slot → record_at final slot ≡ record_at mid.keys slot) where
      pub entire_boundaries : boundaries_in final now ≡ overwritten new w bs
      entire_boundaries =
          ap (boundaries_in final) now_are
          ∙ around_added old.keys mid.keys final was (front ++ rest) middle added stored parts (puts_stay h.puts) released placed.fresh
          front rest refl
          ∙ ap₂ (λ xs ys. xs ++ (boundaries_in mid.keys added ++ ys)) front_are rest_are
          ∙ ap (λ ys. below start bs ++ (ys ++ from_on end bs)) placed.are
          ∙ ap (λ ys. below start bs ++ record { key = start; version = new.version } ∷ ys) (closed h.ended ended_answered.0 ended_answered.1)
        where
          closed : (t : Bool) → (IsTrue t → Any (λ b. b.key ≡ end) bs) → ((t ≡ false) → ¬ Any (λ b. b.key ≡ end) bs)
              → closed_by t (record { key = end; version = w }) ++ from_on end bs ≡ closed_at end w (from_on end bs)
          closed true there gap = sym (closed_there end w bs (rising_in_order bs stored.in_order) (there refl))
          closed false there gap = sym (closed_gap end bs (gap refl) w)

      pub entire_kept : finite.len final.records + length (slots_of middle) ≡ finite.len mid.keys.records → AreKept final now
      entire_kept gone =
          now_kept old.keys mid.keys final was (front ++ rest) middle added stored parts (puts_stay h.puts) released placed.fresh made
          placed.live placed.distinct placed.counted gone (subst AreInOrder (sym entire_boundaries) in_order)
        where
          in_order : AreInOrder (overwritten new w bs)
          in_order = written_in_order (range_of new) (not_empty new) new.version w bs stored.in_order

      pub entire_record : (s : ℕ) → 1 ≤ times s (slots_of now) → record_at final s ≡ record_at mid.keys s
      entire_record =
          mid_record old.keys mid.keys final was (front ++ rest) middle added stored parts (puts_stay h.puts) released placed.fresh made

    -- how many items there are
    pub entire_few : (1 ≤ length now) × (length now ≤ length was + 2)
    entire_few =
        let few : length added ≤ 2 = at_most_two h.ended in
        (omega (arith, made.count), omega (arith, made.count, parts.count, few))
      where
        at_most_two : (t : Bool) → length (record { key = h.first; version = new.version } ∷ ended_by t (record { key = h.second; version = w })) ≤ 2
        at_most_two true = omega arith
        at_most_two false = omega arith

  -- Some of its boundaries are removed.
  module _ (at_end : ℤ) (h : Clears new at_end old mid was now) where
    abbrev kept : List Boundary
    kept = boundaries_in old.keys h.kept

    abbrev out : List Boundary
    out = boundaries_in old.keys h.run

    inside_is : inside (range_of new) (not_empty new) bs ≡ kept ++ out
    inside_is = sym middle_are ∙ ap (boundaries_in old.keys) h.run_is ∙ map-append (boundary_of old.keys) h.kept h.run

    some_first : below start bs ++ kept ≢ []
    some_first none =
        h.first (no_items old.keys (front ++ h.kept)
        (map-append (boundary_of old.keys) front h.kept ∙ ap (λ xs. xs ++ kept) front_are ∙ none))

    some_out : out ≢ []
    some_out none = h.some (no_items old.keys h.run none)

    -- where none stands at the end, they tell the version there
    last_value : ¬ Any (λ b. b.key ≡ end) bs → h.last.version ≡ value_at bs end
    last_value gap =
        value_before h.last (subst (IsLast h.last) (sym (before_end_are ∙ ap (λ ms. front ++ ms) h.run_is))
        (last_after h.last front (h.kept ++ h.run) (last_after h.last h.kept h.run h.last_is))) gap

    all_are : was ≡ (front ++ h.kept) ++ (h.run ++ rest)
    all_are =
        items_are ∙ ap (λ ms. front ++ (ms ++ rest)) h.run_is ∙ ap (λ ms. front ++ ms) (append_assoc h.kept h.run rest)
        ∙ sym (append_assoc front h.kept (h.run ++ rest))

    left_are : now ≡ (front ++ h.kept) ++ rest
    left_are = h.now_is ∙ sym (append_assoc front h.kept rest)

    pub part_parts : AreParted was now h.run
    part_parts =
        subst (λ xs. AreParted was xs h.run) (sym left_are)
        (subst (λ items. AreParted items ((front ++ h.kept) ++ rest) h.run) (sym all_are) (middle_goes (front ++ h.kept) h.run rest))

    module _ (final : Keys) (released : (slot : ℕ) → ¬ Contains (slots_of h.run) slot → record_at final slot ≡ record_at old.keys slot) where
      abbrev none_fresh : All (λ (x : Item). record_at old.keys x.key ≡ None) []
      none_fresh = All-nil (λ (x : Item). record_at old.keys x.key ≡ None)

      part_left : boundaries_in final now ≡ left (range_of new) (not_empty new) bs stored.in_order kept out inside_is
      part_left =
          ap (boundaries_in final) left_are
          ∙ around_added old.keys old.keys final was ((front ++ h.kept) ++ rest) h.run [] stored
          (subst (λ xs. AreParted was xs h.run) left_are part_parts) (λ s live. refl) released none_fresh (front ++ h.kept) rest refl
          ∙ ap₂ (λ xs ys. xs ++ ys) (map-append (boundary_of old.keys) front h.kept ∙ ap (λ xs. xs ++ kept) front_are) rest_are
          ∙ append_assoc (below start bs) kept (from_on end bs)

      pub part_fewer : length (boundaries_in final now) < length bs
      part_fewer =
          subst (λ (xs : List Boundary). length xs < length bs) (sym part_left)
          (fewer_left (range_of new) (not_empty new) bs stored.in_order kept out inside_is some_out)

      pub part_boundaries : AreBoundaries bs → AreBoundaries (boundaries_in final now)
      part_boundaries are =
          subst AreBoundaries (sym part_left)
          (left_boundaries (range_of new) (not_empty new) bs stored.in_order kept out inside_is some_first are)

      -- the range can be written then as before, with the version that they tell for its end
      pub part_written : overwritten new at_end (boundaries_in final now) ≡ overwritten new (version_at_end new bs) bs
      part_written =
          ap (overwritten new at_end) part_left
          ∙ left_written (range_of new) (not_empty new) bs stored.in_order kept out inside_is new.version at_end
          (version_at_end new bs) (λ gap. h.at_end_is ∙ ap (unwrap_or new.at_end) (last_value gap))

      pub part_kept : finite.len final.records + length (slots_of h.run) ≡ finite.len old.keys.records → AreKept final now
      part_kept gone =
          now_kept old.keys old.keys final was now h.run [] stored part_parts (λ s live. refl) released none_fresh (none_go now)
          (All-nil (λ (x : Item). IsLive old.keys x.key)) (λ s. omega arith) (omega arith) gone
          (subst AreInOrder (sym part_left) (left_in_order (range_of new) (not_empty new) bs stored.in_order kept out inside_is some_first))

      pub part_record : (s : ℕ) → 1 ≤ times s (slots_of now) → record_at final s ≡ record_at old.keys s
      part_record =
          mid_record old.keys old.keys final was now h.run [] stored part_parts (λ s live. refl) released none_fresh (none_go now)

    -- one item is left at least
    pub part_few : (1 ≤ length now) × (length now ≤ length was)
    part_few =
        let some : 1 ≤ length (front ++ h.kept) = some_of (front ++ h.kept) (λ none. h.first none) in
        (omega (arith, ap length left_are, length-append (front ++ h.kept) rest, some), omega (arith, part_parts.count))
      where
        some_of : (xs : List Item) → xs ≢ [] → 1 ≤ length xs
        some_of [] some = absurd (some refl)
        some_of (x ∷ xs) some = omega arith
