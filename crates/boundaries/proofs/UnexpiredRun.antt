-- A run of stored boundaries is swept of expired items that begins at a key.
use Rattle.std.proofs.Common.{◌≡◌, ◌≢◌, ℕ, ◌+◌, ◌≤◌, Bool, true, false, not, ◌&&◌, List, [], ◌∷◌, ◌++◌, length, take, drop, map, filter, None, option_map, unwrap_or, refl, sym, ◌∙◌, ap, ap₂, subst, inl, inr, arith, length-append, append_assoc, All, Any}
use Rattle.std.specs.Prelude.{ℤ, int_lt, IfSome}
use Rattle.std.specs.List.{Contains}
use Rattle.std.proofs.Math.Seq.{take-append_seam, drop-append_seam}
use Rattle.std.proofs.lemmas.List.{map-append, length-map, append-nil}
use Rattle.std.proofs.lemmas.Bool.{cases_Bool}
use Rattle.std.proofs.lemmas.List.Elements.{All-nil, All-cons, All-weaker, filter-append, filter_passes}
use Rattle.arena.specs.Arena.{IsLive, record_at}
use Rattle.keys.specs.Key.{is_before, IsBefore}
use Rattle.keys.proofs.callers.Booleans.{and_right, false_unless, not_both_ways}
use Rattle.keys.proofs.callers.KeyOrder.{not_before_if}
use Rattle.boundaries.specs.declared.expiry.Removal.{Removal}
use Rattle.boundaries.specs.declared.key_bound.KeyBound.{KeyBound}
use Rattle.boundaries.specs.declared.store.Store.{Store}
use Rattle.boundaries.specs.Item.{Item}
use Rattle.boundaries.specs.Path.{IsPartitioned, items_below, items_not_below, first_key as first_slot}
use Rattle.boundaries.specs.Expire.{GivesUnexpired}
use Rattle.boundaries.specs.Items.{IsLast, expired_items, unexpired_items}
use Rattle.boundaries.proofs.callers.Partitions.{All-back}
use Rattle.boundaries.specs.Boundary.{Boundary, AreInOrder, RiseFrom, last_version}
use Rattle.boundaries.specs.Bound.{slot_is_below}
use Rattle.boundaries.specs.Stored.{boundary_of}
use Rattle.boundaries.proofs.StoredItems.{AreKept, boundaries_in, kept_boundaries, mid_record, now_kept}
use Rattle.boundaries.proofs.callers.Times.{times}
use Rattle.std.specs.FinMap as finite
use Rattle.boundaries.specs.Bound.{Keys, bytes_at}
use Rattle.boundaries.specs.Boundary.{first_key as first_boundary}
use Rattle.boundaries.specs.Swept.{is_left, left_from, passed_to, unexpired_boundaries}
use Rattle.boundaries.proofs.Partitioning.{stored_partitioned}
use Rattle.boundaries.proofs.LastFound.{last_boundary, last_if_there}
use Rattle.boundaries.proofs.callers.LeftFrom.{left_middle, filter_yes, filter_no}
use Rattle.boundaries.proofs.callers.Order.{rise_middle, rise_swap}
use Rattle.boundaries.proofs.Passed.{first_bytes, first_has, last_of_versions}
use Rattle.boundaries.proofs.callers.Unexpired.{unexpired_rises}
use Rattle.boundaries.proofs.Unlinked.{AreParted, slots_of, none_go, unexpired_parted, parted_beside}

-- boundaries in order, around one that isn't the first
record IsInside (xs : List Boundary) (c : Boundary) (cs : List Boundary) : Type 0 where
  pub some : xs ≢ []
  pub before : All (λ b. IsBefore b.key c.key) xs
  pub after : RiseFrom c.key cs
  pub filled : IsBefore [] c.key

inside : (xs : List Boundary) (c : Boundary) (cs : List Boundary) → AreInOrder (xs ++ c ∷ cs) → c.key ≢ []
    → IsInside xs c cs
inside [] c cs o later = absurd (later o.0)
inside (b ∷ xs) c cs o later =
    let m = rise_middle b.key xs c cs o.1 in
    record {
      some = λ none. absurd (cc none);
      before = All-cons (λ b. IsBefore b.key c.key) b xs m.first m.before;
      after = m.after;
      filled = subst (λ k. IsBefore k c.key) o.0 m.first;
    }

-- the sweep at such a boundary has passed those before it
pub passed_middle : (c : Boundary) (xs cs : List Boundary) → All (λ b. IsBefore b.key c.key) xs → RiseFrom c.key cs
    → IsBefore [] c.key → passed_to c.key (xs ++ c ∷ cs) ≡ xs
passed_middle c xs cs before after filled =
    let p : Boundary → Bool = λ b. not (is_left c.key b) in
    let left = left_middle c [] cs (λ i d lt. absurd (omega arith)) after filled in
    let none : filter p (c ∷ cs) ≡ [] =
    filter_no p (c ∷ cs)
    (subst (All (λ b. p b ≡ false)) left
    (All-weaker (λ b. is_left c.key b ≡ true) (λ b. p b ≡ false) (λ b t. ap not t) (left_from c.key (c ∷ cs))
    (filter_passes (is_left c.key) (c ∷ cs)))) in
    let all : filter p xs ≡ xs =
    filter_yes p xs (All-weaker (λ b. IsBefore b.key c.key) (λ b. p b ≡ true)
    (λ b l. ap not (false_unless (is_left c.key b)
    (λ t. not_both_ways _ l (not_before_if c.key b.key (and_right (is_before [] b.key) (not (is_before b.key c.key)) t)))))
    xs before) in
    filter-append p xs (c ∷ cs) ∙ ap (λ ys. filter p xs ++ ys) none ∙ append-nil (filter p xs) ∙ all

-- what is in order stays in order where a part behind the first is swept of expired items
unexpired_in_order : (edge before : ℤ) (xs ys zs : List Boundary) → xs ≢ [] → AreInOrder (xs ++ (ys ++ zs))
    → AreInOrder (xs ++ (unexpired_boundaries edge before ys ++ zs))
unexpired_in_order edge before [] ys zs some o = absurd (some refl)
unexpired_in_order edge before (x ∷ xs) ys zs some o = (
  o.0,
  rise_swap x.key xs (ys ++ zs) (unexpired_boundaries edge before ys ++ zs) o.1
      (λ j r. unexpired_rises edge before j ys zs r),
)

-- A run of items was looked at that begins with the last one below the bound, and those that are expired are gone.
pub record RunExpired (p : ℕ → Bool) (count : ℕ) (edge before : ℤ) (removal : Removal) (gone : List ℕ) (was now : List Item)
    : Type 0 where
  pub front : List Item
  pub first : Item
  pub looked : List Item
  pub rest : List Item
  pub front_is : items_below p was ≡ front ++ first ∷ []
  pub looked_is : first ∷ items_not_below p was ≡ looked ++ rest
  pub looked_at : length looked ≡ removal.looked_at
  pub some : 1 ≤ removal.looked_at
  pub few : removal.looked_at ≤ count
  pub now_is : now ≡ front ++ (unexpired_items edge before looked ++ rest)
  pub gone_is : gone ≡ slots_of (expired_items edge before looked)
  pub last : IsLast removal.last (map (λ x. x.version) looked)
  pub next_is : removal.next ≡ first_slot None rest

-- what is said of the items of a tree, where the bound is right after a key
pub run_expired : {bound : KeyBound} {count : ℕ} {edge before : ℤ} {removal : Removal} {old new : Store} {was now : List Item}
    (key : List ℕ) → bound.up_to ≡ true → bound.key.now ≡ key → GivesUnexpired bound count edge before removal old new None was now
    → RunExpired (slot_is_below old.keys true key) count edge before removal new.removed.items was now
run_expired {bound} {count} {edge} {before} {removal} {old} {new} {was} {now} key up at h =
    subst (λ p. RunExpired p count edge before removal new.removed.items was now)
    (ap₂ (slot_is_below old.keys) up at)
    (record {
      front = h.front;
      first = h.first;
      looked = h.looked;
      rest = h.rest;
      front_is = h.front_is;
      looked_is = h.looked_is;
      looked_at = h.looked_at;
      some = h.some;
      few = h.few;
      now_is = h.now_is;
      gone_is = h.run_is;
      last = h.last;
      next_is = h.next_is;
    })

module _ (keys : Keys) where
  -- items are swept of expired items as their boundaries are
  pub boundaries_unexpired : (edge before : ℤ) (xs : List Item)
      → boundaries_in keys (unexpired_items edge before xs) ≡ unexpired_boundaries edge before (boundaries_in keys xs)
  boundaries_unexpired edge before [] = refl
  boundaries_unexpired edge before (x ∷ xs) =
      let i = boundaries_unexpired edge x.version xs in
      let goes = int_lt before edge && int_lt x.version edge in
      elim (cases_Bool goes) [
        | inl t ↦ rw t i
        | inr f ↦ rw f (ap (λ bs. boundary_of keys x ∷ bs) i)
      ]

  module _ (items : List Item) (stored : AreKept keys items) (key : List ℕ) where
    abbrev pub p : ℕ → Bool
    p = slot_is_below keys true key

    abbrev bs : List Boundary
    bs = boundaries_in keys items

    pub key_is_partitioned : IsPartitioned (λ x. p x.key) items
    key_is_partitioned = (stored_partitioned keys items stored true key).partitioned

    -- a boundary stands at the key, which isn't the empty one
    module _ (later : key ≢ []) (there : Any (λ b. b.key ≡ key) bs) where
      -- the last item below the bound is that boundary's
      module _ (front : List Item) (first : Item) (passing_are : items_below p items ≡ front ++ first ∷ []) where
        abbrev rest : List Item
        rest = items_not_below p items

        items_are : items ≡ front ++ first ∷ rest
        items_are = key_is_partitioned ∙ ap (λ xs. xs ++ rest) passing_are ∙ append_assoc front (first ∷ []) rest

        abbrev b : Boundary
        b = boundary_of keys first

        at_key : b.key ≡ key
        at_key =
            last_if_there key bs stored.in_order b (last_boundary keys items stored true key first (front, passing_are)) there

        parts : bs ≡ boundaries_in keys front ++ b ∷ boundaries_in keys rest
        parts = ap (boundaries_in keys) items_are ∙ map-append (boundary_of keys) front (first ∷ rest)

        around : IsInside (boundaries_in keys front) b (boundaries_in keys rest)
        around =
            inside (boundaries_in keys front) b (boundaries_in keys rest) (subst AreInOrder parts stored.in_order)
            (λ none. later (sym at_key ∙ none))

        -- the sweep has passed those before it, and the others are left
        passed : passed_to key bs ≡ boundaries_in keys front
        passed =
            ap (passed_to key) parts
            ∙ subst (λ k. passed_to k (boundaries_in keys front ++ b ∷ boundaries_in keys rest) ≡ boundaries_in keys front)
            at_key
            (passed_middle b (boundaries_in keys front) (boundaries_in keys rest) around.before around.after around.filled)

        left : left_from key bs ≡ boundaries_in keys (first ∷ rest)
        left =
            ap (left_from key) parts
            ∙ subst (λ k. left_from k (boundaries_in keys front ++ b ∷ boundaries_in keys rest)
            ≡ b ∷ boundaries_in keys rest) at_key
            (left_middle b (boundaries_in keys front) (boundaries_in keys rest) around.before around.after around.filled)

      -- a run that begins there is swept of expired items
      module _ (count : ℕ) (edge before : ℤ) (unexpired_by : Removal) (gone : List ℕ) (next : List Item)
          (h : RunExpired p count edge before unexpired_by gone items next) where
        abbrev pub run : List Item
        run = expired_items edge before h.looked

        abbrev n : ℕ
        n = unexpired_by.looked_at

        abbrev looked : List Boundary
        looked = boundaries_in keys h.looked

        abbrev unseen : List Boundary
        unseen = boundaries_in keys h.rest

        left_is : left_from key bs ≡ looked ++ unseen
        left_is =
            left h.front h.first h.front_is ∙ ap (boundaries_in keys) h.looked_is
            ∙ map-append (boundary_of keys) h.looked h.rest

        n_is : n ≡ length looked
        n_is = omega (arith, h.looked_at, length-map h.looked (boundary_of keys))

        looked_are : take n (left_from key bs) ≡ looked
        looked_are = ap (take n) left_is ∙ ap (λ m. take m (looked ++ unseen)) n_is ∙ take-append_seam looked unseen

        rest_are : drop n (left_from key bs) ≡ unseen
        rest_are = ap (drop n) left_is ∙ ap (λ m. drop m (looked ++ unseen)) n_is ∙ drop-append_seam looked unseen

        pub looked_within : n ≤ length (left_from key bs)
        looked_within = omega (arith, n_is, ap length left_is, length-append looked unseen)

        pub last_looked : unexpired_by.last ≡ last_version before (take n (left_from key bs))
        last_looked =
            sym (ap (last_version before) looked_are
            ∙ last_of_versions keys h.looked h.last.0 before unexpired_by.last h.last.1)

        -- what all items have, the one has at which the sweep goes on
        pub next_has : (P : ℕ → Type 0) → All (λ x. P x.key) items → IfSome unexpired_by.next P
        next_has P all =
            let Has = λ (x : Item). P x.key in
            let after_has = All-back Has h.front (h.first ∷ items_not_below p items)
            (subst (All Has) (items_are h.front h.first h.front_is) all) in
            subst (λ o. IfSome o P) (sym h.next_is)
            (first_has keys P h.rest (All-back Has h.looked h.rest (subst (All Has) h.looked_is after_has)))

        pub next_bytes : unwrap_or (option_map (bytes_at keys) unexpired_by.next) []
            ≡ first_boundary (drop n (left_from key bs))
        next_bytes =
            ap (λ o. unwrap_or (option_map (bytes_at keys) o) []) h.next_is ∙ first_bytes keys h.rest
            ∙ ap first_boundary (sym rest_are)

        items_parts : items ≡ h.front ++ (h.looked ++ h.rest)
        items_parts = items_are h.front h.first h.front_is ∙ ap (λ l. h.front ++ l) h.looked_is

        pub parted : AreParted items next run
        parted =
            subst (λ xs. AreParted items xs run) (sym h.now_is)
            (subst (λ xs. AreParted xs (h.front ++ (unexpired_items edge before h.looked ++ h.rest)) run) (sym items_parts)
            (parted_beside h.front h.looked (unexpired_items edge before h.looked) run h.rest (unexpired_parted edge before h.looked)))

        -- one stays, since there is one before the run
        pub some_stays : 1 ≤ length next
        some_stays =
            let inside = around h.front h.first h.front_is in
            let some : 1 ≤ length h.front = some_front h.front inside.some in
            omega (arith, ap length h.now_is, length-append h.front (unexpired_items edge before h.looked ++ h.rest), some)
          where
            some_front : (xs : List Item) → boundaries_in keys xs ≢ [] → 1 ≤ length xs
            some_front [] some = absurd (some refl)
            some_front (x ∷ xs) some = omega arith

        now_are : boundaries_in keys next
            ≡ boundaries_in keys h.front ++ (unexpired_boundaries edge before looked ++ unseen)
        now_are =
            let f = boundary_of keys in
            let kept = unexpired_items edge before h.looked in
            ap (boundaries_in keys) h.now_is
            ∙ map-append f h.front (kept ++ h.rest)
            ∙ ap (λ l. map f h.front ++ l)
            (map-append f kept h.rest ∙ ap (λ l. l ++ map f h.rest) (boundaries_unexpired edge before h.looked))

        now_in_order : AreInOrder (boundaries_in keys next)
        now_in_order =
            let f = boundary_of keys in
            let old = ap (map f) items_parts ∙ map-append f h.front (h.looked ++ h.rest)
            ∙ ap (λ l. map f h.front ++ l) (map-append f h.looked h.rest) in
            subst AreInOrder (sym now_are)
            (unexpired_in_order edge before (map f h.front) (map f h.looked) (map f h.rest)
            (around h.front h.first h.front_is).some (subst AreInOrder old stored.in_order))

        module _ (new : Keys) (released : (slot : ℕ) → ¬ Contains (slots_of run) slot → record_at new slot ≡ record_at keys slot) where
          same : boundaries_in new next ≡ boundaries_in keys next
          same = kept_boundaries keys keys new items next run [] stored parted (λ s live. refl) released (All-nil (λ (x : Item). record_at keys x.key ≡ None)) next
              (λ s some. some)

          pub passed_are_unexpired : boundaries_in new next ≡ passed_to key bs
              ++ (unexpired_boundaries edge before (take n (left_from key bs)) ++ drop n (left_from key bs))
          passed_are_unexpired =
              same ∙ now_are
              ∙ ap (λ l. l ++ (unexpired_boundaries edge before looked ++ unseen)) (sym (passed h.front h.first h.front_is))
              ∙ ap₂ (λ xs ys. passed_to key bs ++ (unexpired_boundaries edge before xs ++ ys)) (sym looked_are) (sym rest_are)

          pub unexpired_kept : finite.len new.records + length (slots_of run) ≡ finite.len keys.records → AreKept new next
          unexpired_kept less =
              now_kept keys keys new items next run [] stored parted (λ s live. refl) released (All-nil (λ (x : Item). record_at keys x.key ≡ None)) (none_go next)
              (All-nil (λ (x : Item). IsLive keys x.key)) (λ s. omega arith) (omega arith) less (subst AreInOrder (sym same) now_in_order)

          pub unexpired_record : (s : ℕ) → 1 ≤ times s (slots_of next) → record_at new s ≡ record_at keys s
          unexpired_record = mid_record keys keys new items next run [] stored parted (λ s live. refl) released (All-nil (λ (x : Item). record_at keys x.key ≡ None))
              (none_go next)
