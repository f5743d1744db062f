-- Which of some held batches leaves first, as one more arrives.
use Rattle.std.proofs.Common.{
  ◌≡◌,
  ℕ,
  ◌+◌,
  ◌-◌,
  ◌<◌,
  ℤ,
  ◌<ℤ◌,
  ◌≤ℤ◌,
  Bool,
  true,
  false,
  List,
  [],
  ◌∷◌,
  ◌++◌,
  length,
  take,
  remove,
  slice_index_or,
  Option,
  Some,
  None,
  refl,
  sym,
  ap,
  ◌∙◌,
  arith,
}
use Rattle.std.proofs.lemmas.Int.{ints}
use Rattle.std.proofs.lemmas.List.{
  append-nil,
  get_or_default,
  get_or_append_left,
  get_or-append_right,
  get_or-take,
  length-append,
  take_more,
  length-take-le,
}
use Rattle.std.proofs.lemmas.List.Edits.{remove-append_left, remove-append_right}
use Rattle.std.specs.Prelude.{int_lt, if◌then◌else◌}
use Rattle.keyspace.specs.Leaving.{Held, first_or, least_first}

-- the batch at this index is the one that leaves first
pub record IsLeastAt (hs : List Held) (index : ℕ) : Type 0 where
  pub inside : index < length hs
  pub taken : (d : Held) → least_first hs ≡ Some (slice_index_or hs index d, remove hs index)

-- what leaves first where x arrives after hs, of which l leaves first
abbrev pub after_arrival : List Held → Held → Option (Held × List Held) → Option (Held × List Held)
after_arrival hs x None = Some (x, hs)
after_arrival hs x (Some l) =
    if int_lt x.1.previous l.0.1.previous then Some (x, hs) else Some (l.0, l.1 ++ x ∷ [])

lt_both : (x l h : ℤ) → int_lt x l ≡ true → int_lt l h ≡ true → int_lt x h ≡ true
lt_both x l h p q = grind (arith, ints)

lt_neither : (x l h : ℤ) → int_lt x l ≡ false → int_lt l h ≡ false → int_lt x h ≡ false
lt_neither x l h p q = grind (arith, ints)

by_tests : (a b c : Bool) → (a ≡ true → b ≡ true → c ≡ true) → (a ≡ false → b ≡ false → c ≡ false)
    → (h x : Held) (l : Held × List Held) (hs : List Held)
    → int_lt x.1.previous l.0.1.previous ≡ a → int_lt l.0.1.previous h.1.previous ≡ b
    → int_lt x.1.previous h.1.previous ≡ c
    → first_or h (hs ++ x ∷ []) (after_arrival hs x (Some l))
    ≡ after_arrival (h ∷ hs) x (first_or h hs (Some l))
by_tests true true c both neither h x l hs p q r = simp (p, q, r ∙ both refl refl)
by_tests true false c both neither h x l hs p q r = simp (p, q)
by_tests false true c both neither h x l hs p q r = simp (p, q)
by_tests false false c both neither h x l hs p q r = simp (p, q, r ∙ neither refl refl)

first_or-after_arrival : (h x : Held) (hs : List Held) (l : Option (Held × List Held))
    → first_or h (hs ++ x ∷ []) (after_arrival hs x l) ≡ after_arrival (h ∷ hs) x (first_or h hs l)
first_or-after_arrival h x hs None = refl
first_or-after_arrival h x hs (Some l) =
    by_tests _ _ _ (lt_both x.1.previous l.0.1.previous h.1.previous)
    (lt_neither x.1.previous l.0.1.previous h.1.previous) h x l hs refl refl refl

least_first-push : (hs : List Held) (x : Held)
    → least_first (hs ++ x ∷ []) ≡ after_arrival hs x (least_first hs)
least_first-push [] x = refl
least_first-push (h ∷ hs) x = rw (least_first-push hs x) (first_or-after_arrival h x hs (least_first hs))

-- the one that arrives leaves first if its previous version is below the least so far
arrival_leads : (hs : List Held) (index : ℕ) (x : Held) → IsLeastAt hs index
    → int_lt x.1.previous (slice_index_or hs index x).1.previous ≡ true → IsLeastAt (hs ++ x ∷ []) (length hs)
arrival_leads hs index x least below = record {
  inside = omega (arith, length-append hs (x ∷ []));
  taken = λ d.
      let leads : least_first (hs ++ x ∷ []) ≡ Some (x, hs) =
      least_first-push hs x ∙ rw (least.taken x) (rw below refl) in
      let start : length hs - length hs ≡ 0 = omega arith in
      let last : slice_index_or (hs ++ x ∷ []) (length hs) d ≡ x =
      get_or-append_right hs (x ∷ []) (length hs) (length hs) d refl (omega arith)
      ∙ ap (λ n. slice_index_or (x ∷ []) n d) start in
      let before : remove (hs ++ x ∷ []) (length hs) ≡ hs =
      remove-append_right hs (x ∷ []) (length hs) (length hs) refl (omega arith)
      ∙ ap (λ n. hs ++ remove (x ∷ []) n) start ∙ append-nil hs in
      cc (leads, last, before);
}

-- and otherwise the least so far does
least_leads : (hs : List Held) (index : ℕ) (x : Held) → IsLeastAt hs index
    → int_lt x.1.previous (slice_index_or hs index x).1.previous ≡ false → IsLeastAt (hs ++ x ∷ []) index
least_leads hs index x least above = record {
  inside = omega (arith, least.inside, length-append hs (x ∷ []));
  taken = λ d.
      let leads : least_first (hs ++ x ∷ []) ≡ Some (slice_index_or hs index x, remove hs index ++ x ∷ []) =
      least_first-push hs x ∙ rw (least.taken x) (rw above refl) in
      cc (
        leads,
        get_or_append_left hs (x ∷ []) d index least.inside,
        get_or_default hs index d x least.inside,
        remove-append_left hs (x ∷ []) index least.inside,
      );
}

-- the least of the first batches, read where it stands among all
least_of_first : (hs : List Held) (k index : ℕ) (x y : Held) → k < length hs → y ≡ slice_index_or hs index y
    → IsLeastAt (take k hs) index → slice_index_or (take k hs) index x ≡ y
least_of_first hs k index x y inside at_index least =
    let before : index < k = omega (arith, least.inside, length-take-le k hs) in
    get_or-take k hs index x before ∙ get_or_default hs index x y (omega arith) ∙ sym at_index

-- one more of the batches is looked at, and its previous version is below the least so far
pub arrival_leads_at : (hs : List Held) (k index : ℕ) (x y : Held) → k < length hs → x ≡ slice_index_or hs k x
    → y ≡ slice_index_or hs index y
    → IsLeastAt (take k hs) index → x.1.previous <ℤ y.1.previous → IsLeastAt (take (k + 1) hs) k
arrival_leads_at hs k index x y inside at_k at_index least below =
    let len : length (take k hs) ≡ k = length-take-le k hs (omega arith) in
    let leads : IsLeastAt (take k hs ++ x ∷ []) (length (take k hs)) =
    arrival_leads (take k hs) index x least
    (rw (least_of_first hs k index x y inside at_index least) (grind (arith, ints))) in
    rw (take_more hs k x inside, ← at_k) (rw len at leads)

-- and otherwise
pub least_leads_at : (hs : List Held) (k index : ℕ) (x y : Held) → k < length hs → x ≡ slice_index_or hs k x
    → y ≡ slice_index_or hs index y
    → IsLeastAt (take k hs) index → y.1.previous ≤ℤ x.1.previous → IsLeastAt (take (k + 1) hs) index
least_leads_at hs k index x y inside at_k at_index least above =
    rw (take_more hs k x inside, ← at_k)
    (least_leads (take k hs) index x least
    (rw (least_of_first hs k index x y inside at_index least) (grind (arith, ints))))
