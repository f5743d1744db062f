-- Boundaries that are begins and ends of writes are at most two for each of these, and the empty key.
use Rattle.std.proofs.Common.{◌≡◌, ◌≢◌, ℕ, ◌+◌, ◌*◌, ◌≤◌, Bool, true, false, ◌&&◌, ◌||◌, List, [], ◌∷◌, length, get_or, filter, refl, ◌∙◌, ap, subst, inl, inr, arith, cond, zero-add}
use Rattle.std.specs.Prelude.{ℤ, ◌≤ℤ◌, int_le, All}
use Rattle.std.proofs.lemmas.List.Sums.{sum_by-cons}
use Rattle.std.proofs.lemmas.Int.{ints}
use Rattle.std.proofs.lemmas.List.Elements.{All-head, All-tail, All-filter, filter_passes, All-weaker}
use Rattle.keys.specs.Key.{is_before, IsBefore}
use Rattle.keyspace.specs.Writes.{Write}
use Rattle.keys.proofs.callers.KeyOrder.{not_before_itself, at_most_antisym}
use Rattle.keys.proofs.callers.Booleans.{true_or_false, not_both_ways, or_right, and_both}
use Rattle.stepmap.specs.Boundary.{Boundary, AreBoundaries}
use Rattle.stepmap.specs.Rooted.{IsEndOf, Ends}
use Rattle.keys.specs.Range.{is_filled}
use Rattle.stepmap.specs.Counting.{live_count}
use Rattle.boundaries.proofs.callers.Order.{
  Rising,
  rising_from,
  rising_filter,
  rise_above,
  not_empty_if_after,
  at_most_if,
}
use Rattle.boundaries.proofs.callers.WritingValues.{begins_before_end}
use Rattle.stepmap.proofs.Rooting.{OneEnd}
use Rattle.keys.proofs.callers.SomeElement.{Any-cases, Any-none}

-- whether the boundary is at another key
abbrev is_elsewhere : List ℕ → Boundary → Bool
is_elsewhere key b = is_before b.key key || is_before key b.key

or_neither : (s t : Bool) → (s || t) ≡ false → (s ≡ false) × (t ≡ false)
or_neither true t h = cc
or_neither false t h = (refl, h)

same_if_not : (key : List ℕ) (b : Boundary) → is_elsewhere key b ≡ false → b.key ≡ key
same_if_not key b h =
    let n = or_neither (is_before b.key key) (is_before key b.key) h in
    at_most_antisym b.key key (at_most_if b.key key n.1) (at_most_if key b.key n.0)

not_elsewhere : (key : List ℕ) (b : Boundary) → is_elsewhere key b ≡ true → key ≡ b.key → ⊥
not_elsewhere key b h e =
    not_both_ways (is_elsewhere b.key b) (subst (λ k. is_elsewhere k b ≡ true) e h)
    (rw (not_before_itself b.key) refl)

filter_entire : (p : Boundary → Bool) (bs : List Boundary) → All (λ b. p b ≡ true) bs → filter p bs ≡ bs
filter_entire p [] a = refl
filter_entire p (b ∷ bs) a =
    rw (All-head (λ b. p b ≡ true) b bs a)
    (ap (λ xs. b ∷ xs) (filter_entire p bs (All-tail (λ b. p b ≡ true) b bs a)))

-- as keys rise, at most one boundary is at the key
one_there : (key : List ℕ) (bs : List Boundary) → Rising bs
    → length bs ≤ length (filter (is_elsewhere key) bs) + 1
one_there key [] r = omega arith
one_there key (b ∷ bs) r =
    let ih = one_there key bs (rising_from b.key bs r) in
    elim (true_or_false (is_elsewhere key b)) [
      | inl t ↦ rw t (omega arith)
      | inr f ↦
          let e = same_if_not key b f in
          let after : All (λ c. is_elsewhere key c ≡ true) bs =
          All-weaker (λ c. IsBefore b.key c.key) (λ c. is_elsewhere key c ≡ true)
          (λ c l. or_right (is_before c.key key) (is_before key c.key)
          (subst (λ k. is_before k c.key ≡ true) e l)) bs (rise_above b.key bs r) in
          let entire = filter_entire (is_elsewhere key) bs after in
          rw (f, entire) (omega arith)
    ]

int_le_if : (a b : ℤ) → a ≤ℤ b → int_le a b ≡ true
int_le_if a b h = grind (arith, ints)

counted_first : (edge : ℤ) (w : Write) (ws : List Write) → (is_filled w.range && int_le edge w.version) ≡ true
    → live_count edge (w ∷ ws) ≡ 1 + live_count edge ws
counted_first edge w ws t =
    let f : Write → ℕ = λ w. cond (is_filled w.range && int_le edge w.version) 1 0 in
    let one : f w ≡ 1 = ap (λ t. cond t 1 0) t in
    sum_by-cons f w ws ∙ ap (λ n. n + live_count edge ws) one

not_counted_first : (edge : ℤ) (w : Write) (ws : List Write)
    → (is_filled w.range && int_le edge w.version) ≡ false → live_count edge (w ∷ ws) ≡ live_count edge ws
not_counted_first edge w ws t =
    let f : Write → ℕ = λ w. cond (is_filled w.range && int_le edge w.version) 1 0 in
    let none : f w ≡ 0 = ap (λ t. cond t 1 0) t in
    sum_by-cons f w ws ∙ ap (λ n. n + live_count edge ws) none ∙ zero-add (live_count edge ws)

-- an end of some write that isn't live is an end of another
pub few_ends : (edge : ℤ) (ws : List Write) (bs : List Boundary) → Rising bs
    → All (λ b. IsEndOf ws edge b.key) bs → length bs ≤ 2 * live_count edge ws
few_ends edge [] [] r a = omega arith
few_ends edge [] (b ∷ bs) r a =
    absurd (Any-none (OneEnd edge b.key) (All-head (λ b. IsEndOf [] edge b.key) b bs a))
few_ends edge (w ∷ ws) bs r a =
    elim (true_or_false (is_filled w.range && int_le edge w.version)) [
      | inl t ↦
          let p = is_elsewhere w.range.begin in
          let q = is_elsewhere w.range.end in
          let cs = filter p bs in
          let ds = filter q cs in
          let one = one_there w.range.begin bs r in
          let two = one_there w.range.end cs (rising_filter p bs r) in
          let of_all =
          All-filter q (λ b. IsEndOf (w ∷ ws) edge b.key) cs
          (All-filter p (λ b. IsEndOf (w ∷ ws) edge b.key) bs a) in
          let not_begin = All-filter q (λ b. p b ≡ true) cs (filter_passes p bs) in
          let not_end = filter_passes q cs in
          let others : All (λ b. IsEndOf ws edge b.key) ds =
          λ k d lt. elim (Any-cases (OneEnd edge (get_or ds k d).key) w ws (of_all k d lt)) [
            | inl o ↦ absurd (elim o.1 [
              | inl e ↦ not_elsewhere w.range.begin (get_or ds k d) (not_begin k d lt) e
              | inr e ↦ not_elsewhere w.range.end (get_or ds k d) (not_end k d lt) e
            ])
            | inr b ↦ b
          ] in
          let ih = few_ends edge ws ds (rising_filter q cs (rising_filter p bs r)) others in
          let more = counted_first edge w ws t in
          omega (arith, more)
      | inr f ↦
          let others : All (λ b. IsEndOf ws edge b.key) bs =
          λ k d lt. elim (Any-cases (OneEnd edge (get_or bs k d).key) w ws (a k d lt)) [
            | inl o ↦ absurd (not_both_ways (is_filled w.range && int_le edge w.version)
                (and_both (is_filled w.range) (int_le edge w.version) (begins_before_end w.range o.0)
                (int_le_if edge w.version o.2)) f)
            | inr b ↦ b
          ] in
          let ih = few_ends edge ws bs r others in
          let as_many = not_counted_first edge w ws f in
          omega (arith, as_many)
    ]

-- the empty key's boundary, and two for each live write
pub few_boundaries : (bs : List Boundary) (ws : List Write) (edge : ℤ) → AreBoundaries bs → Ends bs ws edge
    → length bs ≤ 1 + 2 * live_count edge ws
few_boundaries [] ws edge h ends = omega arith
few_boundaries (b ∷ bs) ws edge h ends =
    let rises = h.in_order.1 in
    let after : All (λ c. IsBefore b.key c.key) bs = rise_above b.key bs rises in
    let later = All-tail (λ c. c.key ≢ [] → IsEndOf ws edge c.key) b bs ends in
    let each : All (λ c. IsEndOf ws edge c.key) bs =
    λ k d lt. later k d lt (not_empty_if_after (get_or bs k d).key b.key (after k d lt)) in
    let few = few_ends edge ws bs (rising_from b.key bs rises) each in
    omega (arith, few)
