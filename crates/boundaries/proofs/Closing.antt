-- The boundary that closes a written range: one is put at its end unless one stands there.
use Rattle.std.proofs.Common.{◌≡◌, ◌≢◌, ℕ, ◌&&◌, true, false, not, List, [], ◌∷◌, filter, get_or, refl, sym, ◌∙◌, ap, subst, inl, inr, ◌⊎◌}
use Rattle.std.specs.Prelude.{ℤ, All, Any}
use Rattle.std.proofs.lemmas.List.Elements.{All-head, All-cons, All-nil, All-filter, All-weaker, filter_passes}
use Rattle.keys.specs.Key.{is_before, IsBefore, IsAtMost}
use Rattle.keys.proofs.callers.Booleans.{true_or_false, and_left, and_right, not_both_ways}
use Rattle.keys.proofs.callers.KeyOrder.{before_at_most_same, before_or_same, not_before_if, not_before_itself}
use Rattle.keys.proofs.callers.SomeElement.{Any-cases, Any-none, Any-first, Any-later}
use Rattle.boundaries.specs.Boundary.{Boundary, AreInOrder, below, from_on}
use Rattle.boundaries.proofs.Indexes.{up_to}
use Rattle.boundaries.specs.Written.{closed_at}
use Rattle.boundaries.proofs.callers.InTurn.{get_or_twice}
use Rattle.boundaries.proofs.callers.Order.{Rising, rising_from, rising_in_order, rise_above, empty_unless_after, not_empty_if_after}
use Rattle.boundaries.proofs.callers.LeftFrom.{filter_same}

none_of : {X : Type 0} (P : X → Type 0) (xs : List X) → All (λ x. ¬ P x) xs → ¬ Any P xs
none_of P xs all a = all a.0 a.1 a.2 (subst P (sym a.3) a.4)

-- a key after one isn't the empty key
pub after_empty : (j k : List ℕ) → IsBefore j k → is_before [] k ≡ true
after_empty j k l =
    elim (true_or_false (is_before [] k)) [
      | inl t ↦ t
      | inr f ↦ absurd (not_empty_if_after k j l (empty_unless_after k f))
    ]

-- some boundary comes before a key that isn't the first of all
pub some_below : (begin key : List ℕ) → IsBefore begin key → (bs : List Boundary) → AreInOrder bs → below key bs ≢ []
some_below begin key l [] o e = absurd o
some_below begin key l (b ∷ bs) o e =
    let t : is_before b.key key ≡ true = ap (λ k. is_before k key) o.0 ∙ after_empty begin key l in
    let k : b ∷ below key bs ≡ [] = rw t at e in cc

-- a key that isn't this one comes before it or after it
apart : (k key : List ℕ) → k ≢ key → not (is_before key k) ≡ is_before k key
apart k key other =
    elim (true_or_false (is_before key k)) [
      | inl t ↦ ap not t ∙ sym (not_before_if key k (before_at_most_same key k t))
      | inr f ↦
          let at_most : not (is_before key k) ≡ true = ap not f in
          elim (before_or_same k key at_most) [ inl l ↦ at_most ∙ sym l | inr e ↦ absurd (other e) ]
    ]

-- the boundaries at a key
abbrev pub standing_at : List ℕ → List Boundary → List Boundary
standing_at key bs = filter (λ b. not (is_before b.key key) && not (is_before key b.key)) bs

module _ (key : List ℕ) where
  -- none stands there where there are none
  pub none_at : (bs : List Boundary) → standing_at key bs ≡ [] → ¬ Any (λ b. b.key ≡ key) bs
  none_at bs none = none_of (λ (b : Boundary). b.key ≡ key) bs (each bs none)
    where
      same : (k : List ℕ) → k ≡ key → (not (is_before k key) && not (is_before key k)) ≡ true
      same k e =
          let n : is_before key key ≡ false = not_before_itself key in
          let f : is_before k key ≡ false = ap (λ k. is_before k key) e ∙ n in
          let g : is_before key k ≡ false = ap (λ k. is_before key k) e ∙ n in
          rw (f, g) refl

      each : (bs : List Boundary) → standing_at key bs ≡ [] → All (λ b. ¬ (b.key ≡ key)) bs
      each [] none = All-nil (λ (b : Boundary). ¬ (b.key ≡ key))
      each (b ∷ bs) none =
          let Apart = λ (b : Boundary). ¬ (b.key ≡ key) in
          elim (true_or_false (not (is_before b.key key) && not (is_before key b.key))) [
            | inl t ↦ absurd (let k : b ∷ standing_at key bs ≡ [] = rw t at none in cc)
            | inr f ↦
                let later : standing_at key bs ≡ [] = rw f at none in
                All-cons Apart b bs (λ e. not_both_ways _ (same b.key e) f) (each bs later)
          ]

  -- and else one does
  pub some_at : (bs : List Boundary) → standing_at key bs ≢ [] → Any (λ b. b.key ≡ key) bs
  some_at [] some = absurd (some refl)
  some_at (b ∷ bs) some =
      let At = λ (b : Boundary). b.key ≡ key in
      elim (true_or_false (not (is_before b.key key) && not (is_before key b.key))) [
        | inl t ↦ Any-first At b bs (same b.key (and_left _ _ t) (and_right _ _ t))
        | inr f ↦ Any-later At b bs (some_at bs (λ none. some (let k : standing_at key (b ∷ bs) ≡ [] = rw f none in k)))
      ]
    where
      same : (k : List ℕ) → IsAtMost key k → IsAtMost k key → k ≡ key
      same k le ge = elim (before_or_same key k le) [
        | inl l ↦ absurd (not_both_ways _ ge (ap not l))
        | inr e ↦ sym e
      ]

  there_or_gap : (bs : List Boundary) → Any (λ b. b.key ≡ key) bs ⊎ ¬ Any (λ b. b.key ≡ key) bs
  there_or_gap bs = of_standing (standing_at key bs) refl
    where
      of_standing : (xs : List Boundary) → standing_at key bs ≡ xs
          → Any (λ b. b.key ≡ key) bs ⊎ ¬ Any (λ b. b.key ≡ key) bs
      of_standing [] e = inr (none_at bs e)
      of_standing (x ∷ xs) e = inl (some_at bs (λ none. let k : x ∷ xs ≡ [] = sym e ∙ none in cc))

  -- the first of those from the key on where a boundary stands is that boundary
  pub closed_there : (w : ℤ) (bs : List Boundary) → Rising bs → Any (λ b. b.key ≡ key) bs
      → closed_at key w (from_on key bs) ≡ from_on key bs
  closed_there w [] r a = absurd (Any-none (λ (b : Boundary). b.key ≡ key) a)
  closed_there w (b ∷ bs) r a =
      elim (true_or_false (is_before b.key key)) [
        | inl t ↦ elim (Any-cases (λ (b : Boundary). b.key ≡ key) b bs a) [
          | inl e ↦ absurd (not_both_ways _ t (ap (λ k. is_before k key) e ∙ not_before_itself key))
          | inr later ↦ rw t (closed_there w bs (rising_from b.key bs r) later)
        ]
        | inr f ↦
            let here : is_before key b.key ≡ false =
            elim (Any-cases (λ (b : Boundary). b.key ≡ key) b bs a) [
              | inl e ↦ ap (is_before key) e ∙ not_before_itself key
              | inr later ↦
                  let other : All (λ c. ¬ (c.key ≡ key)) bs =
                  All-weaker (λ c. IsBefore b.key c.key) (λ c. ¬ (c.key ≡ key))
                  (λ c l e. not_both_ways _ l (ap (is_before b.key) e ∙ f)) bs (rise_above b.key bs r) in
                  absurd (none_of (λ (b : Boundary). b.key ≡ key) bs other later)
            ] in
            rw (f, here) refl
      ]

  module _ (bs : List Boundary) (gap : ¬ Any (λ b. b.key ≡ key) bs) where
    others : All (λ b. b.key ≢ key) bs
    others k d lt e = gap (k, get_or bs k d, lt, sym (get_or_twice bs k d lt), e)

    pub up_to_below : up_to key bs ≡ below key bs
    up_to_below =
        let p = λ (b : Boundary). not (is_before key b.key) in
        let q = λ (b : Boundary). is_before b.key key in
        filter_same p q bs
        (All-weaker (λ b. b.key ≢ key) (λ b. p b ≡ q b) (λ b other. apart b.key key other) bs others)

    all_after : All (λ b. IsBefore key b.key) (from_on key bs)
    all_after k d lt = strictly
        (filter_passes (λ b. not (is_before b.key key)) bs k d lt)
        (All-filter (λ b. not (is_before b.key key)) (λ b. b.key ≢ key) bs others k d lt)
      where
        strictly : {k : List ℕ} → IsAtMost key k → k ≢ key → IsBefore key k
        strictly {k} l other = elim (before_or_same key k l) [ inl m ↦ m | inr e ↦ absurd (other (sym e)) ]

    -- where none stands there, one is put before the others
    pub closed_gap : (w : ℤ) → closed_at key w (from_on key bs) ≡ record { key = key; version = w } ∷ from_on key bs
    closed_gap w = before (from_on key bs) all_after
      where
        before : (bs : List Boundary) → All (λ b. IsBefore key b.key) bs
            → closed_at key w bs ≡ record { key = key; version = w } ∷ bs
        before [] a = refl
        before (b ∷ bs) a = let l = All-head (λ (b : Boundary). IsBefore key b.key) b bs a in rw l refl

  -- its version counts only where none stands there
  pub closed_same : (v w : ℤ) (bs : List Boundary) → AreInOrder bs → (¬ Any (λ b. b.key ≡ key) bs → v ≡ w)
      → closed_at key v (from_on key bs) ≡ closed_at key w (from_on key bs)
  closed_same v w bs order same =
      elim (there_or_gap bs) [
        | inl there ↦
            closed_there v bs (rising_in_order bs order) there ∙ sym (closed_there w bs (rising_in_order bs order) there)
        | inr gap ↦ ap (λ (u : ℤ). closed_at key u (from_on key bs)) (same gap)
      ]
