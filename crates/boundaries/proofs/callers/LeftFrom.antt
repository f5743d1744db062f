-- Lemmas for callers: the boundaries that a sweep has not yet looked at.
use Rattle.std.proofs.Common.{
  ◌≡◌,
  ℕ,
  ◌≤◌,
  Bool,
  true,
  false,
  not,
  List,
  [],
  ◌∷◌,
  ◌++◌,
  length,
  filter,
  refl,
  sym,
  ◌∙◌,
  ap,
  subst,
  inl,
  inr,
  arith,
}
use Rattle.std.specs.Prelude.{All}
use Rattle.std.proofs.lemmas.List.Elements.{All-head, All-tail, filter-append}
use Rattle.keys.specs.Key.{is_before, IsBefore}
use Rattle.keys.proofs.callers.KeyOrder.{before_trans, at_most_before, before_at_most_same, not_before_itself}
use Rattle.keys.proofs.callers.Booleans.{
  true_or_false,
  and_left,
  and_right,
  and_both,
  false_unless,
  not_both_ways,
}
use Rattle.boundaries.specs.Boundary.{Boundary, RiseFrom, below}
use Rattle.boundaries.specs.Swept.{is_left, left_from, passed_to}
use Rattle.keys.proofs.callers.KeyOrder.{not_before_if}
use Rattle.boundaries.proofs.callers.Order.{Rising, rise_above, not_before_empty}
use Rattle.boundaries.proofs.callers.Parting.{FallsAlongKeys, parted}

pub not_not : (t : Bool) → t ≡ not (not t)
not_not true = refl
not_not false = refl

pub left_later : (cursor : List ℕ) (b c : Boundary) → IsBefore b.key c.key → is_left cursor b ≡ true
    → is_left cursor c ≡ true
left_later cursor b c l h =
    and_both (is_before [] c.key) (not (is_before c.key cursor))
    (before_trans [] b.key c.key (and_left (is_before [] b.key) (not (is_before b.key cursor)) h) l)
    (before_at_most_same cursor c.key
    (at_most_before cursor b.key c.key
    (and_right (is_before [] b.key) (not (is_before b.key cursor)) h) l))

pub passed_falls : (cursor : List ℕ) → FallsAlongKeys (λ b. not (is_left cursor b))
passed_falls cursor b c l h =
    ap not (false_unless (is_left cursor b)
    (λ k. not_both_ways (not (is_left cursor c)) h (ap not (left_later cursor b c l k))))

pub parted_left : (cursor : List ℕ) (bs : List Boundary) → Rising bs
    → bs ≡ passed_to cursor bs ++ left_from cursor bs
parted_left cursor bs r =
    parted (λ b. not (is_left cursor b)) (is_left cursor) (λ b. not_not (is_left cursor b))
    (passed_falls cursor) bs r

-- the empty key counts as passed
pub empty_passed : (cursor : List ℕ) (b : Boundary) → b.key ≡ [] → is_left cursor b ≡ false
empty_passed cursor b e =
    let f : is_before [] b.key ≡ false = subst (λ k. is_before [] k ≡ false) (sym e) (not_before_empty []) in
    rw f refl

pub filter_yes : (p : Boundary → Bool) (bs : List Boundary) → All (λ b. p b ≡ true) bs → filter p bs ≡ bs
filter_yes p [] a = refl
filter_yes p (b ∷ bs) a = let t = All-head (λ b. p b ≡ true) b bs a in
    rw t (ap (λ xs. b ∷ xs) (filter_yes p bs (All-tail (λ b. p b ≡ true) b bs a)))

pub filter_no : (p : Boundary → Bool) (bs : List Boundary) → All (λ b. p b ≡ false) bs → filter p bs ≡ []
filter_no p [] a = refl
filter_no p (b ∷ bs) a = let f = All-head (λ b. p b ≡ false) b bs a in
    rw f (filter_no p bs (All-tail (λ b. p b ≡ false) b bs a))

-- tests that agree keep the same
pub filter_same : {X : Type 0} (p q : X → Bool) (xs : List X) → All (λ x. p x ≡ q x) xs → filter p xs ≡ filter q xs
filter_same p q [] a = refl
filter_same p q (x ∷ xs) a =
    let e = All-head (λ x. p x ≡ q x) x xs a in
    let i = filter_same p q xs (All-tail (λ x. p x ≡ q x) x xs a) in
    elim (true_or_false (q x)) [
      | inl t ↦ let t' : p x ≡ true = e ∙ t in rw (t', t) (ap (λ ys. x ∷ ys) i)
      | inr f ↦ let f' : p x ≡ false = e ∙ f in rw (f', f) i
    ]

-- a test that asks for more keeps fewer
pub filter_shorter : (p q : Boundary → Bool) → ((b : Boundary) → p b ≡ true → q b ≡ true)
    → (bs : List Boundary) → length (filter p bs) ≤ length (filter q bs)
filter_shorter p q f [] = omega arith
filter_shorter p q f (b ∷ bs) =
    let ih = filter_shorter p q f bs in
    elim (true_or_false (p b)) [
      | inl t ↦ rw (t, f b t) (omega arith)
      | inr n ↦ elim (true_or_false (q b)) [ inl t ↦ rw (n, t) (omega arith) | inr m ↦ rw (n, m) ih ]
    ]

map_all : (P Q : Boundary → Type 0) → ((b : Boundary) → P b → Q b) → (bs : List Boundary) → All P bs
    → All Q bs
map_all P Q f bs a k d lt = f _ (a k d lt)

-- what comes before a boundary, and what is left from its key on
module _ (c : Boundary) (xs cs : List Boundary) (before : All (λ x. IsBefore x.key c.key) xs)
    (after : RiseFrom c.key cs) where
  pub below_middle : below c.key (xs ++ c ∷ cs) ≡ xs ++ []
  below_middle =
      let p : Boundary → Bool = λ b. is_before b.key c.key in
      let none =
      filter_no p cs (map_all (λ b. IsBefore c.key b.key) (λ b. p b ≡ false)
      (λ b l. not_before_if c.key b.key (before_at_most_same c.key b.key l)) cs
      (rise_above c.key cs after)) in
      filter-append p xs (c ∷ cs)
      ∙ rw (not_before_itself c.key, none) (ap (λ ys. ys ++ []) (filter_yes p xs before))

  pub left_middle : IsBefore [] c.key → left_from c.key (xs ++ c ∷ cs) ≡ c ∷ cs
  left_middle filled =
      let p : Boundary → Bool = is_left c.key in
      let here : p c ≡ true =
      and_both (is_before [] c.key) (not (is_before c.key c.key)) filled
      (ap not (not_before_itself c.key)) in
      let none =
      filter_no p xs (map_all (λ b. IsBefore b.key c.key) (λ b. p b ≡ false)
      (λ b l. false_unless (p b)
      (λ h. not_both_ways _ l
      (not_before_if c.key b.key (and_right (is_before [] b.key) (not (is_before b.key c.key)) h)))) xs
      before) in
      let all =
      filter_yes p cs (map_all (λ b. IsBefore c.key b.key) (λ b. p b ≡ true)
      (λ b l. left_later c.key c b l here) cs (rise_above c.key cs after)) in
      filter-append p xs (c ∷ cs) ∙ rw (none, here) (ap (λ ys. c ∷ ys) all)
