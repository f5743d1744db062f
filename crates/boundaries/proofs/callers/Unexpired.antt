-- Lemmas for callers: which of the boundaries that a sweep looks at it keeps.
use Rattle.std.proofs.Common.{
  ◌≡◌,
  ℕ,
  Bool,
  true,
  false,
  ◌&&◌,
  List,
  [],
  ◌∷◌,
  ◌++◌,
  refl,
  sym,
  subst,
  inl,
  inr,
  ◌⊎◌,
  ◌≤◌,
  length,
  arith,
}
use Rattle.std.specs.Prelude.{ℤ, ◌≤ℤ◌, ◌<ℤ◌, ◌↔◌, int_lt, All}
use Rattle.std.specs.Int.{int_max}
use Rattle.std.proofs.lemmas.Int.{ints, clamps}
use Rattle.std.proofs.lemmas.List.Elements.{All-head, All-tail, All-cons, All-nil}
use Rattle.keys.specs.Key.{is_before}
use Rattle.keys.proofs.callers.Booleans.{true_or_false, and_left, and_right}
use Rattle.boundaries.specs.Boundary.{Boundary, RiseFrom, value_from, last_version}
use Rattle.boundaries.specs.Swept.{unexpired_boundaries, unexpired_all}
use Rattle.boundaries.proofs.callers.Order.{rise_lower}
use Rattle.boundaries.proofs.callers.Values.{value_after, first_after_rising}

-- the same, or both below the edge
abbrev pub SameOrBelow : ℤ → ℤ → ℤ → Type 0
SameOrBelow edge a b = (a ≡ b) ⊎ ((a <ℤ edge) × (b <ℤ edge))

pub same_above : (edge a b : ℤ) → SameOrBelow edge a b → (s : ℤ) → edge ≤ℤ s → (s <ℤ a) ↔ (s <ℤ b)
same_above edge a b (inl e) s le = (λ h. subst (λ x. s <ℤ x) e h, λ h. subst (λ x. s <ℤ x) (sym e) h)
same_above edge a b (inr (x, y)) s le = (λ h. absurd (omega (arith, ints)), λ h. absurd (omega (arith, ints)))

pub below_too : (edge a b : ℤ) → SameOrBelow edge a b → a <ℤ edge → b <ℤ edge
below_too edge a b (inl e) l = subst (λ x. x <ℤ edge) e l
below_too edge a b (inr (x, y)) l = y

pub lt_from_test : (a b : ℤ) → int_lt a b ≡ true → a <ℤ b
lt_from_test a b h = grind (arith, ints)

pub le_from_test : (a b : ℤ) → int_lt a b ≡ false → b ≤ℤ a
le_from_test a b h = grind (arith, ints)

-- whether a boundary goes
abbrev pub goes : ℤ → ℤ → Boundary → Bool
goes edge before b = int_lt before edge && int_lt b.version edge

pub goes_below : (edge before : ℤ) (b : Boundary) → goes edge before b ≡ true
    → (before <ℤ edge) × (b.version <ℤ edge)
goes_below edge before b h = (
  lt_from_test before edge (and_left (int_lt before edge) (int_lt b.version edge) h),
  lt_from_test b.version edge (and_right (int_lt before edge) (int_lt b.version edge) h),
)

stays_by : (edge before version : ℤ) (s t : Bool) → int_lt before edge ≡ s → int_lt version edge ≡ t
    → (s && t) ≡ false → edge ≤ℤ int_max before version
stays_by edge before version false t p q h = let l = le_from_test before edge p in omega (arith, ints, clamps)
stays_by edge before version true false p q h = let l = le_from_test version edge q in
    omega (arith, ints, clamps)
stays_by edge before version true true p q h = cc

pub stays_above : (edge before : ℤ) (b : Boundary) → goes edge before b ≡ false
    → edge ≤ℤ int_max before b.version
stays_above edge before b h = stays_by edge before b.version _ _ refl refl h

-- what all have, those that stay have
pub unexpired_has : (P : Boundary → Type 0) (edge before : ℤ) (bs : List Boundary) → All P bs
    → All P (unexpired_boundaries edge before bs)
unexpired_has P edge before [] a = All-nil P
unexpired_has P edge before (b ∷ bs) a =
    let ih = unexpired_has P edge b.version bs (All-tail P b bs a) in
    elim (true_or_false (goes edge before b)) [
      | inl t ↦ rw t ih
      | inr f ↦ rw f
          (All-cons P b (unexpired_boundaries edge b.version bs) (All-head P b bs a) ih)
    ]

pub unexpired_shorter : (edge before : ℤ) (bs : List Boundary) → length (unexpired_boundaries edge before bs) ≤ length bs
unexpired_shorter edge before [] = omega arith
unexpired_shorter edge before (b ∷ bs) =
    let ih = unexpired_shorter edge b.version bs in
    elim (true_or_false (goes edge before b)) [ inl t ↦ rw t (omega arith) | inr f ↦ rw f (omega arith) ]

pub unexpired_rises : (edge before : ℤ) (k : List ℕ) (bs cs : List Boundary) → RiseFrom k (bs ++ cs)
    → RiseFrom k (unexpired_boundaries edge before bs ++ cs)
unexpired_rises edge before k [] cs r = r
unexpired_rises edge before k (b ∷ bs) cs r =
    let ih = unexpired_rises edge b.version b.key bs cs r.1 in
    elim (true_or_false (goes edge before b)) [
      | inl t ↦ rw t
          (rise_lower k b.key (unexpired_boundaries edge b.version bs ++ cs) r.0 ih)
      | inr f ↦ rw f (r.0, ih)
    ]

value_same : (edge v w : ℤ) (bs : List Boundary) (key : List ℕ) → SameOrBelow edge v w
    → SameOrBelow edge (value_from v bs key) (value_from w bs key)
value_same edge v w [] key h = h
value_same edge v w (b ∷ bs) key h =
    elim (true_or_false (is_before key b.key)) [ inl t ↦ rw t h | inr f ↦ rw f (inl refl) ]

-- each value is the same or stays below the edge
pub unexpired_values : (edge v w : ℤ) (k key : List ℕ) (bs cs : List Boundary) → SameOrBelow edge v w
    → RiseFrom k (bs ++ cs)
    → SameOrBelow edge (value_from v (bs ++ cs) key) (value_from w (unexpired_boundaries edge v bs ++ cs) key)
unexpired_values edge v w k key [] cs h r = value_same edge v w cs key h
unexpired_values edge v w k key (b ∷ bs) cs h r =
    elim (true_or_false (goes edge v b)) [
      | inl t ↦
          let low = goes_below edge v b t in
          elim (true_or_false (is_before key b.key)) [
            | inl l ↦
                let e = value_after w (unexpired_boundaries edge b.version bs ++ cs) key
                (first_after_rising b.key key (unexpired_boundaries edge b.version bs ++ cs)
                (unexpired_rises edge b.version b.key bs cs r.1) l) in
                rw (t, l) (subst (λ x. SameOrBelow edge v x) (sym e) h)
            | inr g ↦ rw (
              t,
              g,
            ) (unexpired_values edge b.version w b.key key bs cs
                (inr (low.1, below_too edge v w h low.0)) r.1)
          ]
      | inr f ↦ elim (true_or_false (is_before key b.key)) [
        | inl l ↦ rw (f, l) h
        | inr g ↦ rw (f, g) (unexpired_values edge b.version b.version b.key key bs cs (inl refl) r.1)
      ]
    ]

-- values of lists that begin alike
pub values_after : (edge v : ℤ) (key : List ℕ) (ps bs cs : List Boundary)
    → SameOrBelow edge (value_from (last_version v ps) bs key) (value_from (last_version v ps) cs key)
    → SameOrBelow edge (value_from v (ps ++ bs) key) (value_from v (ps ++ cs) key)
values_after edge v key [] bs cs h = h
values_after edge v key (p ∷ ps) bs cs h =
    elim (true_or_false (is_before key p.key)) [
      | inl t ↦ rw t (inl refl)
      | inr f ↦ rw f
          (values_after edge p.version key ps bs cs h)
    ]

not_below_itself : (edge : ℤ) → int_lt edge edge ≡ false
not_below_itself edge = grind (arith, ints)

-- all boundaries are swept where the version before the first isn't below the edge
pub all_unexpired : (edge : ℤ) (bs : List Boundary) → unexpired_boundaries edge edge bs ≡ unexpired_all edge bs
all_unexpired edge [] = refl
all_unexpired edge (b ∷ bs) = rw (not_below_itself edge) refl

pub all_shorter : (edge : ℤ) (bs : List Boundary) → length (unexpired_all edge bs) ≤ length bs
all_shorter edge [] = omega arith
all_shorter edge (b ∷ bs) = omega (arith, unexpired_shorter edge b.version bs)
