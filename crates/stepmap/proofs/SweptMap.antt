-- What holds of a step map after a sweep.
use Rattle.std.proofs.Common.{
  ◌≡◌,
  ◌≢◌,
  ℕ,
  ◌+◌,
  ◌≤◌,
  ◌<◌,
  List,
  [],
  ◌∷◌,
  length,
  drop,
  refl,
  sym,
  ◌∙◌,
  ap,
  subst,
  append-nil,
  arith,
  length-drop,
}
use Rattle.std.specs.Prelude.{ℤ, negsuc, ◌≤ℤ◌, All, Option, Some, None, IfSome}
use Rattle.std.proofs.lemmas.Int.{ints}
use Rattle.std.proofs.lemmas.List.Elements.{All-filter, All-drop, All-head, All-nil}
use Rattle.keys.specs.Key.{IsKey}
use Rattle.keyspace.specs.Writes.{Write}
use Rattle.stepmap.specs.Boundary.{Boundary, value_at, below}
use Rattle.stepmap.specs.StepMap.{Round, Steps, IsRound, AreSteps}
use Rattle.stepmap.specs.Sweeping.{cursor_of, round_edge, is_left, left_from, rest, round_at, after_sweep}
use Rattle.stepmap.specs.Covers.{SameFrom}
use Rattle.stepmap.specs.Rooted.{IsEndOf, Ends, Rooted}
use Rattle.boundaries.proofs.callers.Order.{not_empty_if_after}
use Rattle.boundaries.proofs.callers.WritingOrder.{below_empty}
use Rattle.boundaries.proofs.callers.Unexpired.{same_above}
use Rattle.boundaries.proofs.callers.LeftFrom.{below_middle, left_middle}
use Rattle.boundaries.proofs.callers.Sweeps.{swept_has, swept_shorter, swept_in_order, swept_values, stands}
use Rattle.stepmap.proofs.Sweeps.{swept_rooted, passed_now_ends}

-- the edge with which the round began isn't above the map's
pub round_edge_low : (edge : ℤ) (round : Option Round) → IfSome round (IsRound edge)
    → round_edge edge round ≤ℤ edge
round_edge_low edge None h = omega (arith, ints)
round_edge_low edge (Some r) h = h.began

-- what was passed before, where a round is under way; else nothing was
pub passed_before : (ws : List Write) (edge : ℤ) (bs : List Boundary) (round : Option Round)
    → IfSome round (λ r. Ends (below r.cursor bs) ws r.edge)
    → Ends (below (cursor_of round) bs) ws (round_edge edge round)
passed_before ws edge bs None h =
    subst (λ xs. Ends xs ws edge) (sym (below_empty bs)) (All-nil (λ b. b.key ≢ [] → IsEndOf ws edge b.key))
passed_before ws edge bs (Some r) h = h

module _ (count : ℕ) (m : Steps) (h : AreSteps m) where
  round_for : (ds : List Boundary) → drop count (left_from (cursor_of m.round) m.boundaries) ≡ ds
      → IfSome (round_at (round_edge m.edge m.round) ds) (IsRound m.edge)
  round_for [] e = tt
  round_for (c ∷ cs) e =
      let s = stands m.edge (cursor_of m.round) count m.boundaries h.boundaries.in_order c cs e in
      let keys =
      All-drop (λ b. IsKey b.key) count (left_from (cursor_of m.round) m.boundaries)
      (All-filter (is_left (cursor_of m.round)) (λ b. IsKey b.key) m.boundaries h.boundaries.keys) in
      record {
        key = All-head (λ b. IsKey b.key) c cs (subst (All (λ b. IsKey b.key)) e keys);
        later = not_empty_if_after c.key [] s.filled;
        began = round_edge_low m.edge m.round h.round;
      }

  pub swept_steps : AreSteps (after_sweep count m)
  swept_steps =
      record {
        boundaries = record {
          in_order = swept_in_order m.edge (cursor_of m.round) count m.boundaries h.boundaries.in_order;
          keys = swept_has m.edge (cursor_of m.round) count (λ b. IsKey b.key) m.boundaries h.boundaries.keys;
          versions =
              swept_has m.edge (cursor_of m.round) count
              (λ b. negsuc 0 ≤ℤ b.version) m.boundaries h.boundaries.versions;
        };
        round = round_for (drop count (left_from (cursor_of m.round) m.boundaries)) refl;
        within = (let shorter =
            swept_shorter m.edge (cursor_of m.round) count m.boundaries h.boundaries.in_order in
            omega (arith, h.within));
        limit = h.limit;
      }

  pub swept_count : length (after_sweep count m).boundaries ≤ length m.boundaries
  swept_count = swept_shorter m.edge (cursor_of m.round) count m.boundaries h.boundaries.in_order

  pub swept_ends_stay : (ws : List Write) (e : ℤ) → Ends m.boundaries ws e
      → Ends (after_sweep count m).boundaries ws e
  swept_ends_stay ws e ends = swept_has m.edge (cursor_of m.round) count (λ b. b.key ≢ []
      → IsEndOf ws e b.key) m.boundaries ends

  pub swept_same : SameFrom m.edge (value_at m.boundaries) (value_at (after_sweep count m).boundaries)
  swept_same key bytes s le =
      same_above m.edge _ _
      (swept_values m.edge (cursor_of m.round) count m.boundaries key h.boundaries.in_order) s le

  passed_for : (ws : List Write) → Rooted m ws → (ds : List Boundary)
      → drop count (left_from (cursor_of m.round) m.boundaries) ≡ ds
      → IfSome (round_at (round_edge m.edge m.round) ds)
      (λ r. Ends (below r.cursor (after_sweep count m).boundaries) ws r.edge)
  passed_for ws r [] e = tt
  passed_for ws r (c ∷ cs) e =
      let e0 = round_edge m.edge m.round in
      let s = stands m.edge (cursor_of m.round) count m.boundaries h.boundaries.in_order c cs e in
      let ends =
      passed_now_ends m.edge (cursor_of m.round) count ws e0 m.boundaries h.boundaries.in_order
      (round_edge_low m.edge m.round h.round) r.each
      (passed_before ws m.edge m.boundaries m.round r.passed) in
      subst (λ xs. Ends (below c.key xs) ws e0) (sym s.is)
      (subst (λ xs. Ends xs ws e0) (sym (below_middle c _ cs s.before s.after ∙ append-nil _)) ends)

  pub swept_map_rooted : (ws : List Write) → Rooted m ws → Rooted (after_sweep count m) ws
  swept_map_rooted ws r =
      record {
        each = swept_rooted m.edge (cursor_of m.round) count ws m.boundaries h.boundaries.in_order r.each;
        passed = passed_for ws r (drop count (left_from (cursor_of m.round) m.boundaries)) refl;
      }

none_if_short : (n : ℕ) (xs : List Boundary) → length xs ≤ n → drop n xs ≡ []
none_if_short n xs le = elim_length (drop n xs) (omega (arith, length-drop n xs))
  where
    elim_length : (ys : List Boundary) → length ys ≤ 0 → ys ≡ []
    elim_length [] l = refl
    elim_length (y ∷ ys) l = absurd (omega arith)

module _ (count : ℕ) (m : Steps) (h : AreSteps m) where
  pub swept_ends : rest m ≤ count → (ws : List Write) → Rooted m ws
      → Ends (after_sweep count m).boundaries ws (round_edge m.edge m.round)
  swept_ends few ws r =
      let e0 = round_edge m.edge m.round in
      let none = none_if_short count (left_from (cursor_of m.round) m.boundaries) few in
      let ends =
      passed_now_ends m.edge (cursor_of m.round) count ws e0 m.boundaries h.boundaries.in_order
      (round_edge_low m.edge m.round h.round) r.each
      (passed_before ws m.edge m.boundaries m.round r.passed) in
      rw (none, append-nil) ends

  pub swept_round : rest m ≤ count → (after_sweep count m).round ≡ None
  swept_round few =
      ap (round_at (round_edge m.edge m.round))
      (none_if_short count (left_from (cursor_of m.round) m.boundaries) few)

  rest_for : (ds : List Boundary) → drop count (left_from (cursor_of m.round) m.boundaries) ≡ ds
      → 0 < length ds
      → length (left_from (cursor_of (round_at (round_edge m.edge m.round) ds))
      (after_sweep count m).boundaries) ≡ length ds
  rest_for [] e lt = absurd (omega arith)
  rest_for (c ∷ cs) e lt =
      let s = stands m.edge (cursor_of m.round) count m.boundaries h.boundaries.in_order c cs e in
      ap (λ xs. length (left_from c.key xs)) s.is ∙ ap length (left_middle c _ cs s.before s.after s.filled)

  pub swept_rest : count < rest m → rest (after_sweep count m) + count ≡ rest m
  swept_rest more =
      let left = left_from (cursor_of m.round) m.boundaries in
      let e = rest_for (drop count left) refl (omega (arith, length-drop count left)) in
      omega (arith, length-drop count left, e)
