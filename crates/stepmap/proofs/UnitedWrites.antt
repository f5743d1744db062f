-- Writes of united ranges, and of the ranges that they unite.
use Rattle.std.proofs.Common.{◌≡◌, ◌≢◌, ℕ, ◌+◌, Bool, true, false, ◌&&◌, cond, List, [], ◌∷◌, ◌++◌, refl, sym, ◌∙◌, ap, subst, inl, inr, ◌⊎◌, arith, length, ◌<◌, get_or}
use Rattle.std.specs.Prelude.{ℤ, negsuc, ◌≤ℤ◌, ◌<ℤ◌, int_le, Any}
use Rattle.std.specs.Int.{int_max}
use Rattle.std.proofs.lemmas.Int.{ints}
use Rattle.std.proofs.lemmas.List.Sums.{sum_by-cons, sum_by-append}
use Rattle.std.proofs.lemmas.List.Elements.{All-weaker}
use Rattle.keys.specs.Range.{Holds, IsEmpty}
use Rattle.keyspace.specs.Writes.{Write, at_version}
use Rattle.keys.specs.declared.range.Range.{Range}
use Rattle.stepmap.specs.Boundary.{Boundary, below}
use Rattle.stepmap.specs.Covers.{MapCovers}
use Rattle.stepmap.specs.Rooted.{IsEndOf, Ends, AreRooted, Rooted}
use Rattle.stepmap.specs.StepMap.{Steps}
use Rattle.keys.specs.Range.{is_filled}
use Rattle.stepmap.specs.Counting.{filled_count, live_count}
use Rattle.stepmap.specs.Uniting.{IsEndIn, Unites}
use Rattle.stepmap.specs.Laws.{CountedAlong}
use Rattle.stepmap.proofs.WrittenMap.{if_some_map}
use Rattle.stepmap.proofs.Rooting.{OneEnd}
use Rattle.keys.proofs.callers.SomeElement.{Any-weaker, Any-parts, Any-left, Any-right, Any-map, Any-unmap}

abbrev at : ℤ → Range → Write
at version range = record { range = range; version = version }

-- a write of the one list or of ranges at the version, where each of these gives one of others
through : (P : Write → Type 0) (ws : List Write) (version : ℤ) (rs qs : List Range)
    → (Any (λ r. P (at version r)) rs → Any (λ r. P (at version r)) qs) → Any P (ws ++ at_version version rs)
    → Any P (ws ++ at_version version qs)
through P ws version rs qs f a =
    elim (Any-parts P ws (at_version version rs) a) [
      | inl b ↦ Any-left P ws (at_version version qs) b
      | inr b ↦ Any-right P ws (at_version version qs)
          (Any-map (at version) P qs (f (Any-unmap (at version) P rs b)))
    ]

-- a key that lies in one of the first lies in one of the second
over_there : (s version : ℤ) (key : List ℕ) (rs qs : List Range)
    → (Any (λ r. Holds r key) rs → Any (λ r. Holds r key) qs) → Any (λ r. Holds r key × (s <ℤ version)) rs
    → Any (λ r. Holds r key × (s <ℤ version)) qs
over_there s version key rs qs f a =
    Any-weaker (λ r. Holds r key) (λ r. Holds r key × (s <ℤ version)) (λ r h. (h, a.4.1)) qs
    (f (Any-weaker (λ r. Holds r key × (s <ℤ version)) (λ r. Holds r key) (λ r h. h.0) rs a))

module _ (united ranges : List Range) (u : Unites united ranges) where
  end_there : (ws : List Write) (version edge : ℤ) (key : List ℕ)
      → IsEndOf (ws ++ at_version version united) edge key
      → IsEndOf (ws ++ at_version version ranges) edge key
  end_there ws version edge key a =
      through (OneEnd edge key) ws version united ranges (λ b. from_united b.0 b.1 b.2 b.3 b.4) a
    where
      from_united : (k : ℕ) (r : Range) → k < length united → get_or united k r ≡ r
          → OneEnd edge key (at version r) → Any (λ r. OneEnd edge key (at version r)) ranges
      from_united k r lt is o =
          let ends =
          subst (λ (x : Range). IsEndIn ranges x.begin × IsEndIn ranges x.end) is (u.ends k r lt) in
          let there : IsEndIn ranges key =
          elim o.1 [
            | inl e ↦ subst (IsEndIn ranges) e ends.0
            | inr e ↦ subst
                (IsEndIn ranges) e ends.1
          ] in
          Any-weaker (λ q. ¬ IsEmpty q × ((q.begin ≡ key) ⊎ (q.end ≡ key)))
          (λ q. OneEnd edge key (at version q)) (λ q h. (h.0, h.1, o.2)) ranges there

  rooted_there : (ws : List Write) (version edge before : ℤ) (bs : List Boundary)
      → AreRooted (ws ++ at_version version united) edge before bs
      → AreRooted (ws ++ at_version version ranges) edge before bs
  rooted_there ws version edge before [] r = tt
  rooted_there ws version edge before (b ∷ bs) r = (
    λ n le. end_there ws version (int_max before b.version) b.key (r.0 n le),
    rooted_there ws version edge b.version bs r.1,
  )

  pub ends_there : (bs : List Boundary) (ws : List Write) (version edge : ℤ)
      → Ends bs (ws ++ at_version version united) edge → Ends bs (ws ++ at_version version ranges) edge
  ends_there bs ws version edge ends =
      All-weaker (λ b. b.key ≢ [] → IsEndOf (ws ++ at_version version united) edge b.key) (λ b. b.key ≢ []
      → IsEndOf (ws ++ at_version version ranges) edge b.key)
      (λ b f n. end_there ws version edge b.key (f n)) bs ends

-- writes of united ranges tell what writes of the ranges would
pub record UnitedDetermine (united ranges : List Range) : Type 0 where
  pub covers :
      (m : Steps) (ws : List Write) (version : ℤ) → MapCovers m (ws ++ at_version version united) →
      MapCovers m (ws ++ at_version version ranges)
  pub rooted :
      (m : Steps) (ws : List Write) (version : ℤ) → Rooted m (ws ++ at_version version united) →
      Rooted m (ws ++ at_version version ranges)
  pub ends :
      (bs : List Boundary) (ws : List Write) (version edge : ℤ)
      → Ends bs (ws ++ at_version version united) edge →
      Ends bs (ws ++ at_version version ranges) edge

pub uniting_determines : (united ranges : List Range) → Unites united ranges → UnitedDetermine united ranges
uniting_determines united ranges u = record {
  covers = λ m ws version covers key bytes s le.
      let P : Write → Type 0 = λ w. Holds w.range key × (s <ℤ w.version) in
      let c = covers key bytes s le in
      let held = u.holds key bytes in (
        λ above. through P ws version united ranges (over_there s version key united ranges held.0)
            (c.0 above),
        λ a. c.1 (through P ws version ranges united (over_there s version key ranges united held.1) a),
      );
  rooted = λ m ws version r. record {
    each = rooted_there united ranges u ws version m.edge (negsuc 0) m.boundaries r.each;
    passed = if_some_map m.round
        (λ round. Ends (below round.cursor m.boundaries) (ws ++ at_version version united) round.edge)
        (λ round. Ends (below round.cursor m.boundaries) (ws ++ at_version version ranges) round.edge)
        (λ round ends. ends_there united ranges u
        (below round.cursor m.boundaries) ws version round.edge ends) r.passed;
  };
  ends = ends_there united ranges u;
}

int_le_if : (a b : ℤ) → a ≤ℤ b → int_le a b ≡ true
int_le_if a b h = grind (arith, ints)

and_true : (t : Bool) → (t && true) ≡ t
and_true true = refl
and_true false = refl

-- at or above the edge, the writes that count are those of ranges that aren't empty
count_at : (edge version : ℤ) → edge ≤ℤ version → (ranges : List Range)
    → live_count edge (at_version version ranges) ≡ filled_count ranges
count_at edge version le [] = refl
count_at edge version le (r ∷ rs) =
    let f : Write → ℕ = λ w. cond (is_filled w.range && int_le edge w.version) 1 0 in
    let g : Range → ℕ = λ r. cond (is_filled r) 1 0 in
    let same : f (at version r) ≡ g r = ap (λ t. cond (is_filled r && t) 1 0) (int_le_if edge version le)
    ∙ ap (λ t. cond t 1 0) (and_true (is_filled r)) in
    sum_by-cons f (at version r) (at_version version rs)
    ∙ ap (λ n. n + live_count edge (at_version version rs)) same
    ∙ ap (λ n. g r + n) (count_at edge version le rs)
    ∙ sym (sum_by-cons g r rs)

pub counted_along : CountedAlong
counted_along edge version ws ranges le =
    let f : Write → ℕ = λ w. cond (is_filled w.range && int_le edge w.version) 1 0 in
    sum_by-append f ws (at_version version ranges)
    ∙ ap (λ n. live_count edge ws + n) (count_at edge version le ranges)
