-- What a sweep keeps of the boundaries that it comes by, and the writes from which they come.
use Rattle.std.proofs.Common.{◌≢◌, List, [], ◌∷◌, ◌++◌, refl, sym, subst, inl, inr, arith}
use Rattle.std.specs.Prelude.{ℤ, ◌≤ℤ◌}
use Rattle.std.specs.Int.{int_max}
use Rattle.std.proofs.lemmas.Int.{ints, clamps}
use Rattle.std.proofs.lemmas.List.Elements.{All-cons, All-nil}
use Rattle.keyspace.specs.Writes.{Write}
use Rattle.keys.proofs.callers.Booleans.{true_or_false}
use Rattle.boundaries.specs.Boundary.{Boundary}
use Rattle.boundaries.specs.Swept.{unexpired_boundaries}
use Rattle.stepmap.specs.Rooted.{IsEndOf, Ends, AreRooted}
use Rattle.boundaries.proofs.callers.Unexpired.{SameOrBelow, below_too, goes, goes_below, stays_above}
use Rattle.stepmap.proofs.Rooting.{end_lower}

-- where the version before changes below the edge
root_same : (ws : List Write) (edge v w : ℤ) (b : Boundary) → SameOrBelow edge v w
    → (b.key ≢ [] → edge ≤ℤ int_max v b.version → IsEndOf ws (int_max v b.version) b.key) → b.key ≢ []
    → edge ≤ℤ int_max w b.version → IsEndOf ws (int_max w b.version) b.key
root_same ws edge v w b (inl e) root n le =
    subst (λ x. IsEndOf ws (int_max x b.version) b.key) e
    (root n (subst (λ x. edge ≤ℤ int_max x b.version) (sym e) le))
root_same ws edge v w b (inr (x, y)) root n le =
    end_lower ws (int_max v b.version) (int_max w b.version) b.key (omega (arith, ints, clamps))
    (root n (omega (arith, ints, clamps)))

rooted_same : (ws : List Write) (edge v w : ℤ) (bs : List Boundary) → SameOrBelow edge v w
    → AreRooted ws edge v bs → AreRooted ws edge w bs
rooted_same ws edge v w [] h r = tt
rooted_same ws edge v w (b ∷ bs) h r = (root_same ws edge v w b h r.0, r.1)

pub unexpired_rooted : (ws : List Write) (edge v w : ℤ) (bs cs : List Boundary) → SameOrBelow edge v w
    → AreRooted ws edge v (bs ++ cs) → AreRooted ws edge w (unexpired_boundaries edge v bs ++ cs)
unexpired_rooted ws edge v w [] cs h r = rooted_same ws edge v w cs h r
unexpired_rooted ws edge v w (b ∷ bs) cs h r =
    elim (true_or_false (goes edge v b)) [
      | inl t ↦ let low = goes_below edge v b t in
          rw t (unexpired_rooted ws edge b.version w bs cs (inr (low.1, below_too edge v w h low.0)) r.1)
      | inr f ↦ rw f (
        root_same ws edge v w b h r.0,
        unexpired_rooted ws edge b.version b.version bs cs (inl refl) r.1,
      )
    ]

-- those that a sweep has left standing come from writes at or above its edge
pub unexpired_ends : (ws : List Write) (edge e v : ℤ) (bs : List Boundary) → e ≤ℤ edge → AreRooted ws edge v bs
    → Ends (unexpired_boundaries edge v bs) ws e
unexpired_ends ws edge e v [] le r = All-nil (λ b. b.key ≢ [] → IsEndOf ws e b.key)
unexpired_ends ws edge e v (b ∷ bs) le r =
    let ih = unexpired_ends ws edge e b.version bs le r.1 in
    elim (true_or_false (goes edge v b)) [
      | inl t ↦ rw t ih
      | inr f ↦
          let up = stays_above edge v b f in
          rw f (All-cons (λ b. b.key ≢ []
          → IsEndOf ws e b.key) b (unexpired_boundaries edge b.version bs)
          (λ n. end_lower ws (int_max v b.version) e b.key (omega (arith, ints)) (r.0 n up)) ih)
    ]
