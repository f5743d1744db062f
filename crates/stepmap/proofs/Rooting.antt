-- Boundaries that come from begins and ends of ranges, for lists in parts and for more writes.
use Rattle.std.proofs.Common.{◌≡◌, ◌≢◌, ℕ, List, [], ◌∷◌, ◌++◌, ◌⊎◌, arith}
use Rattle.std.specs.Prelude.{ℤ, ◌≤ℤ◌}
use Rattle.std.specs.Int.{int_max}
use Rattle.std.proofs.lemmas.Int.{ints}
use Rattle.std.proofs.lemmas.List.Elements.{All-weaker}
use Rattle.keys.specs.Range.{IsEmpty}
use Rattle.keyspace.specs.Writes.{Write}
use Rattle.stepmap.specs.Boundary.{Boundary, last_version}
use Rattle.stepmap.specs.Rooted.{IsEndOf, Ends, AreRooted}
use Rattle.keys.proofs.callers.SomeElement.{Any-weaker, Any-longer}

abbrev pub OneEnd : ℤ → List ℕ → Write → Type 0
OneEnd version key w = ¬ IsEmpty w.range × ((w.range.begin ≡ key) ⊎ (w.range.end ≡ key))
    × (version ≤ℤ w.version)

-- at a lower version too
pub end_lower : (ws : List Write) (v w : ℤ) (key : List ℕ) → w ≤ℤ v → IsEndOf ws v key → IsEndOf ws w key
end_lower ws v w key le h =
    Any-weaker (OneEnd v key) (OneEnd w key)
    (λ x o. (o.0, o.1, (let top : v ≤ℤ x.version = o.2 in omega (arith, ints)))) ws h

pub end_longer : (ws : List Write) (w : Write) (v : ℤ) (key : List ℕ) → IsEndOf ws v key
    → IsEndOf (ws ++ w ∷ []) v key
end_longer ws w v key h = Any-longer (OneEnd v key) ws w h

pub ends_longer : (ws : List Write) (w : Write) (edge : ℤ) (bs : List Boundary) → Ends bs ws edge
    → Ends bs (ws ++ w ∷ []) edge
ends_longer ws w edge bs h = All-weaker (λ b. b.key ≢ [] → IsEndOf ws edge b.key) (λ b. b.key ≢ []
    → IsEndOf (ws ++ w ∷ []) edge b.key) (λ b f n. end_longer ws w edge b.key (f n)) bs h

pub rooted_longer : (ws : List Write) (w : Write) (edge v : ℤ) (bs : List Boundary) → AreRooted ws edge v bs
    → AreRooted (ws ++ w ∷ []) edge v bs
rooted_longer ws w edge v [] h = tt
rooted_longer ws w edge v (b ∷ bs) h =
    (λ n le. end_longer ws w (int_max v b.version) b.key (h.0 n le), rooted_longer ws w edge b.version bs h.1)

-- a later edge asks for less
pub rooted_raise : (ws : List Write) (edge later v : ℤ) (bs : List Boundary) → edge ≤ℤ later
    → AreRooted ws edge v bs → AreRooted ws later v bs
rooted_raise ws edge later v [] le h = tt
rooted_raise ws edge later v (b ∷ bs) le h =
    (λ n l. h.0 n (omega (arith, ints)), rooted_raise ws edge later b.version bs le h.1)

pub rooted_front : (ws : List Write) (edge v : ℤ) (xs ys : List Boundary) → AreRooted ws edge v (xs ++ ys)
    → AreRooted ws edge v xs
rooted_front ws edge v [] ys h = tt
rooted_front ws edge v (x ∷ xs) ys h = (h.0, rooted_front ws edge x.version xs ys h.1)

pub rooted_back : (ws : List Write) (edge v : ℤ) (xs ys : List Boundary) → AreRooted ws edge v (xs ++ ys)
    → AreRooted ws edge (last_version v xs) ys
rooted_back ws edge v [] ys h = h
rooted_back ws edge v (x ∷ xs) ys h = rooted_back ws edge x.version xs ys h.1

pub rooted_join : (ws : List Write) (edge v : ℤ) (xs ys : List Boundary) → AreRooted ws edge v xs
    → AreRooted ws edge (last_version v xs) ys → AreRooted ws edge v (xs ++ ys)
rooted_join ws edge v [] ys h k = k
rooted_join ws edge v (x ∷ xs) ys h k = (h.0, rooted_join ws edge x.version xs ys h.1 k)
