-- Lemmas for callers: maps whose keys are a proxy and a version each.
use Rattle.std.proofs.Common.{◌≡◌, ℕ, ℤ, cond, ◌&&◌, ◌==◌, List, [], ◌∷◌, Some, refl, ap, ◌∙◌}
use Rattle.std.specs.declared.cmp.Ordering.{Ordering}
use Rattle.std.specs.Ordering.{nat_cmp, int_cmp, int_eq, ordering_then}
use Rattle.std.specs.Cmp.{IsTotalOrder, eq_by_cmp_equiv, nat_cmp_total, int_cmp_total}
use Rattle.std.specs.BTreeMap as tree
use Rattle.std.specs.BTreeMap.{BTreeMap, is_at}
use Rattle.std.specs.FinMap as map
use Rattle.std.specs.Map.{lookup}
use Rattle.std.proofs.lemmas.Bool.Decides.{Decides-and, Decides-eqb, Decides-int_eq, same_from_decides}
use Rattle.std.proofs.lemmas.Cmp.{on_total, then_total}
use Rattle.std.proofs.lemmas.Map.Lookups.{CmpEqualImpliesEq, exact_pairs, exact_unsigned, exact_signed}
use Rattle.std.proofs.lemmas.Map.Views.{tells_apart}

-- by proxy, and then by version
abbrev pub key_cmp : ℕ × ℤ → ℕ × ℤ → Ordering
key_cmp a b = ordering_then (nat_cmp a.0 b.0) (int_cmp a.1 b.1)

-- keys that compare alike are one
pub keys_exact : CmpEqualImpliesEq key_cmp
keys_exact = exact_pairs nat_cmp int_cmp exact_unsigned exact_signed

pub keys_total : IsTotalOrder key_cmp
keys_total = then_total (on_total (λ p. p.0) nat_cmp_total) (on_total (λ p. p.1) int_cmp_total)

-- a key is the one of this proxy and this version exactly if both are
pub is_at-pair : (a p : ℕ) (b v : ℤ) → is_at (key_cmp (a, b)) (p, v) ≡ ((a == p) && int_eq b v)
is_at-pair a p b v = same_from_decides _ _ (
  λ h. let same : (a, b) ≡ (p, v) = tells_apart keys_exact (a, b) (p, v) h in
      (ap (λ q. q.0) same, ap (λ q. q.1) same),
  λ same. rw (same.0, same.1) ((eq_by_cmp_equiv keys_total).refl (p, v)),
)
    (Decides-and (a == p) (int_eq b v) (Decides-eqb a p) (Decides-int_eq b v))

find_key : {V : Type 0} (es : List ((ℕ × ℤ) × V)) (q : ℕ × ℤ) → map.find key_cmp q es ≡ lookup (is_at (key_cmp q)) es
find_key [] q = refl
find_key (e ∷ es) q = ap (cond (is_at (key_cmp q) e.0) (Some e.1)) (find_key es q)

-- the finite map of some entries has what the tree of these has
pub get-from_tree : {V : Type 0} (m : BTreeMap (ℕ × ℤ) V) (q : ℕ × ℤ)
    → map.get (map.from_entries {R = key_cmp} m.entries) q ≡ tree.get key_cmp m q
get-from_tree m q = map.get-from_entries keys_total m.entries q ∙ find_key m.entries q
