-- What is kept at each key: in a `BTreeMap`, and in the finite map of its entries.
use Rattle.std.proofs.Common.{◌≡◌, ℕ, ℤ, Bool, true, false, cond, ◌&&◌, ◌==◌, List, [], Option, Some, refl, sym, ap, ◌∙◌}
use Rattle.std.specs.Ordering.{int_eq}
use Rattle.std.specs.BTreeMap as tree
use Rattle.std.specs.BTreeMap.{BTreeMap, is_at}
use Rattle.std.specs.FinMap as map
use Rattle.std.specs.Map.{lookup}
use Rattle.replay_explanations.specs.Explainer.{Texts, key_cmp, text_of, text_or_none}
use Rattle.keyspace.proofs.callers.ProxyVersions.{get-from_tree, is_at-pair}

-- the finite map of some entries
abbrev pub map_of : BTreeMap (ℕ × ℤ) (List ℕ) → Texts
map_of m = map.from_entries m.entries

get-map_of : (m : BTreeMap (ℕ × ℤ) (List ℕ)) (q : ℕ × ℤ) → map.get (map_of m) q ≡ tree.get key_cmp m q
get-map_of m q = get-from_tree m q

-- nothing is kept in an empty map
pub none_kept : (m : BTreeMap (ℕ × ℤ) (List ℕ)) (proxy : ℕ) (version : ℤ) → m.entries ≡ [] → text_of (map_of m) proxy version ≡ []
none_kept m proxy version none =
    ap text_or_none (get-map_of m (proxy, version) ∙ ap (lookup (is_at (key_cmp (proxy, version)))) none)

or_none_if : (b : Bool) (text : List ℕ) (o : Option (List ℕ))
    → text_or_none (cond b (Some text) o) ≡ cond b text (text_or_none o)
or_none_if true text o = refl
or_none_if false text o = refl

-- a text was put at the key of this proxy and this version
pub text_put : (m n : BTreeMap (ℕ × ℤ) (List ℕ)) (before : Texts) (proxy : ℕ) (given version : ℤ) (put text : List ℕ)
    → map_of m ≡ before → given ≡ version → put ≡ text
    → ((q : ℕ × ℤ) → tree.get key_cmp n q ≡ cond (is_at (key_cmp (proxy, given)) q) (Some put) (tree.get key_cmp m q))
    → (p : ℕ) (v : ℤ)
    → text_of (map_of n) p v ≡ cond ((proxy == p) && int_eq version v) text (text_of before p v)
text_put m n before proxy given version put text is same same_text updated p v =
    ap text_or_none (get-map_of n (p, v) ∙ updated (p, v))
    ∙ or_none_if (is_at (key_cmp (proxy, given)) (p, v)) put (tree.get key_cmp m (p, v))
    ∙ ap (λ b. cond b put (text_or_none (tree.get key_cmp m (p, v)))) (is_at-pair proxy p given v)
    ∙ ap (λ (z : ℤ). cond ((proxy == p) && int_eq z v) put (text_or_none (tree.get key_cmp m (p, v)))) same
    ∙ ap (λ (x : List ℕ). cond ((proxy == p) && int_eq version v) x (text_or_none (tree.get key_cmp m (p, v)))) same_text
    ∙ ap (λ (o : Option (List ℕ)). cond ((proxy == p) && int_eq version v) text (text_or_none o)) (sym (get-map_of m (p, v)))
    ∙ ap (λ (texts : Texts). cond ((proxy == p) && int_eq version v) text (text_of texts p v)) is

-- what a look-up finds
pub text_found : (m : BTreeMap (ℕ × ℤ) (List ℕ)) (texts : Texts) (proxy : ℕ) (given version : ℤ) (o : Option (List ℕ))
    → map_of m ≡ texts → given ≡ version → o ≡ tree.get key_cmp m (proxy, given) → text_or_none o ≡ text_of texts proxy version
text_found m texts proxy given version o is same found =
    ap text_or_none
    (found ∙ ap (λ (z : ℤ). tree.get key_cmp m (proxy, z)) same ∙ sym (get-map_of m (proxy, version)))
    ∙ ap (λ (x : Texts). text_of x proxy version) is
