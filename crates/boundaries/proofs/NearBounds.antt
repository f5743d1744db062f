-- Two bounds in one leaf: the target begins alike, and the first one is no farther on.
use Rattle.std.proofs.Common.{◌≡◌, ℕ, ◌≤◌, Bool, true, List, length, take, filter, sym, ◌∙◌, ap}
use Rattle.std.proofs.lemmas.List.{take-take}
use Rattle.boundaries.specs.declared.entry.NodeEntry.{NodeEntry}
use Rattle.boundaries.proofs.FromLast.{fewer_before}

-- what begins alike does so as far as fewer bytes
pub fewer_equal : (fewer n : ℕ) (a b : List ℕ) → fewer ≤ n → take n a ≡ take n b → take fewer a ≡ take fewer b
fewer_equal fewer n a b le same = sym (take-take fewer n a le) ∙ ap (take fewer) same ∙ take-take fewer n b le

-- no more are below the first bound than the second
pub no_more : (p q : ℕ → Bool) → ((key : ℕ) → p key ≡ true → q key ≡ true) → (es : List NodeEntry)
    → length (filter (λ e. p e.key) es) ≤ length (filter (λ e. q e.key) es)
no_more p q nested es = fewer_before _ _ (λ (e : NodeEntry). nested e.key) es
