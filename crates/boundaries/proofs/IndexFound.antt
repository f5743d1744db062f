-- The boundaries up to a key, and the value there.
use Rattle.std.proofs.Common.{◌≡◌, ℕ, true, false, not, List, [], ◌∷◌, ◌++◌, sym, ◌∙◌, ap, subst}
use Rattle.std.specs.Prelude.{negsuc, All}
use Rattle.std.proofs.lemmas.List.Elements.{filter_passes, All-weaker, All-head}
use Rattle.keys.specs.Key.{is_before}
use Rattle.keys.proofs.callers.KeyOrder.{before_at_most, before_at_most_same}
use Rattle.boundaries.specs.Boundary.{Boundary, last_version, value_at}
use Rattle.boundaries.proofs.Indexes.{up_to, after}
use Rattle.keys.proofs.callers.KeyOrder.{not_before_if}
use Rattle.boundaries.proofs.callers.Order.{not_before_empty}
use Rattle.boundaries.proofs.callers.Parting.{FallsAlongKeys}
use Rattle.boundaries.proofs.callers.Values.{FirstAfter, value_back, value_after}

pub up_to_falls : (key : List ℕ) → FallsAlongKeys (λ b. not (is_before key b.key))
up_to_falls key b c l h =
    ap not (not_before_if b.key key (before_at_most_same b.key key (before_at_most b.key c.key key l h)))

pub up_to_empty : (key : List ℕ) (b : Boundary) → b.key ≡ [] → not (is_before key b.key) ≡ true
up_to_empty key b e = ap not (subst (λ k. is_before key k ≡ false) (sym e) (not_before_empty key))

-- the value at a key is the last version up to it
pub value_up_to : (bs : List Boundary) (key : List ℕ) → bs ≡ up_to key bs ++ after key bs
    → value_at bs key ≡ last_version (negsuc 0) (up_to key bs)
value_up_to bs key e =
    ap (λ xs. value_at xs key) e
    ∙ value_back (negsuc 0) (up_to key bs) (after key bs) key
    (All-weaker (λ b. not (is_before key b.key) ≡ true) (λ b. is_before key b.key ≡ false)
    (λ b h. not_before_if b.key key h) (up_to key bs) (filter_passes (λ b. not (is_before key b.key)) bs))
    ∙ value_after (last_version (negsuc 0) (up_to key bs)) (after key bs) key
    (first_of (after key bs) (filter_passes (λ b. is_before key b.key) bs))
  where
    first_of : (ys : List Boundary) → All (λ b. is_before key b.key ≡ true) ys → FirstAfter key ys
    first_of [] a = tt
    first_of (y ∷ ys) a = All-head (λ b. is_before key b.key ≡ true) y ys a
