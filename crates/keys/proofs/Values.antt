-- The values of a function, and what they are of.
use Rattle.std.proofs.Common.{◌≡◌, ℕ, ◌<◌, List, [], ◌∷◌, length, get_or, map, sym, ap, subst, ◌∙◌, arith}
use Rattle.std.specs.Prelude.{Contains}
use Rattle.std.proofs.lemmas.List.{get_or-map, length-map}
use Rattle.std.proofs.lemmas.List.Elements.{Contains-get_or}
use Rattle.keys.specs.declared.range.Range.{Range}
use Rattle.keys.specs.declared.gap_runs.begin_sort.HeadedIndex.{HeadedIndex}
use Rattle.keys.specs.Sorting.{begin_at, begins_of, indices_of}

pub contains_value : {X Y : Type 0} (f : X → Y) (xs : List X) (x : X) → Contains xs x → Contains (map f xs) (f x)
contains_value f xs x c = (c.0, rw (length-map xs f) c.1, get_or-map f xs c.0 x (f x) c.1 ∙ ap f c.2)

pub value_of : {X Y : Type 0} (f : X → Y) (xs : List X) (y : Y) → Contains (map f xs) y
    → (x : X) × Contains xs x × (f x ≡ y)
value_of f [] y c = absurd (omega (arith, c.1))
value_of f (x ∷ xs) y c =
    let lt : c.0 < length (x ∷ xs) = rw (length-map (x ∷ xs) f) at c.1 in (
      get_or (x ∷ xs) c.0 x,
      Contains-get_or (x ∷ xs) c.0 x lt,
      sym (get_or-map f (x ∷ xs) c.0 x y lt) ∙ c.2,
    )

-- the begin at an index that is listed is one of the begins
pub begin_of_listed : (ranges : List Range) (headed : List HeadedIndex) (index : ℕ) → Contains (indices_of headed) index
    → Contains (begins_of ranges headed) (begin_at ranges index)
begin_of_listed ranges headed index c =
    let h = value_of (λ (x : HeadedIndex). x.index) headed index c in
    subst (λ i. Contains (begins_of ranges headed) (begin_at ranges i)) h.2
    (contains_value (λ (x : HeadedIndex). begin_at ranges x.index) headed h.0 h.1)
