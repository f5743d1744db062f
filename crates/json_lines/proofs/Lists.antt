-- Items of an array, in sequence.
use Rattle.std.proofs.Common.{◌≡◌, ◌≢◌, ℕ, suc, ◌+◌, ◌<◌, ◌≤◌, cond, List, [], ◌∷◌, ◌++◌, length, drop, get_or, Option, Some, None, refl, sym, ap, ◌∙◌, arith, leb}
use Rattle.std.proofs.lemmas.Bool.{le-leb, lt-leb}
use Rattle.std.proofs.lemmas.List.{drop_all}
use Rattle.json.specs.Json.{Json, Items}
use Rattle.json.specs.Value.{value_view, items_view}
use Rattle.json.specs.declared.value.Value.{Value}
use Rattle.json_lines.specs.Values.{◌>>=◌, each, count}
use Rattle.json_lines.specs.Ranges.{pair_in}
use Rattle.json_lines.proofs.Reading.{with_front, continues_with, all_read, rest_at}

pub count_items : {A : Type 0} (vs : List (Value A)) → count (items_view vs) ≡ length vs
count_items [] = refl
count_items (v ∷ vs) = ap suc (count_items vs)

-- the items are few enough
pub few : {A : Type 0} (limit : ℕ) (o : Option Items) (vs : List (Value A)) → o ≡ Some (items_view vs) → length vs ≤ limit
    → (o >>= λ js. cond (leb (count js) limit) (Some js) None) ≡ Some (items_view vs)
few limit o vs e le =
    rw e (ap (λ b. cond b (Some (items_view vs)) None) (le-leb (count (items_view vs)) limit (omega (arith, count_items vs, le))))

-- one more item is read
pub each_on : {A Y : Type 0} (one : Json → Option Y) (front : List Y) (vs : List (Value A)) (i : ℕ) (x : Value A) (y : Y)
    (total : Option (List Y)) → i < length vs → x ≡ get_or vs i x → one (value_view x) ≡ Some y
    → with_front front (each one (items_view (drop i vs))) ≡ total
    → with_front (front ++ y ∷ []) (each one (items_view (drop (i + 1) vs))) ≡ total
unfolding each
each_on {A} {Y} one front vs i x y total lt is read so_far =
    let others = each one (items_view (drop (i + 1) vs)) in
    let step : with_front front (each one (items_view (drop i vs))) ≡ with_front (front ++ y ∷ []) others =
    ap (λ (ws : List (Value A)). with_front front (each one (items_view ws))) (rest_at vs i x lt is)
    ∙ ap (λ (o : Option Y). with_front front (o >>= λ a. others >>= λ rest. Some (a ∷ rest))) read
    ∙ continues_with front y others in
    sym step ∙ so_far

-- an item is refused
pub each_ends : {A Y : Type 0} (one : Json → Option Y) (front : List Y) (vs : List (Value A)) (i : ℕ) (x : Value A)
    (total : Option (List Y)) → i < length vs → x ≡ get_or vs i x → one (value_view x) ≡ None
    → with_front front (each one (items_view (drop i vs))) ≡ total → total ≡ None
unfolding each
each_ends {A} {Y} one front vs i x total lt is refused so_far =
    let others = each one (items_view (drop (i + 1) vs)) in
    let step : with_front front (each one (items_view (drop i vs))) ≡ None =
    ap (λ (ws : List (Value A)). with_front front (each one (items_view ws))) (rest_at vs i x lt is)
    ∙ ap (λ (o : Option Y). with_front front (o >>= λ a. others >>= λ rest. Some (a ∷ rest))) refused in
    sym so_far ∙ step

-- all items are read
pub each_done : {A Y : Type 0} (one : Json → Option Y) (front : List Y) (vs : List (Value A)) (i : ℕ)
    (total : Option (List Y)) → length vs ≤ i
    → with_front front (each one (items_view (drop i vs))) ≡ total → total ≡ Some front
unfolding each
each_done {A} one front vs i total le so_far =
    let step : with_front front (each one (items_view (drop i vs))) ≡ Some front =
    ap (λ (ws : List (Value A)). with_front front (each one (items_view ws))) (drop_all i vs le) ∙ all_read front in
    sym so_far ∙ step

-- the items are too many
pub too_many : {A : Type 0} (limit : ℕ) (o : Option Items) (vs : List (Value A)) → o ≡ Some (items_view vs) → limit < length vs
    → (o >>= λ js. cond (leb (count js) limit) (Some js) None) ≡ None
too_many limit o vs e lt =
    rw e (ap (λ b. cond b (Some (items_view vs)) None) (lt-leb (count (items_view vs)) limit (omega (arith, count_items vs, lt))))

-- other than two items are no pair
pub not_pair : {A : Type 0} (vs : List (Value A)) → length vs ≢ 2 → pair_in (items_view vs) ≡ None
unfolding pair_in
not_pair [] other = refl
not_pair (a ∷ []) other = refl
not_pair (a ∷ b ∷ []) other = absurd (other refl)
not_pair (a ∷ b ∷ c ∷ vs) other = refl
