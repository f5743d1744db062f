-- Places, in sequence, each above the one before it.
use Rattle.std.proofs.Common.{◌≡◌, ℕ, ◌+◌, ◌<◌, ◌≤◌, ℤ, pos, negsuc, Bool, cond, ◌&&◌, ltb, leb, List, [], ◌∷◌, ◌++◌, length, drop, get_or, Option, Some, None, inl, inr, refl, sym, ap, subst, ◌∙◌}
use Rattle.std.proofs.lemmas.Bool.{and_parts, leb-true, ltb-true, cases_Bool}
use Rattle.std.proofs.lemmas.List.{drop_all}
use Rattle.json.specs.Json.{Items, no_items, item}
use Rattle.json.specs.Value.{value_view, items_view}
use Rattle.json.specs.declared.value.Value.{Value}
use Rattle.keyspace.specs.Places.{ArePlaces}
use Rattle.wire.proofs.callers.Places.{RiseFrom, are_places}
use Rattle.json_lines.specs.Values.{◌>>=◌, number_in}
use Rattle.json_lines.specs.Replies.{place_from, place_in, rising}
use Rattle.json_lines.proofs.Reading.{with_front, continues_with, all_read, rest_at}

pub rising_on : {A : Type 0} (least : ℕ) (front : List ℕ) (vs : List (Value A)) (i : ℕ) (x : Value A) (place : ℕ)
    (total : Option (List ℕ)) → i < length vs → x ≡ get_or vs i x → place_in least (value_view x) ≡ Some place
    → with_front front (rising least (items_view (drop i vs))) ≡ total
    → with_front (front ++ place ∷ []) (rising (place + 1) (items_view (drop (i + 1) vs))) ≡ total
unfolding rising
rising_on {A} least front vs i x place total lt is read so_far =
    let rest = items_view (drop (i + 1) vs) in
    let step : with_front front (rising least (items_view (drop i vs)))
    ≡ with_front (front ++ place ∷ []) (rising (place + 1) rest) =
    ap (λ (ws : List (Value A)). with_front front (rising least (items_view ws))) (rest_at vs i x lt is)
    ∙ ap (λ (o : Option ℕ). with_front front (o >>= λ p. rising (p + 1) rest >>= λ ps. Some (p ∷ ps))) read
    ∙ continues_with front place (rising (place + 1) rest) in
    sym step ∙ so_far

pub rising_ends : {A : Type 0} (least : ℕ) (front : List ℕ) (vs : List (Value A)) (i : ℕ) (x : Value A)
    (total : Option (List ℕ)) → i < length vs → x ≡ get_or vs i x → place_in least (value_view x) ≡ None
    → with_front front (rising least (items_view (drop i vs))) ≡ total → total ≡ None
unfolding rising
rising_ends {A} least front vs i x total lt is refused so_far =
    let rest = items_view (drop (i + 1) vs) in
    let step : with_front front (rising least (items_view (drop i vs))) ≡ None =
    ap (λ (ws : List (Value A)). with_front front (rising least (items_view ws))) (rest_at vs i x lt is)
    ∙ ap (λ (o : Option ℕ). with_front front (o >>= λ p. rising (p + 1) rest >>= λ ps. Some (p ∷ ps))) refused in
    sym so_far ∙ step

pub rising_done : {A : Type 0} (least : ℕ) (front : List ℕ) (vs : List (Value A)) (i : ℕ) (total : Option (List ℕ))
    → length vs ≤ i → with_front front (rising least (items_view (drop i vs))) ≡ total → total ≡ Some front
unfolding rising
rising_done {A} least front vs i total le so_far =
    let step : with_front front (rising least (items_view (drop i vs))) ≡ Some front =
    ap (λ (ws : List (Value A)). with_front front (rising least (items_view ws))) (drop_all i vs le) ∙ all_read front in
    sym so_far ∙ step

-- ---- what is read rises

from_least : (least : ℕ) (n : ℤ) (p : ℕ) → place_from least n ≡ Some p → (least ≤ p) × (p < 1024)
from_least least (pos n) p e =
    elim (cases_Bool (leb least n && ltb n 1024)) [
      | inl ok ↦
          let q = and_parts _ _ ok in
          let same : Some n ≡ Some p = ap (λ (b : Bool). cond b (Some n) None) (sym ok) ∙ e in
          let is : n ≡ p = cc in
          (subst (λ (k : ℕ). least ≤ k) is (leb-true least n q.0), subst (λ (k : ℕ). k < 1024) is (ltb-true n 1024 q.1))
      | inr fails ↦
          let none : None ≡ Some p = ap (λ (b : Bool). cond b (Some n) None) (sym fails) ∙ e in
          absurd cc
    ]
from_least least (negsuc n) p e = absurd cc

-- the value of a step that gave one
bind_some : {A B : Type 0} (o : Option A) (f : A → Option B) (y : B) → (o >>= f) ≡ Some y → (x : A) × (o ≡ Some x) × (f x ≡ Some y)
bind_some (Some x) f y e = (x, refl, e)
bind_some None f y e = absurd cc

rises : (least : ℕ) (js : Items) (ps : List ℕ) → rising least js ≡ Some ps → RiseFrom least ps
unfolding rising
rises least no_items ps e = let is : [] ≡ ps = cc in subst (RiseFrom least) is tt
rises least (item j js) ps e =
    let first = bind_some (place_in least j) (λ p. rising (p + 1) js >>= λ qs. Some (p ∷ qs)) ps e in
    let others = bind_some (rising (first.0 + 1) js) (λ qs. Some (first.0 ∷ qs)) ps first.2 in
    let number = bind_some (number_in j) (place_from least) first.0 first.1 in
    let at = from_least least number.0 first.0 number.2 in
    let is : first.0 ∷ others.0 ≡ ps = cc in
    subst (RiseFrom least) is (at.0, at.1, rises (first.0 + 1) js others.0 others.1)

pub read_places : (js : Items) (ps : List ℕ) → rising 0 js ≡ Some ps → ArePlaces ps
read_places js ps e = are_places ps (rises 0 js ps e)
