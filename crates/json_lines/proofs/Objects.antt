-- The members of an object, in sequence.
use Rattle.std.proofs.Common.{◌≡◌, ℕ, ◌+◌, ◌-◌, ◌<◌, ◌≤◌, Bool, true, false, not, ◌||◌, ◌&&◌, List, length, take, drop, get_or, map, sym, ap, ◌∙◌, arith, Vec}
use Rattle.std.specs.Borrow.{Bor}
use Rattle.std.specs.List.{list_any}
use Rattle.std.specs.Str.{bytes_eq}
use Rattle.std.proofs.lemmas.Bool.{and_right}
use Rattle.std.proofs.lemmas.List.{drop_all, take_all, length-drop}
use Rattle.json.specs.Json.{object}
use Rattle.json.specs.Value.{value_view, members_view}
use Rattle.json.specs.declared.value.Value.{Value, Object}
use Rattle.json.proofs.Trees.{view-Object}
use Rattle.json_lines.specs.Values.{has_member, are_among}
use Rattle.json_lines.proofs.Reading.{rest_at}

pub view_object : {A : Type 0} → (v : Vec (Bor (List ℕ) × Value A) A) → value_view (Object v) ≡ object (members_view v.items)
view_object v = view-Object v

-- one more of a list is looked at
pub any_at : {X Y : Type 0} (test : Y → Bool) (f : X → Y) (xs : List X) (i : ℕ) (x : X) → i < length xs → x ≡ get_or xs i x
    → list_any test (map f (drop i xs)) ≡ (test (f x) || list_any test (map f (drop (i + 1) xs)))
any_at {X} test f xs i x lt is = ap (λ (ys : List X). list_any test (map f ys)) (rest_at xs i x lt is)

-- one more member is looked at
pub has_at : {A : Type 0} (name : List ℕ) (ms : List (Bor (List ℕ) × Value A)) (i : ℕ) (m : Bor (List ℕ) × Value A)
    → i < length ms → m ≡ get_or ms i m
    → has_member name (members_view (drop i ms)) ≡ (bytes_eq m.0.now name || has_member name (members_view (drop (i + 1) ms)))
has_at {A} name ms i m lt is =
    ap (λ (ns : List (Bor (List ℕ) × Value A)). has_member name (members_view ns)) (rest_at ms i m lt is)

pub among_at : {A : Type 0} (names : List (List ℕ)) (ms : List (Bor (List ℕ) × Value A)) (i : ℕ) (m : Bor (List ℕ) × Value A)
    → i < length ms → m ≡ get_or ms i m
    → are_among names (members_view (drop i ms)) ≡ (list_any (bytes_eq m.0.now) names
    && (not (has_member m.0.now (members_view (drop (i + 1) ms))) && are_among names (members_view (drop (i + 1) ms))))
unfolding are_among
among_at {A} names ms i m lt is =
    ap (λ (ns : List (Bor (List ℕ) × Value A)). are_among names (members_view ns)) (rest_at ms i m lt is)

-- a member of another name
pub unknown_ends : {A : Type 0} (names : List (List ℕ)) (ms : List (Bor (List ℕ) × Value A)) (i : ℕ) (m : Bor (List ℕ) × Value A)
    (total : Bool) → i < length ms → m ≡ get_or ms i m → list_any (bytes_eq m.0.now) names ≡ false
    → are_among names (members_view (drop i ms)) ≡ total → total ≡ false
unknown_ends names ms i m total lt is unknown so_far =
    sym so_far ∙ among_at names ms i m lt is
    ∙ ap (λ (b : Bool). b && (not (has_member m.0.now (members_view (drop (i + 1) ms))) && are_among names (members_view (drop (i + 1) ms)))) unknown

-- a member of a name that comes again
pub doubled_ends : {A : Type 0} (names : List (List ℕ)) (ms : List (Bor (List ℕ) × Value A)) (i : ℕ) (m : Bor (List ℕ) × Value A)
    (total : Bool) → i < length ms → m ≡ get_or ms i m → has_member m.0.now (members_view (drop (i + 1) ms)) ≡ true
    → are_among names (members_view (drop i ms)) ≡ total → total ≡ false
doubled_ends names ms i m total lt is again so_far =
    sym so_far ∙ among_at names ms i m lt is
    ∙ and_right (list_any (bytes_eq m.0.now) names) _
    (ap (λ (b : Bool). not b && are_among names (members_view (drop (i + 1) ms))) again)

-- a member of a right name, which doesn't come again
pub among_on : {A : Type 0} (names : List (List ℕ)) (ms : List (Bor (List ℕ) × Value A)) (i : ℕ) (m : Bor (List ℕ) × Value A)
    (total : Bool) → i < length ms → m ≡ get_or ms i m → list_any (bytes_eq m.0.now) names ≡ true
    → has_member m.0.now (members_view (drop (i + 1) ms)) ≡ false
    → are_among names (members_view (drop i ms)) ≡ total → are_among names (members_view (drop (i + 1) ms)) ≡ total
among_on names ms i m total lt is known once so_far =
    let rest = are_among names (members_view (drop (i + 1) ms)) in
    let step : are_among names (members_view (drop i ms)) ≡ rest =
    among_at names ms i m lt is
    ∙ ap (λ (b : Bool). b && (not (has_member m.0.now (members_view (drop (i + 1) ms))) && rest)) known
    ∙ ap (λ (b : Bool). not b && rest) once in
    sym step ∙ so_far

pub among_done : {A : Type 0} (names : List (List ℕ)) (ms : List (Bor (List ℕ) × Value A)) (i : ℕ) (total : Bool)
    → length ms ≤ i → are_among names (members_view (drop i ms)) ≡ total → total ≡ true
unfolding are_among
among_done {A} names ms i total le so_far =
    sym so_far ∙ ap (λ (ns : List (Bor (List ℕ) × Value A)). are_among names (members_view ns)) (drop_all i ms le)

-- the members after one, as a slice of them
pub rest_reported : {A : Type 0} (ms : List (Bor (List ℕ) × Value A)) (i : ℕ) (m : Bor (List ℕ) × Value A) (r : Bool)
    → m ≡ get_or ms i m
    → r ≡ has_member (get_or ms i m).0.now (members_view (take (length ms - (i + 1)) (drop (i + 1) ms)))
    → has_member m.0.now (members_view (drop (i + 1) ms)) ≡ r
rest_reported {A} ms i m r is reported =
    let integer_of : take (length ms - (i + 1)) (drop (i + 1) ms) ≡ drop (i + 1) ms =
    take_all (length ms - (i + 1)) (drop (i + 1) ms) (omega (arith, length-drop (i + 1) ms)) in
    ap (λ (n : Bor (List ℕ) × Value A). has_member n.0.now (members_view (drop (i + 1) ms))) is
    ∙ ap (λ (ns : List (Bor (List ℕ) × Value A)). has_member (get_or ms i m).0.now (members_view ns)) (sym integer_of)
    ∙ sym reported
