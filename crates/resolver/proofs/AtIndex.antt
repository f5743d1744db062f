-- The lanes of a proxy and its answer that waits, at an index.
use Rattle.std.proofs.Common.{◌≡◌, ℕ, zero, suc, ◌+◌, ◌<◌, ◌≤◌, List, [], ◌∷◌, ◌++◌, length, map, Some, sym, ap, subst, ◌∙◌, refl, inl, inr, arith}
use Rattle.std.specs.Prelude.{◌⊎◌, slice_get, slice_index_or, option_to_list}
use Rattle.std.proofs.lemmas.Option.{slice_get_cases, same_Some, none-some}
use Rattle.std.proofs.lemmas.List.{length-map, length-append}
use Rattle.std.proofs.lemmas.List.Sums.{sum_by-cons}
use Rattle.keyspace.specs.declared.answer.Answer.{Answer}
use Rattle.resolver.specs.Owed.{owed_to, owed_count}
use Rattle.resolver.specs.Lanes.{Lanes, Each}
use Rattle.resolver.specs.Parts.{ProxyLanesView, lanes_of, owed_with, waiting_count, EachProxy}

-- the lanes of a proxy stand at its index
pub lanes_at : (all_lanes : List ProxyLanesView) (p : ℕ) (k : ProxyLanesView) → slice_get all_lanes p ≡ Some k
    → slice_get (lanes_of all_lanes) p ≡ Some k.lanes
lanes_at [] p k at = absurd (none-some k at)
lanes_at (l ∷ all_lanes) zero k at = ap (λ (x : ProxyLanesView). Some x.lanes) (same_Some l k at)
lanes_at (l ∷ all_lanes) (suc p) k at = lanes_at all_lanes p k at

-- and lanes are those of the proxy at their index
pub proxy_lanes_at : (all_lanes : List ProxyLanesView) (p : ℕ) (l : Lanes) → slice_get (lanes_of all_lanes) p ≡ Some l
    → (k : ProxyLanesView) × (slice_get all_lanes p ≡ Some k) × (k.lanes ≡ l)
proxy_lanes_at [] p l at = absurd (none-some l at)
proxy_lanes_at (k ∷ all_lanes) zero l at = (k, refl, same_Some k.lanes l at)
proxy_lanes_at (k ∷ all_lanes) (suc p) l at = proxy_lanes_at all_lanes p l at

-- what a list has of the element at an index, and past its end
pub field_at : {X Y : Type 0} (f : X → List Y) (xs : List X) (p : ℕ) (x : X) → slice_get xs p ≡ Some x
    → slice_index_or (map f xs) p [] ≡ f x
field_at f [] p x at = absurd (none-some x at)
field_at f (y ∷ xs) zero x at = ap f (same_Some y x at)
field_at f (y ∷ xs) (suc p) x at = field_at f xs p x at

pub field_past : {X Y : Type 0} (f : X → List Y) (xs : List X) (p : ℕ) → length xs ≤ p
    → slice_index_or (map f xs) p [] ≡ []
field_past f [] p past = refl
field_past f (y ∷ xs) zero past = absurd (omega (arith, past))
field_past f (y ∷ xs) (suc p) past = field_past f xs p (omega (arith, past))

-- two lists that are equally long have both an element at an index, or neither
pub both_at : {X Y : Type 0} (xs : List X) (ys : List Y) → length ys ≡ length xs → (p : ℕ)
    → ((x : X) × (y : Y) × (slice_get xs p ≡ Some x) × (slice_get ys p ≡ Some y))
    ⊎ ((length xs ≤ p) × (length ys ≤ p))
both_at xs ys same p =
    elim (slice_get_cases xs p).1 [
      | inl x ↦
          elim (slice_get_cases ys p).1 [
            | inl y ↦ inl (x.0, y.0, x.2, y.2)
            | inr past ↦ absurd (omega (arith, same, x.1, past.0))
          ]
      | inr past ↦ inr (past.0, omega (arith, same, past.0))
    ]

-- what each keeps, both lists have
pub field_same : {X Y : Type 0} (f : X → List Y) (old new : List X) → length new ≡ length old
    → ((p : ℕ) (x y : X) → slice_get old p ≡ Some x → slice_get new p ≡ Some y → f y ≡ f x) → (p : ℕ)
    → slice_index_or (map f new) p [] ≡ slice_index_or (map f old) p []
field_same f old new many each p =
    elim (both_at old new many p) [
      | inl at ↦
          field_at f new p at.1 at.3 ∙ each p at.0 at.1 at.2 at.3
          ∙ sym (field_at f old p at.0 at.2)
      | inr past ↦ field_past f new p past.1 ∙ sym (field_past f old p past.0)
    ]

-- what holds of each pair and says something of its lanes
pub each_lanes : (P : ℕ → ProxyLanesView → ProxyLanesView → Type 0) (Q : ℕ → Lanes → Lanes → Type 0) (old new : List ProxyLanesView)
    → ((p : ℕ) (k n : ProxyLanesView) → slice_get old p ≡ Some k → slice_get new p ≡ Some n → P p k n → Q p k.lanes n.lanes)
    → EachProxy P old new → Each Q (lanes_of old) (lanes_of new)
each_lanes P Q old new says e = record {
  count = length-map new (λ l. l.lanes) ∙ e.count ∙ sym (length-map old (λ l. l.lanes));
  each = λ p l m at_old at_new.
      let k = proxy_lanes_at old p l at_old in
      let n = proxy_lanes_at new p m at_new in
      subst (Q p l) n.2 (subst (λ x. Q p x n.0.lanes) k.2 (says p k.0 n.0 k.1 n.1 (e.each p k.0 n.0 k.1 n.1)));
}

-- what is owed with what waits
pub owed_with-length : (all_lanes : List ProxyLanesView) (owed : List (List Answer))
    → length (owed_with all_lanes owed) ≡ length owed
owed_with-length [] owed = refl
owed_with-length (l ∷ all_lanes) [] = refl
owed_with-length (l ∷ all_lanes) (answers ∷ owed) = ap suc (owed_with-length all_lanes owed)

pub owed_with-at : (all_lanes : List ProxyLanesView) (owed : List (List Answer)) (p : ℕ) (k : ProxyLanesView)
    → slice_get all_lanes p ≡ Some k → p < length owed
    → owed_to p (owed_with all_lanes owed) ≡ option_to_list k.waiting ++ owed_to p owed
owed_with-at [] owed p k at inside = absurd (none-some k at)
owed_with-at (l ∷ all_lanes) [] p k at inside = absurd (omega (arith, inside))
owed_with-at (l ∷ all_lanes) (answers ∷ owed) zero k at inside =
    ap (λ (x : ProxyLanesView). option_to_list x.waiting ++ answers) (same_Some l k at)
owed_with-at (l ∷ all_lanes) (answers ∷ owed) (suc p) k at inside =
    owed_with-at all_lanes owed p k at (omega (arith, inside))

pub owed_with-count : (all_lanes : List ProxyLanesView) (owed : List (List Answer)) → length all_lanes ≡ length owed
    → owed_count (owed_with all_lanes owed) ≡ owed_count owed + waiting_count all_lanes
owed_with-count [] owed same = omega arith
owed_with-count (l ∷ all_lanes) [] same = absurd (omega (arith, same))
owed_with-count (l ∷ all_lanes) (answers ∷ owed) same =
    let rest = owed_with-count all_lanes owed (omega (arith, same)) in
    let one = sum_by-cons length (option_to_list l.waiting ++ answers) (owed_with all_lanes owed) in
    let plain = sum_by-cons length answers owed in
    let waits = sum_by-cons (λ (x : ProxyLanesView). length (option_to_list x.waiting)) l all_lanes in
    omega (arith, rest, one, plain, waits, length-append (option_to_list l.waiting) answers)

-- the same answers are owed where the same wait
pub owed_with-same : (old new : List ProxyLanesView) (owed : List (List Answer)) → length new ≡ length old
    → ((p : ℕ) (k n : ProxyLanesView) → slice_get old p ≡ Some k → slice_get new p ≡ Some n → n.waiting ≡ k.waiting)
    → owed_with new owed ≡ owed_with old owed
owed_with-same [] [] owed same each = refl
owed_with-same [] (n ∷ new) owed same each = absurd (omega (arith, same))
owed_with-same (k ∷ old) [] owed same each = absurd (omega (arith, same))
owed_with-same (k ∷ old) (n ∷ new) [] same each = refl
owed_with-same (k ∷ old) (n ∷ new) (answers ∷ owed) same each =
    let waits = each 0 k n refl refl in
    let rest = owed_with-same old new owed (omega (arith, same)) (λ p. each (suc p)) in
    ap (λ w. (option_to_list w ++ answers) ∷ owed_with new owed) waits
    ∙ ap (λ xs. (option_to_list k.waiting ++ answers) ∷ xs) rest
