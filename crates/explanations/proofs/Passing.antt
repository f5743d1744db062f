-- What a test leaves of a list, and whether any element passes it.
use Rattle.std.proofs.Common.{◌≡◌, Bool, true, false, ◌||◌, cond, List, [], ◌∷◌, ◌++◌, map, refl, ap, ◌∙◌}
use Rattle.std.specs.Prelude.{All}
use Rattle.std.specs.List.{filter, list_any}
use Rattle.std.proofs.lemmas.List.Elements.{All-nil, All-cons, All-head, All-tail}

pub filter_none : {X : Type 0} (p : X → Bool) (xs : List X) → All (λ x. p x ≡ false) xs → filter p xs ≡ []
filter_none p [] h = refl
filter_none p (x ∷ xs) h =
    ap (λ b. cond b (x ∷ filter p xs) (filter p xs)) (All-head (λ x. p x ≡ false) x xs h)
    ∙ filter_none p xs (All-tail (λ x. p x ≡ false) x xs h)

-- if some element passes, something is left
pub some_left : {X : Type 0} (p : X → Bool) (xs : List X) → list_any p xs ≡ true → filter p xs ≡ [] → ⊥
some_left p [] h e = cc
some_left p (x ∷ xs) h e =
    elim (p x) as (λ b. (b || list_any p xs) ≡ true → cond b (x ∷ filter p xs) (filter p xs) ≡ [] → ⊥) [
      | true ↦ λ k f. cc
      | false ↦ λ k f. some_left p xs k f
    ] h e

pub any_if_left : {X : Type 0} (p : X → Bool) (xs : List X) → (filter p xs ≡ [] → ⊥) → list_any p xs ≡ true
any_if_left p [] h = absurd (h refl)
any_if_left p (x ∷ xs) h =
    elim (p x) as (λ b. (cond b (x ∷ filter p xs) (filter p xs) ≡ [] → ⊥) → (b || list_any p xs) ≡ true) [
      | true ↦ λ k. refl
      | false ↦ λ k. any_if_left p xs k
    ] h

-- a test of the elements, and one of what they become
pub any_same : {X Y : Type 0} (p : X → Bool) (q : Y → Bool) (f : X → Y) (xs : List X) → All (λ x. p x ≡ q (f x)) xs
    → list_any p xs ≡ list_any q (map f xs)
any_same p q f [] h = refl
any_same p q f (x ∷ xs) h =
    ap (λ b. b || list_any p xs) (All-head (λ x. p x ≡ q (f x)) x xs h)
    ∙ ap (λ b. q (f x) || b) (any_same p q f xs (All-tail (λ x. p x ≡ q (f x)) x xs h))

pub All-left : {X : Type 0} (P : X → Type 0) (xs ys : List X) → All P (xs ++ ys) → All P xs
All-left P [] ys h = All-nil P
All-left P (x ∷ xs) ys h =
    All-cons P x xs (All-head P x (xs ++ ys) h) (All-left P xs ys (All-tail P x (xs ++ ys) h))

pub All-both : {X : Type 0} (P Q : X → Type 0) (xs : List X) → All P xs → All Q xs → All (λ x. P x × Q x) xs
All-both P Q xs p q = λ k d within. (p k d within, q k d within)
