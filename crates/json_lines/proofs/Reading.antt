-- Reading in sequence, as a loop does.
use Rattle.std.proofs.Common.{◌≡◌, ℕ, ◌+◌, ◌<◌, Bool, true, false, cond, List, [], ◌∷◌, ◌++◌, length, drop, get_or, Option, Some, None, option_map, refl, sym, ap, ◌∙◌, append_assoc}
use Rattle.std.proofs.lemmas.List.{append-nil, drop_more}
use Rattle.json_lines.specs.Values.{◌>>=◌}

-- what was read before, and what is still read
abbrev pub with_front : {A : Type 0} → List A → Option (List A) → Option (List A)
with_front front o = option_map (λ rest. front ++ rest) o

pub with_none : {A : Type 0} (o : Option (List A)) → with_front [] o ≡ o
with_none (Some x) = refl
with_none None = refl

-- one more is read
pub one_more : {A : Type 0} (front : List A) (a : A) (o : Option (List A))
    → with_front front (option_map (λ rest. a ∷ rest) o) ≡ with_front (front ++ a ∷ []) o
one_more {A} front a (Some x) = ap (λ (all : List A). Some all) (sym (append_assoc front (a ∷ []) x))
one_more front a None = refl

-- the same of a read that continues
pub continues_with : {A : Type 0} (front : List A) (a : A) (o : Option (List A))
    → with_front front (o >>= λ rest. Some (a ∷ rest)) ≡ with_front (front ++ a ∷ []) o
continues_with {A} front a (Some x) = ap (λ (all : List A). Some all) (sym (append_assoc front (a ∷ []) x))
continues_with front a None = refl

pub bind_cond : {A B : Type 0} (b : Bool) (x y : Option A) (f : A → Option B) → (cond b x y >>= f) ≡ cond b (x >>= f) (y >>= f)
bind_cond true x y f = refl
bind_cond false x y f = refl

-- read so far is all that is read, if nothing is left
pub all_read : {A : Type 0} (front : List A) → with_front front (Some []) ≡ Some front
all_read {A} front = ap (λ (all : List A). Some all) (append-nil front)

-- the rest of a list at one of its values
pub rest_at : {X : Type 0} (xs : List X) (i : ℕ) (x : X) → i < length xs → x ≡ get_or xs i x → drop i xs ≡ x ∷ drop (i + 1) xs
rest_at {X} xs i x lt is = drop_more xs i x lt ∙ ap (λ (y : X). y ∷ drop (i + 1) xs) (sym is)
