-- The tokens of values, in sequence.
use Rattle.std.proofs.Common.{◌≡◌, ℕ, ◌+◌, List, [], ◌∷◌, ◌++◌, map, take, slice_get, Some, refl, sym, ap, ◌∙◌, append_assoc}
use Rattle.std.specs.List.{flat_map}
use Rattle.std.proofs.lemmas.List.{append-nil, map_push}
use Rattle.std.proofs.lemmas.List.Concat.{flat_map-cons}
use Rattle.std.proofs.lemmas.Grind.{flat_map-append}
use Rattle.json.specs.Json.{Json}
use Rattle.json.specs.Token.{Token, begin_array, end_array}
use Rattle.json.specs.Tree.{json_tokens, items_tokens}
use Rattle.json.specs.Value.{items_of}
use Rattle.wire.proofs.callers.Lists.{one_more}
use Rattle.json_lines.specs.Written.{list_json, all_tokens}

-- the tokens of the first values and of the next
tokens_more : {X Y : Type 0} (one : Y → Json) (show : X → Y) (xs : List X) (i : ℕ) (x : X) → slice_get xs i ≡ Some x
    → all_tokens one (map show (take (i + 1) xs)) ≡ all_tokens one (map show (take i xs)) ++ json_tokens (one (show x))
tokens_more {X} {Y} one show xs i x e =
    let text = λ (y : Y). json_tokens (one y) in
    let front = map show (take i xs) in
    ap (λ (l : List X). flat_map text (map show l)) (one_more xs i x e)
    ∙ ap (λ (l : List Y). flat_map text l) (map_push show (take i xs) x)
    ∙ flat_map-append text front (show x ∷ [])
    ∙ ap (λ (t : List Token). flat_map text front ++ t) (flat_map-cons text (show x) [] ∙ append-nil (text (show x)))

pub tokens_put : {X Y : Type 0} (one : Y → Json) (show : X → Y) (xs : List X) (i : ℕ) (x : X) (start old new : List Token)
    → slice_get xs i ≡ Some x → old ≡ start ++ all_tokens one (map show (take i xs)) → new ≡ old ++ json_tokens (one (show x))
    → new ≡ start ++ all_tokens one (map show (take (i + 1) xs))
tokens_put one show xs i x start old new e before put =
    put ∙ ap (λ (t : List Token). t ++ json_tokens (one (show x))) before
    ∙ append_assoc start (all_tokens one (map show (take i xs))) (json_tokens (one (show x)))
    ∙ ap (λ (t : List Token). start ++ t) (sym (tokens_more one show xs i x e))

-- the tokens of a list: those of its values between two brackets
pub list_tokens : {A : Type 0} (one : A → Json) (xs : List A)
    → items_tokens (items_of (map one xs)) ≡ all_tokens one xs ++ end_array ∷ []
list_tokens one [] = refl
list_tokens one (x ∷ xs) =
    ap (λ (t : List Token). json_tokens (one x) ++ t) (list_tokens one xs)
    ∙ sym (append_assoc (json_tokens (one x)) (all_tokens one xs) (end_array ∷ []))

-- the brackets and what stands between them, appended
pub list_put : {A : Type 0} (one : A → Json) (xs : List A) (old opened filled new : List Token)
    → opened ≡ old ++ begin_array ∷ [] → filled ≡ opened ++ all_tokens one xs → new ≡ filled ++ end_array ∷ []
    → new ≡ old ++ json_tokens (list_json one xs)
list_put one xs old opened filled new e1 e2 e3 =
    e3 ∙ ap (λ (t : List Token). t ++ end_array ∷ []) (e2 ∙ ap (λ (t : List Token). t ++ all_tokens one xs) e1)
    ∙ append_assoc (old ++ begin_array ∷ []) (all_tokens one xs) (end_array ∷ [])
    ∙ append_assoc old (begin_array ∷ []) (all_tokens one xs ++ end_array ∷ [])
    ∙ ap (λ (t : List Token). old ++ begin_array ∷ t) (sym (list_tokens one xs))
