-- The texts of values, in sequence.
use Rattle.std.proofs.Common.{◌≡◌, ℕ, ◌+◌, List, [], ◌∷◌, ◌++◌, length, map, take, slice_get, Some, sym, ap, ◌∙◌, append_assoc}
use Rattle.std.specs.List.{flat_map}
use Rattle.std.proofs.lemmas.List.{append-nil, length-append, map_push}
use Rattle.std.proofs.lemmas.List.Concat.{flat_map-cons}
use Rattle.std.proofs.lemmas.Grind.{flat_map-append}
use Rattle.wire.proofs.Appending.{one_more}

-- the texts of the first values and of the next
texts_more : {X Y : Type 0} (text : Y → List ℕ) (show : X → Y) (xs : List X) (i : ℕ) (x : X) → slice_get xs i ≡ Some x
    → flat_map text (map show (take (i + 1) xs)) ≡ flat_map text (map show (take i xs)) ++ text (show x)
texts_more {X} {Y} text show xs i x e =
    let front = map show (take i xs) in
    ap (λ (l : List X). flat_map text (map show l)) (one_more xs i x e)
    ∙ ap (λ (l : List Y). flat_map text l) (map_push show (take i xs) x)
    ∙ flat_map-append text front (show x ∷ [])
    ∙ ap (λ (t : List ℕ). flat_map text front ++ t) (flat_map-cons text (show x) [] ∙ append-nil (text (show x)))

pub text_put : {X Y : Type 0} (text : Y → List ℕ) (show : X → Y) (xs : List X) (i : ℕ) (x : X) (start old new : List ℕ)
    → slice_get xs i ≡ Some x → old ≡ start ++ flat_map text (map show (take i xs)) → new ≡ old ++ text (show x)
    → new ≡ start ++ flat_map text (map show (take (i + 1) xs))
text_put text show xs i x start old new e before put =
    put ∙ ap (λ (t : List ℕ). t ++ text (show x)) before
    ∙ append_assoc start (flat_map text (map show (take i xs))) (text (show x))
    ∙ ap (λ (t : List ℕ). start ++ t) (sym (texts_more text show xs i x e))

pub length_more : {X Y : Type 0} (text : Y → List ℕ) (show : X → Y) (xs : List X) (i : ℕ) (x : X) → slice_get xs i ≡ Some x
    → length (flat_map text (map show (take (i + 1) xs)))
    ≡ length (flat_map text (map show (take i xs))) + length (text (show x))
length_more text show xs i x e =
    ap length (texts_more text show xs i x e) ∙ length-append (flat_map text (map show (take i xs))) (text (show x))
