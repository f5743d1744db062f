-- Items of one list that are moved to another, one by one, in order.
use Rattle.std.specs.Prelude.{◌≡◌, List, [], ◌∷◌, ◌++◌, map, All}
use Rattle.std.proofs.Common.{sym, ap, ◌∙◌, subst, append_assoc}
use Rattle.std.proofs.lemmas.List.{map-append}
use Rattle.std.proofs.lemmas.List.Elements.{All-tail}

-- seen as they will be, and as they are then
pub moved : {A W Y : Type 0} (view : A → Y) (will : W → Y) (done new : List A) (left rest : List W) (a : A) (w : W) (all : List Y)
    → left ≡ w ∷ rest → new ≡ done ++ a ∷ [] → view a ≡ will w → map view done ++ map will left ≡ all
    → map view new ++ map will rest ≡ all
moved view will done new left rest a w all first pushed same so_far =
    ap (λ l. map view l ++ map will rest) pushed ∙ ap (λ l. l ++ map will rest) (map-append view done (a ∷ []))
    ∙ append_assoc (map view done) (view a ∷ []) (map will rest) ∙ ap (λ y. map view done ++ y ∷ map will rest) same
    ∙ ap (λ l. map view done ++ map will l) (sym first) ∙ so_far

pub moved_to : {W Y : Type 0} (will : W → Y) (done new : List Y) (left rest : List W) (y : Y) (w : W) (all : List Y)
    → left ≡ w ∷ rest → new ≡ done ++ y ∷ [] → y ≡ will w → done ++ map will left ≡ all → new ++ map will rest ≡ all
moved_to will done new left rest y w all first pushed same so_far =
    ap (λ l. l ++ map will rest) pushed ∙ append_assoc done (y ∷ []) (map will rest)
    ∙ ap (λ x. done ++ x ∷ map will rest) same ∙ ap (λ l. done ++ map will l) (sym first) ∙ so_far

pub moved_from : {A Y : Type 0} (view : A → Y) (done new : List A) (left rest : List Y) (a : A) (w : Y) (all : List Y)
    → left ≡ w ∷ rest → new ≡ done ++ a ∷ [] → view a ≡ w → map view done ++ left ≡ all → map view new ++ rest ≡ all
moved_from view done new left rest a w all first pushed same so_far =
    ap (λ l. map view l ++ rest) pushed ∙ ap (λ l. l ++ rest) (map-append view done (a ∷ []))
    ∙ append_assoc (map view done) (view a ∷ []) rest ∙ ap (λ y. map view done ++ y ∷ rest) same
    ∙ ap (λ l. map view done ++ l) (sym first) ∙ so_far

-- what holds of all that is left holds of the rest
pub all_of_rest : {W : Type 0} (P : W → Type 0) (left rest : List W) (w : W) → left ≡ w ∷ rest → All P left → All P rest
all_of_rest P left rest w first all = All-tail P w rest (subst (All P) first all)
