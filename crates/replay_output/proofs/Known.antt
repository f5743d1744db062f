-- Bytes that a writer was given in turn.
use Rattle.std.specs.Prelude.{◌≡◌, ℕ, zero, suc, ◌+◌, ◌<◌, ◌≤◌, List, [], ◌∷◌, ◌++◌, length, take, drop, map, Option, None, Some, IfSome, slice_index_or as get_or}
use Rattle.std.specs.List.{flat_map}
use Rattle.std.specs.Io.KnownBytes.{Appends}
use Rattle.std.proofs.Math.Seq.{take-append-add}
use Rattle.std.proofs.lemmas.List.{take_all}
use Rattle.std.proofs.Common.{refl, sym, ap, ◌∙◌, subst, append_assoc, arith}

-- a prefix of this text, if the writer still reports its bytes
abbrev pub Begins : Option (List ℕ) → Option (List ℕ) → List ℕ → Type 0
Begins old new text = IfSome new (λ _. (n : ℕ) × Appends old new (take n text))

-- a prefix of the first is one of both
take_within : (n : ℕ) (first next : List ℕ) → (m : ℕ) × (take m (first ++ next) ≡ take n first)
take_within zero first next = (zero, refl)
take_within (suc n) [] next = (zero, refl)
take_within (suc n) (x ∷ first) next =
    let rest = take_within n first next in
    (suc rest.0, ap (λ (text : List ℕ). x ∷ text) rest.1)

-- what was written in full, and then a prefix of what follows
pub begins_then : (old between new : Option (List ℕ)) (first next : List ℕ) → Appends old between first
    → Begins between new next → Begins old new (first ++ next)
begins_then old between None first next entire begins = tt
begins_then None between (Some zs) first next entire begins = (zero, tt)
begins_then (Some xs) None (Some zs) first next entire begins = absurd entire
begins_then (Some xs) (Some ys) (Some zs) first next entire begins = (
  length first + begins.0,
  begins.1 ∙ ap (λ (text : List ℕ). text ++ take begins.0 next) entire
      ∙ append_assoc xs first (take begins.0 next)
      ∙ ap (λ (text : List ℕ). xs ++ text) (sym (take-append-add first next begins.0)),
)

pub begins_within : (old new : Option (List ℕ)) (first next : List ℕ) → Begins old new first
    → Begins old new (first ++ next)
begins_within old None first next begins = tt
begins_within None (Some zs) first next begins = (zero, tt)
begins_within (Some xs) (Some zs) first next begins =
    let within = take_within begins.0 first next in
    (within.0, begins.1 ∙ ap (λ (text : List ℕ). xs ++ text) (sym within.1))

module _ {X : Type 0} (text : X → List ℕ) where
  split_at : (xs : List X) (i : ℕ) (x : X) → i < length xs → x ≡ get_or xs i x
      → flat_map text xs ≡ flat_map text (take i xs) ++ (text x ++ flat_map text (drop (suc i) xs))
  split_at [] i x inside is = absurd (omega arith)
  split_at (y ∷ ys) zero x inside is = ap (λ (z : X). text z ++ flat_map text ys) (sym is)
  split_at (y ∷ ys) (suc i) x inside is =
      ap (λ l. text y ++ l) (split_at ys i x (omega arith) is)
      ∙ sym (append_assoc (text y) (flat_map text (take i ys)) _)

  -- the pieces before one were written in full, and of that one a prefix
  pub begins_at : (xs : List X) (i : ℕ) (x : X) → i < length xs → x ≡ get_or xs i x
      → (old between new : Option (List ℕ)) → Appends old between (flat_map text (take i xs))
      → Begins between new (text x) → Begins old new (flat_map text xs)
  begins_at xs i x inside is old between new entire begins =
      subst (Begins old new) (sym (split_at xs i x inside is))
      (begins_then old between new _ _ entire (begins_within between new (text x) _ begins))

-- the text of pieces that are seen as lists
pub flat_map-seen : {X Y : Type 0} (text : Y → List ℕ) (view : X → Y) (xs : List X)
    → flat_map text (map view xs) ≡ flat_map (λ (x : X). text (view x)) xs
flat_map-seen text view [] = refl
flat_map-seen text view (x ∷ xs) = ap (λ l. text (view x) ++ l) (flat_map-seen text view xs)

module _ {X Y : Type 0} (text : Y → List ℕ) (view : X → Y) where
  -- all pieces were written
  pub entire_seen : (xs : List X) (i : ℕ) → length xs ≤ i → (old new : Option (List ℕ))
      → Appends old new (flat_map (λ (x : X). text (view x)) (take i xs)) → Appends old new (flat_map text (map view xs))
  entire_seen xs i end old new entire =
      subst (Appends old new) (ap (flat_map (λ (x : X). text (view x))) (take_all i xs end) ∙ sym (flat_map-seen text view xs)) entire

  pub begins_seen : (xs : List X) (i : ℕ) (x : X) → i < length xs → x ≡ get_or xs i x
      → (old between new : Option (List ℕ)) → Appends old between (flat_map (λ (x : X). text (view x)) (take i xs))
      → Begins between new (text (view x)) → Begins old new (flat_map text (map view xs))
  begins_seen xs i x inside is old between new entire begins =
      subst (Begins old new) (sym (flat_map-seen text view xs))
      (begins_at (λ (y : X). text (view y)) xs i x inside is old between new entire begins)
