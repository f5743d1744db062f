-- Lists of lists whose front is changed piece by piece, and the text of pieces with their numbers.
use Rattle.std.specs.Prelude.{
  ◌≡◌,
  ℕ,
  zero,
  suc,
  ◌+◌,
  ◌<◌,
  List,
  [],
  ◌∷◌,
  ◌++◌,
  map,
  length,
  take,
  drop,
  slice_index_or as get_or,
  slice_set as set,
}
use Rattle.std.proofs.Common.{refl, sym, ap, ◌∙◌, append_assoc, append-nil, add-one, add-zero, arith}
use Rattle.std.proofs.Math.Seq.{map-set_same}
use Rattle.std.proofs.lemmas.List.{map-id, map-set, get_or-map, get_or_default, length-map}
use Rattle.std.specs.List.{flat_map, enumerate_from}
use Rattle.checking.specs.Check.{count_at}

module _ {Y : Type 0} (change : Y → Y) where
  -- the first i are changed, and the others are as they were
  abbrev pub changed_to : ℕ → List Y → List Y
  changed_to i ys = map change (take i ys) ++ drop i ys

  length-changed_to : (i : ℕ) (ys : List Y) → length (changed_to i ys) ≡ length ys
  length-changed_to zero ys = refl
  length-changed_to (suc i) [] = refl
  length-changed_to (suc i) (y ∷ ys) = ap suc (length-changed_to i ys)

  get-changed_to : (ys : List Y) (i : ℕ) (d : Y) → i < length ys
      → get_or (changed_to i ys) i d ≡ get_or ys i d
  get-changed_to [] i d inside = absurd (omega arith)
  get-changed_to (y ∷ ys) zero d inside = refl
  get-changed_to (y ∷ ys) (suc i) d inside = get-changed_to ys i d (omega arith)

  set-changed_to : (ys : List Y) (i : ℕ) (d : Y) → i < length ys
      → set (changed_to i ys) i (change (get_or ys i d)) ≡ changed_to (suc i) ys
  set-changed_to [] i d inside = absurd (omega arith)
  set-changed_to (y ∷ ys) zero d inside = refl
  set-changed_to (y ∷ ys) (suc i) d inside = ap (λ l. change y ∷ l) (set-changed_to ys i d (omega arith))

module _ {X Y : Type 0} (view : X → Y) (change : Y → Y) where
  -- the next piece is still as it was
  pub changed_to-next : (entire : List Y) (xs : List X) (i : ℕ) (x : X) → i < length xs → x ≡ get_or xs i x
      → map view xs ≡ changed_to change i entire → (i < length entire) × (view x ≡ get_or entire i (view x))
  changed_to-next entire xs i x inside is so_far =
      let long : length xs ≡ length entire =
      sym (length-map xs view) ∙ ap length so_far ∙ length-changed_to change i entire in
      let inside_entire : i < length entire = omega arith in (
        inside_entire,
        ap view is ∙ sym (get_or-map view xs i x (view x) inside)
            ∙ ap (λ l. get_or l i (view x)) so_far ∙ get-changed_to change entire i (view x) inside_entire,
      )

  -- the next piece is changed
  pub changed_to-more : (entire : List Y) (xs : List X) (i : ℕ) (x y : X) → i < length xs → x ≡ get_or xs i x
      → view y ≡ change (view x) → map view xs ≡ changed_to change i entire
      → map view (set xs i y) ≡ changed_to change (i + 1) entire
  changed_to-more entire xs i x y inside is changes so_far =
      let next = changed_to-next entire xs i x inside is so_far in
      let inside_entire = next.0 in
      let found = next.1 in
      map-set view xs i y
      ∙ ap (λ v. set (map view xs) i v) (changes ∙ ap change found)
      ∙ ap (λ l. set l i (change (get_or entire i (view x)))) so_far
      ∙ set-changed_to change entire i (view x) inside_entire
      ∙ ap (λ n. changed_to change n entire) (sym (add-one i))

  -- the piece is as it was
  pub changed_to-same : (entire : List Y) (xs : List X) (i : ℕ) (x y : X) → x ≡ get_or xs i x → view y ≡ view x
      → map view xs ≡ changed_to change i entire → map view (set xs i y) ≡ changed_to change i entire
  changed_to-same entire xs i x y is same so_far = map-set_same view xs i y x (same ∙ ap view is) ∙ so_far

-- the next list, which is unchanged, has that many items
pub count_next : {X Z : Type 0} (view : X → List Z) (change : List Z → List Z) (entire : List (List Z)) (xs : List X) (i : ℕ) (x : X)
    → i < length xs → x ≡ get_or xs i x → map view xs ≡ changed_to change i entire → count_at entire i ≡ length (view x)
count_next view change entire xs i x inside is so_far =
    let next = changed_to-next view change entire xs i x inside is so_far in
    ap length (get_or_default entire i [] (view x) next.0 ∙ sym next.1)

module _ {X Y : Type 0} (view : X → Y) (text_of : ℕ × Y → List ℕ) where
  -- the text of pieces that are numbered from n on
  abbrev pub text_from : ℕ → List X → List ℕ
  text_from n xs = flat_map text_of (enumerate_from n (map view xs))

  text-more : (n : ℕ) (xs : List X) (i : ℕ) (x : X) → i < length xs → x ≡ get_or xs i x
      → text_from n (take (suc i) xs) ≡ text_from n (take i xs) ++ text_of (n + i, view x)
  text-more n [] i x inside is = absurd (omega arith)
  text-more n (y ∷ ys) zero x inside is =
      append-nil (text_of (n, view y)) ∙ ap (λ (z : X). text_of (n, view z)) (sym is)
      ∙ ap (λ m. text_of (m, view x)) (sym (add-zero n))
  text-more n (y ∷ ys) (suc i) x inside is =
      ap (λ l. text_of (n, view y) ++ l) (text-more (n + 1) ys i x (omega arith) is)
      ∙ sym (append_assoc (text_of (n, view y)) _ _)
      ∙ ap (λ m. text_from n (take (suc i) (y ∷ ys)) ++ text_of (m, view x)) (omega arith)

  pub text_from-more : (xs : List X) (i : ℕ) (x : X) → i < length xs → x ≡ get_or xs i x
      → text_from 0 (take (i + 1) xs) ≡ text_from 0 (take i xs) ++ text_of (i, view x)
  text_from-more xs i x inside is =
      ap (λ n. text_from 0 (take n xs)) (add-one i) ∙ text-more 0 xs i x inside is
      ∙ ap (λ m. text_from 0 (take i xs) ++ text_of (m, view x)) (omega arith)

-- the same for pieces that are seen as they are
pub numbered-more : {X : Type 0} (text_of : ℕ × X → List ℕ) (xs : List X) (i : ℕ) (x : X) → i < length xs
    → x ≡ get_or xs i x → flat_map text_of (enumerate_from 0 (take (i + 1) xs))
    ≡ flat_map text_of (enumerate_from 0 (take i xs)) ++ text_of (i, x)
numbered-more {X} text_of xs i x inside is =
    let text = λ (ys : List X). flat_map text_of (enumerate_from 0 ys) in
    ap text (sym (map-id (take (i + 1) xs))) ∙ text_from-more (λ (y : X). y) text_of xs i x inside is
    ∙ ap (λ (ys : List X). text ys ++ text_of (i, x)) (map-id (take i xs))
