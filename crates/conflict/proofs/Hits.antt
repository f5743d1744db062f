-- What the step map answers of a read range is what the scan tests, and the places where it hits.
use Rattle.std.proofs.Common.{
  ◌≡◌,
  ℕ,
  zero,
  suc,
  add-one,
  append-nil,
  append_assoc,
  ◌+◌,
  ◌<◌,
  ◌≤◌,
  ◌||◌,
  ◌&&◌,
  Bool,
  true,
  false,
  List,
  [],
  ◌∷◌,
  ◌++◌,
  length,
  map,
  take,
  get_or,
  subst,
  cond,
  refl,
  sym,
  ap,
  ◌∙◌,
  arith,
  ◌↔◌,
  ◌⊎◌,
  inl,
  inr,
}
use mathlib.Core.Bool.{beq}
use Rattle.std.specs.Prelude.{not, ◌≤ℤ◌, IsTrue, All}
use Rattle.std.specs.List.{list_any}
use Rattle.std.specs.List.Sorted.{IsStrictlyIncreasing}
use Rattle.std.proofs.Math.Seq.{get_or-append_seam, take-length}
use Rattle.std.proofs.lemmas.List.{length-append, get_or_append_left}
use Rattle.std.proofs.lemmas.List.Elements.{All-nil, All-push}
use Rattle.std.proofs.lemmas.List.Folds.{list_any-append}
use Rattle.keys.specs.declared.range.Range.{Range}
use Rattle.keyspace.specs.declared.txn.Txn.{Txn}
use Rattle.keyspace.specs.Places.{ArePlaces}
use Rattle.keyspace.specs.declared.txn.TheConstants.{MAX_RANGES}
use Rattle.keyspace.specs.Writes.{Write}
use Rattle.keyspace.specs.Judge.{is_hit, places_from}
use Rattle.keys.proofs.callers.Booleans.{false_unless}
use Rattle.keyspace.proofs.callers.Judging.{range_hit_from_test, test_from_range_hit}
use Rattle.stepmap.specs.StepMap.{Steps}
use Rattle.stepmap.specs.Covers.{MapCovers, IsAbove}
use Rattle.stepmap.specs.Laws.{DeterminesHits}
use Rattle.conflict.specs.Lookup.{is_settled, true_places}

false_is_true : false ≡ true → ⊥
false_is_true e = cc

pub exceeds_is_hit : DeterminesHits → (m : Steps) (ws : List Write) (t : Txn) (range : Range) (b : Bool)
    → MapCovers m ws
    → m.edge ≤ℤ t.snapshot → (IsTrue b ↔ IsAbove m range t.snapshot) → b ≡ is_hit ws t range
exceeds_is_hit determines m ws t range true covers late above =
    sym (test_from_range_hit ws t range ((determines m ws range t.snapshot covers late).0 (above.0 refl)))
exceeds_is_hit determines m ws t range false covers late above =
    sym (false_unless (is_hit ws t range)
    (λ hit. false_is_true
    (above.1 ((determines m ws range t.snapshot covers late).1 (range_hit_from_test ws t range hit)))))

-- some hit is true, as a search for it says
pub any_true : (hits : List Bool) → list_any (λ hit. beq hit true) hits ≡ list_any (λ hit. hit) hits
any_true [] = refl
any_true (hit ∷ hits) =
    ap (λ b. b || list_any (λ other. beq other true) hits) (same hit) ∙ ap (λ b. hit || b) (any_true hits)
  where
    same : (hit : Bool) → beq hit true ≡ hit
    same true = refl
    same false = refl

-- there is a hit exactly if some range passes the test
pub any_of_hits : (test : Range → Bool) (ranges : List Range)
    → list_any (λ hit. hit) (map test ranges) ≡ list_any test ranges
any_of_hits test [] = refl
any_of_hits test (range ∷ ranges) = ap (λ b. test range || b) (any_of_hits test ranges)

-- whether one of the first or one of the others is true, both together
module _ (first others : List Bool) where
  any_of_both : list_any (λ hit. hit) (first ++ others)
      ≡ (list_any (λ hit. beq hit true) first || list_any (λ hit. beq hit true) others)
  any_of_both =
      list_any-append (λ hit. hit) first others
      ∙ sym (ap (λ b. b || list_any (λ hit. beq hit true) others) (any_true first)
      ∙ ap (λ b. list_any (λ hit. hit) first || b) (any_true others))

  pub none_true : list_any (λ hit. beq hit true) first ≡ false → list_any (λ hit. beq hit true) others ≡ false
      → list_any (λ hit. hit) (first ++ others) ≡ false
  none_true none none_later = any_of_both ∙ rw (none, none_later) refl

  pub first_true : list_any (λ hit. beq hit true) first ≡ true → list_any (λ hit. hit) (first ++ others) ≡ true
  first_true some = any_of_both ∙ rw some refl

  pub later_true : list_any (λ hit. beq hit true) first ≡ false → list_any (λ hit. beq hit true) others ≡ true
      → list_any (λ hit. hit) (first ++ others) ≡ true
  later_true none some = any_of_both ∙ rw (none, some) refl

-- what the hits say of all read ranges
module _ (ws : List Write) (t : Txn) (hits : List Bool) where
  -- if none is true, they don't settle the transaction
  pub none_hit : (is_settled t hits ≡ false → hits ≡ map (is_hit ws t) t.reads) → list_any (λ hit. hit) hits ≡ false
      → list_any (is_hit ws t) t.reads ≡ false
  none_hit entire none =
      sym (any_of_hits (is_hit ws t) t.reads) ∙ sym (ap (list_any (λ hit. hit)) (entire unsettled)) ∙ none
    where
      and_false : (a : Bool) → (a && false) ≡ false
      and_false true = refl
      and_false false = refl

      unsettled : is_settled t hits ≡ false
      unsettled = ap (λ b. not t.marked && b) none ∙ and_false (not t.marked)

  -- one is enough
  pub some_hit : (others : List Bool) → hits ++ others ≡ map (is_hit ws t) t.reads → list_any (λ hit. hit) hits ≡ true
      → list_any (is_hit ws t) t.reads ≡ true
  some_hit others begin some =
      sym (any_of_hits (is_hit ws t) t.reads)
      ∙ sym (ap (list_any (λ hit. hit)) begin)
      ∙ list_any-append (λ hit. hit) hits others
      ∙ ap (λ b. b || list_any (λ hit. hit) others) some

  -- they don't settle a marked transaction
  pub marked_entire : (is_settled t hits ≡ false → hits ≡ map (is_hit ws t) t.reads) → t.marked ≡ true
      → hits ≡ map (is_hit ws t) t.reads
  marked_entire entire marked = entire (ap (λ b. not b && list_any (λ hit. hit) hits) marked)

-- the places of the hits are those of the ranges that pass the test
pub places_of_hits : (i : ℕ) (test : Range → Bool) (ranges : List Range)
    → true_places i (map test ranges) ≡ places_from i test ranges
places_of_hits i test [] = refl
places_of_hits i test (range ∷ ranges) =
    ap (λ rest. cond (test range) (i ∷ rest) rest) (places_of_hits (i + 1) test ranges)

-- the places of the first ones, and the next place where it is a hit
places_next : (n : ℕ) (hits : List Bool) (i : ℕ) (hit : Bool) → i < length hits → get_or hits i false ≡ hit
    → true_places n (take (suc i) hits) ≡ true_places n (take i hits) ++ cond hit ((n + i) ∷ []) []
places_next n [] i hit inside is = absurd (omega arith)
places_next n (first ∷ hits) zero true inside is = rw is (ap (λ m. m ∷ []) (omega arith))
places_next n (first ∷ hits) zero false inside is = rw is refl
places_next n (first ∷ hits) (suc i) hit inside is =
    let rest = places_next (n + 1) hits i hit (omega arith) is in
    let same : cond hit (((n + 1) + i) ∷ []) [] ≡ cond hit ((n + suc i) ∷ []) [] =
    ap (λ m. cond hit (m ∷ []) []) (omega arith) in
    let both = rest ∙ ap (λ l. true_places (n + 1) (take i hits) ++ l) same in
    elim first as (λ b. cond b (n ∷ true_places (n + 1) (take (suc i) hits)) (true_places (n + 1) (take (suc i) hits))
    ≡ cond b (n ∷ true_places (n + 1) (take i hits)) (true_places (n + 1) (take i hits))
    ++ cond hit ((n + suc i) ∷ []) []) [
      | true ↦ ap (λ l. n ∷ l) both
      | false ↦ both
    ]

-- a place after all of them rises
rising_push : (xs : List ℕ) (x : ℕ) → IsStrictlyIncreasing xs → All (λ y. y < x) xs
    → IsStrictlyIncreasing (xs ++ x ∷ [])
rising_push xs x rising below k inside =
    let long : length (xs ++ x ∷ []) ≡ length xs + 1 = length-append xs (x ∷ []) in
    elim (less_or_same (k + 1) (length xs) (omega arith)) [
      | inl less ↦ rw (
        get_or_append_left xs (x ∷ []) 0 k (omega arith),
        get_or_append_left xs (x ∷ []) 0 (k + 1) less,
      )
          (rising k less)
      | inr last ↦ rw (get_or_append_left xs (x ∷ []) 0 k (omega arith), last, get_or-append_seam xs x [] 0)
          (below k 0 (omega arith))
    ]
  where
    less_or_same : (m n : ℕ) → m < n + 1 → (m < n) ⊎ (m ≡ n)
    less_or_same m n h = grind arith

-- the places of the first hits rise, and none is above them
first_places : (hits : List Bool) (n : ℕ) → n ≤ length hits
    → IsStrictlyIncreasing (true_places 0 (take n hits)) × All (λ place. place < n) (true_places 0 (take n hits))
first_places hits zero inside = ((λ k more. absurd (omega (arith, more))), All-nil (λ place. place < 0))
first_places hits (suc n) inside =
    let before = first_places hits n (omega (arith, inside)) in
    let places = true_places 0 (take n hits) in
    let later : All (λ place. place < suc n) places = λ d k more. omega (arith, before.1 d k more) in
    step (get_or hits n false) refl before later
  where
    Both : List ℕ → Type 0
    Both places = IsStrictlyIncreasing places × All (λ place. place < suc n) places

    step : (hit : Bool) → get_or hits n false ≡ hit
        → IsStrictlyIncreasing (true_places 0 (take n hits)) × All (λ place. place < n) (true_places 0 (take n hits))
        → All (λ place. place < suc n) (true_places 0 (take n hits)) → Both (true_places 0 (take (suc n) hits))
    step true is before later =
        let next : true_places 0 (take (suc n) hits) ≡ true_places 0 (take n hits) ++ n ∷ [] =
        places_next 0 hits n true (omega (arith, inside)) is
        ∙ ap (λ m. true_places 0 (take n hits) ++ m ∷ []) (omega arith) in
        subst Both (sym next) (
          rising_push (true_places 0 (take n hits)) n before.0 before.1,
          All-push (λ place. place < suc n) (true_places 0 (take n hits)) n later (omega arith),
        )
    step false is before later =
        subst Both (sym (places_next 0 hits n false (omega (arith, inside)) is ∙ append-nil (true_places 0 (take n hits))))
        (before.0, later)

-- the places of few hits are those of a report
pub are_places : (hits : List Bool) → length hits ≤ MAX_RANGES → ArePlaces (true_places 0 hits)
are_places hits few =
    let both = subst (λ hs. IsStrictlyIncreasing (true_places 0 hs) × All (λ place. place < length hits) (true_places 0 hs))
    (take-length hits) (first_places hits (length hits) (omega arith)) in
    record { rising = both.0; below = λ d k more. omega (arith, few, both.1 d k more) }

-- the places of those of the first i that are hits, counted from a number on, stand after others
abbrev pub GatheredTo : List Bool → ℕ → List ℕ → ℕ → List ℕ → Type 0
GatheredTo hits from before i places = places ≡ before ++ true_places from (take i hits)

module _ (hits : List Bool) (from : ℕ) (before : List ℕ) (i : ℕ) (places : List ℕ) (inside : i < length hits)
    (g : GatheredTo hits from before i places) where
  next : (hit : Bool) → get_or hits i false ≡ hit
      → true_places from (take (i + 1) hits) ≡ true_places from (take i hits) ++ cond hit ((from + i) ∷ []) []
  next hit is = ap (λ n. true_places from (take n hits)) (add-one i) ∙ places_next from hits i hit inside is

  -- a hit adds its place
  pub gathered_more : get_or hits i false ≡ true → GatheredTo hits from before (i + 1) (places ++ (from + i) ∷ [])
  gathered_more is =
      ap (λ l. l ++ (from + i) ∷ []) g ∙ append_assoc before (true_places from (take i hits)) ((from + i) ∷ [])
      ∙ ap (λ l. before ++ l) (sym (next true is))

  -- what isn't a hit adds none
  pub gathered_same : get_or hits i false ≡ false → GatheredTo hits from before (i + 1) places
  gathered_same is =
      g ∙ ap (λ l. before ++ l) (sym (next false is ∙ append-nil (true_places from (take i hits))))

-- the places of all, counted from one on, are those of the first and then those of the others
places_from_on : (i : ℕ) (first others : List Bool)
    → true_places i first ++ true_places (i + length first) others ≡ true_places i (first ++ others)
places_from_on i [] others = ap (λ n. true_places n others) (omega arith)
places_from_on i (true ∷ first) others =
    ap (λ l. i ∷ l) (later i first others ∙ places_from_on (i + 1) first others)
  where
    later : (i : ℕ) (first others : List Bool)
        → true_places (i + 1) first ++ true_places (i + suc (length first)) others
        ≡ true_places (i + 1) first ++ true_places ((i + 1) + length first) others
    later i first others = ap (λ n. true_places (i + 1) first ++ true_places n others) (omega arith)
places_from_on i (false ∷ first) others =
    later i first others ∙ places_from_on (i + 1) first others
  where
    later : (i : ℕ) (first others : List Bool)
        → true_places (i + 1) first ++ true_places (i + suc (length first)) others
        ≡ true_places (i + 1) first ++ true_places ((i + 1) + length first) others
    later i first others = ap (λ n. true_places (i + 1) first ++ true_places n others) (omega arith)

-- the same from the first one on
pub places_of_both : (first others : List Bool)
    → true_places 0 first ++ true_places (length first) others ≡ true_places 0 (first ++ others)
places_of_both first others =
    ap (λ n. true_places 0 first ++ true_places n others) (omega arith) ∙ places_from_on 0 first others
