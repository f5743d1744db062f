-- Items of lists and of lists that go together, and processed batches whose versions rise.
use Rattle.std.specs.Prelude.{◌≡◌, ◌<◌, ◌⊎◌, ⊤, ℕ, zero, suc, ℤ, ◌<ℤ◌, Bool, true, false, cond, List, [], ◌∷◌, ◌++◌, map, filter, Some, slice_get, slice_index_or, Any, Contains}
use Rattle.std.specs.List.{All, AllZip}
use Rattle.std.specs.Ordering.{int_eq}
use Rattle.std.proofs.Common.{refl, sym, ap, subst, ◌∙◌, inl, inr, arith, append_assoc}
use Rattle.std.proofs.lemmas.Bool.{false≢true}
use Rattle.std.proofs.lemmas.Bool.Decides.{Decides-int_eq}
use Rattle.std.proofs.lemmas.Int.{ints}
use Rattle.std.proofs.lemmas.List.Elements.{All-nil, All-cons}
use Rattle.std.proofs.lemmas.Option.{none-some, same_Some, slice_get-get_or}
use Rattle.keyspace.specs.Chain.{IsChain}
use Rattle.keyspace.specs.Processed.{Processed, version_of}
use Rattle.keyspace.proofs.callers.Chains.{version_of-more}
use Rattle.serial.proofs.ByShards.{contains_at}
use Rattle.serial.proofs.callers.Reading.{at_index}
use Rattle.shards.specs.Laws.{IsAmong}
use Rattle.replay_workers.proofs.callers.Lists.{all_at}

-- equal versions pass the test, and what passes is equal
pub same_if : (a b : ℤ) → int_eq a b ≡ true → a ≡ b
same_if a b h = (Decides-int_eq a b).0 h

pub is_same : (a : ℤ) → int_eq a a ≡ true
is_same a = (Decides-int_eq a a).1 refl

-- the list has the item
abbrev pub IsIn : {X : Type 0} → List X → X → Type 0
IsIn [] x = ⊥
IsIn (y ∷ ys) x = (y ≡ x) ⊎ IsIn ys x

module _ {X : Type 0} where
  pub is_in : (xs : List X) (place : ℕ) (x : X) → slice_get xs place ≡ Some x → IsIn xs x
  is_in [] place x at = absurd (none-some x at)
  is_in (y ∷ xs) zero x at = inl (same_Some y x at)
  is_in (y ∷ xs) (suc place) x at = inr (is_in xs place x at)

  pub index_of : (xs : List X) (x : X) → IsIn xs x → (place : ℕ) × (slice_get xs place ≡ Some x)
  index_of [] x among = absurd among
  index_of (y ∷ xs) x (inl here) = (zero, ap (λ (z : X). Some z) here)
  index_of (y ∷ xs) x (inr later) =
      let rest = index_of xs x later in
      (suc rest.0, rest.1)

  -- as the contracts say it
  pub contains : (xs : List X) (x : X) → IsIn xs x → Contains xs x
  contains xs x among =
      let at = index_of xs x among in
      contains_at xs at.0 x at.1

  pub from_contains : (xs : List X) (x : X) → Contains xs x → IsIn xs x
  from_contains xs x has =
      let at = at_index xs x has in
      is_in xs at.0 x at.1

  pub from_any : (P : X → Type 0) (xs : List X) → Any P xs → (x : X) × IsIn xs x × P x
  from_any P xs some =
      (some.1, is_in xs some.0 some.1 (slice_get-get_or xs some.0 some.1 some.2 ∙ ap (λ (z : X). Some z) some.3), some.4)

  pub all_in : (P : X → Type 0) (xs : List X) → ((x : X) → IsIn xs x → P x) → All P xs
  all_in P xs each = λ k d inside.
      each (slice_index_or xs k d) (is_in xs k (slice_index_or xs k d) (slice_get-get_or xs k d inside))

  pub of_all_in : (P : X → Type 0) (xs : List X) (x : X) → All P xs → IsIn xs x → P x
  of_all_in P xs x all among =
      let at = index_of xs x among in
      all_at P xs at.0 x all at.1

  -- what a filter keeps is of the list and passes its test
  pub in_filter : (test : X → Bool) (xs : List X) (x : X) → IsIn (filter test xs) x → IsIn xs x × (test x ≡ true)
  in_filter test [] x among = absurd among
  in_filter test (y ∷ xs) x among = one (test y) refl (in_filter test xs x) among
    where
      one : (b : Bool) → test y ≡ b → (IsIn (filter test xs) x → IsIn xs x × (test x ≡ true))
          → IsIn (cond b (y ∷ filter test xs) (filter test xs)) x → IsIn (y ∷ xs) x × (test x ≡ true)
      one true is rest (inl here) = (inl here, ap test (sym here) ∙ is)
      one true is rest (inr later) =
          let found = rest later in
          (inr found.0, found.1)
      one false is rest later =
          let found = rest later in
          (inr found.0, found.1)

  pub to_filter : (test : X → Bool) (xs : List X) (x : X) → IsIn xs x → test x ≡ true → IsIn (filter test xs) x
  to_filter test [] x among passes = absurd among
  to_filter test (y ∷ xs) x among passes = one (test y) refl (λ later. to_filter test xs x later passes) among
    where
      one : (b : Bool) → test y ≡ b → (IsIn xs x → IsIn (filter test xs) x) → IsIn (y ∷ xs) x
          → IsIn (cond b (y ∷ filter test xs) (filter test xs)) x
      one true is rest (inl here) = inl here
      one true is rest (inr later) = inr (rest later)
      one false is rest (inl here) = absurd (false≢true (sym is ∙ (ap test here ∙ passes)))
      one false is rest (inr later) = rest later

module _ {X Y : Type 0} (R : X → Y → Type 0) where
  -- each item of one list has its partner in the other
  pub partner_of : (xs : List X) (ys : List Y) → AllZip R xs ys → (x : X) → IsIn xs x → (y : Y) × IsIn ys y × R x y
  partner_of [] ys zip x among = absurd among
  partner_of (z ∷ xs) [] zip x among = absurd zip
  partner_of (z ∷ xs) (y ∷ ys) zip x (inl here) = (y, inl refl, subst (λ (w : X). R w y) here zip.0)
  partner_of (z ∷ xs) (y ∷ ys) zip x (inr later) =
      let rest = partner_of xs ys zip.1 x later in
      (rest.0, inr rest.1, rest.2)

  pub partner_before : (xs : List X) (ys : List Y) → AllZip R xs ys → (y : Y) → IsIn ys y → (x : X) × IsIn xs x × R x y
  partner_before xs [] zip y among = absurd among
  partner_before [] (z ∷ ys) zip y among = absurd zip
  partner_before (x ∷ xs) (z ∷ ys) zip y (inl here) = (x, inl refl, subst (λ (w : Y). R x w) here zip.0)
  partner_before (x ∷ xs) (z ∷ ys) zip y (inr later) =
      let rest = partner_before xs ys zip.1 y later in
      (rest.0, inr rest.1, rest.2)

  pub zip_weaker : (Q : X → Y → Type 0) → ((x : X) (y : Y) → R x y → Q x y) → (xs : List X) (ys : List Y) → AllZip R xs ys
      → AllZip Q xs ys
  zip_weaker Q weaker [] [] zip = tt
  zip_weaker Q weaker [] (y ∷ ys) zip = absurd zip
  zip_weaker Q weaker (x ∷ xs) [] zip = absurd zip
  zip_weaker Q weaker (x ∷ xs) (y ∷ ys) zip = (weaker x y zip.0, zip_weaker Q weaker xs ys zip.1)

  -- of the second list alone
  pub zip_second : (Q : Y → Type 0) → ((x : X) (y : Y) → R x y → Q y) → (xs : List X) (ys : List Y) → AllZip R xs ys → All Q ys
  zip_second Q one [] [] zip = All-nil Q
  zip_second Q one [] (y ∷ ys) zip = absurd zip
  zip_second Q one (x ∷ xs) [] zip = absurd zip
  zip_second Q one (x ∷ xs) (y ∷ ys) zip = All-cons Q y ys (one x y zip.0) (zip_second Q one xs ys zip.1)

  -- two lists beside the same one
  pub zip_beside : {Z : Type 0} (S : X → Z → Type 0) (T : Y → Z → Type 0) (xs : List X) (ys : List Y) (zs : List Z)
      → ((x : X) (y : Y) (z : Z) → IsIn xs x → R x y → S x z → T y z) → AllZip R xs ys → AllZip S xs zs → AllZip T ys zs
  zip_beside S T [] [] [] one first second = tt
  zip_beside S T [] [] (z ∷ zs) one first second = absurd second
  zip_beside S T [] (y ∷ ys) zs one first second = absurd first
  zip_beside S T (x ∷ xs) [] zs one first second = absurd first
  zip_beside S T (x ∷ xs) (y ∷ ys) [] one first second = absurd second
  zip_beside S T (x ∷ xs) (y ∷ ys) (z ∷ zs) one first second = (
    one x y z (inl refl) first.0 second.0,
    zip_beside S T xs ys zs (λ a b c inside. one a b c (inr inside)) first.1 second.1,
  )

pub zip_mapped : {X Y Z : Type 0} (f : X → Y) (R : Y → Z → Type 0) (xs : List X) (zs : List Z) → AllZip R (map f xs) zs
    → AllZip (λ x z. R (f x) z) xs zs
zip_mapped f R [] [] zip = tt
zip_mapped f R [] (z ∷ zs) zip = absurd zip
zip_mapped f R (x ∷ xs) [] zip = absurd zip
zip_mapped f R (x ∷ xs) (z ∷ zs) zip = (zip.0, zip_mapped f R xs zs zip.1)

-- Versions that rise.

through : (a b c : ℤ) → a <ℤ b → b <ℤ c → a <ℤ c
through a b c h k = omega (arith, ints, h, k)

not_itself : (a : ℤ) → a <ℤ a → ⊥
not_itself a h = omega (arith, ints, h)

-- each version is above the one before, and the first is above this one
abbrev pub RisesFrom : ℤ → List Processed → Type 0
RisesFrom least [] = ⊤
RisesFrom least (p ∷ ps) = (least <ℤ p.batch.version) × RisesFrom p.batch.version ps

above : (least : ℤ) (ps : List Processed) → RisesFrom least ps → (p : Processed) → IsIn ps p → least <ℤ p.batch.version
above least [] rises p among = absurd among
above least (q ∷ ps) rises p (inl here) = subst (λ (r : Processed). least <ℤ r.batch.version) here rises.0
above least (q ∷ ps) rises p (inr later) =
    through least q.batch.version p.batch.version rises.0 (above q.batch.version ps rises.1 p later)

-- a later one has a greater version
pub rises_later : (least : ℤ) (ps : List Processed) → RisesFrom least ps → (i k : ℕ) (p q : Processed) → slice_get ps i ≡ Some p
    → slice_get ps k ≡ Some q → i < k → p.batch.version <ℤ q.batch.version
rises_later least [] rises i k p q at there h = absurd (none-some p at)
rises_later least (r ∷ ps) rises zero zero p q at there h = absurd (omega (arith, h))
rises_later least (r ∷ ps) rises zero (suc k) p q at there h =
    subst (λ (s : Processed). s.batch.version <ℤ q.batch.version) (same_Some r p at)
    (above r.batch.version ps rises.1 q (is_in ps k q there))
rises_later least (r ∷ ps) rises (suc i) zero p q at there h = absurd (omega (arith, h))
rises_later least (r ∷ ps) rises (suc i) (suc k) p q at there h =
    rises_later r.batch.version ps rises.1 i k p q at there (omega (arith, h))

rises_lower : (least other : ℤ) (ps : List Processed) → least <ℤ other → RisesFrom other ps → RisesFrom least ps
rises_lower least other [] h rises = tt
rises_lower least other (p ∷ ps) h rises = (through least other p.batch.version h rises.0, rises.1)

pub rises_filter : (test : Processed → Bool) (least : ℤ) (ps : List Processed) → RisesFrom least ps → RisesFrom least (filter test ps)
rises_filter test least [] rises = tt
rises_filter test least (p ∷ ps) rises = one (test p) (rises_filter test p.batch.version ps rises.1)
  where
    one : (b : Bool) → RisesFrom p.batch.version (filter test ps) → RisesFrom least (cond b (p ∷ filter test ps) (filter test ps))
    one true rest = (rises.0, rest)
    one false rest = rises_lower least p.batch.version (filter test ps) rises.0 rest

abbrev pub HasVersionOf : Processed → Processed → Type 0
HasVersionOf p q = q.batch.version ≡ p.batch.version

pub rises_same : (least : ℤ) (ps qs : List Processed) → AllZip HasVersionOf ps qs → RisesFrom least ps → RisesFrom least qs
rises_same least [] [] zip rises = tt
rises_same least [] (q ∷ qs) zip rises = absurd zip
rises_same least (p ∷ ps) [] zip rises = absurd zip
rises_same least (p ∷ ps) (q ∷ qs) zip rises = (
  subst (λ (v : ℤ). least <ℤ v) (sym zip.0) rises.0,
  rises_same q.batch.version ps qs zip.1 (subst (λ (v : ℤ). RisesFrom v ps) (sym zip.0) rises.1),
)

-- the versions of a chain rise
pub chain_rises : (window : ℤ) (before after : List Processed) → IsChain window (before ++ after) → RisesFrom (version_of before) after
chain_rises window before [] chain = tt
chain_rises window before (p ∷ after) chain =
    let previous = (chain before p after refl).previous in
    let more : before ++ p ∷ after ≡ (before ++ p ∷ []) ++ after = sym (append_assoc before (p ∷ []) after) in (
      subst (λ (v : ℤ). v <ℤ p.batch.version) previous p.batch.rises,
      subst (λ (v : ℤ). RisesFrom v after) (version_of-more before p)
          (chain_rises window (before ++ p ∷ []) after (subst (λ (l : List Processed). IsChain window l) more chain)),
    )

-- what rises and is of a list that rises is among it, in the same order
pub rises_among : (least : ℤ) (own chain : List Processed) → RisesFrom least own → RisesFrom least chain
    → ((p : Processed) → IsIn own p → IsIn chain p) → IsAmong own chain
rises_among least [] chain rises also all = tt
rises_among least (x ∷ own) [] rises also all = absurd (all x (inl refl))
rises_among least (x ∷ own) (y ∷ chain) rises also all =
    elim (all x (inl refl)) [
      | inl here ↦
          let from_here : RisesFrom y.batch.version own = subst (λ (r : Processed). RisesFrom r.batch.version own) (sym here) rises.1 in
          inl (
            sym here,
            rises_among y.batch.version own chain from_here also.1 (λ p inside.
                elim (all p (inr inside)) [
                  | inl first ↦ absurd (not_itself y.batch.version
                      (subst (λ (r : Processed). y.batch.version <ℤ r.batch.version) (sym first) (above y.batch.version own from_here p inside)))
                  | inr later ↦ later
                ]),
          )
      | inr later ↦
          let from_here : RisesFrom y.batch.version (x ∷ own) = (above y.batch.version chain also.1 x later, rises.1) in
          inr (rises_among y.batch.version (x ∷ own) chain from_here also.1 (λ p inside.
          elim (all p inside) [
            | inl first ↦ absurd (not_itself y.batch.version
                (subst (λ (r : Processed). y.batch.version <ℤ r.batch.version) (sym first)
                (above y.batch.version (x ∷ own) from_here p inside)))
            | inr others ↦ others
          ]))
    ]
