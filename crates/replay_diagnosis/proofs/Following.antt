-- Which versions the batches of two lists follow.
use Rattle.std.proofs.Common.{◌≡◌, ◌≢◌, List, [], ◌∷◌, ◌++◌, Option, Some, None, inl, inr, refl, sym, ap, subst, ◌∙◌, append_assoc, arith}
use Rattle.std.specs.Prelude.{ℤ, negsuc, ◌≤ℤ◌, ◌<ℤ◌, ◌⊎◌, IfSome}
use Rattle.std.specs.List.{AllByRecursion}
use Rattle.std.proofs.lemmas.Int.{ints}
use Rattle.keyspace.specs.declared.batch.Batch.{Batch}
use Rattle.replay_diagnosis.specs.Following.{Follows, HasLeast, NoneBegins, NoneFollowsBelow}

all_weaker : {A : Type 0} (P Q : A → Type 0) (xs : List A) → ((x : A) → P x → Q x) → AllByRecursion P xs → AllByRecursion Q xs
all_weaker P Q [] weaker all = tt
all_weaker P Q (x ∷ xs) weaker all = (weaker x all.0, all_weaker P Q xs weaker all.1)

pub all_both : {A : Type 0} (P : A → Type 0) (xs ys : List A) → AllByRecursion P xs → AllByRecursion P ys → AllByRecursion P (xs ++ ys)
all_both P [] ys first second = second
all_both P (x ∷ xs) ys first second = (first.0, all_both P xs ys first.1 second)

follows_first : (version : ℤ) (batches more : List Batch) → Follows version batches → Follows version (batches ++ more)
follows_first version batches more follows = (
  follows.0,
  follows.1,
  follows.2 ++ more,
  ap (λ (bs : List Batch). bs ++ more) follows.3 ∙ append_assoc follows.0 (follows.1 ∷ follows.2) more,
  follows.4,
)

follows_second : (version : ℤ) (batches more : List Batch) → Follows version more → Follows version (batches ++ more)
follows_second version batches more follows = (
  batches ++ follows.0,
  follows.1,
  follows.2,
  ap (λ (bs : List Batch). batches ++ bs) follows.3 ∙ sym (append_assoc batches follows.0 (follows.1 ∷ follows.2)),
  follows.4,
)

none_below : (low high : ℤ) (batches : List Batch) → low ≤ℤ high → NoneFollowsBelow high batches → NoneFollowsBelow low batches
none_below low high batches le none =
    all_weaker (λ (b : Batch). high ≤ℤ b.previous) (λ (b : Batch). low ≤ℤ b.previous) batches
    (λ b le_b. omega (arith, ints, le, le_b)) none

none_below_least : (so_far : Option ℤ) (low : ℤ) (batches : List Batch) → IfSome so_far (λ v. low ≤ℤ v) → HasLeast batches so_far
    → NoneFollowsBelow low batches
none_below_least None low batches le least = subst (NoneFollowsBelow low) (sym least) tt
none_below_least (Some v) low batches le least = none_below low v batches le least.0

least_follows : (so_far : Option ℤ) (version other : ℤ) (batches more : List Batch) → (version ≡ other) ⊎ (so_far ≡ Some version)
    → HasLeast batches so_far → Follows other more → Follows version (batches ++ more)
least_follows so_far version other batches more (inl same) least follows =
    follows_second version batches more (subst (λ (v : ℤ). Follows v more) (sym same) follows)
least_follows so_far version other batches more (inr same) least follows =
    let is : HasLeast batches (Some version) = subst (HasLeast batches) same least in
    follows_first version batches more is.1

-- the lesser of the least versions of two lists is that of both
pub least_of_both : (so_far : Option ℤ) (version other : ℤ) (batches more : List Batch) → IfSome so_far (λ v. version ≤ℤ v)
    → version ≤ℤ other → (version ≡ other) ⊎ (so_far ≡ Some version) → HasLeast batches so_far → HasLeast more (Some other)
    → HasLeast (batches ++ more) (Some version)
least_of_both so_far version other batches more le le_other either least least_more = (
  all_both (λ (b : Batch). version ≤ℤ b.previous) batches more (none_below_least so_far version batches le least)
      (none_below version other more le_other least_more.0),
  least_follows so_far version other batches more either least least_more.1,
)

-- of one batch
pub least_of_one : (batch : Batch) → HasLeast (batch ∷ []) (Some batch.previous)
least_of_one batch = ((omega (arith, ints), tt), ([], batch, [], refl, refl))

pub none_begins : (version : ℤ) (batches : List Batch) → negsuc 0 <ℤ version → NoneFollowsBelow version batches → NoneBegins batches
none_begins version batches lt none =
    all_weaker (λ (b : Batch). version ≤ℤ b.previous) (λ (b : Batch). b.previous ≢ negsuc 0) batches
    (λ b le is. absurd (omega (arith, ints, lt, le, is))) none

-- a batch that follows no later version than -1 follows that
pub follows_start : (version : ℤ) (batches : List Batch) → version ≤ℤ negsuc 0 → Follows version batches
    → Follows (negsuc 0) batches
follows_start version batches le follows =
    let batch = follows.1 in
    let same : version ≡ negsuc 0 = omega (arith, ints, le, follows.4, batch.previous_from) in
    subst (λ (v : ℤ). Follows v batches) same follows
