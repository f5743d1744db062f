-- The step function of a list in parts.
use Rattle.std.proofs.Common.{◌≡◌, ℕ, Bool, true, false, not, cond, List, [], ◌∷◌, ◌++◌, refl, ◌∙◌, ap}
use Rattle.std.specs.Prelude.{ℤ, All}
use Rattle.std.proofs.lemmas.List.Elements.{All-head, All-tail, filter_passes, All-weaker}
use Rattle.keys.specs.Key.{is_before, IsBefore, IsAtMost}
use Rattle.keys.proofs.callers.KeyOrder.{before_trans, before_at_most, before_at_most_same}
use Rattle.boundaries.specs.Boundary.{Boundary, RiseFrom, value_from, last_version, below, from_on}
use Rattle.keys.proofs.callers.KeyOrder.{not_before_if}
use Rattle.boundaries.proofs.callers.Order.{Rising}
use Rattle.boundaries.proofs.callers.Parting.{parted, FallsAlongKeys}

-- the first of them, if there is one, comes after the key
abbrev pub FirstAfter : List ℕ → List Boundary → Type 0
FirstAfter key [] = Unit {0}
FirstAfter key (b ∷ bs) = IsBefore key b.key

pub first_after_rising : (k key : List ℕ) (bs : List Boundary) → RiseFrom k bs → IsBefore key k
    → FirstAfter key bs
first_after_rising k key [] r l = tt
first_after_rising k key (b ∷ bs) r l = before_trans key k b.key l r.0

pub first_after_all : (c key : List ℕ) (bs : List Boundary) → All (λ b. IsAtMost c b.key) bs → IsBefore key c
    → FirstAfter key bs
first_after_all c key [] a l = tt
first_after_all c key (b ∷ bs) a l = before_at_most key c b.key l (All-head (λ b. IsAtMost c b.key) b bs a)

pub value_after : (v : ℤ) (bs : List Boundary) (key : List ℕ) → FirstAfter key bs → value_from v bs key ≡ v
value_after v [] key h = refl
value_after v (b ∷ bs) key h = rw h refl

-- what comes after the key adds nothing
pub value_front : (v : ℤ) (xs ys : List Boundary) (key : List ℕ) → FirstAfter key ys
    → value_from v (xs ++ ys) key ≡ value_from v xs key
value_front v [] ys key h = value_after v ys key h
value_front v (x ∷ xs) ys key h = ap (cond (is_before key x.key) v) (value_front x.version xs ys key h)

-- of what isn't after the key only the last version counts
pub value_back : (v : ℤ) (xs ys : List Boundary) (key : List ℕ) → All (λ x. is_before key x.key ≡ false) xs
    → value_from v (xs ++ ys) key ≡ value_from (last_version v xs) ys key
value_back v [] ys key a = refl
value_back v (x ∷ xs) ys key a =
    let e = All-head (λ x. is_before key x.key ≡ false) x xs a in
    rw e (value_back x.version xs ys key (All-tail (λ x. is_before key x.key ≡ false) x xs a))

-- those below the key, and those from it on
pub below_all : (key : List ℕ) (bs : List Boundary) → All (λ b. IsBefore b.key key) (below key bs)
below_all key bs = filter_passes (λ b. is_before b.key key) bs

pub from_all : (key : List ℕ) (bs : List Boundary) → All (λ b. IsAtMost key b.key) (from_on key bs)
from_all key bs = filter_passes (λ b. not (is_before b.key key)) bs

-- a key from c on comes after none of those below c
pub below_not_after : (c key : List ℕ) (bs : List Boundary) → IsAtMost c key
    → All (λ b. is_before key b.key ≡ false) (below c bs)
below_not_after c key bs l =
    All-weaker (λ b. IsBefore b.key c) (λ b. is_before key b.key ≡ false)
    (λ b h. not_before_if b.key key (before_at_most_same b.key key (before_at_most b.key c key h l)))
    (below c bs) (below_all c bs)

falls_below : (c : List ℕ) → FallsAlongKeys (λ b. is_before b.key c)
falls_below c b d l h = before_trans b.key d.key c l h

pub parted_below : (c : List ℕ) (bs : List Boundary) → Rising bs → bs ≡ below c bs ++ from_on c bs
parted_below c bs r =
    parted (λ b. is_before b.key c) (λ b. not (is_before b.key c)) (λ b. refl) (falls_below c) bs r

-- the value before a boundary, and from one on
pub value_before : (v : ℤ) (c key : List ℕ) (bs : List Boundary) → Rising bs → IsBefore key c
    → value_from v bs key ≡ value_from v (below c bs) key
value_before v c key bs r l =
    ap (λ (xs : List Boundary). value_from v xs key) (parted_below c bs r)
    ∙ value_front v (below c bs) (from_on c bs) key (first_after_all c key (from_on c bs) (from_all c bs) l)

pub value_from_on : (v : ℤ) (c key : List ℕ) (bs : List Boundary) → Rising bs → IsAtMost c key
    → value_from v bs key ≡ value_from (last_version v (below c bs)) (from_on c bs) key
value_from_on v c key bs r l =
    ap (λ (xs : List Boundary). value_from v xs key) (parted_below c bs r)
    ∙ value_back v (below c bs) (from_on c bs) key (below_not_after c key bs l)

cond_has : (P : ℤ → Type 0) (t : Bool) (a b : ℤ) → P a → P b → P (cond t a b)
cond_has P true a b x y = x
cond_has P false a b x y = y

-- what all versions have, the value has
pub value_has : (P : ℤ → Type 0) (v : ℤ) (bs : List Boundary) (key : List ℕ) → P v → All (λ b. P b.version) bs
    → P (value_from v bs key)
value_has P v [] key h a = h
value_has P v (b ∷ bs) key h a =
    cond_has P (is_before key b.key) v (value_from b.version bs key) h
    (value_has P b.version bs key (All-head (λ b. P b.version) b bs a) (All-tail (λ b. P b.version) b bs a))

pub last_has : (P : ℤ → Type 0) (v : ℤ) (bs : List Boundary) → P v → All (λ b. P b.version) bs
    → P (last_version v bs)
last_has P v [] h a = h
last_has P v (b ∷ bs) h a =
    last_has P b.version bs (All-head (λ b. P b.version) b bs a) (All-tail (λ b. P b.version) b bs a)
