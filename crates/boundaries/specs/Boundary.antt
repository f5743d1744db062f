-- A step function from keys to versions, kept by its boundaries. This project's own.
use Rattle.std.specs.Prelude.{◌≡◌, ℕ, ℤ, negsuc, ◌≤ℤ◌, ◌<ℤ◌, not, if◌then◌else◌, List, [], ◌∷◌, filter, All}
use Rattle.keys.specs.Key.{IsBytes, IsKey, is_before, IsBefore}
use Rattle.keys.specs.Range.{Holds}
use Rattle.keys.specs.declared.range.Range.{Range}

-- the function takes this version at the key, and keeps it up to the next boundary
pub record Boundary : Type 0 where
  pub key : List ℕ
  pub version : ℤ

-- the version at a key: that of the last boundary whose key isn't after it, or the one given if there is none
abbrev pub value_from : ℤ → List Boundary → List ℕ → ℤ
value_from before [] key = before
value_from before (b ∷ bs) key = if is_before key b.key then before else value_from b.version bs key

-- the step function of these boundaries. The empty key is always a boundary, so there always is a last one.
abbrev pub value_at : List Boundary → List ℕ → ℤ
value_at bs key = value_from (negsuc 0) bs key

-- each key comes before the next, the first after the key given
abbrev pub RiseFrom : List ℕ → List Boundary → Type 0
RiseFrom key [] = Unit {0}
RiseFrom key (b ∷ bs) = IsBefore key b.key × RiseFrom b.key bs

-- the empty key comes first, and the keys rise
abbrev pub AreInOrder : List Boundary → Type 0
AreInOrder [] = ⊥
AreInOrder (b ∷ bs) = (b.key ≡ []) × RiseFrom b.key bs

-- what holds of the boundaries of every step function
pub record AreBoundaries (bs : List Boundary) : Type 0 where
  pub in_order : AreInOrder bs
  pub keys : All (λ b. IsKey b.key) bs
  pub versions : All (λ b. negsuc 0 ≤ℤ b.version) bs

-- no version is above this one
abbrev pub AreUpTo : ℤ → List Boundary → Type 0
AreUpTo version bs = All (λ b. b.version ≤ℤ version) bs

-- the version of the last of them, or the one given if there is none
abbrev pub last_version : ℤ → List Boundary → ℤ
last_version before [] = before
last_version before (b ∷ bs) = last_version b.version bs

-- the boundaries whose keys come before the key
abbrev pub below : List ℕ → List Boundary → List Boundary
below key bs = filter (λ b. is_before b.key key) bs

-- those from the key on
abbrev pub from_on : List ℕ → List Boundary → List Boundary
from_on key bs = filter (λ b. not (is_before b.key key)) bs

-- the key of the first of these boundaries, or the empty key if there is none
abbrev pub first_key : List Boundary → List ℕ
first_key [] = []
first_key (b ∷ bs) = b.key

-- a question is a range and a version: whether the function is above the version at some key of the range
abbrev pub Exceeds : List Boundary → Range × ℤ → Type 0
Exceeds bs q = (key : List ℕ) × IsBytes key × Holds q.0 key × (q.1 <ℤ value_at bs key)
