-- Batches among others of a chain: versions rise, and no write above a snapshot is added by leaving others out.
use Rattle.std.proofs.Common.{◌≡◌, ℕ, zero, suc, ◌<◌, true, List, [], ◌∷◌, take, ℤ, sym, ap, ◌∙◌, inl, inr, arith}
use Rattle.std.specs.Prelude.{◌≤ℤ◌, Some, slice_get}
use Rattle.std.proofs.lemmas.Int.{ints}
use Rattle.std.proofs.lemmas.Bool.{cases_lt}
use Rattle.keys.proofs.callers.Booleans.{or_either, or_left, or_right}
use Rattle.keyspace.specs.Processed.{Processed}
use Rattle.keyspace.specs.Writes.{writes, writes_of}
use Rattle.serial.proofs.Holding.{written_above, written_above-append}
use Rattle.serial.proofs.Versions.{VersionsRise}
use Rattle.shards.specs.Laws.{IsAmong}

-- if an element of the list is in the other list: those before it are among those before it there
pub place_among : {X : Type 0} (xs ys : List X) → IsAmong xs ys → (i : ℕ) (x : X) → slice_get xs i ≡ Some x
    → (k : ℕ) × (slice_get ys k ≡ Some x) × IsAmong (take i xs) (take k ys)
place_among [] ys among i x at = absurd (let no : ⊥ = cc in no)
place_among (z ∷ xs) [] among i x at = absurd among
place_among (z ∷ xs) (y ∷ ys) (inl here) zero x at =
    let same : z ≡ x = cc in
    (0, ap Some (sym here.0 ∙ same), tt)
place_among (z ∷ xs) (y ∷ ys) (inl here) (suc i) x at =
    let found = place_among xs ys here.1 i x at in
    (suc found.0, found.1, inl (here.0, found.2))
place_among (z ∷ xs) (y ∷ ys) (inr later) i x at =
    let found = place_among (z ∷ xs) ys later i x at in
    (suc found.0, found.1, longer (take i (z ∷ xs)) (take found.0 ys) found.2)
  where
    longer : (front others : List _) → IsAmong front others → IsAmong front (y ∷ others)
    longer [] others h = tt
    longer (f ∷ front) others h = inr h

-- an element of a prefix is an element of the list, and before the end of the prefix
pub in_prefix : {X : Type 0} (xs : List X) (n k : ℕ) (x : X) → slice_get (take n xs) k ≡ Some x → (slice_get xs k ≡ Some x) × (k < n)
in_prefix [] zero k x at = absurd (let no : ⊥ = cc in no)
in_prefix [] (suc n) k x at = absurd (let no : ⊥ = cc in no)
in_prefix (y ∷ xs) zero k x at = absurd (let no : ⊥ = cc in no)
in_prefix (y ∷ xs) (suc n) zero x at = (at, omega arith)
in_prefix (y ∷ xs) (suc n) (suc k) x at =
    let rest = in_prefix xs n k x at in
    let below = rest.1 in
    (rest.0, omega (arith, below))

-- an element before an index is one of the prefix
pub to_prefix : {X : Type 0} (xs : List X) (n k : ℕ) (x : X) → slice_get xs k ≡ Some x → k < n → slice_get (take n xs) k ≡ Some x
to_prefix [] n k x at below = absurd (let no : ⊥ = cc in no)
to_prefix (y ∷ xs) zero k x at below = absurd (omega (arith, below))
to_prefix (y ∷ xs) (suc n) zero x at below = at
to_prefix (y ∷ xs) (suc n) (suc k) x at below = to_prefix xs n k x at (omega (arith, below))

same_version : (a b : ℤ) → a ≡ b → a ≤ℤ b
same_version a b h = omega (arith, ints, h)

-- so versions rise
pub rises_among : (own chain : List Processed) → IsAmong own chain → VersionsRise chain → VersionsRise own
rises_among own chain among rise i k p q here there h =
    elim (cases_lt i k) [
      | inl earlier ↦
          let last = place_among own chain among k q there in
          let first = place_among (take k own) (take last.0 chain) last.2 i p (to_prefix own k i p here earlier) in
          let before = in_prefix chain last.0 first.0 p first.1 in
          let below = before.1 in
          rise first.0 last.0 p q before.0 last.1 (omega (arith, below))
      | inr not_earlier ↦
          let index : i ≡ k = omega (arith, h, not_earlier) in
          let same : p ≡ q = cc in
          same_version p.batch.version q.batch.version (ap (λ (r : Processed). r.batch.version) same)
    ]

-- a write above the snapshot that holds the key is one of the others too
pub above_among : (snapshot : ℤ) (key : List ℕ) (own chain : List Processed) → IsAmong own chain
    → written_above snapshot key (writes own) ≡ true → written_above snapshot key (writes chain) ≡ true
above_among snapshot key [] chain among h = absurd (let no : ⊥ = cc in no)
above_among snapshot key (c ∷ own) [] among h = absurd among
above_among snapshot key (c ∷ own) (d ∷ chain) (inl here) h =
    let head = writes_of c.batch c.reply in
    let first = writes_of d.batch d.reply in
    let same : head ≡ first = ap (λ (r : Processed). writes_of r.batch r.reply) here.0 in
    written_above-append snapshot key first (writes chain)
    ∙ elim (or_either (written_above snapshot key head) (written_above snapshot key (writes own))
    (sym (written_above-append snapshot key head (writes own)) ∙ h)) [
      | inl one ↦ or_left (written_above snapshot key first) (written_above snapshot key (writes chain))
          (ap (written_above snapshot key) (sym same) ∙ one)
      | inr rest ↦ or_right (written_above snapshot key first) (written_above snapshot key (writes chain))
          (above_among snapshot key own chain here.1 rest)
    ]
above_among snapshot key (c ∷ own) (d ∷ chain) (inr later) h =
    let first = writes_of d.batch d.reply in
    written_above-append snapshot key first (writes chain)
    ∙ or_right (written_above snapshot key first) (written_above snapshot key (writes chain))
    (above_among snapshot key (c ∷ own) chain later h)
