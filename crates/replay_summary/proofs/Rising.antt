-- Of answers in order of versions, none before an answer is above it.
use Rattle.std.specs.Prelude.{◌≡◌, ℕ, zero, suc, ◌<◌, ℤ, ◌≤ℤ◌, int_lt, Bool, true, false, cond, List, [], ◌∷◌, filter, map, take, length, slice_index_or as get_or}
use Rattle.std.proofs.Common.{arith}
use Rattle.std.proofs.lemmas.Int.{ints}
use Rattle.keyspace.specs.storage.InOrder.{NoneBefore, Rise}
use Rattle.replay_summary.specs.declared.counted.Counted.{Counted}
use Rattle.replay_summary.specs.Counted.{version_of}
use Rattle.replay_summary.specs.Summary.{is_reply, reply_versions}
use Rattle.replay_summary.proofs.Last.{NoneAbove}

not_above : (a b : ℤ) → int_lt b a ≡ false → a ≤ℤ b
not_above a b far = omega (arith, ints)

module _ {X : Type 0} (version : X → ℤ) where
  first_below : (least : ℤ) (xs : List X) (i : ℕ) (d : X) → NoneBefore version least xs → i < length xs
      → least ≤ℤ version (get_or xs i d)
  first_below least [] i d none inside = absurd (omega arith)
  first_below least (x ∷ xs) zero d none inside = not_above least (version x) none.0
  first_below least (x ∷ xs) (suc i) d none inside = first_below least xs i d none.1 (omega arith)

  pub none_above : (xs : List X) (i : ℕ) (d : X) → Rise version xs → i < length xs
      → NoneAbove version (version (get_or xs i d)) (take i xs)
  none_above [] i d rise inside = absurd (omega arith)
  none_above (x ∷ xs) zero d rise inside = tt
  none_above (x ∷ xs) (suc i) d rise inside =
      (first_below (version x) xs i d rise.0 (omega arith), none_above xs i d rise.1 (omega arith))

pub NoneAbove-map : {X Y : Type 0} (view : X → Y) (version : Y → ℤ) (greatest : ℤ) (xs : List X)
    → NoneAbove (λ x. version (view x)) greatest xs → NoneAbove version greatest (map view xs)
NoneAbove-map view version greatest [] none = tt
NoneAbove-map view version greatest (x ∷ xs) none = (none.0, NoneAbove-map view version greatest xs none.1)

pub NoneAbove-replies : (greatest : ℤ) (cs : List Counted) → NoneAbove version_of greatest cs
    → NoneAbove (λ v. v) greatest (reply_versions cs)
NoneAbove-replies greatest [] none = tt
NoneAbove-replies greatest (c ∷ cs) none = by (NoneAbove-replies greatest cs none.1) (is_reply c)
  where
    by : NoneAbove (λ v. v) greatest (reply_versions cs) → (t : Bool) → NoneAbove (λ v. v) greatest
        (map (λ (x : Counted). x.version) (cond t (c ∷ filter is_reply cs) (filter is_reply cs)))
    by rest true = (none.0, rest)
    by rest false = rest
