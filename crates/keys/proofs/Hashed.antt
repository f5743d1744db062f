-- A range with a hash is a single key.
use Rattle.std.proofs.Common.{◌≡◌, ℕ, Option, inl, inr, arith, List, length, ap, subst}
use Rattle.std.specs.Prelude.{Some, slice_get}
use Rattle.std.proofs.lemmas.Option.{get_or_from_slice_get, slice_get_within}
use Rattle.keys.specs.Hash.{AreHashesOf, IsHashOf}
use Rattle.keys.specs.Range.{IsSingle}
use Rattle.keys.specs.declared.range.Range.{Range}
use Rattle.keys.proofs.callers.Lists.{AllZip-at}

pub single_if_hashed : (ranges : List Range) (hashes : List (Option ℕ)) (i hash : ℕ) (range : Range)
    → AreHashesOf ranges hashes → slice_get hashes i ≡ Some (Some hash) → slice_get ranges i ≡ Some range
    → IsSingle range
single_if_hashed ranges hashes i hash range are found at = elim are [
  | inl (none, single) ↦
      let within = slice_get_within hashes i (Some hash) found in
      absurd (omega (arith, within, ap length none))
  | inr all ↦
      let is : IsHashOf range (Some hash) =
      subst (IsHashOf range) (get_or_from_slice_get hashes i (Some hash) (Some hash) found)
      (AllZip-at IsHashOf ranges hashes i range (Some hash) at all) in
      is.0
]
