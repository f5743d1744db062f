-- Lemmas for callers: ranges of a single key.
use Rattle.std.proofs.Common.{◌≡◌, ℕ, true, false, not, List, [], ◌∷◌, ◌++◌, refl, sym, ap}
use Rattle.std.specs.Ordering.{nat_cmp}
use Rattle.std.specs.declared.cmp.Ordering.TheVariants.{Equal}
use Rattle.std.proofs.lemmas.Cmp.{nat_cmp_total, tied_itself}
use Rattle.std.proofs.lemmas.Slice.Eq.{bytes_eq-Decides}
use Rattle.keys.specs.Key.{is_before, IsAtMost}
use Rattle.wire.specs.Fields.{RangeFields}
use Rattle.wire.specs.Spelling.{single_key, is_single_key}

pub single_is : (range : RangeFields) → is_single_key range ≡ true → single_key range.begin ≡ range
single_is range test =
    let end : range.end ≡ range.begin ++ 0 ∷ [] =
    (bytes_eq-Decides range.end (range.begin ++ 0 ∷ [])).0 test in
    ap (λ (x : List ℕ). let made : RangeFields = record { begin = range.begin; end = x } in made) (sym end)

pub single_found : (key : List ℕ) → is_single_key (single_key key) ≡ true
single_found key = (bytes_eq-Decides (key ++ 0 ∷ []) (key ++ 0 ∷ [])).1 refl

end_not_before : (key : List ℕ) → is_before (key ++ 0 ∷ []) key ≡ false
end_not_before [] = refl
end_not_before (x ∷ key) =
    let first : nat_cmp x x ≡ Equal = tied_itself nat_cmp_total x in
    rw first (end_not_before key)

-- a single key isn't after its end
pub at_most_end : (key : List ℕ) → IsAtMost key (key ++ 0 ∷ [])
at_most_end key = ap not (end_not_before key)
