-- A range with a hash: it holds one key alone, and its begin and end begin alike up to the end of the begin.
use Rattle.std.proofs.Common.{◌≡◌, ◌∷◌, ℕ, [], Option, None, Some, true, false, is_some, length, take, sym, ap, ◌∙◌}
use Rattle.std.proofs.Math.Seq.{take-append_seam, take-length}
use Rattle.keys.specs.Hash.{IsHashOf}
use Rattle.keys.specs.Range.{IsSingle}
use Rattle.keys.specs.declared.range.Range.{Range}

-- A range that has a hash holds one key alone.
pub single_of : (range : Range) (hash : Option ℕ) → IsHashOf range hash → is_some hash ≡ true → IsSingle range
single_of range None is some = absurd (let t : false ≡ true = some in cc)
single_of range (Some hash) is some = is.0

-- A key and the one right after it begin alike to the end of the former.
pub single_equal : (range : Range) → IsSingle range → take (length range.begin) range.begin ≡ take (length range.begin) range.end
single_equal range single =
    take-length range.begin ∙ sym (ap (take (length range.begin)) single ∙ take-append_seam range.begin (0 ∷ []))
