-- Ranges as keys of a map: their order, and which key is which range.
use Rattle.std.proofs.Common.{◌≡◌, sym, ap}
use Rattle.std.specs.Ordering.{nat_cmp}
use Rattle.std.specs.BTreeMap.{is_at}
use Rattle.std.specs.Cmp.{IsTotalOrder, eq_by_cmp_equiv}
use Rattle.std.specs.Cmp.Lexicographic.{bytes_decides, slice_cmp}
use Rattle.std.specs.Str.{bytes_eq}
use Rattle.std.proofs.lemmas.Bool.Decides.{Decides-and, same_from_decides}
use Rattle.std.proofs.lemmas.Cmp.{nat_list_cmp_total, on_total, then_total}
use Rattle.std.proofs.lemmas.Map.Lookups.{CmpEqualImpliesEq, exact_bytes, exact_pairs}
use Rattle.std.proofs.lemmas.Map.Views.{tells_apart}
use Rattle.keys.specs.declared.range.Range.{Range}
use Rattle.replay_hot_ranges.specs.Counts.{Ends, has_ends}
use Rattle.replay_hot_ranges.specs.Top.{ends_cmp}

-- ranges that compare as equal are one
pub ends_exact : CmpEqualImpliesEq ends_cmp
ends_exact = exact_pairs (slice_cmp nat_cmp) (slice_cmp nat_cmp) exact_bytes exact_bytes

pub ends_total : IsTotalOrder ends_cmp
ends_total = then_total (on_total (λ (e : Ends). e.0) nat_list_cmp_total) (on_total (λ (e : Ends). e.1) nat_list_cmp_total)

-- the key of a range is at these ends exactly if the range has them
pub is_at-range : (range : Range) (ends : Ends) → is_at (ends_cmp (range.begin, range.end)) ends ≡ has_ends ends range
is_at-range range ends = same_from_decides _ _ (
  λ h. let same : (range.begin, range.end) ≡ ends = tells_apart ends_exact (range.begin, range.end) ends h in
      (sym (ap (λ (e : Ends). e.0) same), sym (ap (λ (e : Ends). e.1) same)),
  λ same. rw (same.0, same.1) ((eq_by_cmp_equiv ends_total).refl (range.begin, range.end)),
)
    (Decides-and (bytes_eq ends.0 range.begin) (bytes_eq ends.1 range.end) (bytes_decides ends.0 range.begin) (bytes_decides ends.1 range.end))
