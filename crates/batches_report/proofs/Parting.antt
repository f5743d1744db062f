-- One part more.
use Rattle.std.proofs.Common.{◌≡◌, ℕ, ◌+◌, ℤ, pos, ◌+ℤ◌, ◌≤ℤ◌, ◌<ℤ◌, Bool, true, false, cond, ◌&&◌, List, [], ◌∷◌, ◌++◌, All, count_by, length, get_or, refl, sym, ap, subst, ◌∙◌, arith}
use Rattle.std.specs.Prelude.{int_le, int_lt}
use Rattle.std.proofs.lemmas.Int.{ints}
use Rattle.std.proofs.lemmas.List.Elements.{All-append, All-cons, All-nil}
use Rattle.std.proofs.lemmas.List.Sums.{sum_by_push}
use Rattle.batches_report.specs.Bins.{IsBinOf, IsInOne, IsWithin}
use Rattle.batches_report.specs.declared.bins.Bin.{Bin}
use Rattle.batches_report.specs.declared.row.TxnRow.{TxnRow}

abbrev pub has : ℤ → Bin → Bool
has version bin = int_le bin.first version && int_le version bin.last

abbrev one_if : Bool → ℕ
one_if b = cond b 1 0

-- the bins have each version from the least one up to, but without, the next one once
pub record Part (least next : ℤ) (bins : List Bin) : Type 0 where
  pub counted : (v : ℤ) → count_by (has v) bins ≡ one_if (int_le least v && int_lt v next)

none_below : (least v : ℤ) → one_if (int_le least v && int_lt v least) ≡ 0
none_below least v = grind (arith, ints)

pub part_none : (least : ℤ) → Part least least []
part_none least = record { counted = λ v. sym (none_below least v) }

one_more : (least first last v : ℤ) → least ≤ℤ first → first ≤ℤ last
    → one_if (int_le least v && int_lt v first) + one_if (int_le first v && int_le v last)
    ≡ one_if (int_le least v && int_lt v (last +ℤ pos 1))
one_more least first last v from up = grind (arith, ints)

pub part_more : (least : ℤ) (bins : List Bin) (bin : Bin) → Part least bin.first bins → least ≤ℤ bin.first → bin.first ≤ℤ bin.last
    → Part least (bin.last +ℤ pos 1) (bins ++ bin ∷ [])
part_more least bins bin part from up = record {
  counted = λ v. sum_by_push (λ (b : Bin). cond (has v b) 1 0) bins bin
      ∙ ap (λ (n : ℕ). n + cond (has v bin) 1 0) (part.counted v)
      ∙ one_more least bin.first bin.last v from up;
}

all_of : (least next v : ℤ) → least ≤ℤ v → v <ℤ next → one_if (int_le least v && int_lt v next) ≡ 1
all_of least next v from below = grind (arith, ints)

-- the bins with one more
pub parts_more : (bins new : List Bin) (bin : Bin) (least first next : ℤ) → new ≡ bins ++ bin ∷ [] → Part least first bins
    → least ≤ℤ first → bin.first ≡ first → first ≤ℤ bin.last → next ≡ bin.last +ℤ pos 1 → Part least next new
parts_more bins new bin least first next is part from same up after =
    let part_first : Part least bin.first bins = subst (λ v. Part least v bins) (sym same) part in
    subst (λ v. Part least v new) (sym after)
    (subst (λ bs. Part least (bin.last +ℤ pos 1) bs) (sym is)
    (part_more least bins bin part_first (omega (arith, ints, same, from)) (omega (arith, ints, same, up))))

-- the bins with the last one
pub parts_all : (rows : List TxnRow) (bins new : List Bin) (bin : Bin) (least low high first : ℤ) → new ≡ bins ++ bin ∷ []
    → Part least first bins → least ≤ℤ first → bin.first ≡ first → first ≤ℤ bin.last → least ≤ℤ low → high ≤ℤ bin.last
    → All (IsWithin low high) rows → All (IsInOne new) rows
parts_all rows bins new bin least low high first is part from same up begins ends within = λ k d less.
    let entire = parts_more bins new bin least first (bin.last +ℤ pos 1) is part from same up refl in
    let v = (get_or rows k d).version in
    let inside = within k d less in
    entire.counted v ∙ all_of least (bin.last +ℤ pos 1) v (omega (arith, ints, inside.0, begins)) (omega (arith, ints, inside.1, ends))

pub totals_more : (rows : List TxnRow) (bins new : List Bin) (bin : Bin) → new ≡ bins ++ bin ∷ [] → All (IsBinOf rows) bins
    → IsBinOf rows bin → All (IsBinOf rows) new
totals_more rows bins new bin is before one =
    subst (All (IsBinOf rows)) (sym is)
    (All-append (IsBinOf rows) bins (bin ∷ []) before (All-cons (IsBinOf rows) bin [] one (All-nil (IsBinOf rows))))
