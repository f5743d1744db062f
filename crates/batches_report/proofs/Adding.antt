-- One row more.
use Rattle.std.proofs.Common.{◌≡◌, ℕ, ◌+◌, ◌<◌, ℤ, ◌≤ℤ◌, Bool, true, false, cond, List, [], ◌∷◌, ◌++◌, length, take, get_or, All, refl, sym, ap, subst, ◌∙◌, arith, append-nil}
use Rattle.std.proofs.lemmas.Int.{ints}
use Rattle.std.proofs.lemmas.List.{take_more}
use Rattle.std.proofs.lemmas.List.Elements.{All-append, All-cons, All-nil, filter_more}
use Rattle.batches_report.specs.Bins.{IsWithin}
use Rattle.batches_report.specs.Totals.{is_between, rows_between}
use Rattle.batches_report.specs.declared.row.TxnRow.{TxnRow}

between_more : (first last : ℤ) (rows : List TxnRow) (i : ℕ) (row : TxnRow) (b : Bool) → i < length rows → row ≡ get_or rows i row
    → is_between first last row ≡ b
    → rows_between first last (take (i + 1) rows) ≡ rows_between first last (take i rows) ++ cond b (row ∷ []) []
between_more first last rows i row b within is test =
    filter_more (is_between first last) rows i row within
    ∙ ap (λ (r : TxnRow). rows_between first last (take i rows) ++ cond (is_between first last r) (r ∷ []) []) (sym is)
    ∙ ap (λ x. rows_between first last (take i rows) ++ cond x (row ∷ []) []) test

pub between_one : (first last : ℤ) (rows : List TxnRow) (i : ℕ) (row : TxnRow) → i < length rows → row ≡ get_or rows i row
    → is_between first last row ≡ true
    → rows_between first last (take (i + 1) rows) ≡ rows_between first last (take i rows) ++ row ∷ []
between_one first last rows i row within is test = between_more first last rows i row true within is test

pub between_none : (first last : ℤ) (rows : List TxnRow) (i : ℕ) (row : TxnRow) → i < length rows → row ≡ get_or rows i row
    → is_between first last row ≡ false
    → rows_between first last (take (i + 1) rows) ≡ rows_between first last (take i rows)
between_none first last rows i row within is test =
    between_more first last rows i row false within is test ∙ append-nil (rows_between first last (take i rows))

wider : (least greatest lower higher v : ℤ) → lower ≤ℤ least → greatest ≤ℤ higher → (least ≤ℤ v) × (v ≤ℤ greatest)
    → (lower ≤ℤ v) × (v ≤ℤ higher)
wider least greatest lower higher v below above within = (omega (arith, ints), omega (arith, ints))

pub within_more : (least greatest lower higher : ℤ) (rows : List TxnRow) (i : ℕ) (d : TxnRow) → i < length rows
    → lower ≤ℤ least → greatest ≤ℤ higher → lower ≤ℤ (get_or rows i d).version → (get_or rows i d).version ≤ℤ higher
    → All (IsWithin least greatest) (take i rows) → All (IsWithin lower higher) (take (i + 1) rows)
within_more least greatest lower higher rows i d inside below above from to so_far =
    let row = get_or rows i d in
    subst (All (IsWithin lower higher)) (sym (take_more rows i d inside))
    (All-append (IsWithin lower higher) (take i rows) (row ∷ [])
    (λ k e less. wider least greatest lower higher (get_or (take i rows) k e).version below above (so_far k e less))
    (All-cons (IsWithin lower higher) row [] (from, to) (All-nil (IsWithin lower higher))))
