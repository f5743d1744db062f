-- What becomes of the bounds of keys where the cells of a filter change.
use Rattle.std.proofs.Common.{◌≡◌, ℕ, zero, suc, ◌+◌, ◌*◌, ◌/◌, ◌<◌, ◌≤◌, inl, inr, List, [], ◌∷◌, length, get_or, set, replicate, refl, sym, ◌∙◌, ap, subst, arith}
use Rattle.std.specs.Prelude.{ℤ, negsuc, ◌≤ℤ◌}
use Rattle.std.specs.Int.{int_max}
use Rattle.std.proofs.lemmas.Bool.{cases_lt, cases_eq}
use Rattle.std.proofs.lemmas.Int.{ints, clamps}
use Rattle.std.proofs.Math.ListN.{length-set}
use Rattle.std.proofs.lemmas.List.{get_or-set_same, get_or-set_other, get_or-replicate, get_or_past, length-replicate}
use Rattle.stepmap.specs.Cell.{bound_of, empty_cell, newest_of}
use Rattle.stepmap.specs.Filter.{FilterState, bound_in, cell_at, each_twice}
use Rattle.stepmap.specs.declared.filter.cell.Cell.{Cell}
use Rattle.stepmap.proofs.Cells.{bound_most, empty_bound}

-- the cell at an index
abbrev cell_in : List Cell → ℕ → Cell
cell_in cells index = get_or cells index empty_cell

-- no cell is newer than this
abbrev pub NoneNewer : List Cell → ℤ → Type 0
NoneNewer cells newest = (index : ℕ) → newest_of (cell_in cells index) ≤ℤ newest

-- a cell of a new filter
each_replicate : (n i : ℕ) → cell_in (replicate n empty_cell) i ≡ empty_cell
each_replicate n i = elim (cases_lt i n) [
  | inl within ↦ get_or-replicate n i empty_cell empty_cell within
  | inr past ↦ get_or_past (replicate n empty_cell) i empty_cell (omega (arith, length-replicate n empty_cell))
]

-- nothing is written
pub none_written : (f : FilterState) (n : ℕ) → f.cells ≡ replicate n empty_cell → f.newest_range ≡ negsuc 0
    → (hash : ℕ) → bound_in f hash ≡ negsuc 0
unfolding bound_in
none_written f n is range hash =
    let at : cell_in f.cells (cell_at (length f.cells) hash) ≡ empty_cell =
    ap (λ cells. cell_in cells (cell_at (length f.cells) hash)) is ∙ each_replicate n _ in
    let none = ap (λ cell. bound_of cell hash) at ∙ empty_bound hash in
    omega (arith, ints, clamps, none, range)

pub none_newer : (cells : List Cell) (n : ℕ) → cells ≡ replicate n empty_cell → NoneNewer cells (negsuc 0)
none_newer cells n is i =
    let at = ap (λ cells. newest_of (cell_in cells i)) is ∙ ap newest_of (each_replicate n i) in
    omega (arith, ints, clamps, at)

-- a cell of a list in which one was replaced
module _ (cells : List Cell) (index : ℕ) (new : Cell) (within : index < length cells) where
  same_at : cell_in (set cells index new) index ≡ new
  same_at = get_or-set_same cells index new empty_cell within

  other_at : (i : ℕ) → (i ≡ index → ⊥) → cell_in (set cells index new) i ≡ cell_in cells i
  other_at i apart = get_or-set_other cells index i new empty_cell apart

  -- bounds of its keys rise
  at_each : ((hash : ℕ) → bound_of (cell_in cells index) hash ≤ℤ int_max (negsuc 0) (bound_of new hash)) → (i hash : ℕ)
      → bound_of (cell_in cells i) hash ≤ℤ int_max (negsuc 0) (bound_of (cell_in (set cells index new) i) hash)
  at_each raised i hash = elim (cases_eq i index) [
    | inl same ↦
        let there : cell_in (set cells index new) i ≡ new = ap (cell_in (set cells index new)) same ∙ same_at in
        let before = ap (λ i. bound_of (cell_in cells i) hash) same in
        let after = ap (λ cell. bound_of cell hash) there in
        omega (arith, ints, clamps, before, after, raised hash)
    | inr apart ↦
        let after = ap (λ cell. bound_of cell hash) (other_at i apart) in
        omega (arith, ints, clamps, after)
  ]

  pub set_none_newer : (newest newer : ℤ) → NoneNewer cells newest → newest ≤ℤ newer → newest_of new ≤ℤ newer
      → NoneNewer (set cells index new) newer
  set_none_newer newest newer old more is i = elim (cases_eq i index) [
    | inl same ↦
        let there : cell_in (set cells index new) i ≡ new = ap (cell_in (set cells index new)) same ∙ same_at in
        let after = ap newest_of there in
        omega (arith, ints, after, is)
    | inr apart ↦
        let after = ap newest_of (other_at i apart) in
        let before = old i in
        omega (arith, ints, after, before, more)
  ]

-- one cell of a filter is replaced
module _ (f g : FilterState) (index : ℕ) (new : Cell) (within : index < length f.cells) (is : g.cells ≡ set f.cells index new)
    (range : g.newest_range ≡ f.newest_range) where
  bound_is : (hash : ℕ) → bound_in g hash
      ≡ int_max (bound_of (cell_in (set f.cells index new) (cell_at (length f.cells) hash)) hash) f.newest_range
  unfolding bound_in
  bound_is hash =
      let same : length g.cells ≡ length f.cells = ap length is ∙ length-set f.cells index new in
      rw (same, is, range) refl

  pub raised : negsuc 0 ≤ℤ f.newest_range
      → ((hash : ℕ) → bound_of (cell_in f.cells index) hash ≤ℤ int_max (negsuc 0) (bound_of new hash))
      → (hash : ℕ) → bound_in f hash ≤ℤ bound_in g hash
  unfolding bound_in
  raised least rises hash =
      let after = bound_is hash in
      let cell = at_each f.cells index new within rises (cell_at (length f.cells) hash) hash in
      omega (arith, ints, clamps, after, cell, least)

  pub written : (version : ℤ) (hash : ℕ) → index ≡ cell_at (length f.cells) hash → version ≤ℤ bound_of new hash
      → version ≤ℤ bound_in g hash
  written version hash at low =
      let after = bound_is hash in
      let there : cell_in (set f.cells index new) (cell_at (length f.cells) hash) ≡ new =
      ap (cell_in (set f.cells index new)) (sym at) ∙ same_at f.cells index new within in
      let cell = ap (λ cell. bound_of cell hash) there in
      omega (arith, ints, clamps, after, cell, low)

-- No bound is above the newest key and the newest range.
pub bounded : (f : FilterState) → NoneNewer f.cells f.newest_key → negsuc 0 ≤ℤ f.newest_range → (hash : ℕ)
    → bound_in f hash ≤ℤ int_max f.newest_key f.newest_range
unfolding bound_in
bounded f none least hash =
    let cell = cell_in f.cells (cell_at (length f.cells) hash) in
    let most = bound_most cell hash in
    let newest = none (cell_at (length f.cells) hash) in
    omega (arith, ints, clamps, most, newest, least)

-- nor below the newest range
pub from_range : (f : FilterState) (hash : ℕ) → f.newest_range ≤ℤ bound_in f hash
unfolding bound_in
from_range f hash = omega (arith, ints, clamps)

-- Where no cell is newer than the newest range, all bounds are its version.
pub bound_of_range : (f : FilterState) → NoneNewer f.cells f.newest_key → negsuc 0 ≤ℤ f.newest_range
    → f.newest_key ≤ℤ f.newest_range → (hash : ℕ) → bound_in f hash ≡ f.newest_range
bound_of_range f none least less hash =
    let high = bounded f none least hash in
    let low = from_range f hash in
    omega (arith, ints, clamps, high, low, less)

-- a version is that of the newest range
pub range_written : (f g : FilterState) (version : ℤ) → g.cells ≡ f.cells → g.newest_range ≡ int_max version f.newest_range
    → (hash : ℕ) → bound_in g hash ≡ int_max version (bound_in f hash)
unfolding bound_in
range_written f g version same is hash = rw (same, is) (omega (arith, ints, clamps))

pub length-each_twice : (cells : List Cell) → length (each_twice cells) ≡ 2 * length cells
length-each_twice [] = refl
length-each_twice (c ∷ cs) = omega (arith, length-each_twice cs)

-- each cell is two
twice_at : (cells : List Cell) (i k : ℕ) → 2 * i ≤ k → k ≤ 2 * i + 1 → cell_in (each_twice cells) k ≡ cell_in cells i
twice_at [] i k low high = refl
twice_at (c ∷ cs) zero zero low high = refl
twice_at (c ∷ cs) zero (suc zero) low high = refl
twice_at (c ∷ cs) zero (suc (suc k)) low high = absurd (omega arith)
twice_at (c ∷ cs) (suc i) zero low high = absurd (omega arith)
twice_at (c ∷ cs) (suc i) (suc zero) low high = absurd (omega arith)
twice_at (c ∷ cs) (suc i) (suc (suc k)) low high = twice_at cs i k (omega arith) (omega arith)

-- the keys of a hash fall into one of the two that were their cell
cell_low : (n hash : ℕ) → 2 * cell_at n hash ≤ cell_at (2 * n) hash
cell_low n hash = omega arith

cell_high : (n hash : ℕ) → cell_at (2 * n) hash ≤ 2 * cell_at n hash + 1
cell_high n hash = omega arith

pub doubled : (f g : FilterState) → g.cells ≡ each_twice f.cells → g.newest_range ≡ f.newest_range
    → (hash : ℕ) → bound_in g hash ≡ bound_in f hash
unfolding bound_in
doubled f g is range hash =
    let n = length f.cells in
    let many : length g.cells ≡ 2 * n = ap length is ∙ length-each_twice f.cells in
    let at : cell_in g.cells (cell_at (length g.cells) hash) ≡ cell_in f.cells (cell_at n hash) =
    ap (λ cells. cell_in cells (cell_at (length g.cells) hash)) is
    ∙ ap (λ k. cell_in (each_twice f.cells) (cell_at k hash)) many
    ∙ twice_at f.cells (cell_at n hash) (cell_at (2 * n) hash) (cell_low n hash) (cell_high n hash) in
    ap (λ cell. int_max (bound_of cell hash) g.newest_range) at
    ∙ ap (λ (x : ℤ). int_max (bound_of (cell_in f.cells (cell_at n hash)) hash) x) range

pub twice_none_newer : (cells doubled : List Cell) (newest : ℤ) → doubled ≡ each_twice cells → NoneNewer cells newest
    → NoneNewer doubled newest
twice_none_newer cells doubled newest is old i =
    let at : newest_of (cell_in doubled i) ≡ newest_of (cell_in cells (i / 2)) =
    ap (λ cells. newest_of (cell_in cells i)) is ∙ ap newest_of (twice_at cells (i / 2) i (omega arith) (omega arith)) in
    subst (λ (v : ℤ). v ≤ℤ newest) (sym at) (old (i / 2))
