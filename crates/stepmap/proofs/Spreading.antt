-- Cells that become two each where they lie, from the last to the first.
use Rattle.std.proofs.Common.{◌≡◌, ℕ, suc, ◌+◌, ◌*◌, ◌<◌, List, [], ◌∷◌, ◌++◌, length, get_or, set, take, drop, refl, sym, ◌∙◌, ap, arith, append_assoc}
use Rattle.std.proofs.lemmas.Grind.{common_steps}
use Rattle.std.proofs.lemmas.List.{take_more, drop_more, length-take-le}
use Rattle.stepmap.specs.Filter.{each_twice}
use Rattle.stepmap.specs.declared.filter.cell.Cell.{Cell}

-- the cells where those from an index on are two each already
abbrev pub spread_from : List Cell → ℕ → ℕ → List Cell
spread_from old count index = take (2 * index) old ++ each_twice (drop index (take count old))

-- two neighbours are both replaced by one cell
set_two : (xs ys : List Cell) (a b c : Cell)
    → set (set (xs ++ a ∷ b ∷ ys) (length xs) c) (suc (length xs)) c ≡ xs ++ c ∷ c ∷ ys
set_two [] ys a b c = refl
set_two (x ∷ xs) ys a b c = ap (λ zs. x ∷ zs) (set_two xs ys a b c)

-- a cell that is still to be doubled is as it was
as_it_was : (old : List Cell) (count index : ℕ) (d : Cell) → length old ≡ 2 * count → index < count
    → get_or (spread_from old count (index + 1)) index d ≡ get_or (take count old) index d
as_it_was old count index d room within = grind (arith, common_steps)

-- what stands before the next index is what stands before this one, and two cells
two_more : (old : List Cell) (count index : ℕ) (d : Cell) → length old ≡ 2 * count → index < count
    → take (2 * (index + 1)) old ≡ take (2 * index) old ++ get_or old (2 * index) d ∷ get_or old (2 * index + 1) d ∷ []
two_more old count index d room within =
    let first = take_more old (2 * index) d (omega (arith, room, within)) in
    let second = take_more old (2 * index + 1) d (omega (arith, room, within)) in
    let n : 2 * (index + 1) ≡ 2 * index + 1 + 1 = omega arith in
    ap (λ n. take n old) n ∙ second ∙ ap (λ xs. xs ++ get_or old (2 * index + 1) d ∷ []) first
    ∙ append_assoc (take (2 * index) old) (get_or old (2 * index) d ∷ []) (get_or old (2 * index + 1) d ∷ [])

-- the cell at an index becomes two
pub spread_next : (old : List Cell) (count index : ℕ) (cell d : Cell) → length old ≡ 2 * count → index < count
    → cell ≡ get_or (spread_from old count (index + 1)) index d
    → set (set (spread_from old count (index + 1)) (2 * index) cell) (2 * index + 1) cell ≡ spread_from old count index
spread_next old count index cell d room within is =
    let before = take (2 * index) old in
    let past = each_twice (drop (index + 1) (take count old)) in
    let a = get_or old (2 * index) d in
    let b = get_or old (2 * index + 1) d in
    let many = length-take-le (2 * index) old (omega (arith, room, within)) in
    let low : 2 * index ≡ length before = omega (arith, many) in
    let high : 2 * index + 1 ≡ suc (length before) = omega (arith, many) in
    let parts : spread_from old count (index + 1) ≡ before ++ a ∷ b ∷ past =
    ap (λ zs. zs ++ past) (two_more old count index d room within) ∙ append_assoc before (a ∷ b ∷ []) past in
    let first = length-take-le count old (omega (arith, room)) in
    let there = drop_more (take count old) index d (omega (arith, first, within)) in
    ap (λ zs. set (set zs (2 * index) cell) (2 * index + 1) cell) parts
    ∙ ap (λ n. set (set (before ++ a ∷ b ∷ past) n cell) (2 * index + 1) cell) low
    ∙ ap (λ n. set (set (before ++ a ∷ b ∷ past) (length before) cell) n cell) high
    ∙ set_two before past a b cell
    ∙ ap (λ c. before ++ c ∷ c ∷ past) (is ∙ as_it_was old count index d room within)
    ∙ ap (λ zs. before ++ each_twice zs) (sym there)
