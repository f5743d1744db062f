-- Spans that are appended to others, and what lies among the first of them.
use Rattle.std.proofs.Common.{◌≡◌, ℕ, ◌+◌, ◌-◌, ◌≤◌, List, [], ◌∷◌, ◌++◌, length, map, take, drop, slice_get, Some, refl, sym, ap, ◌∙◌, arith}
use Rattle.std.specs.List.{slice_range}
use Rattle.std.proofs.lemmas.List.{take-append-le, drop-append-le, take-append-drop, take_rest, length-drop, map_push, take-map, drop-map, take_more}
use Rattle.std.proofs.lemmas.Option.{slice_get_within, get_or_from_slice_get}
use Rattle.keyspace.specs.declared.span.Span.{Span}
use Rattle.keyspace.specs.declared.row.Row.{Row}
use Rattle.keyspace.specs.storage.Tables.{AreRows}
use Rattle.keyspace.proofs.callers.Rows.{rows_rise}
use Rattle.wire.specs.Lying.{txn_read, txns_read, IsBetween, AreApart}

-- what one more element does to those after the first n
pub pushed_after : {X Y : Type 0} (f : X → Y) (n : ℕ) (xs new : List X) (x : X) → n ≤ length xs
    → new ≡ xs ++ x ∷ [] → map f (drop n new) ≡ map f (drop n xs) ++ f x ∷ []
pushed_after f n xs new x le is = rw (is, drop-append-le n xs (x ∷ []) le) (map_push f (drop n xs) x)

-- .. and to the first n
pub front_stays : {X : Type 0} (n : ℕ) (xs ys new : List X) → n ≤ length xs → new ≡ xs ++ ys → take n new ≡ take n xs
front_stays n xs ys new le is = rw is (take-append-le n xs ys le)

after_front : {X : Type 0} (xs new : List X) → take (length xs) new ≡ xs → new ≡ xs ++ drop (length xs) new
after_front xs new front =
    sym (take-append-drop (length xs) new) ∙ ap (λ t. t ++ drop (length xs) new) front

part_of_appended : {X : Type 0} (xs ys : List X) (from to : ℕ) → from ≤ to → to ≤ length xs
    → slice_range (xs ++ ys) from to ≡ slice_range xs from to
part_of_appended xs ys from to ordered within =
    let least : from ≤ length xs = omega arith in
    let count : to - from ≤ length (drop from xs) = rw (length-drop from xs) (omega arith) in
    rw (drop-append-le from xs ys least) (take-append-le (to - from) (drop from xs) ys count)

-- a part of the first ones stays where more are appended
pub part_stays : {X : Type 0} (xs new : List X) (from to : ℕ) → from ≤ to → to ≤ length xs
    → take (length xs) new ≡ xs → slice_range new from to ≡ slice_range xs from to
part_stays {X} xs new from to ordered within front =
    ap (λ (l : List X). slice_range l from to) (after_front xs new front)
    ∙ part_of_appended xs (drop (length xs) new) from to ordered within

-- a part up to the end
pub part_to_end : {X : Type 0} (xs : List X) (from to : ℕ) → to ≡ length xs → slice_range xs from to ≡ drop from xs
part_to_end xs from to is = rw is (take_rest xs from)

row_stays : (frame : List ℕ) (xs new : List Span) (from : ℕ) (row : Row) → from + row.writes ≤ row.end → row.end ≤ length xs
    → take (length xs) new ≡ xs → txn_read frame new from row ≡ txn_read frame xs from row
row_stays frame xs new from row ordered within front =
    let middle = row.end - row.writes in
    let first : from ≤ middle = omega (arith, ordered) in
    let last : middle ≤ row.end = omega arith in
    let inside : middle ≤ length xs = omega (arith, within) in
    rw (part_stays xs new from middle first inside front, part_stays xs new middle row.end last within front) refl

read_more : (frame : List ℕ) (xs new : List Span) (from : ℕ) (rows : List Row) (row : Row) → AreRows from rows (length xs)
    → take (length xs) new ≡ xs
    → txns_read frame new from (rows ++ row ∷ []) ≡ txns_read frame xs from rows ++ txn_read frame new (length xs) row ∷ []
read_more frame xs new from [] row are front = ap (λ (n : ℕ). txn_read frame new n row ∷ []) are
read_more frame xs new from (first ∷ rows) row are front =
    let one = row_stays frame xs new from first are.0 (rows_rise first.end rows (length xs) are.1) front in
    let others = read_more frame xs new first.end rows row are.1 front in
    λ i. one i ∷ others i

-- one row more, whose spans were appended
pub row_pushed : (frame : List ℕ) (xs new : List Span) (rows pushed : List Row) (row : Row) → AreRows 0 rows (length xs)
    → take (length xs) new ≡ xs → pushed ≡ rows ++ row ∷ []
    → txns_read frame new 0 pushed ≡ txns_read frame xs 0 rows ++ txn_read frame new (length xs) row ∷ []
row_pushed frame xs new rows pushed row are front is =
    ap (λ (l : List Row). txns_read frame new 0 l) is ∙ read_more frame xs new 0 rows row are front

-- one span more
pub apart_pushed : (from : ℕ) (spans : List Span) (middle : ℕ) (span : Span) (to : ℕ) → AreApart from spans middle
    → IsBetween middle span to → AreApart from (spans ++ span ∷ []) to
apart_pushed from [] middle span to h next =
    (to, record { begin = omega (arith, h, next.begin); keys = next.keys }, omega arith)
apart_pushed from (first ∷ spans) middle span to h next = (h.0, h.1, apart_pushed h.0 spans middle span to h.2 next)

-- they may end later
pub apart_later : (from : ℕ) (spans : List Span) (to later : ℕ) → AreApart from spans to → to ≤ later
    → AreApart from spans later
apart_later from [] to later h le = omega (arith, h, le)
apart_later from (first ∷ spans) to later h le = (h.0, h.1, apart_later h.0 spans to later h.2 le)

-- a part of the values
pub map_part : {X Y : Type 0} (f : X → Y) (xs : List X) (from to : ℕ)
    → map f (slice_range xs from to) ≡ slice_range (map f xs) from to
map_part {X} {Y} f xs from to =
    sym (take-map f (to - from) (drop from xs))
    ∙ ap (λ (l : List Y). take (to - from) l) (sym (drop-map f from xs))

-- the first ones and the next
pub one_more : {X : Type 0} (xs : List X) (i : ℕ) (x : X) → slice_get xs i ≡ Some x → take (i + 1) xs ≡ take i xs ++ x ∷ []
one_more {X} xs i x e =
    take_more xs i x (slice_get_within xs i x e)
    ∙ ap (λ (y : X). take i xs ++ y ∷ []) (get_or_from_slice_get xs i x x e)
