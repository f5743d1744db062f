-- Entries of a node in whose place others are put.
use Rattle.std.proofs.Common.{◌≡◌, ℕ, ◌+◌, ◌-◌, ◌≤◌, List, ◌++◌, length, take, drop, ap, sym, ◌∙◌, arith, length-append, length-drop, length-take, append_assoc, take-add}
use Rattle.std.specs.List.{copy_within}
use Rattle.std.proofs.Math.Seq.{take-append-add}
use Rattle.std.proofs.lemmas.List.{length-take-le, take-append-drop, take-take, take-append-le, take_at, drop_at, drop-append-le, drop-drop, drop-take}

-- Elements that are moved to where they are stay.
pub not_moved : {X : Type 0} (xs : List X) (from end to : ℕ) → from ≡ to → xs ≡ copy_within xs from end to
not_moved xs from end to same =
    let moved = end - from in
    let part = take-append-drop from (take (from + moved) xs) in
    cc (take-append-drop (from + moved) xs, part, take-take from (from + moved) xs (omega arith), drop-take from moved xs)

-- the first elements after a run was moved, up to the end of a part of that run
first_moved : {X : Type 0} (xs : List X) (from n k to : ℕ) → n ≤ k → from + k ≤ length xs → to + k ≤ length xs
    → take (to + n) (copy_within xs from (from + k) to) ≡ take to xs ++ take n (drop from xs)
first_moved xs from n k to part within room =
    let moved = take (from + k - from) (drop from xs) in
    let head = take to xs in
    let rest = drop (to + (from + k - from)) xs in
    let size : from + k - from ≡ k = omega arith in
    let entire : copy_within xs from (from + k) to ≡ head ++ (moved ++ rest) = append_assoc head moved rest in
    let head_len : to + n ≡ length head + n = omega (arith, length-take-le to xs (omega arith)) in
    let long : n ≤ length moved = omega (arith, length-take-le (from + k - from) (drop from xs) (omega (arith, length-drop from xs))) in
    cc (entire, head_len, take-append-add head (moved ++ rest) n, take-append-le n moved rest long, take-take n (from + k - from) (drop from xs) (omega arith))

-- Where more elements are moved than there are up to an end, those up to it are the same.
pub more_moved : {X : Type 0} (xs : List X) (from end more to : ℕ) → from ≤ end → end - from ≤ more → from + more ≤ length xs
    → to + more ≤ length xs
    → take (to + (end - from)) (copy_within xs from (from + more) to) ≡ take (to + (end - from)) (copy_within xs from end to)
more_moved xs from end more to ordered least within room =
    let n = end - from in
    let sum : from + n ≡ end = omega arith in
    let all = first_moved xs from n more to least within room in
    let part = first_moved xs from n n to (omega arith) (omega arith) (omega arith) in
    cc

-- What others are written over matters as far as elements are taken.
put_taken : {X : Type 0} (ys others : List X) (from n : ℕ) → from ≤ length ys → from + length others ≤ n
    → take n (take from ys ++ (others ++ drop (from + length others - from) (drop from ys)))
    ≡ take from (take n ys) ++ (others ++ drop (from + length others) (take n ys))
put_taken ys others from n within room =
    let end = from + length others in
    let front = take from ys ++ others in
    let sum : end + (n - end) ≡ n = omega arith in
    let size = length-append (take from ys) others in
    let count : n ≡ length front + (n - end) = omega (arith, length-take-le from ys within) in
    let same : from + (end - from) ≡ end = omega arith in
    let rest = drop-drop (end - from) from ys in
    let before = append_assoc (take from ys) others (drop (end - from) (drop from ys)) in
    let after = append_assoc (take from ys) others (take (n - end) (drop end ys)) in
    cc (take-append-add front (drop end ys) (n - end), take-take from n ys (omega arith), drop-take end (n - end) ys)

-- The entries behind a run are moved to the end of the new ones, and these are written before them. Anything may stand behind.
pub take-spliced_before : {X : Type 0} (xs ys others : List X) (len from to : ℕ) → len ≤ length xs → from ≤ to → to ≤ len
    → from + length others + (len - to) ≤ length xs → from ≤ length ys
    → take (from + length others + (len - to)) ys
    ≡ take (from + length others + (len - to)) (copy_within xs to len (from + length others))
    → take (from + length others + (len - to)) (take from ys ++ (others ++ drop (from + length others - from) (drop from ys)))
    ≡ take from (take len xs) ++ (others ++ drop to (take len xs))
take-spliced_before xs ys others len from to within ordered most room inside after =
    let end = from + length others in
    let n = end + (len - to) in
    let zs = copy_within xs to len end in
    let head = take end xs in
    let moved = take (len - to) (drop to xs) in
    let zs_is : zs ≡ head ++ (moved ++ drop n xs) = append_assoc head moved (drop n xs) in
    let head_len = length-take-le end xs (omega arith) in
    let kept = take-append-le from head (moved ++ drop n xs) (omega arith) in
    let front : take from (take n zs) ≡ take from (take len xs) =
    cc (kept, take-take from n zs (omega arith), take-take from end xs (omega arith), take-take from len xs (omega arith)) in
    let moved_len = length-take-le (len - to) (drop to xs) (omega (arith, length-drop to xs)) in
    let following = drop_at head (moved ++ drop n xs) end head_len in
    let add : to + (len - to) ≡ len = omega arith in
    let back : drop end (take n zs) ≡ drop to (take len xs) =
    cc (following, drop-take end (len - to) zs, take_at moved (drop n xs) (len - to) moved_len, drop-take to (len - to) xs) in
    rw (put_taken ys others from n inside (omega arith), after, front, back)

-- Elements are split in two, and some of the first part are replaced.
pub apart_before : {X : Type 0} (xs new : List X) (from to at : ℕ) → from ≤ to → to ≤ at → at ≤ length xs
    → (take from (take at xs) ++ (new ++ drop to (take at xs))) ++ drop at xs ≡ take from xs ++ (new ++ drop to xs)
apart_before xs new from to at ordered before within =
    let part = take at xs in
    let front = take-take from at xs (omega (arith, ordered, before)) in
    let back : drop to xs ≡ drop to part ++ drop at xs =
    ap (drop to) (sym (take-append-drop at xs))
    ∙ drop-append-le to part (drop at xs) (omega (arith, length-take-le at xs within)) in
    cc (front, back, append_assoc (take from part) (new ++ drop to part) (drop at xs), append_assoc new (drop to part) (drop at xs))

-- Or some of the second part.
pub apart_after : {X : Type 0} (xs new : List X) (from to at : ℕ) → at ≤ from → from ≤ to
    → take at xs ++ (take (from - at) (drop at xs) ++ (new ++ drop (to - at) (drop at xs))) ≡ take from xs ++ (new ++ drop to xs)
apart_after xs new from to at after ordered =
    let part = drop at xs in
    let front : at + (from - at) ≡ from = omega (arith, after) in
    let back : at + (to - at) ≡ to = omega (arith, after, ordered) in
    let before = take-add at (from - at) xs in
    let rest = drop-drop (to - at) at xs in
    cc (front, back, before, rest, append_assoc (take at xs) (take (from - at) part) (new ++ drop (to - at) part))

-- how many values there are once some are replaced
pub length-spliced : {X : Type 0} (xs new : List X) (from to : ℕ) → from ≤ to → to ≤ length xs
    → length (take from xs ++ (new ++ drop to xs)) ≡ from + length new + (length xs - to)
length-spliced xs new from to ordered within =
    omega (
      arith,
      length-append (take from xs) (new ++ drop to xs),
      length-append new (drop to xs),
      length-take-le from xs (omega (arith, ordered, within)),
      length-drop to xs,
    )

-- Where as many are put in place of as many in two lists of one length, these are of one length again.
pub length-replaced : {X Y : Type 0} (xs new : List X) (ys others : List Y) (from to : ℕ) → length xs ≡ length ys
    → length new ≡ length others → length (take from xs ++ (new ++ drop to xs)) ≡ length (take from ys ++ (others ++ drop to ys))
length-replaced xs new ys others from to same as_many =
    simp (length-append, length-take, length-drop) (omega (arith, same, as_many))
