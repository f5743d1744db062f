-- What the moves of a node's entries leave, of lists alone.
use Rattle.std.proofs.Common.{◌≡◌, ℕ, ◌+◌, ◌-◌, ◌≤◌, List, [], ◌++◌, length, take, drop, arith}
use Rattle.std.specs.List.{copy_within}
use Rattle.std.proofs.lemmas.List.{take-take, drop-take, take_at, length-take-le, length-drop, length-append}

module _ {X : Type 0} where
  -- entries moved down over removed ones
  pub take-removed : (xs ys : List X) (len from to : ℕ) → len ≤ length xs → from ≤ to → to ≤ len → ys ≡ copy_within xs to len from
      → take (len - (to - from)) ys ≡ take from (take len xs) ++ drop to (take len xs)
  take-removed xs ys len from to room ordered within after =
      let head = take from xs in
      let moved = take (len - to) (drop to xs) in
      let head_len = length-take-le from xs (omega arith) in
      let moved_len = length-take-le (len - to) (drop to xs) (omega (arith, length-drop to xs)) in
      let size : length (head ++ moved) ≡ len - (to - from) = omega (arith, length-append head moved, head_len, moved_len) in
      let front = take-take from len xs (omega arith) in
      let sum : to + (len - to) ≡ len = omega arith in
      cc (take_at (head ++ moved) (drop (from + (len - to)) xs) _ size, front, drop-take to (len - to) xs)
