-- Lemmas for callers: the newest of the writes.
use Rattle.std.proofs.Common.{◌≡◌, List, [], ◌∷◌, ◌++◌, Some, refl}
use Rattle.explanations.specs.Written.{Written, newest_write}

pub newest_write-last : (others : List Written) (w : Written) → newest_write (others ++ w ∷ []) ≡ Some w
newest_write-last [] w = refl
newest_write-last (x ∷ []) w = refl
newest_write-last (x ∷ y ∷ others) w = newest_write-last (y ∷ others) w
