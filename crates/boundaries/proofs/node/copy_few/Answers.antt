use Rattle.std.proofs.Common.{◌≡◌, ℕ, ◌+◌, ◌<◌, List, get_or, length, slice_set, take, take_all, refl, arith, length-set, ◌∙◌}
use Rattle.std.proofs.lemmas.List.{take_more, take_more_set}
use Rattle.boundaries.proofs.node.copy_few.Goals as goal

module _ {X : Type 0} (xs : List X) where
  -- one element more is copied
  more : (ys : List X) (i : ℕ) (x : X) → i < length xs → length ys ≡ length xs → x ≡ get_or xs i x → take i ys ≡ take i xs
      → take (i + 1) (slice_set ys i x) ≡ take (i + 1) xs
  more ys i x inside same is before = cc (take_more xs i x inside, take_more_set ys i x (omega arith))

  -- all are
  entire : (ys : List X) (n : ℕ) → length xs ≡ n → length ys ≡ length xs → take n ys ≡ take n xs → ys ≡ xs
  entire ys n all same is = cc (take_all n xs (omega arith), take_all n ys (omega arith))

pub returns-in-1 : goal.returns-in-1
returns-in-1 g c =
    let one = more c.args.from.now _ 0 _ (omega (arith, c.in-1.is)) c.requires.same_len c.index-from-0.is refl in
    record { copied = entire _ _ 1 (omega (arith, c.in-1.is)) (length-set _ _ _ ∙ c.requires.same_len) one }

pub returns-in-2 : goal.returns-in-2
returns-in-2 g c =
    let same = c.requires.same_len in
    let one = more c.args.from.now _ 0 _ (omega (arith, c.in-2.is)) same c.index-from-0-in-2.is refl in
    let two = more _ _ 1 _ (omega (arith, c.in-2.is)) (length-set _ _ _ ∙ same) c.index-from-1.is one in
    record { copied = entire _ _ 2 (omega (arith, c.in-2.is)) (length-set _ _ _ ∙ length-set _ _ _ ∙ same) two }
