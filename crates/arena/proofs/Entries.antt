-- The entries of a chunk, and the free ones after them that are not made yet.
use Rattle.std.proofs.Common.{◌≡◌, ℕ, zero, suc, ◌<◌, ◌≤◌, List, [], ◌∷◌, ◌++◌, length, set, slice_get, Some, refl, ap, arith}
use Rattle.arena.specs.Entry.{Entry, Free, Live, IsFree}
use Rattle.arena.specs.Chunk.{with_free}

module _ {T : Type 0} where
  pub length-with_free : (k : ℕ) (es : List (Entry T)) → length es ≤ k → length (with_free k es) ≡ k
  length-with_free zero [] few = refl
  length-with_free zero (e ∷ es) few = absurd (omega arith)
  length-with_free (suc k) [] few = ap suc (length-with_free k [] (omega arith))
  length-with_free (suc k) (e ∷ es) few = ap suc (length-with_free k es (omega arith))

  -- one more that is made changes nothing
  pub with_free-made : (k : ℕ) (es : List (Entry T)) → length es < k → with_free k (es ++ Free ∷ []) ≡ with_free k es
  with_free-made zero es room = absurd (omega arith)
  with_free-made (suc k) [] room = refl
  with_free-made (suc k) (e ∷ es) room = ap (λ xs. e ∷ xs) (with_free-made k es (omega arith))

  -- an entry that is there is written where it stands
  pub with_free-set : (k : ℕ) (es : List (Entry T)) (i : ℕ) (e : Entry T) → i < length es
      → with_free k (set es i e) ≡ set (with_free k es) i e
  with_free-set k [] i e within = absurd (omega arith)
  with_free-set zero (x ∷ es) i e within = refl
  with_free-set (suc k) (x ∷ es) zero e within = refl
  with_free-set (suc k) (x ∷ es) (suc i) e within = ap (λ xs. x ∷ xs) (with_free-set k es i e (omega arith))

  -- an entry that is there is found
  pub with_free-there : (k : ℕ) (es : List (Entry T)) (i : ℕ) (e : Entry T) → slice_get es i ≡ Some e
      → slice_get (with_free k es) i ≡ Some e
  with_free-there k [] i e is = cc
  with_free-there zero (x ∷ es) i e is = is
  with_free-there (suc k) (x ∷ es) zero e is = is
  with_free-there (suc k) (x ∷ es) (suc i) e is = with_free-there k es i e is

  -- one that is live is there
  pub with_free-live : (k : ℕ) (es : List (Entry T)) (i : ℕ) (x : T) → slice_get (with_free k es) i ≡ Some (Live x)
      → slice_get es i ≡ Some (Live x)
  with_free-live zero es i x is = is
  with_free-live (suc k) [] zero x is = cc
  with_free-live (suc k) [] (suc i) x is = let absent = with_free-live k [] i x is in cc
  with_free-live (suc k) (e ∷ es) zero x is = is
  with_free-live (suc k) (e ∷ es) (suc i) x is = with_free-live k es i x is

  -- all others are free
  pub with_free-beyond : (k : ℕ) (es : List (Entry T)) (i : ℕ) → length es ≤ i → i < k → IsFree (with_free k es) i
  with_free-beyond zero es i beyond within = absurd (omega arith)
  with_free-beyond (suc k) [] zero beyond within = refl
  with_free-beyond (suc k) [] (suc i) beyond within = with_free-beyond k [] i (omega arith) (omega arith)
  with_free-beyond (suc k) (e ∷ es) zero beyond within = absurd (omega arith)
  with_free-beyond (suc k) (e ∷ es) (suc i) beyond within = with_free-beyond k es i (omega arith) (omega arith)
