-- The ranges that spans name, in sequence.
use Rattle.std.proofs.Common.{◌≡◌, ℕ, zero, suc, ◌+◌, ◌<◌, List, [], ◌∷◌, ◌++◌, length, take, drop, map, get_or, add-one, refl, sym, ap, subst, ◌∙◌}
use Rattle.std.specs.Prelude.{Option, Some, slice_get, ℤ}
use Rattle.std.proofs.lemmas.List.{map-append}
use Rattle.std.proofs.lemmas.Option.{same_Some, slice_get-get_or}
use Rattle.keys.specs.Range.{IsEmpty}
use Rattle.keys.specs.declared.range.Range.{Range}
use Rattle.stepmap.specs.StepMap.{Steps, lengths}
use Rattle.stepmap.specs.Boundary.{below, from_on, value_at}
use Rattle.stepmap.specs.Writing.{closed_at, after_write}
use Rattle.conflict.specs.declared.union.UnitedSpan.{UnitedSpan}
use Rattle.conflict.specs.Union.{Spans, AreSpanned}

-- the first i elements, and the next
pub take_next : {X : Type 0} (xs : List X) (i : ℕ) (x : X) → slice_get xs i ≡ Some x
    → take (suc i) xs ≡ take i xs ++ x ∷ []
take_next [] i x at = cc
take_next (y ∷ ys) zero x at = ap (λ z. z ∷ []) (same_Some y x at)
take_next (y ∷ ys) (suc i) x at = ap (λ l. y ∷ l) (take_next ys i x at)

pub map_next : {X Y : Type 0} (f : X → Y) (xs : List X) (i : ℕ) (x : X) → slice_get xs i ≡ Some x
    → map f (take (i + 1) xs) ≡ map f (take i xs) ++ f x ∷ []
map_next f xs i x at =
    ap (λ n. map f (take n xs)) (add-one i) ∙ ap (map f) (take_next xs i x at)
    ∙ map-append f (take i xs) (x ∷ [])

-- there are as many ranges as spans
pub spanned_count : (ranges : List Range) (spans : List UnitedSpan) (united : List Range) → AreSpanned ranges spans united
    → length united ≡ length spans
spanned_count ranges [] [] s = refl
spanned_count ranges [] (u ∷ united) s = absurd s
spanned_count ranges (x ∷ spans) [] s = absurd s
spanned_count ranges (x ∷ spans) (u ∷ united) s = ap suc (spanned_count ranges spans united s.1)

-- the range of a span
pub span_at : (ranges : List Range) (spans : List UnitedSpan) (united : List Range) → AreSpanned ranges spans united
    → (i : ℕ) (span : UnitedSpan) → slice_get spans i ≡ Some span
    → (range : Range) × (slice_get united i ≡ Some range) × Spans ranges span range
span_at ranges [] united s i span at = cc
span_at ranges (x ∷ spans) [] s i span at = absurd s
span_at ranges (x ∷ spans) (u ∷ united) s zero span at =
    (u, refl, subst (λ x. Spans ranges x u) (same_Some x span at) s.0)
span_at ranges (x ∷ spans) (u ∷ united) s (suc i) span at = span_at ranges spans united s.1 i span at

-- the same by an index within
pub spanned_at : (ranges : List Range) (spans : List UnitedSpan) (united : List Range) → AreSpanned ranges spans united
    → (i : ℕ) (d : UnitedSpan) → i < length spans
    → (range : Range) × (slice_get united i ≡ Some range) × Spans ranges (get_or spans i d) range
spanned_at ranges spans united s i d inside =
    span_at ranges spans united s i (get_or spans i d) (slice_get-get_or spans i d inside)

-- the last span and its range, and the others
pub record LastSpanned (ranges : List Range) (front : List UnitedSpan) (last : UnitedSpan) (united : List Range) : Type 0 where
  pub ranges_front : List Range
  pub range : Range
  pub is : united ≡ ranges_front ++ range ∷ []
  pub spanned : AreSpanned ranges front ranges_front
  pub spans : Spans ranges last range

pub last_spanned : (ranges : List Range) (front : List UnitedSpan) (last : UnitedSpan) (united : List Range)
    → AreSpanned ranges (front ++ last ∷ []) united → LastSpanned ranges front last united
last_spanned ranges [] last [] s = absurd s
last_spanned ranges [] last (u ∷ []) s =
    record { ranges_front = []; range = u; is = refl; spanned = tt; spans = s.0 }
last_spanned ranges [] last (u ∷ v ∷ united) s = absurd s.1
last_spanned ranges (x ∷ front) last [] s = absurd s
last_spanned ranges (x ∷ front) last (u ∷ united) s =
    let rest = last_spanned ranges front last united s.1 in
    record {
      ranges_front = u ∷ rest.ranges_front;
      range = rest.range;
      is = ap (λ us. u ∷ us) rest.is;
      spanned = (s.0, rest.spanned);
      spans = rest.spans;
    }

-- one more
pub spanned_push : (ranges : List Range) (spans : List UnitedSpan) (united : List Range) (span : UnitedSpan) (range : Range)
    → AreSpanned ranges spans united → Spans ranges span range
    → AreSpanned ranges (spans ++ span ∷ []) (united ++ range ∷ [])
spanned_push ranges [] [] span range s one = (one, tt)
spanned_push ranges [] (u ∷ united) span range s one = absurd s
spanned_push ranges (x ∷ spans) [] span range s one = absurd s
spanned_push ranges (x ∷ spans) (u ∷ united) span range s one =
    (s.0, spanned_push ranges spans united span range s.1 one)

-- two ranges that a span names have the same keys
module _ {ranges : List Range} {span : UnitedSpan} {a b : Range} (sa : Spans ranges span a) (sb : Spans ranges span b) where
  some_same : {X : Type 0} (o : Option X) (x y : X) → o ≡ Some x → o ≡ Some y → x ≡ y
  some_same o x y ex ey = cc

  pub begins_same : a.begin ≡ b.begin
  begins_same =
      sym sa.begins.2
      ∙ ap (λ (r : Range). r.begin) (some_same (slice_get ranges span.begin) sa.begins.0 sb.begins.0 sa.begins.1 sb.begins.1)
      ∙ sb.begins.2

  pub ends_same : a.end ≡ b.end
  ends_same =
      sym sa.ends.2
      ∙ ap (λ (r : Range). r.end) (some_same (slice_get ranges span.end) sa.ends.0 sb.ends.0 sa.ends.1 sb.ends.1)
      ∙ sb.ends.2

  pub lengths_same : lengths a ≡ lengths b
  lengths_same = ap (λ key. (length key, length a.end)) begins_same
      ∙ ap (λ key. (length b.begin, length key)) ends_same

  pub empty_same : IsEmpty a → IsEmpty b
  empty_same empty = sym begins_same ∙ empty ∙ ends_same

  -- so writing the one is writing the other
  pub after_same : (version : ℤ) (m : Steps) → after_write a version m ≡ after_write b version m
  after_same version m =
      ap (λ key. record m {
        boundaries =
            below key m.boundaries ++ record { key = key; version = version }
            ∷ closed_at a.end (value_at m.boundaries a.end) (from_on a.end m.boundaries);
        ready = drop 1 m.ready;
      }) begins_same
      ∙ ap (λ key. record m {
        boundaries =
            below b.begin m.boundaries ++ record { key = b.begin; version = version }
            ∷ closed_at key (value_at m.boundaries key) (from_on key m.boundaries);
        ready = drop 1 m.ready;
      }) ends_same
