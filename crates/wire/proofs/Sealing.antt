-- Spans that are given their ends, in sequence.
use Rattle.std.proofs.Common.{◌≡◌, ℕ, suc, ◌+◌, ◌-◌, ◌<◌, ◌≤◌, true, false, eqb, List, [], ◌∷◌, ◌++◌, length, map, get_or, take, drop, set, inl, inr, refl, sym, ap, subst, ◌∙◌, arith}
use Rattle.std.specs.Prelude.{◌==◌, if◌then◌else◌}
use Rattle.std.proofs.lemmas.Bool.{eq-eqb, ne_eqb}
use Rattle.std.proofs.lemmas.List.{length-append, length-take, take-take, drop-drop, take-set, take_more_set, take-set-le, drop-set-lt, length-set, drop-append-le, take-append-le, drop_all}
use Rattle.std.proofs.Math.Seq.{drop-cons}
use Rattle.keyspace.specs.declared.span.Span.{Span}
use Rattle.keyspace.specs.storage.Tables.{bytes_at, range_of_span}
use Rattle.wire.specs.Fields.{RangeFields}
use Rattle.wire.specs.Spelling.{single_key}
use Rattle.wire.specs.Lying.{range_read, IsBetween, HasSingleKey, AreApart}
use Rattle.wire.proofs.Rests.{bytes_by_front}

-- the frame with the end of one span
abbrev pub sealed_one : List ℕ → Span → List ℕ
sealed_one frame span = if span.begin == span.end then set frame (span.begin + span.begin_length) 0 else frame

abbrev pub sealed_bytes : List ℕ → List Span → List ℕ
sealed_bytes frame [] = frame
sealed_bytes frame (span ∷ spans) = sealed_bytes (sealed_one frame span) spans

single_test : (span : Span) (to : ℕ) → HasSingleKey span to → eqb span.begin span.end ≡ true
single_test span to h = eq-eqb span.begin span.end (sym h.0)

both_test : (span : Span) → span.begin + span.begin_length < span.end → eqb span.begin span.end ≡ false
both_test span h = ne_eqb span.begin span.end (λ e. omega (arith, h, e))

sealed_single : (frame : List ℕ) (span : Span) (to : ℕ) → HasSingleKey span to
    → sealed_one frame span ≡ set frame (span.begin + span.begin_length) 0
sealed_single frame span to h = let test = single_test span to h in rw test refl

sealed_both : (frame : List ℕ) (span : Span) → span.begin + span.begin_length < span.end → sealed_one frame span ≡ frame
sealed_both frame span h = let test = both_test span h in rw test refl

pub read_single : (frame : List ℕ) (span : Span) → span.end ≡ span.begin
    → range_read frame span ≡ single_key (bytes_at frame span.begin span.begin_length)
read_single frame span h = let test = eq-eqb span.begin span.end (sym h) in rw test refl

pub read_both : (frame : List ℕ) (span : Span) → span.begin + span.begin_length < span.end
    → range_read frame span ≡ range_of_span frame span
read_both frame span h = let test = both_test span h in rw test refl

-- bytes that lie among the first ones alone
same_in_front : (a b : List ℕ) (n from count : ℕ) → take n a ≡ take n b → from + count ≤ n
    → bytes_at a from count ≡ bytes_at b from count
same_in_front a b n from count e le =
    let first : take (from + count) a ≡ take (from + count) b =
    sym (take-take (from + count) n a le) ∙ ap (λ (x : List ℕ). take (from + count) x) e
    ∙ take-take (from + count) n b le in
    bytes_by_front a from count ∙ ap (λ (x : List ℕ). drop from x) first ∙ sym (bytes_by_front b from count)

drop_more : (a b : List ℕ) (n m : ℕ) → drop n a ≡ drop n b → n ≤ m → drop m a ≡ drop m b
drop_more a b n m e le =
    let sum : n + (m - n) ≡ m = omega arith in
    ap (λ (k : ℕ). drop k a) (sym sum) ∙ sym (drop-drop (m - n) n a) ∙ ap (λ (x : List ℕ). drop (m - n) x) e
    ∙ drop-drop (m - n) n b ∙ ap (λ (k : ℕ). drop k b) sum

take_fewer : (a b : List ℕ) (n m : ℕ) → take n a ≡ take n b → m ≤ n → take m a ≡ take m b
take_fewer a b n m e le = sym (take-take m n a le) ∙ ap (λ (x : List ℕ). take m x) e ∙ take-take m n b le

-- .. and after the first ones
same_after : (a b : List ℕ) (n from count : ℕ) → drop n a ≡ drop n b → n ≤ from
    → bytes_at a from count ≡ bytes_at b from count
same_after a b n from count e le =
    ap (λ (x : List ℕ). take ((from + count) - from) x) (drop_more a b n from e le)

abbrev range_of : List ℕ → List ℕ → RangeFields
range_of begin end = record { begin = begin; end = end }

same_ends : (a b c d : List ℕ) → a ≡ b → c ≡ d → range_of a c ≡ range_of b d
same_ends a b c d e f = λ i. range_of (e i) (f i)

reported_in_front : (a b : List ℕ) (from : ℕ) (span : Span) (to : ℕ) → IsBetween from span to
    → take (to + 1) a ≡ take (to + 1) b → range_of_span a span ≡ range_of_span b span
reported_in_front a b from span to h e =
    elim h.keys [
      | inl one ↦ same_ends _ _ _ _
          (same_in_front a b (to + 1) span.begin span.begin_length e (omega (arith, one.2)))
          (same_in_front a b (to + 1) span.end span.end_length e (omega (arith, one.0, one.1, one.2)))
      | inr two ↦ same_ends _ _ _ _
          (same_in_front a b (to + 1) span.begin span.begin_length e (omega (arith, two.0, two.1)))
          (same_in_front a b (to + 1) span.end span.end_length e (omega (arith, two.1)))
    ]

read_in_front : (a b : List ℕ) (from : ℕ) (span : Span) (to : ℕ) → IsBetween from span to
    → take to a ≡ take to b → range_read a span ≡ range_read b span
read_in_front a b from span to h e =
    elim h.keys [
      | inl one ↦ read_single a span one.0
          ∙ ap single_key (same_in_front a b to span.begin span.begin_length e one.2)
          ∙ sym (read_single b span one.0)
      | inr two ↦ read_both a span two.0
          ∙ same_ends _ _ _ _
          (same_in_front a b to span.begin span.begin_length e (omega (arith, two.0, two.1)))
          (same_in_front a b to span.end span.end_length e two.1)
          ∙ sym (read_both b span two.0)
    ]

read_after : (a b : List ℕ) (from : ℕ) (span : Span) (to : ℕ) → IsBetween from span to
    → drop (from + 1) a ≡ drop (from + 1) b → range_read a span ≡ range_read b span
read_after a b from span to h e =
    let least : from + 1 ≤ span.begin = omega (arith, h.begin) in
    elim h.keys [
      | inl one ↦ read_single a span one.0
          ∙ ap single_key (same_after a b (from + 1) span.begin span.begin_length e least)
          ∙ sym (read_single b span one.0)
      | inr two ↦ read_both a span two.0
          ∙ same_ends _ _ _ _
          (same_after a b (from + 1) span.begin span.begin_length e least)
          (same_after a b (from + 1) span.end span.end_length e (omega (arith, least, two.0)))
          ∙ sym (read_both b span two.0)
    ]

between_rises : (from : ℕ) (span : Span) (to : ℕ) → IsBetween from span to → from < to
between_rises from span to h =
    elim h.keys [
      | inl one ↦ omega (arith, h.begin, one.2)
      | inr two ↦ omega (arith, h.begin, two.0, two.1)
    ]

pub apart_rises : (from : ℕ) (spans : List Span) (to : ℕ) → AreApart from spans to → from + length spans ≤ to
apart_rises from [] to h = omega (arith, h)
apart_rises from (span ∷ spans) to h =
    omega (arith, between_rises from span h.0 h.1, apart_rises h.0 spans to h.2)

reads_in_front : (a b : List ℕ) (from : ℕ) (spans : List Span) (to : ℕ) → AreApart from spans to
    → take to a ≡ take to b → map (range_read a) spans ≡ map (range_read b) spans
reads_in_front a b from [] to h e = refl
reads_in_front a b from (span ∷ spans) to h e =
    let least : h.0 ≤ to = omega (arith, apart_rises h.0 spans to h.2) in
    let first = read_in_front a b from span h.0 h.1 (take_fewer a b to h.0 e least) in
    let others = reads_in_front a b h.0 spans to h.2 e in
    λ i. first i ∷ others i

reads_after : (a b : List ℕ) (from : ℕ) (spans : List Span) (to : ℕ) → AreApart from spans to
    → drop (from + 1) a ≡ drop (from + 1) b → map (range_read a) spans ≡ map (range_read b) spans
reads_after a b from [] to h e = refl
reads_after a b from (span ∷ spans) to h e =
    let least : from + 1 ≤ h.0 + 1 = omega (arith, between_rises from span h.0 h.1) in
    let first = read_after a b from span h.0 h.1 e in
    let others = reads_after a b h.0 spans to h.2 (drop_more a b (from + 1) (h.0 + 1) e least) in
    λ i. first i ∷ others i

-- one span changes nothing before its key
one_in_front : (frame : List ℕ) (from : ℕ) (span : Span) (to : ℕ) → IsBetween from span to
    → take (from + 1) (sealed_one frame span) ≡ take (from + 1) frame
one_in_front frame from span to h =
    elim h.keys [
      | inl one ↦ ap (λ (x : List ℕ). take (from + 1) x) (sealed_single frame span to one)
          ∙ take-set-le (from + 1) frame (span.begin + span.begin_length) 0 (omega (arith, h.begin))
      | inr two ↦ ap (λ (x : List ℕ). take (from + 1) x) (sealed_both frame span two.0)
    ]

-- .. nor after its end
one_after : (frame : List ℕ) (from : ℕ) (span : Span) (to : ℕ) → IsBetween from span to
    → drop (to + 1) (sealed_one frame span) ≡ drop (to + 1) frame
one_after frame from span to h =
    elim h.keys [
      | inl one ↦ ap (λ (x : List ℕ). drop (to + 1) x) (sealed_single frame span to one)
          ∙ drop-set-lt (to + 1) frame (span.begin + span.begin_length) 0 (omega (arith, one.2))
      | inr two ↦ ap (λ (x : List ℕ). drop (to + 1) x) (sealed_both frame span two.0)
    ]

pub one_length : (frame : List ℕ) (from : ℕ) (span : Span) (to : ℕ) → IsBetween from span to
    → length (sealed_one frame span) ≡ length frame
one_length frame from span to h =
    elim h.keys [
      | inl one ↦ ap length (sealed_single frame span to one)
          ∙ length-set frame (span.begin + span.begin_length) 0
      | inr two ↦ ap length (sealed_both frame span two.0)
    ]

-- the bytes of a key and one zero byte after them
with_zero : (frame : List ℕ) (from count : ℕ) → from + count < length frame
    → bytes_at (set frame (from + count) 0) from (count + 1) ≡ bytes_at frame from count ++ 0 ∷ []
with_zero frame from count lt =
    let more : from + (count + 1) ≡ (from + count) + 1 = omega arith in
    let first = take (from + count) frame in
    let len : from ≤ length first = omega (arith, length-take (from + count) frame, lt) in
    bytes_by_front (set frame (from + count) 0) from (count + 1)
    ∙ ap (λ (n : ℕ). drop from (take n (set frame (from + count) 0))) more
    ∙ ap (λ (x : List ℕ). drop from x) (take_more_set frame (from + count) 0 lt)
    ∙ drop-append-le from first (0 ∷ []) len
    ∙ ap (λ (x : List ℕ). x ++ 0 ∷ []) (sym (bytes_by_front frame from count))

before_zero : (frame : List ℕ) (from count : ℕ)
    → bytes_at (set frame (from + count) 0) from count ≡ bytes_at frame from count
before_zero frame from count =
    bytes_by_front (set frame (from + count) 0) from count
    ∙ ap (λ (x : List ℕ). drop from x) (take-set frame (from + count) 0)
    ∙ sym (bytes_by_front frame from count)

-- one span means what was read once it has its end
one_reported : (frame : List ℕ) (from : ℕ) (span : Span) (to : ℕ) → IsBetween from span to → to < length frame
    → range_of_span (sealed_one frame span) span ≡ range_read frame span
one_reported frame from span to h lt =
    elim h.keys [
      | inl one ↦
          let k = span.begin + span.begin_length in
          let new = set frame k 0 in
          let low : k < length frame = omega (arith, one.2, lt) in
          let ends : bytes_at new span.end span.end_length ≡ bytes_at new span.begin (span.begin_length + 1) =
          λ i. bytes_at new (one.0 i) (one.1 i) in
          ap (λ (x : List ℕ). range_of_span x span) (sealed_single frame span to one)
          ∙ same_ends _ _ _ _ (before_zero frame span.begin span.begin_length)
          (ends ∙ with_zero frame span.begin span.begin_length low)
          ∙ sym (read_single frame span one.0)
      | inr two ↦ ap (λ (x : List ℕ). range_of_span x span) (sealed_both frame span two.0)
          ∙ sym (read_both frame span two.0)
    ]

-- spans change nothing before the first of them
all_in_front : (frame : List ℕ) (from : ℕ) (spans : List Span) (to : ℕ) → AreApart from spans to
    → take (from + 1) (sealed_bytes frame spans) ≡ take (from + 1) frame
all_in_front frame from [] to h = refl
all_in_front frame from (span ∷ spans) to h =
    let one = sealed_one frame span in
    let least : from + 1 ≤ h.0 + 1 = omega (arith, between_rises from span h.0 h.1) in
    take_fewer (sealed_bytes one spans) one (h.0 + 1) (from + 1) (all_in_front one h.0 spans to h.2) least
    ∙ one_in_front frame from span h.0 h.1

-- the spans mean what was read once all have their ends
all_reported : (frame : List ℕ) (from : ℕ) (spans : List Span) (to : ℕ) → AreApart from spans to → to < length frame
    → map (range_of_span (sealed_bytes frame spans)) spans ≡ map (range_read frame) spans
all_reported frame from [] to h lt = refl
all_reported frame from (span ∷ spans) to h lt =
    let one = sealed_one frame span in
    let least : h.0 ≤ to = omega (arith, apart_rises h.0 spans to h.2) in
    let here : h.0 < length frame = omega (arith, least, lt) in
    let still : to < length one = rw (one_length frame from span h.0 h.1) lt in
    let first : range_of_span (sealed_bytes one spans) span ≡ range_read frame span =
    reported_in_front (sealed_bytes one spans) one from span h.0 h.1 (all_in_front one h.0 spans to h.2)
    ∙ one_reported frame from span h.0 h.1 here in
    let others : map (range_of_span (sealed_bytes one spans)) spans ≡ map (range_read frame) spans =
    all_reported one h.0 spans to h.2 still
    ∙ reads_after one frame h.0 spans to h.2 (one_after frame from span h.0 h.1) in
    λ i. first i ∷ others i

-- .. a byte more than the frame has
pub sealed_reported : (frame : List ℕ) (spans : List Span) → AreApart 0 spans (length frame)
    → map (range_of_span (sealed_bytes (frame ++ 0 ∷ []) spans)) spans ≡ map (range_read frame) spans
sealed_reported frame spans h =
    let more = frame ++ 0 ∷ [] in
    let lt : length frame < length more = omega (arith, length-append frame (0 ∷ [])) in
    all_reported more 0 spans (length frame) h lt
    ∙ reads_in_front more frame 0 spans (length frame) h
    (take-append-le (length frame) frame (0 ∷ []) (omega arith))

next_apart : (spans : List Span) (i : ℕ) (d : Span) (from to : ℕ) → i < length spans → AreApart from (drop i spans) to
    → AreApart from (get_or spans i d ∷ drop (suc i) spans) to
next_apart spans i d from to lt h = subst (λ (l : List Span). AreApart from l to) (drop-cons spans i d lt) h

key_within : (from : ℕ) (span : Span) (to : ℕ) → IsBetween from span to → span.begin + span.begin_length ≤ to
key_within from span to h =
    elim h.keys [
      | inl one ↦ one.2
      | inr two ↦ omega (arith, two.0, two.1)
    ]

-- the key of the next span lies in the frame
pub next_key : (spans : List Span) (i : ℕ) (d : Span) (from to : ℕ) → i < length spans → AreApart from (drop i spans) to
    → (get_or spans i d).begin + (get_or spans i d).begin_length ≤ to
next_key spans i d from to lt h =
    let next = next_apart spans i d from to lt h in
    omega (arith, key_within from (get_or spans i d) next.0 next.1, apart_rises next.0 (drop (suc i) spans) to next.2)

-- all spans have their ends
pub sealed_all : (frame made : List ℕ) (spans : List Span) (i : ℕ) → AreApart 0 spans (length frame) → length spans ≤ i
    → sealed_bytes made (drop i spans) ≡ sealed_bytes (frame ++ 0 ∷ []) spans
    → map (range_of_span made) spans ≡ map (range_read frame) spans
sealed_all frame made spans i h le e =
    let is : made ≡ sealed_bytes (frame ++ 0 ∷ []) spans =
    ap (λ (l : List Span). sealed_bytes made l) (sym (drop_all i spans le)) ∙ e in
    ap (λ (x : List ℕ). map (range_of_span x) spans) is ∙ sealed_reported frame spans h
