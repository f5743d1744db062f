-- What is written reads back.
use Rattle.std.proofs.Common.{◌≡◌, ℕ, ℤ, pos, negsuc, suc, ◌+◌, ◌*◌, ◌/◌, ◌%◌, ◌<◌, ◌≤◌, ◌<ℤ◌, int_lt, Bool, true, false, cond, not, ◌&&◌, ◌==◌, leb, List, [], ◌∷◌, ◌++◌, length, map, Option, Some, None, Ok, ok_or, refl, sym, ap, subst, ◌∙◌, inl, inr, arith, w64, IsTrue}
use Rattle.std.specs.Char.{digit_char, digit_value, is_digit}
use Rattle.std.specs.Fmt.{signed_decimal}
use Rattle.std.specs.List.{AllByRecursion}
use Rattle.std.specs.Int.RustNames.{FitsSigned}
use Rattle.std.proofs.lemmas.Str.{digit_value-digit_char}
use Rattle.std.proofs.lemmas.Fmt.{parse-signed_decimal}
use Rattle.std.proofs.lemmas.Bool.{and_from, lt-ltb, le-leb, eqb-true, cases_Bool}
use Rattle.std.proofs.lemmas.List.Elements.{All-head, All-tail}
use Rattle.std.proofs.lemmas.Int.{ints}
use Rattle.std.proofs.lemmas.List.{length-append}
use Rattle.json.specs.Json.{Json}
use Rattle.json.specs.Tree.{depth, items_depth, HasNumbers, ItemsHaveNumbers}
use Rattle.json.specs.Value.{items_of}
use Rattle.json.specs.Print.{IsNumber}
use Rattle.json.proofs.Printed.Decimals.{IsNumber-signed_decimal}
use Rattle.json.proofs.Printed.Trees.{document-print}
use Rattle.keys.specs.Key.{IsBytes, is_before}
use Rattle.keyspace.specs.storage.Fields.{RangeFields, TxnFields, RangeHolds}
use Rattle.wire.specs.Fields.{BatchFields}
use Rattle.wire.specs.Spelling.{single_key, is_single_key, TxnHolds, BatchHolds}
use Rattle.wire.proofs.callers.Singles.{single_is}
use Rattle.wire.proofs.callers.Numbers.{at_least}
use Rattle.json_lines.specs.KeyForm.{backslash, is_printable, byte_form, key_form, after_byte, spelled_from, spelled_key}
use Rattle.json_lines.specs.Values.{◌>>=◌, integer_of, each, count, list_in, are_among}
use Rattle.json_lines.specs.Ranges.{key_within, ends_in, pair_in, range_in}
use Rattle.json_lines.specs.Batches.{txn_in, txn_members, batch_in, batch_members, batch_of, are_versions}
use Rattle.json_lines.specs.Written.{list_json, range_json, txn_json, batch_json, batch_line}
use Rattle.json_lines.proofs.Numbers.{integer_parses}

-- ---- keys

form_reads_first : (b : ℕ) (rest : List ℕ) → b < 256 → spelled_key (byte_form b ++ rest) ≡ after_byte b (spelled_key rest)
unfolding byte_form spelled_from
form_reads_first b rest small =
    elim (cases_Bool (b == backslash)) [
      | inl is ↦ let e : b ≡ 92 = eqb-true b 92 is in
          subst (λ (x : ℕ). spelled_key (byte_form x ++ rest) ≡ after_byte x (spelled_key rest)) (sym e) refl
      | inr other ↦ elim (cases_Bool (is_printable b)) [
        | inl shown ↦
            let form : byte_form b ≡ b ∷ [] = rw (other, shown) refl in
            let read : spelled_key (b ∷ rest) ≡ after_byte b (spelled_key rest) = rw (other, shown) refl in
            ap (λ (t : List ℕ). spelled_key (t ++ rest)) form ∙ read
        | inr hidden ↦
            let h = digit_char (b / 16) in
            let l = digit_char (b % 16) in
            let form : byte_form b ≡ 92 ∷ 120 ∷ h ∷ l ∷ [] = rw (other, hidden) refl in
            let high : digit_value h ≡ b / 16 = digit_value-digit_char (b / 16) (omega arith) in
            let low : digit_value l ≡ b % 16 = digit_value-digit_char (b % 16) (omega arith) in
            let tests : (is_digit h 16 && is_digit l 16) ≡ true =
            and_from (is_digit h 16) (is_digit l 16) (lt-ltb (digit_value h) 16 (omega (arith, high)))
            (lt-ltb (digit_value l) 16 (omega (arith, low))) in
            let value : digit_value h * 16 + digit_value l ≡ b = omega (arith, high, low) in
            ap (λ (t : List ℕ). spelled_key (t ++ rest)) form
            ∙ ap (λ (t : Bool). cond t (after_byte (digit_value h * 16 + digit_value l) (spelled_key rest)) None) tests
            ∙ ap (λ (n : ℕ). after_byte n (spelled_key rest)) value
      ]
    ]

-- every byte string has a printed form, which spells it
pub form_reads : (key : List ℕ) → IsBytes key → spelled_key (key_form key) ≡ Some key
unfolding spelled_from
form_reads [] h = refl
form_reads (b ∷ bs) h =
    form_reads_first b (key_form bs) (All-head (λ byte. byte < 256) b bs h)
    ∙ ap (after_byte b) (form_reads bs (All-tail (λ byte. byte < 256) b bs h))

within : (limit : ℕ) (key : List ℕ) → IsBytes key → length key ≤ limit → key_within limit (key_form key) ≡ Some key
unfolding key_within
within limit key bytes short = rw (form_reads key bytes, le-leb (length key) limit short) refl

-- ---- numbers

from_ok : (o : Option ℤ) (text : List ℕ) (n : ℤ) → ok_or o text ≡ Ok n → o ≡ Some n
from_ok (Some x) text n e = cc
from_ok None text n e = absurd cc

pub integer_again : (n : ℤ) → FitsSigned w64 n → integer_of (signed_decimal n) ≡ Some n
integer_again n f =
    let text = signed_decimal n in
    let read : ok_or (integer_of text) text ≡ Ok n =
    parse-signed_decimal w64 n text (ok_or (integer_of text) text) f (omega (arith, f.sfits)) refl (integer_parses text) in
    from_ok (integer_of text) text n read

-- ---- ranges

not_true : {b : Bool} → IsTrue (not b) → b ≡ false
not_true {b} h = grind arith

range_again : (range : RangeFields) → RangeHolds range → range_in (range_json range) ≡ Some range
unfolding range_json pair_in ends_in
range_again range holds =
    elim (cases_Bool (is_single_key range)) [
      | inl single ↦
          let is : single_key range.begin ≡ range = single_is range single in
          let longer : length range.end ≡ length range.begin + 1 =
          ap (λ (r : RangeFields). length r.end) (sym is) ∙ length-append range.begin (0 ∷ []) in
          let key : key_within 10000 (key_form range.begin) ≡ Some range.begin =
          within 10000 range.begin holds.begin.bytes (omega (arith, longer, holds.end.short)) in
          rw (single, key) (ap Some is)
      | inr other ↦
          let begin : key_within 10001 (key_form range.begin) ≡ Some range.begin =
          within 10001 range.begin holds.begin.bytes holds.begin.short in
          let end : key_within 10001 (key_form range.end) ≡ Some range.end =
          within 10001 range.end holds.end.bytes holds.end.short in
          let ordered : is_before range.end range.begin ≡ false = not_true holds.ordered in
          rw (other, begin, end, ordered) refl
    ]

-- ---- lists

each_again : {A : Type 0} (one : Json → Option A) (show : A → Json) (Holds : A → Type 0)
    → ((a : A) → Holds a → one (show a) ≡ Some a) → (xs : List A) → AllByRecursion Holds xs
    → each one (items_of (map show xs)) ≡ Some xs
unfolding each
each_again one show Holds again [] h = refl
each_again one show Holds again (x ∷ xs) h = rw (again x h.0, each_again one show Holds again xs h.1) refl

count_shown : {A : Type 0} (show : A → Json) (xs : List A) → count (items_of (map show xs)) ≡ length xs
count_shown show [] = refl
count_shown show (x ∷ xs) = ap suc (count_shown show xs)

pub list_again : {A : Type 0} (one : Json → Option A) (show : A → Json) (Holds : A → Type 0) (limit : ℕ)
    → ((a : A) → Holds a → one (show a) ≡ Some a) → (xs : List A) → AllByRecursion Holds xs → length xs ≤ limit
    → list_in one limit (list_json show xs) ≡ Some xs
unfolding list_in
list_again one show Holds limit again xs h few =
    let test : leb (count (items_of (map show xs))) limit ≡ true =
    le-leb _ limit (omega (arith, count_shown show xs, few)) in
    rw test (each_again one show Holds again xs h)

-- ---- transactions and batches

below : (a b : ℤ) → a <ℤ b → int_lt a b ≡ true
below a b h = grind (arith, ints)

txn_again : (txn : TxnFields) → TxnHolds txn → txn_in (txn_json txn) ≡ Some txn
unfolding txn_in txn_members txn_json are_among
txn_again txn holds =
    rw (
      integer_again txn.snapshot holds.snapshot_fits,
      list_again range_in range_json RangeHolds 1024 range_again txn.reads holds.reads holds.few_reads,
      list_again range_in range_json RangeHolds 1024 range_again txn.writes holds.writes holds.few_writes,
      at_least (pos 0) txn.snapshot holds.snapshot,
    ) refl

batch_again : (batch : BatchFields) → BatchHolds batch → batch_in (batch_json batch) ≡ Some batch
unfolding batch_in batch_members batch_json are_among
batch_again batch holds =
    let versions : are_versions batch.previous batch.version batch.received ≡ true =
    and_from _ _ (at_least (negsuc 0) batch.previous holds.previous) (and_from _ _ (below batch.previous batch.version holds.rises)
    (and_from _ _ (at_least (negsuc 0) batch.received holds.received) (below batch.received batch.version holds.received_before))) in
    rw (
      integer_again batch.previous holds.previous_fits,
      integer_again batch.version holds.version_fits,
      integer_again batch.received holds.received_fits,
      list_again txn_in txn_json TxnHolds 4096 txn_again batch.txns holds.txns holds.few,
      versions,
    ) refl

-- ---- texts

-- each value has numbers that can be written, and nests no deeper
abbrev pub Fine : ℕ → Json → Type 0
Fine most j = HasNumbers j × (depth j ≤ most)

pub all_fine : {A : Type 0} (show : A → Json) (Holds : A → Type 0) (most : ℕ) → ((a : A) → Holds a → Fine most (show a))
    → (xs : List A) → AllByRecursion Holds xs → ItemsHaveNumbers (items_of (map show xs)) × (items_depth (items_of (map show xs)) ≤ most)
all_fine show Holds most fine [] h = (tt, omega arith)
all_fine show Holds most fine (x ∷ xs) h =
    let first = fine x h.0 in
    let others = all_fine show Holds most fine xs h.1 in
    ((first.0, others.0), omega (arith, first.1, others.1))

pub number_fine : (n : ℤ) → FitsSigned w64 n → IsNumber (signed_decimal n)
number_fine n f = IsNumber-signed_decimal n (omega (arith, f.sfits))

range_fine : (range : RangeFields) → RangeHolds range → Fine 1 (range_json range)
unfolding range_json
range_fine range holds =
    elim (cases_Bool (is_single_key range)) [
      | inl single ↦ rw single (tt, omega arith)
      | inr other ↦ rw other ((tt, (tt, tt)), omega arith)
    ]

txn_fine : (txn : TxnFields) → TxnHolds txn → Fine 3 (txn_json txn)
unfolding txn_json
txn_fine txn holds =
    let reads = all_fine range_json RangeHolds 1 range_fine txn.reads holds.reads in
    let writes = all_fine range_json RangeHolds 1 range_fine txn.writes holds.writes in
    ((number_fine txn.snapshot holds.snapshot_fits, (tt, (reads.0, (writes.0, tt)))), omega (arith, reads.1, writes.1))

batch_fine : (batch : BatchFields) → BatchHolds batch → Fine 5 (batch_json batch)
unfolding batch_json
batch_fine batch holds =
    let txns = all_fine txn_json TxnHolds 3 txn_fine batch.txns holds.txns in (
      (
        number_fine batch.previous holds.previous_fits,
        (
          number_fine batch.version holds.version_fits,
          (number_fine batch.received holds.received_fits, (txns.0, tt)),
        ),
      ),
      omega (arith, txns.1),
    )

-- the line of a batch spells it
pub batch_line_again : (batch : BatchFields) → BatchHolds batch → batch_of (batch_line batch) ≡ Some batch
batch_line_again batch holds =
    let fine = batch_fine batch holds in
    ap (λ (o : Option Json). o >>= batch_in) (document-print (batch_json batch) fine.0 (omega (arith, fine.1)))
    ∙ batch_again batch holds
