-- What is spelled is read again, whatever follows it.
use Rattle.std.proofs.Common.{◌≡◌, ℕ, ℤ, pos, negsuc, suc, ◌+◌, ◌^◌, ◌<◌, ◌≤◌, ◌≤ℤ◌, ◌<ℤ◌, int_le, int_lt, eq-eqb, Bool, true, false, not, ◌&&◌, ltb, leb, List, [], ◌∷◌, ◌++◌, length, drop, Ok, refl, sym, ap, ◌∙◌, ◌⊎◌, inl, inr, append_assoc, arith}
use Rattle.std.specs.List.{flat_map, AllByRecursion}
use Rattle.std.specs.Int.{w64, cast_unsigned}
use Rattle.std.specs.Int.RustNames.{FitsSigned}
use Rattle.std.proofs.lemmas.Bool.{le-ltb, le-leb}
use Rattle.std.proofs.lemmas.Int.{ints, to_z-of_z}
use Rattle.std.proofs.lemmas.List.{append-nil, take_at, drop_at, length-append}
use Rattle.std.proofs.lemmas.List.Concat.{flat_map-cons}
use Rattle.std.proofs.Math.Facts.{Fits-of_z}
use Rattle.byteorder.specs.Endian.{big_bytes, big_number}
use Rattle.byteorder.specs.Numbers.{big_number-reads_back, length-bytes_high_first}
use Rattle.keys.specs.Key.{is_before}
use Rattle.keys.proofs.callers.Booleans.{and_both}
use Rattle.wire.specs.declared.version.WireVersion.{WireVersion}
use Rattle.wire.specs.declared.version.WireVersion.TheVariants.{One, Two}
use Rattle.wire.specs.Fields.{RangeFields, TxnFields, BatchFields}
use Rattle.wire.specs.Spelling.{signed_text, key_text, ends_text, is_single_key, formed_text, range_text, marks_text, txn_text, batch_kind, header_text, batch_body, frame, IsShort, RangeHolds, TxnHolds, BatchHolds}
use Rattle.wire.specs.Reading.{number_at, signed_at, version_at, count_at, marks_at, kind_at, key_at, ends_at, form_at, formed_at, range_at, many_at, txn_at, batch_kind_at, header_at, fields_at, batch_at, body_at, all_of, read_batch}
use Rattle.wire.proofs.Loop.{Reading}
use Rattle.wire.proofs.callers.Singles.{single_is}
use Rattle.wire.proofs.Parts.{rest_text, versioned_body, VersionedHolds}

pub number_again : (n x : ℕ) (rest : List ℕ) → x < 256 ^ n
    → number_at n (big_bytes n x ++ rest) ≡ Ok (x, rest)
number_again n x rest small =
    let len : length (big_bytes n x) ≡ n = length-bytes_high_first n x in
    let long : ltb (length (big_bytes n x ++ rest)) n ≡ false =
    le-ltb _ _ (omega (arith, length-append (big_bytes n x) rest)) in
    rw (long, big_number-reads_back n x rest small, drop_at (big_bytes n x) rest n len) refl

signed_again : (z : ℤ) (rest : List ℕ) → FitsSigned w64 z → signed_at (signed_text z ++ rest) ≡ Ok (z, rest)
signed_again z rest fits =
    let bits = Fits-of_z {w = w64} {z = z} fits in
    let small : cast_unsigned w64 z < 256 ^ 8 = bits.fits in
    rw (number_again 8 (cast_unsigned w64 z) rest small, to_z-of_z w64 z fits) refl

pub version_again : (holds : ℤ → Bool) (z : ℤ) (rest : List ℕ) → FitsSigned w64 z → holds z ≡ true
    → version_at holds (signed_text z ++ rest) ≡ Ok (z, rest)
unfolding version_at
version_again holds z rest fits test = rw (signed_again z rest fits, test) refl

pub count_again : (limit n : ℕ) (rest : List ℕ) → n ≤ limit → limit < 256 ^ 2
    → count_at limit (big_bytes 2 n ++ rest) ≡ Ok (n, rest)
unfolding count_at
count_again limit n rest few low =
    let test : leb n limit ≡ true = le-leb n limit few in
    rw (number_again 2 n rest (omega arith), test) refl

marks_again : (marked : Bool) (rest : List ℕ) → marks_at (marks_text marked ++ rest) ≡ Ok (marked, rest)
unfolding marks_at
marks_again true rest = rw (number_again 1 1 rest (omega arith)) refl
marks_again false rest = rw (number_again 1 0 rest (omega arith)) refl

pub kind_again : (kind : ℕ) (rest : List ℕ) → kind < 256 → kind_at kind (big_bytes 1 kind ++ rest) ≡ Ok rest
unfolding kind_at
kind_again kind rest small = rw (number_again 1 kind rest small, eq-eqb kind kind refl) refl

key_again : (limit : ℕ) (key rest : List ℕ) → length key ≤ limit → limit ≤ 10001
    → key_at limit (key_text key ++ rest) ≡ Ok (key, rest)
unfolding key_at
key_again limit key rest short most =
    let n = length key in
    let low : ltb limit n ≡ false = le-ltb _ _ short in
    let there : ltb (length (key ++ rest)) n ≡ false = le-ltb _ _ (omega (arith, length-append key rest)) in
    let regrouped : key_text key ++ rest ≡ big_bytes 2 n ++ (key ++ rest) =
    append_assoc (big_bytes 2 n) key rest in
    ap (key_at limit) regrouped
    ∙ rw (
      number_again 2 n (key ++ rest) (omega arith),
      low,
      there,
      take_at key rest n refl,
      drop_at key rest n refl,
    ) refl

abbrev read_as : RangeFields → List ℕ → Reading RangeFields
read_as range rest = Ok (range, rest)

is_true_or_false : (b : Bool) → (b ≡ true) ⊎ (b ≡ false)
is_true_or_false true = inl refl
is_true_or_false false = inr refl

not_false : (b : Bool) → not b ≡ true → b ≡ false
not_false true h = cc
not_false false h = refl

ends_again : (range : RangeFields) (rest : List ℕ) → RangeHolds range
    → ends_at (ends_text range ++ rest) ≡ Ok (range, rest)
unfolding ends_at
ends_again range rest holds =
    let regrouped : ends_text range ++ rest ≡ key_text range.begin ++ (key_text range.end ++ rest) =
    append_assoc (key_text range.begin) (key_text range.end) rest in
    let test : is_before range.end range.begin ≡ false = not_false _ holds.ordered in
    ap ends_at regrouped
    ∙ rw (
      key_again 10001 range.begin (key_text range.end ++ rest) holds.begin.short (omega arith),
      key_again 10001 range.end rest holds.end.short (omega arith),
      test,
    ) refl

-- a form, and the text that stands after it
form_again : (form : ℕ) (text rest : List ℕ) → form < 256
    → formed_at ((form ∷ text) ++ rest) ≡ form_at form (text ++ rest)
unfolding formed_at
form_again form text rest small =
    let byte : big_bytes 1 form ≡ form ∷ [] = ap (λ (x : ℕ). x ∷ []) (omega arith) in
    let read : number_at 1 (form ∷ (text ++ rest)) ≡ Ok (form, text ++ rest) =
    ap (λ (x : List ℕ). number_at 1 (x ++ (text ++ rest))) (sym byte)
    ∙ number_again 1 form (text ++ rest) small in
    rw read refl

single_again : (range : RangeFields) (rest : List ℕ) → RangeHolds range → is_single_key range ≡ true
    → form_at 1 (key_text range.begin ++ rest) ≡ Ok (range, rest)
unfolding form_at
single_again range rest holds single =
    let same = single_is range single in
    let end_len : length range.end ≡ length range.begin + 1 =
    ap (λ (r : RangeFields). length r.end) (sym same) ∙ length-append range.begin (0 ∷ []) in
    let short : length range.begin ≤ 10000 = omega (arith, end_len, holds.end.short) in
    rw (key_again 10000 range.begin rest short (omega arith)) (ap (λ (r : RangeFields). read_as r rest) same)

plain_again : (range : RangeFields) (rest : List ℕ) → RangeHolds range → is_single_key range ≡ false
    → form_at 0 (ends_text range ++ rest) ≡ Ok (range, rest)
unfolding form_at
plain_again range rest holds plain = rw (ends_again range rest holds, plain) refl

formed_again : (range : RangeFields) (rest : List ℕ) → RangeHolds range
    → formed_at (formed_text range ++ rest) ≡ Ok (range, rest)
unfolding formed_text
formed_again range rest holds =
    elim (is_true_or_false (is_single_key range)) [
      | inl single ↦ let text : formed_text range ≡ 1 ∷ key_text range.begin = rw single refl in
          ap (λ (x : List ℕ). formed_at (x ++ rest)) text
          ∙ form_again 1 (key_text range.begin) rest (omega arith) ∙ single_again range rest holds single
      | inr plain ↦ let text : formed_text range ≡ 0 ∷ ends_text range = rw plain refl in
          ap (λ (x : List ℕ). formed_at (x ++ rest)) text
          ∙ form_again 0 (ends_text range) rest (omega arith) ∙ plain_again range rest holds plain
    ]

pub range_again : (version : WireVersion) (range : RangeFields) (rest : List ℕ) → RangeHolds range
    → range_at version (range_text version range ++ rest) ≡ Ok (range, rest)
range_again One range rest holds = ends_again range rest holds
range_again Two range rest holds = formed_again range rest holds

-- as each value is read again, so are many of them
abbrev pub ReadsAgain : {A : Type 0} → (List ℕ → Reading A) → (A → List ℕ) → (A → Type 0) → Type 0
ReadsAgain {A} one text Holds = (a : A) (rest : List ℕ) → Holds a → one (text a ++ rest) ≡ Ok (a, rest)

pub many_again : {A : Type 0} (one : List ℕ → Reading A) (text : A → List ℕ) (Holds : A → Type 0)
    → ReadsAgain one text Holds
    → (all : List A) (rest : List ℕ) → AllByRecursion Holds all
    → many_at one (length all) (flat_map text all ++ rest) ≡ Ok (all, rest)
unfolding many_at
many_again one text Holds each [] rest holds = refl
many_again {A} one text Holds each (a ∷ all) rest holds =
    let regrouped : flat_map text (a ∷ all) ++ rest ≡ text a ++ (flat_map text all ++ rest) =
    ap (λ (x : List ℕ). x ++ rest) (flat_map-cons text a all)
    ∙ append_assoc (text a) (flat_map text all) rest in
    ap (many_at one (suc (length all))) regrouped
    ∙ rw (
      each a (flat_map text all ++ rest) holds.0,
      many_again one text Holds each all rest holds.1,
    ) refl

pub at_least : (a b : ℤ) → a ≤ℤ b → int_le a b ≡ true
at_least a b h = grind (arith, ints)

under : (a b : ℤ) → a <ℤ b → int_lt a b ≡ true
under a b h = grind (arith, ints)

pub txn_again : (version : WireVersion) (txn : TxnFields) (rest : List ℕ) → TxnHolds txn
    → txn_at version (txn_text version txn ++ rest) ≡ Ok (txn, rest)
unfolding txn_at txn_text
txn_again version txn rest holds =
    let text = range_text version in
    let each = range_again version in
    let writes = flat_map text txn.writes in
    let reads = flat_map text txn.reads in
    let write_count = big_bytes 2 (length txn.writes) in
    let read_count = big_bytes 2 (length txn.reads) in
    let marks = marks_text txn.marked in
    let snapshot = signed_text txn.snapshot in
    let after_reads = writes ++ rest in
    let after_write_count = reads ++ after_reads in
    let after_read_count = write_count ++ after_write_count in
    let after_marks = read_count ++ after_read_count in
    let after_snapshot = marks ++ after_marks in
    let regrouped : txn_text version txn ++ rest ≡ snapshot ++ after_snapshot = simp append_assoc in
    ap (txn_at version) regrouped
    ∙ rw (
      version_again (λ v. int_le (pos 0) v) txn.snapshot after_snapshot holds.snapshot_fits
          (at_least _ _ holds.snapshot),
      marks_again txn.marked after_marks,
      count_again 1024 (length txn.reads) after_read_count holds.few_reads (omega arith),
      count_again 1024 (length txn.writes) after_write_count holds.few_writes (omega arith),
      many_again (range_at version) text RangeHolds each txn.reads after_reads holds.reads,
      many_again (range_at version) text RangeHolds each txn.writes rest holds.writes,
    ) refl

header_again : (batch : BatchFields) (rest : List ℕ) → BatchHolds batch
    → header_at (header_text batch.previous batch.version batch.received ++ rest)
    ≡ Ok ((batch.previous, batch.version, batch.received), rest)
unfolding header_at
header_again batch rest holds =
    let previous = signed_text batch.previous in
    let version = signed_text batch.version in
    let received = signed_text batch.received in
    let regrouped : header_text batch.previous batch.version batch.received ++ rest
    ≡ previous ++ (version ++ (received ++ rest)) = simp append_assoc in
    ap header_at regrouped
    ∙ rw (
      version_again (λ v. int_le (negsuc 0) v) batch.previous (version ++ (received ++ rest))
          holds.previous_fits (at_least _ _ holds.previous),
      version_again (λ v. int_le (pos 0) v && int_lt batch.previous v) batch.version (received ++ rest)
          holds.version_fits (and_both _ _ (at_least _ _ holds.version) (under _ _ holds.rises)),
      version_again (λ v. int_le (negsuc 0) v && int_lt v batch.version) batch.received rest
          holds.received_fits (and_both _ _ (at_least _ _ holds.received) (under _ _ holds.received_before)),
    ) refl

kind_found : (version : WireVersion) (rest : List ℕ)
    → batch_kind_at ((batch_kind version ∷ []) ++ rest) ≡ Ok (version, rest)
unfolding batch_kind_at
kind_found One rest = rw (number_again 1 1 rest (omega arith)) refl
kind_found Two rest = rw (number_again 1 3 rest (omega arith)) refl

fields_again : (version : WireVersion) (batch : BatchFields) (rest : List ℕ) → BatchHolds batch
    → fields_at version (rest_text version batch ++ rest) ≡ Ok (batch, rest)
unfolding fields_at
fields_again version batch rest holds =
    let header = header_text batch.previous batch.version batch.received in
    let count = big_bytes 2 (length batch.txns) in
    let txns = flat_map (txn_text version) batch.txns in
    let regrouped : rest_text version batch ++ rest ≡ header ++ (count ++ (txns ++ rest)) =
    append_assoc header (count ++ txns) rest ∙ ap (λ (x : List ℕ). header ++ x)
    (append_assoc count txns rest) in
    ap (fields_at version) regrouped
    ∙ rw (
      header_again batch (count ++ (txns ++ rest)) holds,
      count_again 4096 (length batch.txns) (txns ++ rest) holds.few (omega arith),
      many_again (txn_at version) (txn_text version) TxnHolds (txn_again version) batch.txns rest holds.txns,
    ) refl

pub batch_again : ReadsAgain batch_at versioned_body VersionedHolds
unfolding batch_at batch_body
batch_again x rest holds =
    let version = x.0 in
    let batch = x.1 in
    rw (kind_found version (rest_text version batch ++ rest), fields_again version batch rest holds) refl

pub body_again : (body rest : List ℕ) → IsShort body → body_at (frame body ++ rest) ≡ Ok body
unfolding body_at
body_again body rest short =
    let n = length body in
    let small : n < 256 ^ 4 = omega arith in
    let regrouped : frame body ++ rest ≡ big_bytes 4 n ++ (body ++ rest) =
    append_assoc (big_bytes 4 n) body rest in
    let number : big_number 4 (big_bytes 4 n ++ (body ++ rest)) ≡ n =
    big_number-reads_back 4 n (body ++ rest) small in
    let len : length (big_bytes 4 n ++ (body ++ rest)) ≡ 4 + (n + length rest) =
    length-append (big_bytes 4 n) (body ++ rest) ∙ ap (λ (l : ℕ). 4 + l) (length-append body rest) in
    let there : ltb (length (big_bytes 4 n ++ (body ++ rest))) 4 ≡ false = le-ltb _ _ (omega arith) in
    let low : ltb 4194304 n ≡ false = le-ltb _ _ short in
    let entire : ltb (length (big_bytes 4 n ++ (body ++ rest))) (4 + n) ≡ false = le-ltb _ _ (omega arith) in
    let after : drop 4 (big_bytes 4 n ++ (body ++ rest)) ≡ body ++ rest =
    drop_at (big_bytes 4 n) (body ++ rest) 4 refl in
    ap body_at regrouped ∙ rw (there, number, low, entire, after, take_at body rest n refl) refl

-- a body that is the text of a value is read as that value
pub all_again : {A : Type 0} (one : List ℕ → Reading A) (text : A → List ℕ) (Holds : A → Type 0)
    → ReadsAgain one text Holds
    → (a : A) → Holds a → all_of (one (text a)) ≡ Ok a
all_again {A} one text Holds each a holds =
    let read : one (text a) ≡ Ok (a, []) = ap one (sym (append-nil (text a))) ∙ each a [] holds in
    rw read refl

pub batch_frame_again : (version : WireVersion) (batch : BatchFields) (rest : List ℕ) → BatchHolds batch
    → IsShort (batch_body version batch) → read_batch (frame (batch_body version batch) ++ rest) ≡ Ok
    (version, batch)
unfolding read_batch
batch_frame_again version batch rest holds short =
    rw (
      body_again (batch_body version batch) rest short,
      all_again batch_at versioned_body VersionedHolds batch_again (version, batch) holds,
    ) refl
