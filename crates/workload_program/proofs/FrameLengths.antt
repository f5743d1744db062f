-- The frame of a batch that is drawn is short.
use Rattle.std.proofs.Common.{◌≡◌, ℕ, zero, suc, ap, ◌+◌, ◌*◌, ◌%◌, ◌≤◌, ℤ, Bool, List, [], ◌∷◌, ◌++◌, length, map, replicate, All, refl, arith}
use Rattle.std.specs.List.{flat_map}
use Rattle.std.specs.Int.{w64, bytes_high_first, cast_unsigned, to_be_bytes}
use Rattle.std.proofs.lemmas.List.{length-append, length-replicate}
use Rattle.std.proofs.lemmas.List.Elements.{All-head, All-tail}
use Rattle.keys.specs.declared.range.Range.{Range}
use Rattle.keyspace.specs.declared.txn.Txn.{Txn}
use Rattle.keyspace.specs.declared.batch.Batch.{Batch}
use Rattle.wire.specs.declared.version.WireVersion.TheVariants.{One}
use Rattle.wire.specs.Fields.{range_fields, txn_fields, batch_fields}
use Rattle.wire.specs.Spelling.{key_text, ends_text, range_text, txn_text, batch_body, signed_text, marks_text, header_text}
use Rattle.workload_program.specs.Txns.{numbered_key, point, IsRangeOf, IsTxnOf}
use Rattle.workload_program.specs.Versions.{reads_of, writes_of}
use Rattle.workload_program.specs.declared.shape.Shape.{Shape}
use Rattle.workload_program.specs.declared.shape.Shape.TheVariants.{SkipListTest, Points}

length-bytes_high_first : (k n : ℕ) → length (bytes_high_first k n) ≡ k
length-bytes_high_first zero n = refl
length-bytes_high_first (suc k) n = ap suc (length-bytes_high_first k n)

pub length-numbered_key : (number : ℕ) → length (numbered_key number) ≡ 16
length-numbered_key number = refl

pub length-point : (number : ℕ) → length (point number) ≤ 24
length-point number = omega (
  arith,
  length-append (to_be_bytes w64 number) (replicate (number % 17) 46),
  length-bytes_high_first 8 number,
  length-replicate {A = ℕ} (number % 17) 46,
)

length-ends_text : (range : Range)
    → length (ends_text (range_fields range)) ≡ 4 + length range.begin + length range.end
length-ends_text range = omega (
  arith,
  length-append (key_text range.begin) (key_text range.end),
  length-append (bytes_high_first 2 (length range.begin)) range.begin,
  length-append (bytes_high_first 2 (length range.end)) range.end,
  length-bytes_high_first 2 (length range.begin),
  length-bytes_high_first 2 (length range.end),
)

range_most : (shape : Shape) (range : Range) → IsRangeOf shape range → length (ends_text (range_fields range)) ≤ 53
range_most SkipListTest range is =
    let begin : length range.begin ≡ 16 = rw is.5 (length-numbered_key is.0) in
    let end : length range.end ≡ 16 = rw is.6 (length-numbered_key (is.0 + is.1)) in
    omega (arith, length-ends_text range, begin, end)
range_most Points range is =
    let begin : length range.begin ≤ 24 = rw is.2 (length-point is.0) in
    let end : length range.end ≤ 25 =
    rw is.3 (omega (arith, length-append (point is.0) (0 ∷ []), length-point is.0)) in
    omega (arith, length-ends_text range, begin, end)

ranges_most : (shape : Shape) (ranges : List Range) → All (IsRangeOf shape) ranges
    → length (flat_map (range_text One) (map range_fields ranges)) ≤ 53 * length ranges
ranges_most shape [] all = omega arith
ranges_most shape (r ∷ rs) all = omega (
  arith,
  length-append (ends_text (range_fields r)) (flat_map (range_text One) (map range_fields rs)),
  range_most shape r (All-head (IsRangeOf shape) r rs all),
  ranges_most shape rs (All-tail (IsRangeOf shape) r rs all),
)

few_ranges : (shape : Shape) → reads_of shape + writes_of shape ≤ 7
few_ranges SkipListTest = omega arith
few_ranges Points = omega arith

signed_length : (z : ℤ) → length (signed_text z) ≡ 8
signed_length z = length-bytes_high_first 8 (cast_unsigned w64 z)

marks_length : (marked : Bool) → length (marks_text marked) ≡ 1
marks_length marked = refl

txn_most : (shape : Shape) (number : ℕ) (t : Txn) → IsTxnOf shape number t → length (txn_text One (txn_fields t)) ≤ 384
unfolding txn_text
txn_most shape number t is =
    let f = txn_fields t in
    let reads = flat_map (range_text One) f.reads in
    let writes = flat_map (range_text One) f.writes in
    let read_count = bytes_high_first 2 (length f.reads) in
    let write_count = bytes_high_first 2 (length f.writes) in
    omega (
      arith,
      length-append (signed_text t.snapshot) (marks_text t.marked
          ++ (read_count ++ (write_count ++ (reads ++ writes)))),
      length-append (marks_text t.marked) (read_count ++ (write_count ++ (reads ++ writes))),
      length-append read_count (write_count ++ (reads ++ writes)),
      length-append write_count (reads ++ writes),
      length-append reads writes,
      length-bytes_high_first 2 (length f.reads),
      length-bytes_high_first 2 (length f.writes),
      signed_length t.snapshot,
      ranges_most shape t.reads is.reads,
      ranges_most shape t.writes is.writes,
      is.read_count,
      is.write_count,
      few_ranges shape,
    )

txns_most : (shape : Shape) (number : ℕ) (ts : List Txn) → All (IsTxnOf shape number) ts
    → length (flat_map (txn_text One) (map txn_fields ts)) ≤ 384 * length ts
txns_most shape number [] all = omega arith
txns_most shape number (t ∷ ts) all = omega (
  arith,
  length-append (txn_text One (txn_fields t)) (flat_map (txn_text One) (map txn_fields ts)),
  txn_most shape number t (All-head (IsTxnOf shape number) t ts all),
  txns_most shape number ts (All-tail (IsTxnOf shape number) t ts all),
)

-- the body of a batch of such transactions
pub body_most : (shape : Shape) (number : ℕ) (b : Batch) → All (IsTxnOf shape number) b.txns
    → length (batch_body One (batch_fields b)) ≤ 27 + 384 * length b.txns
unfolding batch_body
body_most shape number b all =
    let txns = flat_map (txn_text One) (map txn_fields b.txns) in
    let txn_count = bytes_high_first 2 (length (map txn_fields b.txns)) in
    let header = header_text b.previous b.version b.received in
    omega (
      arith,
      length-append header (txn_count ++ txns),
      length-append txn_count txns,
      length-append (signed_text b.previous) (signed_text b.version ++ signed_text b.received),
      length-append (signed_text b.version) (signed_text b.received),
      length-bytes_high_first 2 (length (map txn_fields b.txns)),
      signed_length b.previous,
      signed_length b.version,
      signed_length b.received,
      txns_most shape number b.txns all,
    )
