-- The limits of the worked rows, from tests that compute.
use Rattle.std.proofs.Common.{
  ◌≡◌,
  ℕ,
  zero,
  suc,
  ◌≤◌,
  arith,
  ◌&&◌,
  not,
  true,
  List,
  [],
  ◌∷◌,
  length,
  nat_lt,
  nat_le,
}
use Rattle.std.specs.Prelude.{ℤ, pos, negsuc, ◌≤ℤ◌, ◌<ℤ◌, int_lt, int_le}
use Rattle.std.specs.List.{list_all}
use Rattle.std.proofs.lemmas.Int.{ints}
use Rattle.keys.specs.Key.{IsBytes, IsKey, is_before}
use Rattle.keyspace.specs.Rows.{is_key, Limits}
use Rattle.keys.proofs.callers.Booleans.{and_left, and_right}

bytes_from_test : (key : List ℕ) → list_all (λ byte. nat_lt byte 256) key ≡ true → IsBytes key
bytes_from_test [] h k d l = absurd (omega arith)
bytes_from_test (x ∷ xs) h zero d l =
    grind (arith, and_left (nat_lt x 256) (list_all (λ byte. nat_lt byte 256) xs) h)
bytes_from_test (x ∷ xs) h (suc k) d l =
    bytes_from_test xs (and_right (nat_lt x 256) (list_all (λ byte. nat_lt byte 256) xs) h) k d (omega arith)

key_from_test : (key : List ℕ) → is_key key ≡ true → IsKey key
key_from_test key h = record {
  bytes = bytes_from_test key
      (and_left (list_all (λ byte. nat_lt byte 256) key) (nat_le (length key) 10001) h);
  short =
      let n = and_right (list_all (λ byte. nat_lt byte 256) key) (nat_le (length key) 10001) h in
      grind (arith, n);
}

at_most_from_test : (m n : ℕ) → nat_le m n ≡ true → m ≤ n
at_most_from_test m n h = grind arith

le_from_test : (a b : ℤ) → int_le a b ≡ true → a ≤ℤ b
le_from_test a b h = grind (arith, ints)

lt_from_test : (a b : ℤ) → int_lt a b ≡ true → a <ℤ b
lt_from_test a b h = grind (arith, ints)

from_zero : (n : ℕ) → pos 0 ≤ℤ pos n
from_zero n = omega (arith, ints)

pub limits : Limits
limits = record {
  range = λ begin end h.
      let in_order = not (is_before end begin) in
      let keys = and_left (is_key begin && is_key end) in_order h in (
        key_from_test begin (and_left (is_key begin) (is_key end) keys),
        key_from_test end (and_right (is_key begin) (is_key end) keys),
        and_right (is_key begin && is_key end) in_order h,
      );
  natural = from_zero;
  txn = λ reads writes h.
      let few_reads = nat_le (length reads) 1024 in
      let few_writes = nat_le (length writes) 1024 in (
        at_most_from_test (length reads) 1024 (and_left few_reads few_writes h),
        at_most_from_test (length writes) 1024 (and_right few_reads few_writes h),
      );
  batch = λ previous version received txns h.
      let from = int_le (negsuc 0) previous in
      let rises = int_lt previous (pos version) in
      let received_from = int_le (negsuc 0) received in
      let received_before = int_lt received (pos version) in
      let few = nat_le (length txns) 4096 in
      let four = and_left (from && rises && received_from && received_before) few h in
      let three = and_left (from && rises && received_from) received_before four in
      let two = and_left (from && rises) received_from three in (
        le_from_test (negsuc 0) previous (and_left from rises two),
        lt_from_test previous (pos version) (and_right from rises two),
        le_from_test (negsuc 0) received (and_right (from && rises) received_from three),
        lt_from_test received (pos version) (and_right (from && rises && received_from) received_before four),
        at_most_from_test (length txns) 4096
            (and_right (from && rises && received_from && received_before) few h),
      );
}
