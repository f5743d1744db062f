-- Lemmas for callers: ranges, transactions and batches with the same fields are one: the facts that their types carry have one proof each.
use Rattle.std.proofs.Common.{◌≡◌, ◌≤◌, ℕ, ℤ, pos, negsuc, ◌≤ℤ◌, ◌<ℤ◌, List, [], ◌∷◌, length, map, refl, ap}
use Rattle.std.specs.Coded.{le_prop}
use lib.Dec.{T_prop}
use mathlib.Core.Bool.{Bool-set}
use mathlib.Core.HLevel.{is_prop→PathP}
use Rattle.keys.specs.Key.{IsKey, IsAtMost}
use Rattle.keys.specs.declared.range.Range.{Range}
use Rattle.keyspace.specs.declared.batch.Batch.{Batch}
use Rattle.keyspace.specs.declared.txn.Txn.{Txn}
use Rattle.keyspace.specs.storage.Fields.{RangeFields, range_fields, TxnFields, txn_fields}

is_key_prop : (key : List ℕ) → IsProp (IsKey key)
is_key_prop key = hlevel le_prop

at_most_prop : (a b : List ℕ) → IsProp (IsAtMost a b)
at_most_prop a b = hlevel Bool-set

natural_prop : (n : ℤ) → IsProp (pos 0 ≤ℤ n)
natural_prop n = hlevel T_prop

le_int_prop : (a b : ℤ) → IsProp (a ≤ℤ b)
le_int_prop a b = hlevel T_prop

lt_int_prop : (a b : ℤ) → IsProp (a <ℤ b)
lt_int_prop a b = hlevel T_prop

few_prop : (n limit : ℕ) → IsProp (n ≤ limit)
few_prop n limit = hlevel le_prop

pub same_range : (a b : Range) → range_fields a ≡ range_fields b → a ≡ b
same_range a b e =
    let begin = ap (λ (r : RangeFields). r.begin) e in
    let end = ap (λ (r : RangeFields). r.end) e in
    λ i. record {
      begin = begin i;
      end = end i;
      begin_is_key = is_prop→PathP (λ j. IsKey (begin j))
          (λ j. is_key_prop (begin j)) a.begin_is_key b.begin_is_key i;
      end_is_key = is_prop→PathP (λ j. IsKey (end j)) (λ j. is_key_prop (end j)) a.end_is_key b.end_is_key i;
      ordered = is_prop→PathP (λ j. IsAtMost (begin j) (end j))
          (λ j. at_most_prop (begin j) (end j)) a.ordered b.ordered i;
    }

-- lists whose values are distinguished by their fields
pub same_list : {A B : Type 0} (f : A → B) → ((a b : A) → f a ≡ f b → a ≡ b) → (xs ys : List A)
    → map f xs ≡ map f ys → xs ≡ ys
same_list f one [] [] e = refl
same_list f one [] (y ∷ ys) e = absurd cc
same_list f one (x ∷ xs) [] e = absurd cc
same_list {A} f one (x ∷ xs) (y ∷ ys) e =
    let first : f x ≡ f y = cc in
    let others : map f xs ≡ map f ys = cc in
    let head : x ≡ y = one x y first in
    let tail : xs ≡ ys = same_list f one xs ys others in
    λ i. head i ∷ tail i

pub same_ranges : (xs ys : List Range) → map range_fields xs ≡ map range_fields ys → xs ≡ ys
same_ranges xs ys e = same_list range_fields same_range xs ys e

pub same_txn : (a b : Txn) → txn_fields a ≡ txn_fields b → a ≡ b
same_txn a b e =
    let snapshot = ap (λ (t : TxnFields). t.snapshot) e in
    let marked = ap (λ (t : TxnFields). t.marked) e in
    let reads = same_ranges a.reads b.reads (ap (λ (t : TxnFields). t.reads) e) in
    let writes = same_ranges a.writes b.writes (ap (λ (t : TxnFields). t.writes) e) in
    λ i. record {
      snapshot = snapshot i;
      marked = marked i;
      reads = reads i;
      writes = writes i;
      natural = is_prop→PathP (λ j. pos 0 ≤ℤ snapshot j)
          (λ j. natural_prop (snapshot j)) a.natural b.natural i;
      few_reads = is_prop→PathP (λ j. length (reads j) ≤ 1024)
          (λ j. few_prop (length (reads j)) 1024) a.few_reads b.few_reads i;
      few_writes = is_prop→PathP (λ j. length (writes j) ≤ 1024)
          (λ j. few_prop (length (writes j)) 1024) a.few_writes b.few_writes i;
    }

pub same_txns : (xs ys : List Txn) → map txn_fields xs ≡ map txn_fields ys → xs ≡ ys
same_txns xs ys e = same_list txn_fields same_txn xs ys e

pub same_batch : (a b : Batch) → a.previous ≡ b.previous → a.version ≡ b.version → a.received ≡ b.received
    → map txn_fields a.txns ≡ map txn_fields b.txns → a ≡ b
same_batch a b previous version received fields =
    let txns = same_txns a.txns b.txns fields in
    λ i. record {
      previous = previous i;
      version = version i;
      received = received i;
      txns = txns i;
      natural = is_prop→PathP (λ j. pos 0 ≤ℤ version j)
          (λ j. le_int_prop (pos 0) (version j)) a.natural b.natural i;
      previous_from = is_prop→PathP (λ j. negsuc 0 ≤ℤ previous j)
          (λ j. le_int_prop (negsuc 0) (previous j)) a.previous_from b.previous_from i;
      rises = is_prop→PathP (λ j. previous j <ℤ version j)
          (λ j. lt_int_prop (previous j) (version j)) a.rises b.rises i;
      received_from = is_prop→PathP (λ j. negsuc 0 ≤ℤ received j)
          (λ j. le_int_prop (negsuc 0) (received j)) a.received_from b.received_from i;
      received_before = is_prop→PathP (λ j. received j <ℤ version j)
          (λ j. lt_int_prop (received j) (version j)) a.received_before b.received_before i;
      few = is_prop→PathP (λ j. length (txns j) ≤ 4096) (λ j. few_prop (length (txns j)) 4096) a.few b.few i;
    }
