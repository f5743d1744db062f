-- Which writes pass the test of `Explains`: those of the batch itself, and those of older ones.
use Rattle.std.proofs.Common.{◌≡◌, ℕ, zero, suc, ◌+◌, ◌<◌, ◌≤◌, Bool, true, false, ◌&&◌, ◌||◌, cond, List, [], ◌∷◌, take, refl, sym, ap, subst, ◌∙◌, arith}
use Rattle.std.specs.Prelude.{ℤ, ◌<ℤ◌, ◌≤ℤ◌, nat_lt, int_lt}
use Rattle.std.specs.Ordering.{int_eq}
use Rattle.std.specs.List.{list_any}
use Rattle.std.proofs.lemmas.Int.{ints}
use Rattle.std.proofs.lemmas.Bool.Decides.{Decides-int_eq}
use Rattle.std.proofs.lemmas.List.Folds.{list_any-append}
use Rattle.keys.specs.declared.range.Range.{Range}
use Rattle.keys.specs.Range.{ranges_meet}
use Rattle.keys.proofs.callers.Booleans.{false_unless, and_comm}
use Rattle.keyspace.specs.declared.txn.Txn.{Txn}
use Rattle.keyspace.specs.declared.reply.Entry.{Entry}
use Rattle.keyspace.specs.Writes.{committed_ranges, counted_ranges}
use Rattle.explanations.specs.Written.{Written, written_by, written_from}
use Rattle.explanations.specs.Explains.{explains}

not_below_itself : (a : ℤ) → a <ℤ a → ⊥
not_below_itself a h = omega (arith, ints)

not_below_back : (a b : ℤ) → a <ℤ b → b ≤ℤ a → ⊥
not_below_back a b h k = omega (arith, ints)

below_from_test : (a b : ℤ) → int_lt a b ≡ true → a <ℤ b
below_from_test a b h = grind arith

pub not_equal_below : (a b : ℤ) → a <ℤ b → int_eq a b ≡ false
not_equal_below a b h =
    false_unless (int_eq a b)
    (λ e. not_below_itself b (subst (λ (z : ℤ). z <ℤ b) ((Decides-int_eq a b).0 e) h))

pub not_below_at_most : (a b : ℤ) → b ≤ℤ a → int_lt a b ≡ false
not_below_at_most a b h = false_unless (int_lt a b) (λ e. not_below_back a b (below_from_test a b e) h)

equal_itself : (a : ℤ) → int_eq a a ≡ true
equal_itself a = (Decides-int_eq a a).1 refl

below_test : (n j : ℕ) → n < j → nat_lt n j ≡ true
below_test n j h = grind (arith, h)

above_test : (n j : ℕ) → j ≤ n → nat_lt n j ≡ false
above_test n j h = grind (arith, h)

-- a write of another version
pub explains_other : (version : ℤ) (j : ℕ) (snapshot : ℤ) (range : Range) (w : Written) → int_eq w.version version ≡ false
    → explains version j snapshot range w ≡ (int_lt snapshot w.version && ranges_meet range w.range)
explains_other version j snapshot range w e =
    ap (λ b. cond b (nat_lt w.txn j) (int_lt snapshot w.version) && ranges_meet range w.range) e

-- an older write
pub explains_older : (version : ℤ) (j : ℕ) (snapshot : ℤ) (range : Range) (w : Written) → w.version <ℤ version
    → explains version j snapshot range w ≡ (ranges_meet range w.range && int_lt snapshot w.version)
explains_older version j snapshot range w h =
    explains_other version j snapshot range w (not_equal_below w.version version h)
    ∙ and_comm (int_lt snapshot w.version) (ranges_meet range w.range)

-- one of another version at or below the snapshot
pub explains_none : (version : ℤ) (j : ℕ) (snapshot : ℤ) (range : Range) (w : Written) → int_eq w.version version ≡ false
    → int_lt snapshot w.version ≡ false → explains version j snapshot range w ≡ false
explains_none version j snapshot range w e f =
    explains_other version j snapshot range w e ∙ ap (λ b. b && ranges_meet range w.range) f

-- one that doesn't overlap
pub explains_apart : (version : ℤ) (j : ℕ) (snapshot : ℤ) (range : Range) (w : Written) → ranges_meet range w.range ≡ false
    → explains version j snapshot range w ≡ false
explains_apart version j snapshot range w e =
    let newer = cond (int_eq w.version version) (nat_lt w.txn j) (int_lt snapshot w.version) in
    ap (λ b. newer && b) e ∙ and_comm newer false

module _ (proxy : ℕ) (version : ℤ) (j : ℕ) (snapshot : ℤ) (range : Range) where
  -- a write of the batch itself
  own : (txn : ℕ) (other : Range) (is : Bool) → nat_lt txn j ≡ is
      → explains version j snapshot range (record { proxy = proxy; version = version; txn = txn; range = other })
      ≡ (is && ranges_meet range other)
  own txn other is e =
      ap (λ b. cond b (nat_lt txn j) (int_lt snapshot version) && ranges_meet range other) (equal_itself version)
      ∙ ap (λ b. b && ranges_meet range other) e

  by_earlier : (txn : ℕ) (ranges : List Range) → txn < j
      → list_any (explains version j snapshot range) (written_by proxy version txn ranges) ≡ list_any (ranges_meet range) ranges
  by_earlier txn [] l = refl
  by_earlier txn (other ∷ ranges) l =
      ap (λ b. b || list_any (explains version j snapshot range) (written_by proxy version txn ranges))
      (own txn other true (below_test txn j l))
      ∙ ap (λ b. ranges_meet range other || b) (by_earlier txn ranges l)

  by_later : (txn : ℕ) (ranges : List Range) → j ≤ txn
      → list_any (explains version j snapshot range) (written_by proxy version txn ranges) ≡ false
  by_later txn [] l = refl
  by_later txn (other ∷ ranges) l =
      ap (λ b. b || list_any (explains version j snapshot range) (written_by proxy version txn ranges))
      (own txn other false (above_test txn j l))
      ∙ by_later txn ranges l

  from_later : (txn : ℕ) (ts : List Txn) (es : List Entry) → j ≤ txn
      → list_any (explains version j snapshot range) (written_from proxy version txn ts es) ≡ false
  from_later txn [] es l = refl
  from_later txn (t ∷ ts) [] l = refl
  from_later txn (t ∷ ts) (e ∷ es) l =
      let ranges = counted_ranges e.verdict t.writes in
      list_any-append (explains version j snapshot range) (written_by proxy version txn ranges)
      (written_from proxy version (txn + 1) ts es)
      ∙ ap (λ b. b || list_any (explains version j snapshot range) (written_from proxy version (txn + 1) ts es))
      (by_later txn ranges l)
      ∙ from_later (txn + 1) ts es (omega arith)

  -- of the writes of the batch itself those of the transactions before index j pass
  pub any_earlier : (txn k : ℕ) (ts : List Txn) (es : List Entry) → j ≡ txn + k
      → list_any (explains version j snapshot range) (written_from proxy version txn ts es)
      ≡ list_any (ranges_meet range) (committed_ranges (take k ts) (take k es))
  any_earlier txn zero ts es e = from_later txn ts es (omega arith)
  any_earlier txn (suc k) [] es e = refl
  any_earlier txn (suc k) (t ∷ ts) [] e = refl
  any_earlier txn (suc k) (t ∷ ts) (entry ∷ es) e =
      let ranges = counted_ranges entry.verdict t.writes in
      list_any-append (explains version j snapshot range) (written_by proxy version txn ranges)
      (written_from proxy version (txn + 1) ts es)
      ∙ ap (λ b. b || list_any (explains version j snapshot range) (written_from proxy version (txn + 1) ts es))
      (by_earlier txn ranges (omega arith))
      ∙ ap (λ b. list_any (ranges_meet range) ranges || b) (any_earlier (txn + 1) k ts es (omega arith))
      ∙ sym (list_any-append (ranges_meet range) ranges (committed_ranges (take k ts) (take k es)))
