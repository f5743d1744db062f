-- The shards to which a range goes are those from the shard of its begin to the last one that begins before its end.
use Rattle.std.proofs.Common.{◌≡◌, ℕ, zero, suc, ◌≤◌, Bool, true, false, not, ◌&&◌, cond, List, [], ◌∷◌, length, get_or, refl, sym, ap, ap₂, ◌∙◌, subst, inl, inr, arith}
use Rattle.std.specs.Prelude.{Option, Some, None, slice_get, nat_lt, nat_le}
use Rattle.std.proofs.lemmas.Bool.{cases_lt}
use Rattle.std.proofs.lemmas.Bool.Decides.{nat_tests}
use Rattle.std.proofs.lemmas.Option.{slice_get-get_or, slice_get_past}
use Rattle.keys.specs.declared.range.Range.{Range}
use Rattle.keys.specs.Key.{is_before}
use Rattle.keys.proofs.callers.Booleans.{and_left, and_both, and_comm}
use Rattle.keys.proofs.callers.KeyOrder.{not_before_itself, before_at_most_same, not_before_if}
use Rattle.serial.specs.Shards.{ends_above, has_key}
use Rattle.shards.specs.Reach.{shard_at, AreFirst, ends_below, IsReach}
use Rattle.shards.specs.declared.reach.Reach.{Reach}

-- no key comes before the empty one
none_before_empty : (key : List ℕ) → is_before key [] ≡ false
none_before_empty [] = refl
none_before_empty (byte ∷ key) = refl

-- the empty key comes before a key that comes after some key
empty_before : (a b : List ℕ) → is_before a b ≡ true → is_before [] b ≡ true
empty_before a [] h = let no = sym (none_before_empty a) ∙ h in cc
empty_before a (byte ∷ b) h = refl

not_not : (a b : Bool) → not a ≡ b → a ≡ not b
not_not true b h = ap not h
not_not false b h = ap not h

not_below : (i n : ℕ) → not (nat_lt i n) ≡ nat_le n i
not_below i n = grind (arith, nat_tests)

not_below_suc : (i n : ℕ) → not (nat_lt i n) ≡ nat_lt n (suc i)
not_below_suc i n = grind (arith, nat_tests)

below_suc : (i n : ℕ) → nat_lt i n ≡ nat_le (suc i) n
below_suc i n = grind (arith, nat_tests)

none_below_zero : (n : ℕ) → nat_lt n 0 ≡ false
none_below_zero n = grind (arith, nat_tests)

zero_at_most : (n : ℕ) → nat_le 0 n ≡ true
zero_at_most n = grind (arith, nat_tests)

at_most_test : (n m : ℕ) → n ≤ m → nat_le n m ≡ true
at_most_test n m h = grind (arith, nat_tests)

not_below_test : (m n : ℕ) → n ≤ m → nat_lt m n ≡ false
not_below_test m n h = grind (arith, nat_tests)

module _ (points : List (List ℕ)) (key : List ℕ) (count : ℕ) (first : AreFirst (λ point. not (is_before key point)) points count) where
  -- the key comes before shard m exactly if the shard of the key does
  pub before_shard : (m : ℕ) → m ≤ length points → is_before key (shard_at points m).from ≡ nat_lt count m
  before_shard zero within = none_before_empty key ∙ sym (none_below_zero count)
  before_shard (suc m) within =
      let point = get_or points m [] in
      let reported = first.pass m point (slice_get-get_or points m [] (omega (arith, within))) in
      not_not (is_before key point) (nat_lt m count) reported ∙ not_below_suc m count

  -- shard m ends after the key exactly if the shard of the key doesn't come after it
  pub shard_after : (m : ℕ) → m ≤ length points → ends_above (slice_get points m) key ≡ nat_le count m
  shard_after m within =
      elim (cases_lt m (length points)) [
        | inl inside ↦
            let point = get_or points m [] in
            let at = slice_get-get_or points m [] inside in
            ap (λ (to : Option (List ℕ)). ends_above to key) at
            ∙ not_not (is_before key point) (nat_lt m count) (first.pass m point at) ∙ not_below m count
        | inr past ↦
            ap (λ (to : Option (List ℕ)). ends_above to key) (slice_get_past points m past)
            ∙ sym (at_most_test count m (omega (arith, first.within, past)))
      ]

-- the shard after the split points at or below a key has the key
pub shard_has : (points : List (List ℕ)) (key : List ℕ) (count : ℕ) → AreFirst (λ point. not (is_before key point)) points count
    → has_key (shard_at points count) key ≡ true
shard_has points key count first =
    and_both (not (is_before key (shard_at points count).from)) (ends_above (shard_at points count).to key)
    (ap not (before_shard points key count first count first.within ∙ not_below_test count count (omega arith)))
    (shard_after points key count first count first.within ∙ at_most_test count count (omega arith))

module _ (points : List (List ℕ)) (key : List ℕ) (count : ℕ) (first : AreFirst (λ point. is_before point key) points count) where
  -- shard m begins before the key exactly if that many split points do
  shard_before : (m : ℕ) → m ≤ length points → is_before [] key ≡ true → is_before (shard_at points m).from key ≡ nat_le m count
  shard_before zero within some = some ∙ sym (zero_at_most count)
  shard_before (suc m) within some =
      first.pass m (get_or points m []) (slice_get-get_or points m [] (omega (arith, within))) ∙ below_suc m count

  -- and it ends before the key exactly if one split point more does
  ends_before : (m : ℕ) → m ≤ length points → ends_below (slice_get points m) key ≡ nat_lt m count
  ends_before m within =
      elim (cases_lt m (length points)) [
        | inl inside ↦
            let at = slice_get-get_or points m [] inside in
            ap (λ (to : Option (List ℕ)). ends_below to key) at ∙ first.pass m (get_or points m []) at
        | inr past ↦
            ap (λ (to : Option (List ℕ)). ends_below to key) (slice_get_past points m past)
            ∙ sym (not_below_test m count (omega (arith, first.within, past)))
      ]

-- what ends after a key doesn't end before it
not_below_if_above : (to : Option (List ℕ)) (key : List ℕ) → ends_above to key ≡ true → ends_below to key ≡ false
not_below_if_above None key h = refl
not_below_if_above (Some to) key h = not_before_if key to (before_at_most_same key to h)

last_is : (first m last : ℕ) → last ≡ first → (nat_le first m && nat_le m last) ≡ true → nat_lt m last ≡ false
last_is first m last same h = grind (arith, nat_tests)

module _ (points : List (List ℕ)) (range : Range) (reach : Reach)
    (first : AreFirst (λ point. not (is_before range.begin point)) points reach.first) where
  -- a range that isn't empty
  pub filled_reach : is_before range.begin range.end ≡ true → AreFirst (λ point. is_before point range.end) points reach.last
      → IsReach points range reach
  filled_reach filled last = record {
    within = last.within;
    each = λ m within. record {
      goes =
          ap (λ b. cond b (is_before (shard_at points m).from range.end && ends_above (shard_at points m).to range.begin)
          (not (is_before range.begin (shard_at points m).from) && ends_above (shard_at points m).to range.begin)) filled
          ∙ ap₂ ◌&&◌ (shard_before points range.end reach.last last m within (empty_before range.begin range.end filled))
          (shard_after points range.begin reach.first first m within)
          ∙ and_comm (nat_le m reach.last) (nat_le reach.first m);
      begins = before_shard points range.begin reach.first first m within;
      ends = λ reached. ends_before points range.end reach.last last m within;
    };
  }

  -- an empty range
  pub empty_reach : range.begin ≡ range.end → reach.last ≡ reach.first → IsReach points range reach
  empty_reach same one = record {
    within = subst (λ n. n ≤ length points) (sym one) first.within;
    each = λ m within.
        let shard = shard_at points m in
        let empty : is_before range.begin range.end ≡ false =
        ap (is_before range.begin) (sym same) ∙ not_before_itself range.begin in
        record {
          goes =
              ap (λ b. cond b (is_before shard.from range.end && ends_above shard.to range.begin)
              (not (is_before range.begin shard.from) && ends_above shard.to range.begin)) empty
              ∙ ap₂ ◌&&◌ (ap not (before_shard points range.begin reach.first first m within) ∙ not_below reach.first m)
              (shard_after points range.begin reach.first first m within)
              ∙ and_comm (nat_le m reach.first) (nat_le reach.first m)
              ∙ ap (λ n. nat_le reach.first m && nat_le m n) (sym one);
          begins = before_shard points range.begin reach.first first m within;
          ends = λ reached.
              let after = shard_after points range.begin reach.first first m within
              ∙ and_left (nat_le reach.first m) (nat_le m reach.last) reached in
              ap (ends_below shard.to) (sym same) ∙ not_below_if_above shard.to range.begin after
              ∙ sym (last_is reach.first m reach.last one reached);
        };
  }
