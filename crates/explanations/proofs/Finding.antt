-- What a search has found, with one write more, with one batch more, and when it is at the end.
use Rattle.std.proofs.Common.{◌≡◌, ℕ, zero, suc, ◌+◌, ◌-◌, ◌≤◌, Bool, false, cond, take, ◌||◌, List, [], ◌∷◌, ◌++◌, length, min, refl, sym, ap, subst, ◌∙◌, arith, append-nil, append_assoc, length-append}
use Rattle.std.specs.Prelude.{ℤ, int_lt, All, Option, Some, slice_get}
use Rattle.std.specs.Ordering.{int_eq}
use Rattle.std.specs.List.{filter}
use Rattle.std.proofs.lemmas.Grind.{flat_map-append}
use Rattle.std.proofs.lemmas.List.{map-append}
use Rattle.std.proofs.lemmas.List.Elements.{All-map, All-weaker, filter-append}
use Rattle.keys.specs.Range.{ranges_meet}
use Rattle.keys.specs.declared.range.Range.{Range}
use Rattle.keys.proofs.callers.Booleans.{or_left, or_right, false_unless, not_both_ways}
use Rattle.keys.proofs.callers.Lists.{part_more, some_at}
use Rattle.keyspace.specs.declared.txn.Txn.{Txn}
use Rattle.keyspace.specs.declared.batch.Batch.{Batch}
use Rattle.keyspace.specs.declared.reply.Entry.{Entry}
use Rattle.keyspace.specs.Processed.{Processed}
use Rattle.keyspace.specs.Writes.{counted_ranges}
use Rattle.explanations.specs.declared.explanation.Explanation.{Explanation}
use Rattle.explanations.specs.Written.{Written, written_by, written_from, written_in, all_written}
use Rattle.explanations.specs.Explains.{explains, explaining_range, explaining_txn, explaining_of, explaining_newest, newest_of}
use Rattle.explanations.specs.Found.{IsExplained, IsFound}
use Rattle.explanations.specs.Writers.{NoneWrote}
use Rattle.explanations.proofs.Passing.{filter_none}
use Rattle.explanations.proofs.Origins.{IsWrittenAt, in_at, written_at, written_more}
use Rattle.explanations.proofs.Earlier.{explains_none, explains_apart}

pub found_first : (ws : List Written) (most : ℕ) (w : Written) (further : ℕ) → ws ≡ [] → further ≡ 0
    → IsExplained (ws ++ w ∷ []) most w further
found_first ws most w further none no_more = record {
  others = ws;
  last = refl;
  count = let few : length ws ≡ 0 = ap (λ (xs : List Written). length xs) none in omega arith;
}

pub found_more : (ws : List Written) (most : ℕ) (newest : Written) (before : ℕ) (w : Written) (further : ℕ)
    → IsExplained ws most newest before → further ≡ min (before + 1) most → IsExplained (ws ++ w ∷ []) most w further
found_more ws most newest before w further found one_more = record {
  others = ws;
  last = refl;
  count =
      let entire : length ws ≡ length (found.others ++ newest ∷ []) = ap (λ (xs : List Written). length xs) found.last in
      let parts : length (found.others ++ newest ∷ []) ≡ length found.others + 1 = length-append found.others (newest ∷ []) in
      let counted = found.count in
      omega arith;
}

-- the same writes
pub found_of : (ws vs : List Written) (o : Option Explanation) → ws ≡ vs → IsFound ws o → IsFound vs o
found_of ws vs o e h = subst (λ (xs : List Written). IsFound xs o) e h

-- the batch that the test passes over has none of the writes
pub none_in : (version : ℤ) (j : ℕ) (snapshot : ℤ) (range : Range) (p : Processed)
    → (int_eq p.batch.version version || int_lt snapshot p.batch.version) ≡ false
    → filter (explains version j snapshot range) (written_in p) ≡ []
none_in version j snapshot range p h =
    let other : int_eq p.batch.version version ≡ false =
    false_unless (int_eq p.batch.version version)
    (λ e. not_both_ways _ (or_left (int_eq p.batch.version version) (int_lt snapshot p.batch.version) e) h) in
    let old : int_lt snapshot p.batch.version ≡ false =
    false_unless (int_lt snapshot p.batch.version)
    (λ e. not_both_ways _ (or_right (int_eq p.batch.version version) (int_lt snapshot p.batch.version) e) h) in
    filter_none (explains version j snapshot range) (written_in p)
    (All-weaker (IsWrittenAt (λ v. (int_eq v version ≡ false) × (int_lt snapshot v ≡ false)))
    (λ (w : Written). explains version j snapshot range w ≡ false)
    (λ w is. explains_none version j snapshot range w is.0 is.1) (written_in p)
    (in_at (λ v. (int_eq v version ≡ false) × (int_lt snapshot v ≡ false)) p (other, old)))

-- the writes of a batch more
pub all_more : (version : ℤ) (j : ℕ) (snapshot : ℤ) (range : Range) (ps : List Processed) (p : Processed)
    → filter (explains version j snapshot range) (all_written (ps ++ p ∷ []))
    ≡ filter (explains version j snapshot range) (all_written ps) ++ filter (explains version j snapshot range) (written_in p)
all_more version j snapshot range ps p =
    ap (filter (explains version j snapshot range))
    (flat_map-append written_in ps (p ∷ []) ∙ ap (λ (ws : List Written). all_written ps ++ ws) (append-nil (written_in p)))
    ∙ filter-append (explains version j snapshot range) (all_written ps) (written_in p)

pub none_more : (version : ℤ) (j : ℕ) (snapshot : ℤ) (range : Range) (ps : List Processed) (p : Processed)
    → (int_eq p.batch.version version || int_lt snapshot p.batch.version) ≡ false
    → filter (explains version j snapshot range) (all_written (ps ++ p ∷ []))
    ≡ filter (explains version j snapshot range) (all_written ps)
none_more version j snapshot range ps p h =
    all_more version j snapshot range ps p
    ∙ ap (λ (ws : List Written). filter (explains version j snapshot range) (all_written ps) ++ ws) (none_in version j snapshot range p h)
    ∙ append-nil (filter (explains version j snapshot range) (all_written ps))

-- what `explaining_newest` is
pub newest_none : (ps : List Processed) (j i : ℕ) → length ps ≡ 0 → explaining_newest ps j i ≡ []
newest_none [] j i e = refl
newest_none (p ∷ ps) j i e = absurd (omega (arith, e))

pub newest_txn : (ps : List Processed) (b : Batch) (j i : ℕ) (o : Option Txn) → newest_of ps ≡ Some b → slice_get b.txns j ≡ o
    → explaining_newest ps j i ≡ explaining_txn (all_written ps) b.version j o i
newest_txn ps b j i o is at =
    ap (λ (newest : Option Batch). explaining_of ps newest j i) is
    ∙ ap (λ (t : Option Txn). explaining_txn (all_written ps) b.version j t i) at

pub newest_range : (ps : List Processed) (b : Batch) (j i : ℕ) (t : Txn) (o : Option Range) → newest_of ps ≡ Some b
    → slice_get b.txns j ≡ Some t → slice_get t.reads i ≡ o
    → explaining_newest ps j i ≡ explaining_range (all_written ps) b.version j t.snapshot o
newest_range ps b j i t o is at read =
    newest_txn ps b j i (Some t) is at
    ∙ ap (explaining_range (all_written ps) b.version j t.snapshot) read

-- the search has found what `explaining_newest` is
pub found_asked : (items kept : List Processed) (b : Batch) (j i : ℕ) (t : Txn) (range : Range) (version snapshot : ℤ)
    (o : Option Explanation) → IsFound (filter (explains version j snapshot range) (all_written items)) o
    → version ≡ b.version → snapshot ≡ t.snapshot → items ≡ kept → newest_of kept ≡ Some b → slice_get b.txns j ≡ Some t
    → slice_get t.reads i ≡ Some range → IsFound (explaining_newest kept j i) o
found_asked items kept b j i t range version snapshot o found version_is snapshot_is same is at read =
    found_of _ _ o
    (ap (λ v. filter (explains v j snapshot range) (all_written items)) version_is
    ∙ ap (λ s. filter (explains b.version j s range) (all_written items)) snapshot_is
    ∙ ap (λ (ps : List Processed). filter (explains b.version j t.snapshot range) (all_written ps)) same
    ∙ sym (newest_range kept b j i t (Some range) is at read)) found

-- the writes of a transaction more
pub found_txn : (test : Written → Bool) (proxy : ℕ) (version : ℤ) (ts : List Txn) (es : List Entry) (n : ℕ) (t : Txn) (e : Entry)
    (ws : List Written) (o : Option Explanation) (own_proxy : ℕ) (own_version : ℤ) (ranges : List Range)
    → IsFound ((ws ++ filter test (written_from proxy version 0 (take n ts) (take n es)))
    ++ filter test (written_by own_proxy own_version n ranges)) o
    → own_proxy ≡ proxy → own_version ≡ version → ranges ≡ counted_ranges e.verdict t.writes
    → slice_get ts n ≡ Some t → slice_get es n ≡ Some e
    → IsFound (ws ++ filter test (written_from proxy version 0 (take (n + 1) ts) (take (n + 1) es))) o
found_txn test proxy version ts es n t e ws o own_proxy own_version ranges found proxy_is version_is ranges_are at_t at_e =
    let before = written_from proxy version 0 (take n ts) (take n es) in
    let own = written_by proxy version n (counted_ranges e.verdict t.writes) in
    found_of _ _ o
    (ap (λ k. (ws ++ filter test before) ++ filter test (written_by k own_version n ranges)) proxy_is
    ∙ ap (λ v. (ws ++ filter test before) ++ filter test (written_by proxy v n ranges)) version_is
    ∙ ap (λ (rs : List Range). (ws ++ filter test before) ++ filter test (written_by proxy version n rs)) ranges_are
    ∙ append_assoc ws (filter test before) (filter test own)
    ∙ ap (λ (vs : List Written). ws ++ vs)
    (sym (filter-append test before own) ∙ ap (filter test) (sym (written_more proxy version ts es n t e at_t at_e)))) found

-- a transaction that counts for nothing
pub found_same : (test : Written → Bool) (proxy : ℕ) (version : ℤ) (ts : List Txn) (es : List Entry) (n : ℕ) (t : Txn) (e : Entry)
    (ws : List Written) (o : Option Explanation)
    → IsFound (ws ++ filter test (written_from proxy version 0 (take n ts) (take n es))) o
    → [] ≡ counted_ranges e.verdict t.writes → slice_get ts n ≡ Some t → slice_get es n ≡ Some e
    → IsFound (ws ++ filter test (written_from proxy version 0 (take (n + 1) ts) (take (n + 1) es))) o
found_same test proxy version ts es n t e ws o found none at_t at_e =
    found_txn test proxy version ts es n t e ws o proxy version []
    (found_of _ _ o (sym (append-nil (ws ++ filter test (written_from proxy version 0 (take n ts) (take n es))))) found)
    refl refl none at_t at_e

-- one range more
by_more : (proxy : ℕ) (version : ℤ) (txn : ℕ) (ranges : List Range) (index : ℕ) (range : Range) → slice_get ranges index ≡ Some range
    → written_by proxy version txn (take (index + 1) ranges)
    ≡ written_by proxy version txn (take index ranges) ++ written_at proxy version txn range ∷ []
by_more proxy version txn ranges index range at =
    let next : 0 + index ≡ index = omega arith in
    ap (λ (rs : List Range). written_by proxy version txn rs) (part_more ranges 0 index range (ap (slice_get ranges) next ∙ at))
    ∙ map-append (written_at proxy version txn) (take index ranges) (range ∷ [])

pub found_range : (test : Written → Bool) (proxy : ℕ) (version : ℤ) (txn : ℕ) (ranges : List Range) (index : ℕ) (range : Range)
    (ws : List Written) (o : Option Explanation)
    → IsFound ((ws ++ filter test (written_by proxy version txn (take index ranges))) ++ filter test (written_by proxy version txn (range ∷ []))) o
    → slice_get ranges index ≡ Some range
    → IsFound (ws ++ filter test (written_by proxy version txn (take (index + 1) ranges))) o
found_range test proxy version txn ranges index range ws o found at =
    let before = written_by proxy version txn (take index ranges) in
    let own = written_by proxy version txn (range ∷ []) in
    found_of _ _ o
    (append_assoc ws (filter test before) (filter test own)
    ∙ ap (λ (vs : List Written). ws ++ vs)
    (sym (filter-append test before own) ∙ ap (filter test) (sym (by_more proxy version txn ranges index range at)))) found

-- one write more, which doesn't pass the test
pub missed_one : (test : Written → Bool) (ws : List Written) (w : Written) (o : Option Explanation) → IsFound ws o
    → test w ≡ false → IsFound (ws ++ filter test (w ∷ [])) o
missed_one test ws w o found fails =
    found_of _ _ o (sym (append-nil ws) ∙ ap (λ b. ws ++ cond b (w ∷ []) []) (sym fails)) found

-- the writes of transactions that overlap the range with none of theirs
module _ (version : ℤ) (j : ℕ) (snapshot : ℤ) (range : Range) where
  none_by : (proxy : ℕ) (own_version : ℤ) (txn : ℕ) (ranges : List Range) → All (λ other. ranges_meet range other ≡ false) ranges
      → filter (explains version j snapshot range) (written_by proxy own_version txn ranges) ≡ []
  none_by proxy own_version txn ranges apart =
      filter_none (explains version j snapshot range) (written_by proxy own_version txn ranges)
      (All-map (λ (w : Written). explains version j snapshot range w ≡ false) (written_at proxy own_version txn) ranges
      (All-weaker (λ other. ranges_meet range other ≡ false)
      (λ other. explains version j snapshot range (written_at proxy own_version txn other) ≡ false)
      (λ other. explains_apart version j snapshot range (written_at proxy own_version txn other)) ranges apart))

  -- n transactions more
  skipped : (proxy : ℕ) (own_version : ℤ) (ts : List Txn) (es : List Entry) (from n to : ℕ) (ws : List Written) (o : Option Explanation)
      → to ≡ from + n → to ≤ length ts → to ≤ length es → NoneWrote ts es range from to
      → IsFound (ws ++ filter (explains version j snapshot range) (written_from proxy own_version 0 (take from ts) (take from es))) o
      → IsFound (ws ++ filter (explains version j snapshot range) (written_from proxy own_version 0 (take to ts) (take to es))) o
  skipped proxy own_version ts es from zero to ws o same fit fit_es none found =
      let at : to ≡ from = omega (arith, same) in
      subst (λ (k : ℕ). IsFound (ws ++ filter (explains version j snapshot range) (written_from proxy own_version 0 (take k ts) (take k es))) o)
      (sym at) found
  skipped proxy own_version ts es from (suc n) to ws o same fit fit_es none found =
      let test = explains version j snapshot range in
      let t = some_at ts from (omega (arith, same, fit)) in
      let e = some_at es from (omega (arith, same, fit_es)) in
      let ranges = counted_ranges e.0.verdict t.0.writes in
      let before = ws ++ filter test (written_from proxy own_version 0 (take from ts) (take from es)) in
      let nothing = none_by proxy own_version from ranges (none from t.0 e.0 (omega arith) (omega (arith, same)) t.1 e.1) in
      skipped proxy own_version ts es (from + 1) n to ws o (omega (arith, same)) fit fit_es
      (λ k u f low high at_u at_f. none k u f (omega (arith, low)) high at_u at_f)
      (found_txn test proxy own_version ts es from t.0 e.0 ws o proxy own_version ranges
      (found_of _ _ o (sym (append-nil before) ∙ ap (λ (own : List Written). before ++ own) (sym nothing)) found) refl refl refl t.1 e.1)

  pub found_skipping : (proxy : ℕ) (own_version : ℤ) (ts : List Txn) (es : List Entry) (from to : ℕ) (ws : List Written)
      (o : Option Explanation) → from ≤ to → to ≤ length ts → to ≤ length es → NoneWrote ts es range from to
      → IsFound (ws ++ filter (explains version j snapshot range) (written_from proxy own_version 0 (take from ts) (take from es))) o
      → IsFound (ws ++ filter (explains version j snapshot range) (written_from proxy own_version 0 (take to ts) (take to es))) o
  found_skipping proxy own_version ts es from to ws o rises fit fit_es none found =
      skipped proxy own_version ts es from (to - from) to ws o (omega (arith, rises)) fit fit_es none found
