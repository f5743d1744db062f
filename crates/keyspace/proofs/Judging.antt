-- `judge` gives the one reply that is `Judged`.
use Rattle.std.proofs.Common.{
  ◌≡◌,
  ℕ,
  zero,
  suc,
  ◌<◌,
  ◌≤◌,
  true,
  false,
  cond,
  List,
  [],
  ◌∷◌,
  ◌++◌,
  length,
  take,
  refl,
  sym,
  ◌∙◌,
  ap,
  subst,
  inl,
  inr,
  ◌⊎◌,
  ◌↔◌,
  arith,
  append_assoc,
  zero-add,
  append-nil,
}
use Rattle.std.specs.Prelude.{ℤ, ◌≤ℤ◌, pos, Some, None, Option, slice_get, IsTrue, Contains}
use Rattle.std.specs.List.Sorted.{IsStrictlyIncreasing}
use mathlib.Core.HLevel.{is_prop→PathP}
use Rattle.std.proofs.Props.{props}
use Rattle.keys.specs.declared.range.Range.{Range}
use Rattle.keyspace.specs.declared.txn.Txn.{Txn}
use Rattle.keyspace.specs.declared.batch.Batch.{Batch}
use Rattle.keyspace.specs.declared.reply.Verdict.{Verdict}
use Rattle.keyspace.specs.declared.reply.Verdict.TheVariants.{Conflict, TooOld, Committed}
use Rattle.keyspace.specs.declared.reply.Entry.{Entry}
use Rattle.keyspace.specs.declared.reply.Reply.{Reply}
use Rattle.keyspace.specs.Writes.{Write, counted_ranges, committed_ranges}
use Rattle.keyspace.specs.Judged.{
  edge,
  IsTooOld,
  IsHit,
  MeetsEarlier,
  IsInConflict,
  HasVerdict,
  IsReported,
  IsFirstToMeet,
  HasReport,
  Judged,
}
use Rattle.keyspace.specs.Judge.{
  is_too_old,
  is_hit,
  meets_earlier,
  is_in_conflict,
  places_from,
  hits_or_first,
  report,
  without_places,
  in_conflict_at,
  judge_txn,
  judge_txns,
  length-judge_txns,
  judge,
}
use Rattle.keys.proofs.callers.Booleans.{not_both_ways}
use Rattle.keyspace.proofs.Rising.{
  In,
  Rises,
  contains_from_in,
  in_from_contains,
  rises_from_increasing,
  increasing_from_rises,
  same_rising,
  rises_places_from,
  in_places_from,
  passes_from_in,
  in_above,
}
use Rattle.keyspace.proofs.Scans.{
  too_old_from_test,
  test_from_too_old,
  conflict_from_test,
  test_from_conflict,
  hit_from_test,
  test_from_hit,
  earlier_from_test,
  test_from_earlier,
}

-- entries are one where verdict and places are
pub entry_same : (d e : Entry) → d.verdict ≡ e.verdict → d.places ≡ e.places → d ≡ e
entry_same d e p q = λ i. record {
  verdict = p i;
  places = q i;
  only_conflict = is_prop→PathP (λ j. (p j ≡ Conflict → ⊥)
      → q j ≡ []) (λ j. hlevel props) d.only_conflict e.only_conflict i;
}

pub reply_same : (r s : Reply) → r.version ≡ s.version → r.entries ≡ s.entries → r ≡ s
reply_same r s p q = λ i. record {
  version = p i;
  entries = q i;
  natural = is_prop→PathP (λ j. pos 0 ≤ℤ p j) (λ j. hlevel props) r.natural s.natural i;
  few = is_prop→PathP (λ j. length (q j) ≤ 4096) (λ j. hlevel props) r.few s.few i;
}

module _ (edge : ℤ) (ws : List Write) (earlier : List Range) (t : Txn) where
  conflicted : Entry
  conflicted = in_conflict_at (report ws earlier t)

  pub judge_txn-verdict : HasVerdict edge ws earlier t (judge_txn edge ws earlier t).verdict
  judge_txn-verdict =
      elim (is_too_old edge t) as (λ old. is_too_old edge t ≡ old
      → HasVerdict edge ws earlier t
      (cond old (without_places TooOld)
      (cond (is_in_conflict ws earlier t) (in_conflict_at (report ws earlier t))
      (without_places Committed))).verdict) [
        | true ↦ λ e. too_old_from_test edge t e
        | false ↦ λ e.
            let young =
            λ (o : IsTooOld edge t). not_both_ways (is_too_old edge t) (test_from_too_old edge t o) e in
            elim (is_in_conflict ws earlier t) as (λ met. is_in_conflict ws earlier t ≡ met
            → HasVerdict edge ws earlier t
            (cond met (in_conflict_at (report ws earlier t)) (without_places Committed)).verdict) [
              | true ↦ λ f. (young, conflict_from_test ws earlier t f)
              | false ↦ λ f. (
                young,
                λ c. not_both_ways (is_in_conflict ws earlier t) (test_from_conflict ws earlier t c) f,
              )
            ] refl
      ] refl

  -- at most one verdict is right
  pub same_verdict : (v w : Verdict) → HasVerdict edge ws earlier t v → HasVerdict edge ws earlier t w → v ≡ w
  same_verdict TooOld TooOld h k = refl
  same_verdict TooOld Conflict h k = absurd (k.0 h)
  same_verdict TooOld Committed h k = absurd (k.0 h)
  same_verdict Conflict TooOld h k = absurd (h.0 k)
  same_verdict Conflict Conflict h k = refl
  same_verdict Conflict Committed h k = absurd (k.1 h.1)
  same_verdict Committed TooOld h k = absurd (h.0 k)
  same_verdict Committed Conflict h k = absurd (h.1 k.1)
  same_verdict Committed Committed h k = refl

  hit_places : List ℕ
  hit_places = places_from 0 (is_hit ws t) t.reads

  met_places : List ℕ
  met_places = places_from 0 (meets_earlier earlier) t.reads

-- the head of a rising list with these members comes first
first_member : (low x k : ℕ) (xs : List ℕ) → Rises low (x ∷ xs) → In k (x ∷ xs) → x ≤ k
first_member low x k xs h (inl e) = omega arith
first_member low x k xs h (inr i) = omega (arith, in_above (suc x) xs h.1 k i)

lt_trichotomy : (i m : ℕ) → (i < m) ⊎ ((i ≡ m) ⊎ (m < i))
lt_trichotomy i m = grind arith

module _ (ws : List Write) (earlier : List Range) (t : Txn) where
  -- what the places of an entry that reports them have to be
  record Reports (places : List ℕ) : Type 0 where
    hits : (i : ℕ) → IsHit ws t i → IsStrictlyIncreasing places × ((k : ℕ) → Contains places k ↔ IsHit ws t k)
    first : ((i : ℕ) → IsHit ws t i → ⊥) → (i : ℕ) × (places ≡ i ∷ []) × IsFirstToMeet earlier t i

  hits_in : (k : ℕ) → IsHit ws t k → In k (places_from 0 (is_hit ws t) t.reads)
  hits_in k h =
      subst (λ n. In n (places_from 0 (is_hit ws t) t.reads)) (zero-add k)
      (in_places_from 0 (is_hit ws t) t.reads k (test_from_hit ws t k h))

  in_hits : (k : ℕ) → In k (places_from 0 (is_hit ws t) t.reads) → IsHit ws t k
  in_hits k i =
      hit_from_test ws t k (passes_from_in 0 (is_hit ws t) t.reads k
      (subst (λ n. In n (places_from 0 (is_hit ws t) t.reads)) (sym (zero-add k)) i))

  met_in : (k : ℕ) → MeetsEarlier earlier t k → In k (places_from 0 (meets_earlier earlier) t.reads)
  met_in k h =
      subst (λ n. In n (places_from 0 (meets_earlier earlier) t.reads)) (zero-add k)
      (in_places_from 0 (meets_earlier earlier) t.reads k (test_from_earlier earlier t k h))

  in_met : (k : ℕ) → In k (places_from 0 (meets_earlier earlier) t.reads) → MeetsEarlier earlier t k
  in_met k i =
      earlier_from_test earlier t k
      (passes_from_in 0 (meets_earlier earlier) t.reads k
      (subst (λ n. In n (places_from 0 (meets_earlier earlier) t.reads)) (sym (zero-add k)) i))

  first_of : (met : List ℕ) → places_from 0 (meets_earlier earlier) t.reads ≡ met → (i : ℕ) → In i met
      → (m : ℕ) × (take 1 met ≡ m ∷ []) × IsFirstToMeet earlier t m
  first_of [] e i h = elim h [ ]
  first_of (m ∷ ms) e i h =
      let rising : Rises 0 (m ∷ ms) =
      subst (Rises 0) e (rises_places_from 0 (meets_earlier earlier) t.reads) in (
        m,
        refl,
        (
          in_met m (subst (In m) (sym e) (inl refl)),
          λ k l met. absurd (omega (arith, first_member 0 m k ms rising (subst (In k) e (met_in k met)))),
        ),
      )

  reported : (hits : List ℕ) → places_from 0 (is_hit ws t) t.reads ≡ hits → IsInConflict ws earlier t
      → Reports (hits_or_first hits (places_from 0 (meets_earlier earlier) t.reads))
  reported [] e (i, inl h) = absurd (subst (In i) e (hits_in i h))
  reported [] e (i, inr m) = record {
    hits = λ k h. absurd (subst (In k) e (hits_in k h));
    first = λ none. first_of (places_from 0 (meets_earlier earlier) t.reads) refl i (met_in i m);
  }
  reported (h ∷ hs) e c = record {
    hits = λ k hit. (
      increasing_from_rises 0 (h ∷ hs) (subst (Rises 0) e (rises_places_from 0 (is_hit ws t) t.reads)),
      λ j. (
        λ in'. in_hits j (subst (In j) (sym e) (in_from_contains (h ∷ hs) j in')),
        λ hit. contains_from_in (h ∷ hs) j (subst (In j) e (hits_in j hit)),
      ),
    );
    first = λ none. absurd (none h (in_hits h (subst (In h) (sym e) (inl refl))));
  }

  same_first : (i m : ℕ) → IsFirstToMeet earlier t i → IsFirstToMeet earlier t m → i ≡ m
  same_first i m f g =
      elim (lt_trichotomy i m) [
        | inl l ↦ absurd (g.1 i l f.0)
        | inr (inl e) ↦ e
        | inr (inr l) ↦ absurd
            (f.1 m l g.0)
      ]

  -- no other places can be reported
  same_reported : (hits : List ℕ) → places_from 0 (is_hit ws t) t.reads ≡ hits → (places : List ℕ) → Reports places
      → places ≡ hits_or_first hits (places_from 0 (meets_earlier earlier) t.reads)
  same_reported [] e places reported =
      let f = reported.first (λ i h. subst (In i) e (hits_in i h)) in
      let g = first_of (places_from 0 (meets_earlier earlier) t.reads) refl f.0 (met_in f.0 f.2.0) in
      f.1 ∙ ap (λ n. n ∷ []) (same_first f.0 g.0 f.2 g.2) ∙ sym g.1
  same_reported (h ∷ hs) e places reported =
      let f = reported.hits h (in_hits h (subst (In h) (sym e) (inl refl))) in
      same_rising 0 places (h ∷ hs) (rises_from_increasing places f.0)
      (subst (Rises 0) e (rises_places_from 0 (is_hit ws t) t.reads))
      (λ k i. subst (In k) e (hits_in k ((f.1 k).0 (contains_from_in places k i))))
      (λ k i. in_from_contains places k ((f.1 k).1 (in_hits k (subst (In k) (sym e) i))))

  reported_if_marked : IsInConflict ws earlier t → IsTrue t.marked → Reports (report ws earlier t)
  reported_if_marked c marked =
      subst (λ b. Reports
      (cond b (hits_or_first (places_from 0 (is_hit ws t) t.reads)
      (places_from 0 (meets_earlier earlier) t.reads)) [])) (sym marked)
      (reported (places_from 0 (is_hit ws t) t.reads) refl c)

  -- places that are reported for a verdict
  abbrev Report : Verdict → List ℕ → Type 0
  Report verdict places = ((IsReported t verdict → ⊥) → places ≡ []) × (IsReported t verdict → Reports places)

  not_reported : (verdict : Verdict) → (verdict ≡ Conflict → ⊥) → Report verdict []
  not_reported verdict other = (λ _. refl, λ r. absurd (other r.1))

  report_in_conflict : IsInConflict ws earlier t → Report Conflict (report ws earlier t)
  report_in_conflict c = (
    λ silent. elim t.marked as (λ b. t.marked ≡ b
        → cond b (hits_or_first (places_from 0 (is_hit ws t) t.reads)
        (places_from 0 (meets_earlier earlier) t.reads)) [] ≡ []) [
          | true ↦ λ e. absurd (silent (e, refl))
          | false ↦ λ e. refl
        ] refl,
    λ r. reported_if_marked c r.0,
  )

  report_judged : (edge : ℤ)
      → Report (judge_txn edge ws earlier t).verdict (judge_txn edge ws earlier t).places
  report_judged edge =
      elim (is_too_old edge t) as (λ old. let e : Entry =
      cond old (without_places TooOld)
      (cond (is_in_conflict ws earlier t) (in_conflict_at (report ws earlier t))
      (without_places Committed)) in Report e.verdict e.places) [
        | true ↦ not_reported TooOld (λ e. cc)
        | false ↦ elim (is_in_conflict ws earlier t) as (λ met. is_in_conflict ws earlier t ≡ met
            → let e : Entry = cond met (in_conflict_at (report ws earlier t)) (without_places Committed) in
            Report e.verdict e.places) [
              | true ↦ λ f. report_in_conflict (conflict_from_test ws earlier t f)
              | false ↦ λ f. not_reported Committed (λ e. cc)
            ] refl
      ]

  pub judge_txn-report : (edge : ℤ) → HasReport ws earlier t (judge_txn edge ws earlier t)
  judge_txn-report edge = let r = report_judged edge in
      record { silent = r.0; hits = λ is. (r.1 is).hits; first = λ is. (r.1 is).first }

  same_report : (verdict : Verdict) (xs ys : List ℕ) → Report verdict xs → Report verdict ys → xs ≡ ys
  same_report TooOld xs ys h k = h.0 (λ r. let e : TooOld ≡ Conflict = r.1 in cc)
      ∙ sym (k.0 (λ r. let e : TooOld ≡ Conflict = r.1 in cc))
  same_report Committed xs ys h k = h.0 (λ r. let e : Committed ≡ Conflict = r.1 in cc)
      ∙ sym (k.0 (λ r. let e : Committed ≡ Conflict = r.1 in cc))
  same_report Conflict xs ys h k = elim t.marked as (λ b. t.marked ≡ b → xs ≡ ys) [
    | true ↦ λ e. same_reported (places_from 0 (is_hit ws t) t.reads) refl xs (h.1 (e, refl))
        ∙ sym (same_reported (places_from 0 (is_hit ws t) t.reads) refl ys (k.1 (e, refl)))
    | false ↦ λ e. h.0 (λ r. not_both_ways t.marked r.0 e) ∙ sym (k.0 (λ r. not_both_ways t.marked r.0 e))
  ] refl

  report_from : (e : Entry) → HasReport ws earlier t e → Report e.verdict e.places
  report_from e h = (h.silent, λ is. record { hits = h.hits is; first = h.first is })

  -- only the entry of `judge_txn` has the verdict and the report that it must have
  pub same_entry : (edge : ℤ) (e : Entry) → HasVerdict edge ws earlier t e.verdict → HasReport ws earlier t e
      → e ≡ judge_txn edge ws earlier t
  same_entry edge e v r =
      let same =
      same_verdict edge ws earlier t e.verdict (judge_txn edge ws earlier t).verdict v
      (judge_txn-verdict edge ws earlier t) in
      entry_same e (judge_txn edge ws earlier t) same
      (same_report e.verdict e.places (judge_txn edge ws earlier t).places (report_from e r)
      (subst (λ w. Report w (judge_txn edge ws earlier t).places) (sym same) (report_judged edge)))

-- what the entry at each index has to be, where ranges of others count before those of these transactions
abbrev pub Entries : ℤ → List Write → List Range → List Txn → List Entry → Type 0
Entries edge ws before ts es = (j : ℕ) (t : Txn) (e : Entry) → slice_get ts j ≡ Some t
    → slice_get es j ≡ Some e →
    HasVerdict edge ws (before ++ committed_ranges (take j ts) (take j es)) t e.verdict
    × HasReport ws (before ++ committed_ranges (take j ts) (take j es)) t e

some_same : {A : Type 0} (a b : A) → Some a ≡ Some b → a ≡ b
some_same a b e = cc

none_some : {A : Type 0} (a : A) → let n : Option A = None in n ≡ Some a → ⊥
none_some a e = cc

pub entries_judged : (edge : ℤ) (ws : List Write) (before : List Range) (ts : List Txn)
    → Entries edge ws before ts (judge_txns edge ws before ts)
entries_judged edge ws before [] j t e p q = absurd (none_some t p)
entries_judged edge ws before (s ∷ ts) zero t e p q =
    let same_t = some_same s t p in
    let same_e = some_same (judge_txn edge ws before s) e q in
    rw (append-nil, ← same_t, ← same_e) (
      judge_txn-verdict edge ws before s,
      judge_txn-report ws before s edge,
    )
entries_judged edge ws before (s ∷ ts) (suc j) t e p q =
    let own = counted_ranges (judge_txn edge ws before s).verdict s.writes in
    let rest = committed_ranges (take j ts) (take j (judge_txns edge ws (before ++ own) ts)) in
    subst (λ ranges. HasVerdict edge ws ranges t e.verdict
    × HasReport ws ranges t e) (append_assoc before own rest)
    (entries_judged edge ws (before ++ own) ts j t e p q)

pub same_entries : (edge : ℤ) (ws : List Write) (before : List Range) (ts : List Txn) (es : List Entry)
    → length es ≡ length ts → Entries edge ws before ts es → es ≡ judge_txns edge ws before ts
same_entries edge ws before [] [] n h = refl
same_entries edge ws before [] (e ∷ es) n h = absurd (omega arith)
same_entries edge ws before (t ∷ ts) [] n h = absurd (omega arith)
same_entries edge ws before (t ∷ ts) (e ∷ es) n h =
    let first =
    subst (λ ranges. HasVerdict edge ws ranges t e.verdict
    × HasReport ws ranges t e) (append-nil before) (h 0 t e refl refl) in
    let same = same_entry ws before t edge e first.0 first.1 in
    let own = counted_ranges e.verdict t.writes in
    let more : es ≡ judge_txns edge ws (before ++ own) ts =
    same_entries edge ws (before ++ own) ts es (omega arith)
    (λ j u f p q. subst (λ ranges. HasVerdict edge ws ranges u f.verdict
    × HasReport ws ranges u f) (sym (append_assoc before own (committed_ranges (take j ts) (take j es))))
    (h (suc j) u f p q)) in
    let tails = ap (λ (x : Entry). judge_txns edge ws (before ++ counted_ranges x.verdict t.writes) ts) same in
    cc

-- `judge` gives a reply that is right
pub judge_judged : (window : ℤ) (ws : List Write) (b : Batch) → Judged window ws b (judge window ws b)
judge_judged window ws b =
    let h = entries_judged (edge window b) ws [] b.txns in
    record {
      version = refl;
      count = length-judge_txns (edge window b) ws [] b.txns;
      verdicts = λ j t e p q. (h j t e p q).0;
      reports = λ j t e p q. (h j t e p q).1;
    }

-- and no other is
pub only_judge : (window : ℤ) (ws : List Write) (b : Batch) (r : Reply) → Judged window ws b r
    → r ≡ judge window ws b
only_judge window ws b r h = reply_same r (judge window ws b) h.version
    (same_entries (edge window b) ws [] b.txns r.entries h.count
    (λ j t e p q. (h.verdicts j t e p q, h.reports j t e p q)))
