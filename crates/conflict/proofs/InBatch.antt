-- The history may be asked first.
use Rattle.std.proofs.Common.{
  ◌≡◌,
  ℕ,
  ◌+◌,
  Bool,
  true,
  false,
  cond,
  ◌||◌,
  List,
  [],
  ◌∷◌,
  ◌++◌,
  take,
  refl,
  sym,
  ap,
  ◌∙◌,
  ◌<◌,
  length,
  arith,
  ◌&&◌,
}
use Rattle.std.specs.Prelude.{ℤ, ◌≤ℤ◌, int_lt, nat_lt}
use Rattle.std.proofs.lemmas.Int.{ints}
use Rattle.keyspace.proofs.callers.Judging.{entry_same}
use Rattle.std.specs.List.{list_any}
use Rattle.keys.specs.declared.range.Range.{Range}
use Rattle.keyspace.specs.declared.txn.Txn.{Txn}
use Rattle.keyspace.specs.declared.reply.Entry.{Entry}
use Rattle.keyspace.specs.declared.reply.Verdict.TheVariants.{Conflict, TooOld, Committed}
use Rattle.keyspace.specs.Writes.{Write, counted_ranges}
use Rattle.keyspace.specs.Judge.{
  is_too_old,
  is_hit,
  meets_earlier,
  is_in_conflict,
  places_from,
  hits_or_first,
  report,
  without_places,
  in_conflict_at,
  judge_txn,
  judge_txns,
}
use Rattle.conflict.specs.InBatch.{by_history, first_met, in_batch, HistoryFirst}

or_false : (a : Bool) → (a || false) ≡ a
or_false true = refl
or_false false = refl

or_swap : (a b c d : Bool) → ((a || b) || (c || d)) ≡ ((a || c) || (b || d))
or_swap true b c d = refl
or_swap false true true d = refl
or_swap false true false d = refl
or_swap false false true d = refl
or_swap false false false d = refl

module _ {X : Type 0} (f g : X → Bool) where
  any_or : (xs : List X) → list_any (λ x. f x || g x) xs ≡ (list_any f xs || list_any g xs)
  any_or [] = refl
  any_or (x ∷ xs) = ap (λ b. (f x || g x) || b) (any_or xs)
      ∙ or_swap (f x) (g x) (list_any f xs) (list_any g xs)

any_none : {X : Type 0} (xs : List X) → list_any (λ (x : X). false) xs ≡ false
any_none [] = refl
any_none (x ∷ xs) = any_none xs

-- whether any passes, the places show
no_places : (i : ℕ) (test : Range → Bool) (ranges : List Range) → list_any test ranges ≡ false
    → places_from i test ranges ≡ []
no_places i test [] h = refl
no_places i test (r ∷ rs) h =
    elim (test r) as (λ b. (b || list_any test rs) ≡ false
    → cond b (i ∷ places_from (i + 1) test rs) (places_from (i + 1) test rs) ≡ []) [
      | true ↦ λ k. cc
      | false ↦ λ k. no_places (i + 1) test rs k
    ] h

hits_first : (i : ℕ) (test : Range → Bool) (ranges : List Range) (met other : List ℕ)
    → list_any test ranges ≡ true
    → hits_or_first (places_from i test ranges) met ≡ hits_or_first (places_from i test ranges) other
hits_first i test [] met other h = cc
hits_first i test (r ∷ rs) met other h =
    elim (test r) as (λ b. (b || list_any test rs) ≡ true
    → hits_or_first (cond b (i ∷ places_from (i + 1) test rs) (places_from (i + 1) test rs)) met
    ≡ hits_or_first (cond b (i ∷ places_from (i + 1) test rs) (places_from (i + 1) test rs)) other) [
      | true ↦ λ k. refl
      | false ↦ λ k. hits_first (i + 1) test rs met other k
    ] h

module _ (oldest : ℤ) (ws : List Write) (written : List Range) (t : Txn) where
  conflict_or : is_in_conflict ws written t
      ≡ (list_any (is_hit ws t) t.reads || list_any (meets_earlier written) t.reads)
  conflict_or = any_or (is_hit ws t) (meets_earlier written) t.reads

  report_at_hit : list_any (is_hit ws t) t.reads ≡ true → report ws written t ≡ report ws [] t
  report_at_hit e = elim t.marked as (λ marked.
      cond marked (hits_or_first (places_from 0 (is_hit ws t) t.reads)
      (places_from 0 (meets_earlier written) t.reads)) []
      ≡ cond marked (hits_or_first (places_from 0 (is_hit ws t) t.reads)
      (places_from 0 (meets_earlier []) t.reads)) []) [
        | true ↦ hits_first 0 (is_hit ws t) t.reads _ _ e
        | false ↦ refl
      ]

  report_without_hit : list_any (is_hit ws t) t.reads ≡ false → report ws written t ≡ first_met written t
  report_without_hit e = elim t.marked as (λ marked.
      cond marked (hits_or_first (places_from 0 (is_hit ws t) t.reads)
      (places_from 0 (meets_earlier written) t.reads)) []
      ≡ cond marked (take 1 (places_from 0 (meets_earlier written) t.reads)) []) [
        | true ↦ ap (λ hits. hits_or_first hits (places_from 0 (meets_earlier written) t.reads))
            (no_places 0 (is_hit ws t) t.reads e)
        | false ↦ refl
      ]

  -- what the scan gives, from the two questions
  scanned : judge_txn oldest ws written t ≡ cond (is_too_old oldest t) (without_places TooOld)
      (cond (list_any (is_hit ws t) t.reads || list_any (meets_earlier written) t.reads)
      (in_conflict_at (report ws written t)) (without_places Committed))
  scanned = ap (λ c. cond (is_too_old oldest t) (without_places TooOld)
      (cond c (in_conflict_at (report ws written t)) (without_places Committed))) conflict_or

by_history_is : (oldest : ℤ) (ws : List Write) (t : Txn) → by_history oldest ws t
    ≡ cond (is_too_old oldest t) (without_places TooOld)
    (cond (list_any (is_hit ws t) t.reads) (in_conflict_at (report ws [] t)) (without_places Committed))
by_history_is oldest ws t =
    scanned oldest ws [] t
    ∙ ap (λ c. cond (is_too_old oldest t) (without_places TooOld)
    (cond c (in_conflict_at (report ws [] t)) (without_places Committed)))
    (ap (λ b. list_any (is_hit ws t) t.reads || b) (any_none t.reads)
    ∙ or_false (list_any (is_hit ws t) t.reads))

history_first : (oldest : ℤ) (ws : List Write) (written : List Range) (t : Txn)
    → judge_txn oldest ws written t ≡ in_batch written t (by_history oldest ws t)
history_first oldest ws written t =
    let hit = list_any (is_hit ws t) t.reads in
    let met = list_any (meets_earlier written) t.reads in
    scanned oldest ws written t
    ∙ elim (is_too_old oldest t) as (λ old.
    cond old (without_places TooOld)
    (cond (hit || met) (in_conflict_at (report ws written t)) (without_places Committed))
    ≡ in_batch written t
    (cond old (without_places TooOld)
    (cond hit (in_conflict_at (report ws [] t)) (without_places Committed)))) [
      | true ↦ refl
      | false ↦ elim hit as (λ h. hit ≡ h
          → cond (h || met) (in_conflict_at (report ws written t)) (without_places Committed)
          ≡ in_batch written t (cond h (in_conflict_at (report ws [] t)) (without_places Committed))) [
            | true ↦ λ e. ap in_conflict_at (report_at_hit oldest ws written t e)
            | false ↦ λ e. ap (λ places. cond met (in_conflict_at places) (without_places Committed))
                (report_without_hit oldest ws written t e)
          ] refl
    ]
    ∙ ap (in_batch written t) (sym (by_history_is oldest ws t))

pub each_history_first : HistoryFirst
each_history_first oldest ws written [] = refl
each_history_first oldest ws written (t ∷ ts) =
    let first = history_first oldest ws written t in
    let own = λ (e : Entry). judge_txns oldest ws (written ++ counted_ranges e.verdict t.writes) ts in
    let rest = each_history_first oldest ws
    (written ++ counted_ranges (in_batch written t (by_history oldest ws t)).verdict t.writes) ts in
    let tails : own (judge_txn oldest ws written t) ≡ own (in_batch written t (by_history oldest ws t)) =
    ap own first in
    ap (λ (e : Entry). e ∷ own (judge_txn oldest ws written t)) first
    ∙ ap (λ es. in_batch written t (by_history oldest ws t) ∷ es) (tails ∙ rest)

-- a transaction that isn't too old, and reads, has a snapshot at or above the oldest version
pub late_unless_old : (oldest edge : ℤ) (t : Txn) → is_too_old oldest t ≡ false → edge ≤ℤ oldest
    → 0 < length t.reads
    → edge ≤ℤ t.snapshot
late_unless_old oldest edge t young below reads =
    let some : nat_lt 0 (length t.reads) ≡ true = grind arith in
    let least : int_lt t.snapshot oldest ≡ false =
    ap (λ b. b && int_lt t.snapshot oldest) (sym some) ∙ young in
    grind (arith, ints)

module _ (oldest : ℤ) (ws : List Write) (t : Txn) where
  old_entry : (e : Entry) → e.verdict ≡ TooOld → e.places ≡ [] → is_too_old oldest t ≡ true
      → e ≡ by_history oldest ws t
  old_entry e verdict places old =
      entry_same e (without_places TooOld) verdict places
      ∙ ap (λ b. cond b (without_places TooOld)
      (cond (is_in_conflict ws [] t) (in_conflict_at (report ws [] t)) (without_places Committed)))
      (sym old)

  young_entry : is_too_old oldest t ≡ false → by_history oldest ws t
      ≡ cond (list_any (is_hit ws t) t.reads) (in_conflict_at (report ws [] t)) (without_places Committed)
  young_entry young = by_history_is oldest ws t
      ∙ ap (λ b. cond b (without_places TooOld)
      (cond (list_any (is_hit ws t) t.reads) (in_conflict_at (report ws [] t)) (without_places Committed)))
      young

  pub committed_entry : (e : Entry) → e.verdict ≡ Committed → e.places ≡ [] → is_too_old oldest t ≡ false
      → list_any (is_hit ws t) t.reads ≡ false → e ≡ by_history oldest ws t
  committed_entry e verdict places young none =
      entry_same e (without_places Committed) verdict places
      ∙ ap (λ b. cond b (in_conflict_at (report ws [] t)) (without_places Committed)) (sym none)
      ∙ sym (young_entry young)

  conflict_at : (e : Entry) → e.verdict ≡ Conflict → is_too_old oldest t ≡ false
      → list_any (is_hit ws t) t.reads ≡ true → e.places ≡ report ws [] t → e ≡ by_history oldest ws t
  conflict_at e verdict young hit places =
      entry_same e (in_conflict_at (report ws [] t)) verdict places
      ∙ ap (λ b. cond b (in_conflict_at (report ws [] t)) (without_places Committed)) (sym hit)
      ∙ sym (young_entry young)

  -- without a mark there are no places
  pub unmarked_entry : (e : Entry) → e.verdict ≡ Conflict → e.places ≡ [] → is_too_old oldest t ≡ false
      → list_any (is_hit ws t) t.reads ≡ true → t.marked ≡ false → e ≡ by_history oldest ws t
  unmarked_entry e verdict places young hit unmarked =
      conflict_at e verdict young hit (places ∙ ap (λ b. cond b
      (hits_or_first (places_from 0 (is_hit ws t) t.reads) (places_from 0 (meets_earlier []) t.reads)) [])
      (sym unmarked))

  -- with a mark those of the hits, of which there is one
  pub marked_entry : (e : Entry) → e.verdict ≡ Conflict → e.places ≡ places_from 0 (is_hit ws t) t.reads
      → is_too_old oldest t ≡ false → list_any (is_hit ws t) t.reads ≡ true → t.marked ≡ true
      → e ≡ by_history oldest ws t
  marked_entry e verdict places young hit marked =
      conflict_at e verdict young hit (places
      ∙ sym (hits_alone (places_from 0 (is_hit ws t) t.reads))
      ∙ hits_first 0 (is_hit ws t) t.reads [] (places_from 0 (meets_earlier []) t.reads) hit
      ∙ ap (λ b. cond b
      (hits_or_first (places_from 0 (is_hit ws t) t.reads) (places_from 0 (meets_earlier []) t.reads)) [])
      (sym marked))
    where
      hits_alone : (hits : List ℕ) → hits_or_first hits [] ≡ hits
      hits_alone [] = refl
      hits_alone (h ∷ hs) = refl
