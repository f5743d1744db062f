-- The worked examples of what answers show.
use Rattle.std.proofs.Common.{◌≡◌, ℕ, zero, suc, false, ◌||◌, if◌then◌else◌, List, [], ◌∷◌, ℤ, refl, sym, ◌∙◌, ap, subst, arith}
use Rattle.std.specs.Prelude.{IsTrue, Option, Some, None, is_some, pos, negsuc, Contains}
use Rattle.std.proofs.lemmas.Bool.{false≢true}
use Rattle.keyspace.specs.declared.TheConstants.{WINDOW}
use Rattle.keyspace.specs.declared.txn.Txn.{Txn}
use Rattle.keyspace.specs.declared.batch.Batch.{Batch}
use Rattle.keyspace.specs.declared.reply.Reply.{Reply}
use Rattle.keyspace.specs.Processed.{Processed}
use Rattle.keyspace.specs.Run.{run, part}
use Rattle.keyspace.specs.Rows.{Limits, letter, batch, write_ab}
use Rattle.serial.specs.Commits.{IsCommitted}
use Rattle.serial.specs.Stores.{Store, KeepsToWrites, AllKeepToWrites}
use Rattle.serial.specs.Serial.{AllReadOnlyDeclared, ReadsOnlyDeclared, InvariantsHold, Preserves}
use Rattle.serial.specs.Replies.{SendsOnce, IsReplyTo}
use Rattle.serial.specs.RowStores.{first_store, letter_bytes, at_a}
use Rattle.serial.specs.RowLists.{with_conflicts_committed}
use Rattle.serial.specs.AnswerRows.{at_b, give_up_a, give_up_b, gives_up_a, gives_up_b, skew_chain, skew_plans, one_is_there, unjudged, sends_twice, AnswerRows}
use Rattle.serial.proofs.EffectRows.{found_at}
use Rattle.serial.proofs.ClauseRows.{not_equal}
use Rattle.serial.proofs.PlanRows.{none_there, same_value, keeps_by, declared_by}

-- a plan that looks at two values puts the same if they are the same
given_up : (one other same_one same_other : Option (List ℕ)) → one ≡ same_one → other ≡ same_other
    → (if is_some other then None else one) ≡ (if is_some same_other then None else same_one)
given_up one other same_one same_other e f =
    ap (λ x. if is_some other then None else x) e ∙ ap (λ x. if is_some x then None else same_one) f

-- the snapshot of the first transaction, if there is one
abbrev first_snapshot : List Txn → ℤ
first_snapshot [] = pos 0
first_snapshot (t ∷ ts) = t.snapshot

not_fifty : pos 0 ≡ pos 50 → ⊥
not_fifty same = not_equal 0 50 (omega arith) same

module _ (limits : Limits) where
  gives_up_a_preserves : Preserves (one_is_there limits) (give_up_a limits)
  gives_up_a_preserves store =
      let a = at_a limits store in
      elim (at_b limits store) as (λ b. IsTrue (is_some a || is_some b)
      → IsTrue (is_some (if is_some b then None else a) || is_some b)) [
        | None ↦ λ h. h
        | Some value ↦ λ h. refl
      ]

  gives_up_b_preserves : Preserves (one_is_there limits) (give_up_b limits)
  gives_up_b_preserves store =
      let b = at_b limits store in
      elim (at_a limits store) as (λ a. IsTrue (is_some a || is_some b)
      → IsTrue (is_some a || is_some (if is_some a then None else b))) [
        | None ↦ λ h. h
        | Some value ↦ λ h. refl
      ]

  preserves : (i j : ℕ) → Preserves (one_is_there limits) (skew_plans limits i j)
  preserves zero j = λ store h. h
  preserves (suc zero) j = gives_up_a_preserves
  preserves (suc (suc zero)) j = gives_up_b_preserves
  preserves (suc (suc (suc i))) j = λ store h. h

  a_keeps : KeepsToWrites (gives_up_a limits) (give_up_a limits)
  a_keeps = keeps_by (gives_up_a limits) (λ read changed key bytes. if is_some (at_b limits read) then None else at_a limits read)

  b_keeps : KeepsToWrites (gives_up_b limits) (give_up_b limits)
  b_keeps = keeps_by (gives_up_b limits) (λ read changed key bytes. if is_some (at_a limits read) then None else at_b limits read)

  a_declared : (read changed : Store) → ReadsOnlyDeclared (gives_up_a limits) (give_up_a limits) read changed
  a_declared read changed =
      declared_by (gives_up_a limits) (λ read changed key bytes. if is_some (at_b limits read) then None else at_a limits read)
      read changed
      (λ other same key bytes.
      given_up (at_a limits read) (at_b limits read) (at_a limits other) (at_b limits other)
      (same (letter 97) (letter_bytes limits 97 refl) refl) (same (letter 98) (letter_bytes limits 98 refl) refl))

  b_declared : (read changed : Store) → ReadsOnlyDeclared (gives_up_b limits) (give_up_b limits) read changed
  b_declared read changed =
      declared_by (gives_up_b limits) (λ read changed key bytes. if is_some (at_a limits read) then None else at_b limits read)
      read changed
      (λ other same key bytes.
      given_up (at_b limits read) (at_a limits read) (at_b limits other) (at_a limits other)
      (same (letter 98) (letter_bytes limits 98 refl) refl) (same (letter 97) (letter_bytes limits 97 refl) refl))

  abbrev skewed : List Processed
  skewed = with_conflicts_committed (skew_chain limits)

  -- what holds of both transactions, and where nothing is changed, holds of each that is committed
  each_of_both : (P : ℕ → ℕ → Txn → Type 0) → P 1 0 (gives_up_a limits) → P 2 0 (gives_up_b limits)
      → ((i j : ℕ) (t : Txn) → P (suc (suc (suc i))) j t)
      → (i j : ℕ) (p : Processed) (t : Txn) → IsCommitted skewed i j p t → P i j t
  each_of_both P pa pb others zero j p t c = absurd (none_there j t (found_at skewed 0 j p t c))
  each_of_both P pa pb others (suc zero) zero p t c =
      subst (P 1 0) (same_value (gives_up_a limits) t (found_at skewed 1 0 p t c)) pa
  each_of_both P pa pb others (suc zero) (suc j) p t c = absurd (none_there j t (found_at skewed 1 (suc j) p t c))
  each_of_both P pa pb others (suc (suc zero)) zero p t c =
      subst (P 2 0) (same_value (gives_up_b limits) t (found_at skewed 2 0 p t c)) pb
  each_of_both P pa pb others (suc (suc zero)) (suc j) p t c = absurd (none_there j t (found_at skewed 2 (suc j) p t c))
  each_of_both P pa pb others (suc (suc (suc i))) j p t c = others i j t

  skew_keeps : AllKeepToWrites skewed (skew_plans limits)
  skew_keeps =
      each_of_both (λ i j t. KeepsToWrites t (skew_plans limits i j)) a_keeps b_keeps (λ i j t read changed key bytes none. refl)

  skew_declared : AllReadOnlyDeclared first_store (skew_plans limits) skewed
  skew_declared i j p t c =
      each_of_both (λ i j t. (read changed : Store) → ReadsOnlyDeclared t (skew_plans limits i j) read changed) a_declared
      b_declared (λ i j t read changed other same. refl) i j p t c _ _

  skew_fails : ¬ InvariantsHold skewed
  skew_fails holds =
      false≢true (holds first_store (skew_plans limits) skew_keeps skew_declared (one_is_there limits)
      (λ i j p t c. preserves i j) refl 5)

  -- the list has an empty batch, and that of the write
  never_judged : (i j : ℕ) (p : Processed) → ¬ IsCommitted (run WINDOW (sends_twice limits)).processed i j p (unjudged limits)
  never_judged zero j p c =
      absurd (none_there j (unjudged limits) (found_at (run WINDOW (sends_twice limits)).processed 0 j p (unjudged limits) c))
  never_judged (suc zero) zero p c =
      not_fifty (ap (λ (t : Txn). t.snapshot) (same_value (write_ab limits) (unjudged limits)
      (found_at (run WINDOW (sends_twice limits)).processed 1 0 p (unjudged limits) c)))
  never_judged (suc zero) (suc j) p c =
      absurd (none_there j (unjudged limits)
      (found_at (run WINDOW (sends_twice limits)).processed 1 (suc j) p (unjudged limits) c))
  never_judged (suc (suc i)) j p c =
      absurd (none_there j (unjudged limits)
      (found_at (run WINDOW (sends_twice limits)).processed (suc (suc i)) j p (unjudged limits) c))

  -- the two batches of version 100
  abbrev first_batch : Batch
  first_batch = batch limits (pos 0) 100 (negsuc 0) (write_ab limits ∷ []) refl

  abbrev second_batch : Batch
  second_batch = batch limits (pos 0) 100 (negsuc 0) (unjudged limits ∷ []) refl

  first_sent : Contains (part (sends_twice limits) 0) first_batch
  first_sent = (1, omega arith, refl)

  second_sent : Contains (part (sends_twice limits) 0) second_batch
  second_sent = (2, omega arith, refl)

  about_another : (reply : Reply) (is : IsReplyTo WINDOW (sends_twice limits) 0 (part (sends_twice limits) 0) reply)
      → reply.version ≡ pos 100
      → ¬ ((batch : Batch) → Contains (part (sends_twice limits) 0) batch → batch.version ≡ reply.version
      → batch.txns ≡ is.entry.batch.txns)
  about_another reply is version about =
      let one = about first_batch first_sent (sym version) in
      let other = about second_batch second_sent (sym version) in
      not_fifty (ap first_snapshot (one ∙ sym other))

  sends_not_once : ¬ SendsOnce (part (sends_twice limits) 0)
  sends_not_once once = not_fifty (ap first_snapshot (once first_batch second_batch first_sent second_sent refl))

  pub rows : AnswerRows limits
  rows = record {
    write_skew = refl;
    write_skew_committed = refl;
    write_skew_preserves = preserves;
    write_skew_fails = skew_fails;
    repeat_of_another_batch = refl;
    never_judged = never_judged;
    about_another = about_another;
    sends_not_once = sends_not_once;
  }
