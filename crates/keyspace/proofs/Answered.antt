-- Each batch is answered once, but for those that are held.
use Rattle.std.proofs.Common.{◌≡◌, ℕ, zero, suc, ◌+◌, Bool, true, false, cond, List, [], ◌∷◌, length, refl, ap, ◌∙◌, arith}
use Rattle.std.specs.Prelude.{ℤ, ◌==◌, int_lt, Option, Some, None, map, filter}
use Rattle.std.proofs.lemmas.List.{length-map}
use Rattle.keyspace.specs.declared.batch.Batch.{Batch}
use Rattle.keyspace.specs.declared.answer.Answer.{Answer}
use Rattle.keyspace.specs.declared.answer.Answer.TheVariants as reported
use Rattle.keyspace.specs.Processed.{version_of}
use Rattle.keyspace.specs.Writes.{writes}
use Rattle.keyspace.specs.Judge.{judge}
use Rattle.keyspace.specs.Found.{found}
use Rattle.keyspace.specs.Leaving.{Held, next_due}
use Rattle.keyspace.specs.Laws.{Leaves, EachBatchIsAnswered, NoneIsHeldAfterFinish}
use Rattle.keyspace.specs.Run.{
  State,
  start,
  Step,
  Take,
  Finish,
  hold,
  answer,
  process,
  admit,
  leave,
  leave_then,
  step,
  run_from,
  run,
  part,
}
use Rattle.keys.proofs.callers.Counts.{one_if, count_of, count_both, count_last, count_first}
use Rattle.keyspace.proofs.callers.Runs.{run_from_more}
use Rattle.keyspace.proofs.Waiting.{next_due_leaves}

module _ (proxy : ℕ) where
  abbrev is_answered : ℕ × Answer → Bool
  is_answered a = a.0 == proxy

  abbrev is_held : Held → Bool
  is_held h = h.0 == proxy

  -- the proxy's batches that were answered or are held
  abbrev seen : State → ℕ
  seen s = count_of is_answered s.answered + count_of is_held s.held

  seen_answer : (p : ℕ) (a : Answer) (s : State) → seen (answer p a s) ≡ seen s + one_if (p == proxy)
  seen_answer p a s = let e = count_last is_answered s.answered (p, a) in omega (arith, e)

  seen_hold : (p : ℕ) (b : Batch) (s : State) → seen (hold p b s) ≡ seen s + one_if (p == proxy)
  seen_hold p b s = let e = count_last is_held s.held (p, b) in omega (arith, e)

  seen_admit : (window : ℤ) (p : ℕ) (b : Batch) (s : State)
      → seen (admit window p b s) ≡ seen s + one_if (p == proxy)
  seen_admit window p b s =
      let v = version_of s.processed in
      elim (int_lt v b.previous) as
      (λ above. seen
      (cond above (hold p b s)
      (cond (int_lt b.previous v) (answer p (found s.processed p b.version) s) (process window p b s)))
      ≡ seen s + one_if (p == proxy)) [
        | true ↦ seen_hold p b s
        | false ↦ elim (int_lt b.previous v) as
            (λ below. seen (cond below (answer p (found s.processed p b.version) s) (process window p b s))
            ≡ seen s + one_if (p == proxy)) [
              | true ↦ seen_answer p (found s.processed p b.version) s
              | false ↦ let e =
                  count_last is_answered s.answered (p, reported.Reply (judge window (writes s.processed) b)) in
                  omega (arith, e)
            ]
      ]

  -- one that leaves is one of those held
  count_leaves : (version : ℤ) (held : List Held) (leaver : Held) (others : List Held)
      → Leaves version held leaver others
      → count_of is_held held ≡ count_of is_held others + one_if (leaver.0 == proxy)
  count_leaves version held leaver others l =
      let before = l.before in
      let after = l.after in
      let x = count_both is_held before (leaver ∷ after) in
      let y = count_first is_held leaver after in
      let z = count_both is_held before after in
      let h = ap (count_of is_held) l.held_is in
      let o = ap (count_of is_held) l.others_are in
      omega (arith, x, y, z, h, o)

  seen_leave_then : (continue_with : State → State) (window : ℤ) → ((s : State) → seen (continue_with s) ≡ seen s)
      → (s : State)
      → (l : Option (Held × List Held)) → next_due (version_of s.processed) s.held ≡ l
      → seen (leave_then continue_with window s l) ≡ seen s
  seen_leave_then continue_with window f s None e = refl
  seen_leave_then continue_with window f s (Some l) e =
      let after = admit window l.0.0 l.0.1 (record s { held = l.1 }) in
      let x = f after in
      let y = seen_admit window l.0.0 l.0.1 (record s { held = l.1 }) in
      let z = count_leaves (version_of s.processed) s.held l.0 l.1
      (next_due_leaves.some (version_of s.processed) s.held l.0 l.1 e) in
      omega (arith, x, y, z)

  seen_leave : (turns : ℕ) (window : ℤ) (s : State) → seen (leave turns window s) ≡ seen s
  seen_leave zero window s = refl
  seen_leave (suc turns) window s =
      seen_leave_then (leave turns window) window (seen_leave turns window) s
      (next_due (version_of s.processed) s.held) refl

  count_reported : (held : List Held)
      → count_of is_answered (map (λ (h : Held). (h.0, reported.Held h.1.version)) held) ≡ count_of is_held held
  count_reported [] = refl
  count_reported (h ∷ hs) =
      let x = count_first is_answered (h.0, reported.Held h.1.version)
      (map (λ (h : Held). (h.0, reported.Held h.1.version)) hs) in
      let y = count_first is_held h hs in
      let z = count_reported hs in
      omega (arith, x, y, z)

  seen_finish : (window : ℤ) (s : State) → seen (step window Finish s) ≡ seen s
  seen_finish window s =
      let x = count_both is_answered s.answered (map (λ (h : Held). (h.0, reported.Held h.1.version)) s.held) in
      let y = count_reported s.held in
      omega (arith, x, y)

  seen_take : (window : ℤ) (p : ℕ) (b : Batch) (s : State)
      → seen (step window (Take p b) s) ≡ seen s + one_if (p == proxy)
  seen_take window p b s = seen_leave _ window (admit window p b s) ∙ seen_admit window p b s

  part_first : (p : ℕ) (b : Batch) (log : List Step)
      → length (part (Take p b ∷ log) proxy) ≡ one_if (p == proxy) + length (part log proxy)
  part_first p b log =
      elim (p == proxy) as (λ own. length (cond own (b ∷ part log proxy) (part log proxy))
      ≡ one_if own + length (part log proxy)) [
        | true ↦ omega arith
        | false ↦ omega arith
      ]

  seen_run_from : (window : ℤ) (log : List Step) (s : State)
      → seen (run_from window log s) ≡ seen s + length (part log proxy)
  seen_run_from window [] s = omega arith
  seen_run_from window (Take p b ∷ log) s =
      let x = seen_run_from window log (step window (Take p b) s) in
      let y = seen_take window p b s in
      let z = part_first p b log in
      omega (arith, x, y, z)
  seen_run_from window (Finish ∷ log) s =
      let x = seen_run_from window log (step window Finish s) in
      let y = seen_finish window s in
      omega (arith, x, y)

pub each_is_answered : EachBatchIsAnswered
each_is_answered window log proxy =
    let x = seen_run_from proxy window log start in
    let y = length-map (filter (λ (a : ℕ × Answer). a.0 == proxy) (run window log).answered)
    (λ (a : ℕ × Answer). a.1) in
    omega (arith, x, y)

pub none_is_held : NoneIsHeldAfterFinish
none_is_held window log = ap (λ s. s.held) (run_from_more window log Finish start)
