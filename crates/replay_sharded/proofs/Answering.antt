-- How often the reference resolver answers a proxy at one version: once per batch of this version that its log takes from the proxy, except
-- those that are held.
use Rattle.std.proofs.Common.{◌≡◌, ℕ, zero, suc, ◌+◌, Bool, true, false, not, cond, List, [], ◌∷◌, length, refl, sym, ap, ◌∙◌, arith}
use Rattle.std.specs.Prelude.{ℤ, ◌==◌, ◌&&◌, int_lt, Option, None, Some, map, filter, All}
use Rattle.std.specs.Ordering.{int_eq}
use Rattle.std.proofs.lemmas.Bool.Decides.{Decides-int_eq}
use Rattle.std.proofs.lemmas.List.Elements.{All-nil, All-head, All-tail, All-push}
use Rattle.std.proofs.lemmas.Option.{none-some, same_Some}
use Rattle.keyspace.specs.declared.answer.Answer.{Answer}
use Rattle.keyspace.specs.declared.answer.Answer.TheVariants as reported
use Rattle.keyspace.specs.declared.batch.Batch.{Batch}
use Rattle.keyspace.specs.declared.reply.Reply.{Reply}
use Rattle.keyspace.specs.Answer.{version_of_answer}
use Rattle.keyspace.specs.Found.{found, is_received, kept_reply, reply_or_never}
use Rattle.keyspace.specs.Judge.{judge}
use Rattle.keyspace.specs.Laws.{Leaves}
use Rattle.keyspace.specs.Leaving.{Held, next_due}
use Rattle.keyspace.specs.Processed.{Processed, version_of}
use Rattle.keyspace.specs.Run.{
  State,
  start,
  Step,
  Take,
  Finish,
  hold,
  answer,
  process,
  admit,
  leave,
  leave_then,
  step,
  run_from,
  run,
  answers_to,
  answers,
  part,
}
use Rattle.keyspace.specs.Writes.{writes}
use Rattle.keyspace.proofs.callers.Chains.{next_due_leaves}
use Rattle.resolver.specs.Resolver.{FinishesLast}
use Rattle.replay_shards.specs.Merging.{answers_at, at_version}
use Rattle.keyspace.proofs.callers.Runs.{run_from_more}
use Rattle.keys.proofs.callers.Counts.{one_if, count_of, count_both, count_last, count_first}

-- the reply has the version of its batch
abbrev HasVersion : Processed → Type 0
HasVersion p = p.reply.version ≡ p.batch.version

-- so a reply that is found for a version has it
kept_version : (ps : List Processed) (proxy : ℕ) (version : ℤ) (reply : Reply) → All HasVersion ps
    → kept_reply ps proxy version ≡ Some reply → reply.version ≡ version
kept_version [] proxy version reply all h = absurd (none-some reply h)
kept_version (p ∷ ps) proxy version reply all h =
    let rest = kept_reply ps proxy version in
    let later : rest ≡ Some reply → reply.version ≡ version =
    kept_version ps proxy version reply (All-tail HasVersion p ps all) in
    elim (p.proxy == proxy) as (λ own.
    cond (own && int_eq p.batch.version version && not (is_received ps proxy version)) (Some p.reply) rest ≡ Some reply
    → reply.version ≡ version) [
      | true ↦ elim (int_eq p.batch.version version) as (λ same. int_eq p.batch.version version ≡ same
          → cond (same && not (is_received ps proxy version)) (Some p.reply) rest ≡ Some reply → reply.version ≡ version) [
            | true ↦ λ same. elim (not (is_received ps proxy version)) as (λ b.
                cond b (Some p.reply) rest ≡ Some reply → reply.version ≡ version) [
                  | true ↦ λ at.
                      ap (λ (r : Reply). r.version) (sym (same_Some p.reply reply at))
                      ∙ (All-head HasVersion p ps all ∙ (Decides-int_eq p.batch.version version).0 same)
                  | false ↦ λ at. later at
                ]
            | false ↦ λ same at. later at
          ] refl
      | false ↦ λ at. later at
    ] h

found_version : (ps : List Processed) (proxy : ℕ) (version : ℤ) → All HasVersion ps
    → version_of_answer (found ps proxy version) ≡ version
found_version ps proxy version all =
    elim (kept_reply ps proxy version) as (λ o. kept_reply ps proxy version ≡ o → version_of_answer (reply_or_never version o) ≡ version) [
      | None ↦ λ e. refl
      | Some reply ↦ λ e. kept_version ps proxy version reply all e
    ] refl

abbrev pub version_of_batch : Batch → ℤ
version_of_batch b = b.version

module _ (proxy : ℕ) (version : ℤ) where
  -- whether it is of this proxy and version
  abbrev is_of : ℕ → ℤ → Bool
  is_of p v = (p == proxy) && int_eq v version

  abbrev is_answer : ℕ × Answer → Bool
  is_answer a = is_of a.0 (version_of_answer a.1)

  abbrev is_held : Held → Bool
  is_held h = is_of h.0 h.1.version

  -- the proxy's batches of the version that were answered or are held
  abbrev seen : State → ℕ
  seen s = count_of is_answer s.answered + count_of is_held s.held

  -- that many more were answered or are held later
  abbrev Sees : State → State → ℕ → Type 0
  Sees old new more = All HasVersion new.processed × (seen new ≡ seen old + more)

  seen_answer : (p : ℕ) (a : Answer) (s : State)
      → seen (answer p a s) ≡ seen s + one_if (is_of p (version_of_answer a))
  seen_answer p a s = let e = count_last is_answer s.answered (p, a) in omega (arith, e)

  seen_hold : (p : ℕ) (b : Batch) (s : State) → seen (hold p b s) ≡ seen s + one_if (is_of p b.version)
  seen_hold p b s = let e = count_last is_held s.held (p, b) in omega (arith, e)

  sees_process : (window : ℤ) (p : ℕ) (b : Batch) (s : State) → All HasVersion s.processed
      → Sees s (process window p b s) (one_if (is_of p b.version))
  sees_process window p b s all =
      let reply = judge window (writes s.processed) b in
      let new : Processed = record { proxy = p; batch = b; reply = reply } in
      let e = count_last is_answer s.answered (p, reported.Reply reply) in
      (All-push HasVersion s.processed new all refl, omega (arith, e))

  sees_admit : (window : ℤ) (p : ℕ) (b : Batch) (s : State) → All HasVersion s.processed
      → Sees s (admit window p b s) (one_if (is_of p b.version))
  sees_admit window p b s all =
      let v = version_of s.processed in
      let n = one_if (is_of p b.version) in
      elim (int_lt v b.previous) as
      (λ above. Sees s
      (cond above (hold p b s)
      (cond (int_lt b.previous v) (answer p (found s.processed p b.version) s) (process window p b s))) n) [
        | true ↦ (all, seen_hold p b s)
        | false ↦ elim (int_lt b.previous v) as
            (λ below. Sees s (cond below (answer p (found s.processed p b.version) s) (process window p b s)) n) [
              | true ↦ (
                all,
                seen_answer p (found s.processed p b.version) s
                    ∙ ap (λ (w : ℤ). seen s + one_if (is_of p w)) (found_version s.processed p b.version all),
              )
              | false ↦ sees_process window p b s all
            ]
      ]

  -- one that leaves is one of those held
  count_leaves : (least : ℤ) (held : List Held) (leaver : Held) (others : List Held) → Leaves least held leaver others
      → count_of is_held held ≡ count_of is_held others + one_if (is_held leaver)
  count_leaves least held leaver others l =
      let before = l.before in
      let after = l.after in
      let x = count_both is_held before (leaver ∷ after) in
      let y = count_first is_held leaver after in
      let z = count_both is_held before after in
      let h = ap (count_of is_held) l.held_is in
      let o = ap (count_of is_held) l.others_are in
      omega (arith, x, y, z, h, o)

  sees_leave_then : (continue_with : State → State) (window : ℤ) → ((s : State) → All HasVersion s.processed → Sees s (continue_with s) 0)
      → (s : State) (l : Option (Held × List Held)) → next_due (version_of s.processed) s.held ≡ l → All HasVersion s.processed
      → Sees s (leave_then continue_with window s l) 0
  sees_leave_then continue_with window f s None e all = (all, omega arith)
  sees_leave_then continue_with window f s (Some l) e all =
      let without : State = record s { held = l.1 } in
      let one = sees_admit window l.0.0 l.0.1 without all in
      let rest = f (admit window l.0.0 l.0.1 without) one.0 in
      let x = one.1 in
      let y = rest.1 in
      let z = count_leaves (version_of s.processed) s.held l.0 l.1
      (next_due_leaves.some (version_of s.processed) s.held l.0 l.1 e) in
      (rest.0, omega (arith, x, y, z))

  sees_leave : (turns : ℕ) (window : ℤ) (s : State) → All HasVersion s.processed → Sees s (leave turns window s) 0
  sees_leave zero window s all = (all, omega arith)
  sees_leave (suc turns) window s all =
      sees_leave_then (leave turns window) window (sees_leave turns window) s (next_due (version_of s.processed) s.held) refl all

  sees_take : (window : ℤ) (p : ℕ) (b : Batch) (s : State) → All HasVersion s.processed
      → Sees s (step window (Take p b) s) (one_if (is_of p b.version))
  sees_take window p b s all =
      let one = sees_admit window p b s all in
      let rest = sees_leave (length (admit window p b s).held) window (admit window p b s) one.0 in
      let x = one.1 in
      let y = rest.1 in
      (rest.0, omega (arith, x, y))

  count_reported : (held : List Held)
      → count_of is_answer (map (λ (h : Held). (h.0, reported.Held h.1.version)) held) ≡ count_of is_held held
  count_reported [] = refl
  count_reported (h ∷ hs) =
      let x = count_first is_answer (h.0, reported.Held h.1.version)
      (map (λ (h : Held). (h.0, reported.Held h.1.version)) hs) in
      let y = count_first is_held h hs in
      let z = count_reported hs in
      omega (arith, x, y, z)

  sees_finish : (window : ℤ) (s : State) → All HasVersion s.processed → Sees s (step window Finish s) 0
  sees_finish window s all =
      let x = count_both is_answer s.answered (map (λ (h : Held). (h.0, reported.Held h.1.version)) s.held) in
      let y = count_reported s.held in
      (all, omega (arith, x, y))

  -- the batches of the version that a log takes from the proxy
  abbrev taken : List Step → List Batch
  taken log = at_version version_of_batch version (part log proxy)

  taken_first : (p : ℕ) (b : Batch) (log : List Step)
      → length (taken (Take p b ∷ log)) ≡ one_if (is_of p b.version) + length (taken log)
  taken_first p b log =
      let rest = part log proxy in
      elim (p == proxy) as (λ own. length (at_version version_of_batch version (cond own (b ∷ rest) rest))
      ≡ one_if (own && int_eq b.version version) + length (at_version version_of_batch version rest)) [
        | true ↦ count_first (λ (item : Batch). int_eq (version_of_batch item) version) b rest
        | false ↦ omega arith
      ]

  seen_run_from : (window : ℤ) (log : List Step) (s : State) → All HasVersion s.processed
      → seen (run_from window log s) ≡ seen s + length (taken log)
  seen_run_from window [] s all = omega arith
  seen_run_from window (Take p b ∷ log) s all =
      let one = sees_take window p b s all in
      let x = seen_run_from window log (step window (Take p b) s) one.0 in
      let y = one.1 in
      let z = taken_first p b log in
      omega (arith, x, y, z)
  seen_run_from window (Finish ∷ log) s all =
      let one = sees_finish window s all in
      let x = seen_run_from window log (step window Finish s) one.0 in
      let y = one.1 in
      omega (arith, x, y)

  count_to : (answered : List (ℕ × Answer)) → length (answers_at version (answers_to proxy answered)) ≡ count_of is_answer answered
  count_to [] = refl
  count_to (a ∷ answered) =
      let own : List (ℕ × Answer) = filter (λ (a : ℕ × Answer). a.0 == proxy) answered in
      let rest : List Answer = map (λ (a : ℕ × Answer). a.1) own in
      let more = count_to answered in
      let one = count_first (λ (item : Answer). int_eq (version_of_answer item) version) a.1 rest in
      let first = count_first is_answer a answered in
      let both : length (answers_at version (answers_to proxy (a ∷ answered))) ≡ one_if (is_answer a) + count_of is_answer answered =
      elim (a.0 == proxy) as (λ is. length (answers_at version (map (λ (a : ℕ × Answer). a.1) (cond is (a ∷ own) own)))
      ≡ one_if (is && int_eq (version_of_answer a.1) version) + count_of is_answer answered) [
        | true ↦ omega (arith, one, more)
        | false ↦ omega (arith, more)
      ] in
      both ∙ sym first

  -- if nothing is held, the proxy has as many answers of the version as it has sent batches of it
  pub answered_once : (window : ℤ) (log : List Step) → (run window log).held ≡ []
      → length (answers_at version (answers window log proxy)) ≡ length (taken log)
  answered_once window log none =
      let x = seen_run_from window log start (All-nil HasVersion) in
      let y = count_to (run window log).answered in
      let z = ap (count_of is_held) none in
      omega (arith, x, y, z)

-- a log that finishes leaves nothing held
pub none_held : (window : ℤ) (log : List Step) → FinishesLast log → (run window log).held ≡ []
none_held window log last =
    ap (λ (l : List Step). (run window l).held) last.1 ∙ ap (λ (s : State). s.held) (run_from_more window last.0 Finish start)
