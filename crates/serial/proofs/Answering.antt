-- What a proxy is answered by a run, beside the batches that it has sent.
use Rattle.std.proofs.Common.{
  ◌≡◌,
  ℕ,
  zero,
  suc,
  ◌<◌,
  true,
  false,
  cond,
  List,
  [],
  ◌∷◌,
  ◌++◌,
  length,
  get_or,
  take,
  drop,
  append-nil,
  append_assoc,
  ℤ,
  refl,
  sym,
  ap,
  subst,
  ◌∙◌,
  inl,
  inr,
  ◌⊎◌,
  arith,
}
use Rattle.std.specs.Prelude.{◌==◌, Some, map, filter, slice_get, IsSomeAnd, All, Contains}
use Rattle.std.proofs.lemmas.Bool.{eqb-true, eq-eqb, false≢true}
use Rattle.std.proofs.lemmas.Option.{slice_get_within}
use Rattle.std.proofs.lemmas.List.Elements.{All-nil, All-cons, All-head, All-tail, All-contains, Contains-append_right}
use Rattle.keys.proofs.callers.Lists.{some_at}
use Rattle.keyspace.specs.declared.batch.Batch.{Batch}
use Rattle.keyspace.specs.declared.reply.Entry.{Entry}
use Rattle.keyspace.specs.declared.reply.Reply.{Reply}
use Rattle.keyspace.specs.declared.reply.Verdict.TheVariants.{Committed}
use Rattle.keyspace.specs.declared.answer.Answer.{Answer}
use Rattle.keyspace.specs.declared.answer.Answer.TheVariants as reported
use Rattle.keyspace.specs.Processed.{Processed}
use Rattle.keyspace.specs.Writes.{writes}
use Rattle.keyspace.specs.Judged.{Judged}
use Rattle.keyspace.specs.Laws.{RunsAreChains}
use Rattle.keyspace.specs.Run.{Step, Take, Finish, run, answers, answers_to, part}
use Rattle.serial.specs.Replies.{IsSent, IsReplyTo, IsCommittedAt, ReportsCommitted}
use Rattle.serial.proofs.Reading.{split_at, the_value}
use Rattle.serial.proofs.ByShards.{contains_at}
use Rattle.serial.proofs.Versions.{one_at_version}
use Rattle.serial.proofs.Taking.{at_end, IsOf, knows_run}

-- an element of a list is its first one or one of the others
first_or_other : {X : Type 0} (y : X) (ys : List X) (x : X) (k : ℕ) → k < length (y ∷ ys) → get_or (y ∷ ys) k x ≡ x
    → (y ≡ x) ⊎ Contains ys x
first_or_other y ys x zero inside at = inl at
first_or_other y ys x (suc k) inside at = inr (k, omega (arith, inside), at)

-- what holds of all answers, each with its proxy, holds of those to one proxy
of_proxy : (P : ℕ → Answer → Type 0) (proxy : ℕ) (answered : List (ℕ × Answer))
    → All (λ (a : ℕ × Answer). P a.0 a.1) answered → All (P proxy) (answers_to proxy answered)
of_proxy P proxy [] all = All-nil (P proxy)
of_proxy P proxy (a ∷ answered) all =
    let Each : ℕ × Answer → Type 0 = λ (a : ℕ × Answer). P a.0 a.1 in
    let own : List (ℕ × Answer) = filter (λ (a : ℕ × Answer). a.0 == proxy) answered in
    let others = of_proxy P proxy answered (All-tail Each a answered all) in
    elim (a.0 == proxy) as (λ b. (a.0 == proxy) ≡ b
    → All (P proxy) (map (λ (a : ℕ × Answer). a.1) (cond b (a ∷ own) own))) [
      | true ↦ λ e.
          All-cons (P proxy) a.1 (answers_to proxy answered)
          (subst (λ q. P q a.1) (eqb-true a.0 proxy e) (All-head Each a answered all)) others
      | false ↦ λ e. others
    ] refl

-- an answer to a proxy is one of the answers to it
to_proxy : (proxy : ℕ) (x : Answer) (answered : List (ℕ × Answer)) → Contains answered (proxy, x)
    → Contains (answers_to proxy answered) x
to_proxy proxy x [] c = let inside = c.1 in absurd (omega (arith, inside))
to_proxy proxy x (a ∷ answered) c =
    let own : List (ℕ × Answer) = filter (λ (a : ℕ × Answer). a.0 == proxy) answered in
    elim (a.0 == proxy) as (λ b. (a.0 == proxy) ≡ b
    → Contains (map (λ (a : ℕ × Answer). a.1) (cond b (a ∷ own) own)) x) [
      | true ↦ λ e. elim (first_or_other a answered (proxy, x) c.0 c.1 c.2) [
        | inl here ↦ (0, omega arith, ap (λ (a : ℕ × Answer). a.1) here)
        | inr other ↦ Contains-append_right (a.1 ∷ []) (answers_to proxy answered) x (to_proxy proxy x answered other)
      ]
      | false ↦ λ e. elim (first_or_other a answered (proxy, x) c.0 c.1 c.2) [
        | inl here ↦ absurd (false≢true (sym e ∙ eq-eqb a.0 proxy (ap (λ (a : ℕ × Answer). a.0) here)))
        | inr other ↦ to_proxy proxy x answered other
      ]
    ] refl

-- the batches of a proxy that a log takes, around one of them
part_at : (before after : List Step) (proxy : ℕ) (batch : Batch)
    → part (before ++ Take proxy batch ∷ after) proxy ≡ part before proxy ++ batch ∷ part after proxy
part_at [] after proxy batch = rw (eq-eqb proxy proxy refl) refl
part_at (Take p b ∷ before) after proxy batch =
    let entire = part (before ++ Take proxy batch ∷ after) proxy in
    let parts = part before proxy in
    let more = part_at before after proxy batch in
    elim (p == proxy) as (λ own. cond own (b ∷ entire) entire ≡ cond own (b ∷ parts) parts ++ batch ∷ part after proxy) [
      | true ↦ ap (λ batches. b ∷ batches) more
      | false ↦ more
    ]
part_at (Finish ∷ before) after proxy batch = part_at before after proxy batch

module _ (window : ℤ) (log : List Step) (chains : RunsAreChains) where
  abbrev ps : List Processed
  ps = (run window log).processed

  judged : (i : ℕ) (e : Processed) → slice_get ps i ≡ Some e → Judged window (writes (take i ps)) e.batch e.reply
  judged i e at = (chains window log (take i ps) e (drop (suc i) ps) (split_at ps i e at)).judged

  -- each processed batch is one that its proxy has sent
  pub each_sent : (index : ℕ) (entry : Processed) → slice_get ps index ≡ Some entry → (sent later : List Batch)
      → sent ≡ part log entry.proxy ++ later → IsSent window log sent index entry
  each_sent index entry at sent later are =
      let t = (knows_run window log).processed index entry at in
      let own = part t.before entry.proxy in
      let rest = part t.after entry.proxy in
      let split : sent ≡ own ++ entry.batch ∷ (rest ++ later) =
      are ∙ ap (λ steps. part steps entry.proxy ++ later) t.taken
      ∙ ap (λ batches. batches ++ later) (part_at t.before t.after entry.proxy entry.batch)
      ∙ append_assoc own (entry.batch ∷ rest) later in
      record {
        before = t.before;
        after = t.after;
        taken = t.taken;
        next = ap (λ batches. slice_get batches (length own)) split ∙ at_end own entry.batch (rest ++ later);
        not_earlier = t.not_earlier;
      }

  -- its proxy is answered with its reply
  pub each_answered : (index : ℕ) (entry : Processed) → slice_get ps index ≡ Some entry
      → Contains (answers window log entry.proxy) (reported.Reply entry.reply)
  each_answered index entry at =
      to_proxy entry.proxy (reported.Reply entry.reply) (run window log).answered
      ((knows_run window log).answered index entry at)

  -- each reply is that of one of them
  pub each_reply : (proxy : ℕ) (sent later : List Batch) → sent ≡ part log proxy ++ later → (reply : Reply)
      → Contains (answers window log proxy) (reported.Reply reply) → IsReplyTo window log proxy sent reply
  each_reply proxy sent later are reply among =
      let found = All-contains (IsOf ps proxy) (answers window log proxy) (reported.Reply reply)
      (of_proxy (IsOf ps) proxy (run window log).answered (knows_run window log).replies) among in
      let index = found.0 in
      let entry = found.1 in
      let version = sym (judged index entry found.2).version ∙ ap (λ (r : Reply). r.version) found.4 in
      let was_sent = each_sent index entry found.2 sent later
      (are ∙ ap (λ p. part log p ++ later) (sym found.3)) in
      record {
        index = index;
        entry = entry;
        there = found.2;
        of_proxy = found.3;
        at_version = version;
        same = found.4;
        alone = λ other e there same.
            one_at_version window ps (chains window log) other index e entry there found.2 (same ∙ sym version);
        was_sent = was_sent;
        about_each = λ once batch is_sent same.
            once batch entry.batch is_sent
            (contains_at sent (length (part was_sent.before entry.proxy)) entry.batch was_sent.next)
            (same ∙ sym version);
      }

  -- a transaction that is reported as committed is committed
  pub each_reported : (proxy : ℕ) (version : ℤ) (j : ℕ) → ReportsCommitted (answers window log proxy) version j
      → IsCommittedAt ps proxy version j
  each_reported proxy version j reports =
      let to = each_reply proxy (part log proxy) [] (sym (append-nil (part log proxy))) reports.reply
      reports.is_received in
      let IsCommit : Entry → Type 0 = λ (e : Entry). e.verdict ≡ Committed in
      let verdict = subst (λ (r : Reply). IsSomeAnd (slice_get r.entries j) IsCommit) (sym to.same) reports.verdict in
      let found = the_value IsCommit (slice_get to.entry.reply.entries j) verdict in
      let inside = slice_get_within to.entry.reply.entries j found.0 found.1 in
      let count = (judged to.index to.entry to.there).count in
      let txn = some_at to.entry.batch.txns j (omega (arith, inside, count)) in
      record {
        index = to.index;
        entry = to.entry;
        txn = txn.0;
        committed = record { batch = to.there; txn = txn.1; verdict = verdict };
        of_proxy = to.of_proxy;
        at_version = to.at_version ∙ reports.at_version;
      }

  -- and the other way round
  pub all_reported : (proxy : ℕ) (version : ℤ) (j : ℕ) → IsCommittedAt ps proxy version j
      → ReportsCommitted (answers window log proxy) version j
  all_reported proxy version j is =
      let entry = is.entry in
      record {
        reply = entry.reply;
        is_received =
            subst (λ p. Contains (answers window log p) (reported.Reply entry.reply)) is.of_proxy
            (each_answered is.index entry is.committed.batch);
        at_version = (judged is.index entry is.committed.batch).version ∙ is.at_version;
        verdict = is.committed.verdict;
      }
