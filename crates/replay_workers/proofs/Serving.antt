-- What was read, sent, answered and received of one proxy, put together.
use Rattle.std.specs.Prelude.{◌≡◌, ℕ, ◌<◌, ◌≤◌, ℤ, Bool, true, false, ◌&&◌, List, [], ◌∷◌, ◌++◌, length, Option, None, Some, option_to_list, Contains}
use Rattle.std.proofs.Common.{refl, sym, ap, subst, ◌∙◌, append_assoc, append-nil, arith, inl, inr}
use Rattle.std.proofs.lemmas.Bool.{false≢true}
use Rattle.std.proofs.lemmas.List.Elements.{Contains-append_left}
use Rattle.keyspace.specs.declared.batch.Batch.{Batch}
use Rattle.keyspace.specs.declared.answer.Answer.{Answer}
use Rattle.keyspace.specs.declared.answer.Answer.TheVariants as answer
use Rattle.lane.specs.declared.port.TheConstants.{MAX_SENT}
use Rattle.lane.specs.Lane.{PortView}
use Rattle.keyspace.specs.Run.{Step, run, answers, part}
use Rattle.serial.specs.Replies.{IsCommittedAt, ReportsCommitted}
use Rattle.wire.specs.declared.error.WireError.{WireError}
use Rattle.resolver.specs.declared.client.Client.{Client}
use Rattle.resolver.specs.declared.turn.Account.{Account}
use Rattle.resolver.specs.Core.{IsPrefix}
use Rattle.resolver.specs.Settled.{SettledFor}
use Rattle.replay_output.specs.declared.options.style.Style.{Style}
use Rattle.replay_workers.specs.declared.worker.Finished.{Finished}
use Rattle.replay_output.specs.Line.{answers_of}
use Rattle.wire.specs.Batches.{GivesEach}
use Rattle.replay_workers.specs.Worker.{HasWorkedOver, LeavesLane}
use Rattle.replay_workers.specs.Threads.{failure_of}
use Rattle.replay_workers.specs.Run.{IsServedOver}
use Rattle.replay_workers.proofs.callers.Ending.{none_left}
use Rattle.replay_workers.proofs.callers.Lists.{both}

-- a worker that leaves a batch and a closed lane, which was open, has sent as many batches as a lane takes
worn_lane : (requests : PortView Batch) (batch : Batch) → LeavesLane false requests (Some batch) → requests.closed ≡ true
    → MAX_SENT ≤ length requests.sent
worn_lane requests batch (inl left) closed = absurd (false≢true (sym left ∙ closed))
worn_lane requests batch (inr worn) closed = worn.1

none_worn : (requests : PortView Batch) (unsent : Option Batch) → LeavesLane false requests unsent → requests.closed ≡ true
    → length requests.sent < MAX_SENT → unsent ≡ None
none_worn requests None leaves closed few = refl
none_worn requests (Some batch) leaves closed few = absurd (omega (arith, few, worn_lane requests batch leaves closed))

module _ {X : Type 0} (Gives : X → X → Batch → Type 0) (IsEnd : X → Type 0) (IsFault : X → WireError → Type 0)
    (Kept : X → Type 0) where
  -- the worker was given a client that had sent and taken nothing
  pub served : (window : ℤ) (style : Style) (log : List Step) (ended all_sent : Bool) (answers_sent : List Answer) (account : Account)
      (first : X) (proxy : ℕ) (given : Client) (finished : Finished) → given.requests.sent ≡ [] → given.requests.closed ≡ false
      → given.replies.taken ≡ [] → HasWorkedOver Gives IsEnd IsFault Kept style proxy first given finished → SettledFor window [] log ended answers_sent account proxy finished.client
      → ((version : ℤ) (j : ℕ) → ReportsCommitted finished.client.replies.taken version j
      → IsCommittedAt (run window log).processed proxy version j)
      → (all_sent ≡ true → finished.unsent ≡ None) → (account.stop ≡ None → account.complete ≡ true)
      → IsServedOver Gives IsEnd IsFault Kept window style log (account.complete && all_sent) account.stop first proxy finished.lines.items (failure_of finished)
  served window style log ended all_sent answers_sent account first proxy given finished none_sent fresh none_taken worked settled reported none_unsent entire =
      let sends = worked.sends in
      let keeps = worked.keeps in
      let unsent = option_to_list finished.unsent in
      let kept_answers = answers_of finished.lines.items in
      let sent : finished.client.requests.sent ≡ sends.batches =
      sends.sent ∙ ap (λ (l : List Batch). l ++ sends.batches) none_sent in
      let taken : finished.client.replies.taken ≡ kept_answers ++ keeps.dropped =
      keeps.taken ∙ ap (λ (l : List Answer). l ++ (kept_answers ++ keeps.dropped)) none_taken in
      let all_sent_if : account.complete ≡ true → finished.unsent ≡ None → sends.batches ++ unsent ≡ part log proxy =
      λ complete none. ap (λ (u : Option Batch). sends.batches ++ option_to_list u) none ∙ append-nil sends.batches ∙ sym sent
      ∙ sym (settled.all_batches (settled.all_ended complete)) in
      let all_reported : finished.lost ≡ false → kept_answers ≡ finished.client.replies.taken = λ not_lost.
      sym (append-nil kept_answers) ∙ ap (λ (l : List Answer). kept_answers ++ l) (sym (keeps.none_dropped not_lost)) ∙ sym taken in
      record {
        read = sends.batches ++ unsent;
        left = sends.left;
        frames_read = sends.frames;
        kept = worked.kept;
        batches = (
          settled.batches.0 ++ unsent,
          ap (λ (l : List Batch). l ++ unsent) (sym sent ∙ settled.batches.1)
              ∙ append_assoc (part log proxy) settled.batches.0 unsent,
        );
        all_batches = λ all.
            let parts = both account.complete all_sent all in
            all_sent_if parts.0 (none_unsent parts.1);
        all_unless_worn = λ no_stop few.
            let complete = entire no_stop in
            let ended = settled.all_ended complete in
            let leaves = subst (λ (was : Bool). LeavesLane was finished.client.requests finished.unsent) fresh worked.leaves in
            all_sent_if complete
            (none_worn finished.client.requests finished.unsent leaves (settled.nothing_after ended)
            (subst (λ (l : List Batch). length l < MAX_SENT) (settled.all_batches ended) few));
        all_read = λ same no_fault.
            sends.all no_fault
            (none_left sends.batches (part log proxy) settled.batches.0 finished.unsent (sym sent ∙ settled.batches.1) same);
        first_fault = sends.first_fault;
        received = (
          keeps.dropped ++ settled.receives.received.0,
          settled.receives.received.1 ∙ ap (λ (l : List Answer). l ++ settled.receives.received.0) taken
              ∙ append_assoc kept_answers keeps.dropped settled.receives.received.0,
        );
        all_received = λ no_stop not_lost. all_reported not_lost ∙ settled.receives.all_received (entire no_stop);
        all_before_last = λ not_lost before last is.
            subst (IsPrefix (answers window before proxy)) (sym (all_reported not_lost))
            (settled.receives.all_before_last worked.ended before last is);
        reported = λ version j reports.
            reported version j (record {
              reply = reports.reply;
              is_received =
                  subst (λ (l : List Answer). Contains l (answer.Reply reports.reply)) (sym taken)
                  (Contains-append_left kept_answers keeps.dropped (answer.Reply reports.reply) reports.is_received);
              at_version = reports.at_version;
              verdict = reports.verdict;
            });
        lines_reported = keeps.each;
      }

  -- a worker has a batch left that it read and could not send, though no stop was met
  pub left_over : (window : ℤ) (style : Style) (log : List Step) (ended : Bool) (answers_sent : List Answer) (account : Account)
      (first : X) (proxy : ℕ) (given : Client) (finished : Finished) (batch : Batch) → given.requests.sent ≡ []
      → given.requests.closed ≡ false → HasWorkedOver Gives IsEnd IsFault Kept style proxy first given finished
      → SettledFor window [] log ended answers_sent account proxy finished.client
      → account.complete ≡ true → finished.unsent ≡ Some batch
      → (left : X) × GivesEach Gives first left (part log proxy ++ batch ∷ []) × (MAX_SENT ≤ length (part log proxy))
  left_over window style log ended answers_sent account first proxy given finished batch none_sent fresh worked settled complete is =
      let sends = worked.sends in
      let has_ended = settled.all_ended complete in
      let all = settled.all_batches has_ended in
      let sent : sends.batches ≡ part log proxy =
      sym (ap (λ (l : List Batch). l ++ sends.batches) none_sent) ∙ sym sends.sent ∙ sym all in
      let leaves = subst (λ (u : Option Batch). LeavesLane false finished.client.requests u) is
      (subst (λ (was : Bool). LeavesLane was finished.client.requests finished.unsent) fresh worked.leaves) in (
        sends.left,
        subst (λ (l : List Batch). GivesEach Gives first sends.left (l ++ batch ∷ [])) sent
            (subst (λ (u : Option Batch). GivesEach Gives first sends.left (sends.batches ++ option_to_list u)) is sends.frames),
        subst (λ (l : List Batch). MAX_SENT ≤ length l) (sym all)
            (worn_lane finished.client.requests batch leaves (settled.nothing_after has_ended)),
      )

-- what is true of the state that is left may be said otherwise
pub kept_so : {X : Type 0} (Gives : X → X → Batch → Type 0) (IsEnd : X → Type 0) (IsFault : X → WireError → Type 0)
    (Kept So : X → Type 0) → ((left : X) → Kept left → So left) → (style : Style) (proxy : ℕ) (first : X) (given : Client)
    (finished : Finished) → HasWorkedOver Gives IsEnd IsFault Kept style proxy first given finished
    → HasWorkedOver Gives IsEnd IsFault So style proxy first given finished
kept_so Gives IsEnd IsFault Kept So so style proxy first given finished worked = record {
  client = worked.client;
  sends = worked.sends;
  kept = so worked.sends.left worked.kept;
  keeps = worked.keeps;
  leaves = worked.leaves;
  ended = worked.ended;
}
