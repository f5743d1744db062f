-- What a run of the reference resolver knows of batches: where each was taken that it has processed or holds, and which entry each reply
-- is of.
use Rattle.std.proofs.Common.{
  ◌≡◌,
  ℕ,
  zero,
  suc,
  ◌+◌,
  ◌≤◌,
  true,
  false,
  cond,
  List,
  [],
  ◌∷◌,
  ◌++◌,
  length,
  length-append,
  append-nil,
  append_assoc,
  ℤ,
  refl,
  sym,
  ap,
  subst,
  ◌∙◌,
  inl,
  inr,
  ◌⊎◌,
  arith,
}
use Rattle.std.specs.Prelude.{◌==◌, ◌&&◌, not, int_lt, Option, Some, None, map, slice_get, All, Contains}
use Rattle.std.specs.Ordering.{int_eq}
use Rattle.std.proofs.lemmas.Bool.{eqb-true}
use Rattle.std.proofs.lemmas.Option.{same_Some}
use Rattle.std.proofs.lemmas.List.Elements.{All-nil, All-append, All-push, All-map, All-weaker, Contains-append_left, Contains-push}
use Rattle.keyspace.specs.declared.batch.Batch.{Batch}
use Rattle.keyspace.specs.declared.reply.Reply.{Reply}
use Rattle.keyspace.specs.declared.answer.Answer.{Answer}
use Rattle.keyspace.specs.declared.answer.Answer.TheVariants as reported
use Rattle.keyspace.specs.Processed.{Processed, version_of}
use Rattle.keyspace.specs.Writes.{writes}
use Rattle.keyspace.specs.Judge.{judge}
use Rattle.keyspace.specs.Found.{is_received, kept_reply, reply_or_never, found}
use Rattle.keyspace.specs.Leaving.{Held, next_due}
use Rattle.keyspace.specs.Run.{
  State,
  start,
  Step,
  Take,
  Finish,
  hold,
  answer,
  process,
  admit,
  leave,
  leave_then,
  step,
  run_from,
  run,
}
use Rattle.keyspace.proofs.callers.Chains.{next_due_leaves}
use Rattle.keyspace.proofs.callers.Runs.{run_from_more}
use Rattle.keys.proofs.callers.Lists.{All-without}

-- an element of the first of two lists is at the same index of both together
pub at_front : {X : Type 0} (xs ys : List X) (k : ℕ) (x : X) → slice_get xs k ≡ Some x → slice_get (xs ++ ys) k ≡ Some x
at_front [] ys k x h = let never : ⊥ = cc in absurd never
at_front (y ∷ xs) ys zero x h = h
at_front (y ∷ xs) ys (suc k) x h = at_front xs ys k x h

-- the first element of the second list comes after the first list
pub at_end : {X : Type 0} (xs : List X) (x : X) (ys : List X) → slice_get (xs ++ x ∷ ys) (length xs) ≡ Some x
at_end [] x ys = refl
at_end (y ∷ xs) x ys = at_end xs x ys

-- an element of a list with one more is in the list, or it is the one
front_or_end : {X : Type 0} (xs : List X) (x : X) (k : ℕ) (y : X) → slice_get (xs ++ x ∷ []) k ≡ Some y
    → (slice_get xs k ≡ Some y) ⊎ ((k ≡ length xs) × (x ≡ y))
front_or_end [] x zero y h = inr (refl, same_Some x y h)
front_or_end [] x (suc k) y h = let never : ⊥ = cc in absurd never
front_or_end (z ∷ xs) x zero y h = inl h
front_or_end (z ∷ xs) x (suc k) y h = elim (front_or_end xs x k y h) [
  | inl front ↦ inl front
  | inr end ↦ inr (ap suc end.0, end.1)
]

-- the reply is that of one of these entries, which is of this proxy
abbrev pub IsReplyOf : List Processed → ℕ → Reply → Type 0
IsReplyOf ps proxy reply =
    (k : ℕ) × (e : Processed) × (slice_get ps k ≡ Some e) × (e.proxy ≡ proxy) × (e.reply ≡ reply)

-- so it is, if the answer to the proxy is a reply
abbrev pub IsOf : List Processed → ℕ → Answer → Type 0
IsOf ps proxy (reported.Reply reply) = IsReplyOf ps proxy reply
IsOf ps proxy (reported.Never version) = Unit {0}
IsOf ps proxy (reported.Held version) = Unit {0}

is_of_more : (ps more : List Processed) (proxy : ℕ) (a : Answer) → IsOf ps proxy a → IsOf (ps ++ more) proxy a
is_of_more ps more proxy (reported.Reply reply) h = (h.0, h.1, at_front ps more h.0 h.1 h.2, h.3, h.4)
is_of_more ps more proxy (reported.Never version) h = tt
is_of_more ps more proxy (reported.Held version) h = tt

-- a reply that is kept for a proxy is that of an entry of the proxy
kept_is_of : (ps : List Processed) (proxy : ℕ) (version : ℤ) (reply : Reply) → kept_reply ps proxy version ≡ Some reply
    → IsReplyOf ps proxy reply
kept_is_of [] proxy version reply h = let never : ⊥ = cc in absurd never
kept_is_of (p ∷ ps) proxy version reply h =
    let rest = kept_reply ps proxy version in
    let later : rest ≡ Some reply → IsReplyOf (p ∷ ps) proxy reply = λ at.
    let more = kept_is_of ps proxy version reply at in
    (suc more.0, more.1, more.2, more.3, more.4) in
    elim (p.proxy == proxy) as (λ own. (p.proxy == proxy) ≡ own
    → cond (own && int_eq p.batch.version version && not (is_received ps proxy version)) (Some p.reply) rest ≡ Some reply
    → IsReplyOf (p ∷ ps) proxy reply) [
      | true ↦ λ own. elim (int_eq p.batch.version version && not (is_received ps proxy version)) as (λ b.
          cond b (Some p.reply) rest ≡ Some reply → IsReplyOf (p ∷ ps) proxy reply) [
            | true ↦ λ at. (0, p, refl, eqb-true p.proxy proxy own, same_Some p.reply reply at)
            | false ↦ λ at. later at
          ]
      | false ↦ λ own at. later at
    ] refl h

-- and so is one that is found
found_is_of : (ps : List Processed) (proxy : ℕ) (version : ℤ) → IsOf ps proxy (found ps proxy version)
found_is_of ps proxy version =
    elim (kept_reply ps proxy version) as (λ o. kept_reply ps proxy version ≡ o → IsOf ps proxy (reply_or_never version o)) [
      | None ↦ λ e. tt
      | Some reply ↦ λ e. kept_is_of ps proxy version reply e
    ] refl

-- What is known in a state, if `Taken n p b` says that the batch was taken from the proxy when at most n batches were processed.
pub record Knows (Taken : ℕ → ℕ → Batch → Type 0) (s : State) : Type 0 where
  pub processed : (k : ℕ) (e : Processed) → slice_get s.processed k ≡ Some e → Taken k e.proxy e.batch
  pub held : All (λ (h : Held). Taken (length s.processed) h.0 h.1) s.held
  pub replies : All (λ (a : ℕ × Answer). IsOf s.processed a.0 a.1) s.answered
  pub answered :
      (k : ℕ) (e : Processed) → slice_get s.processed k ≡ Some e
      → Contains s.answered (e.proxy, reported.Reply e.reply)

-- what is known by one reading of `Taken` is known by another one that follows from it
knows_by : (Taken Other : ℕ → ℕ → Batch → Type 0) → ((n p : ℕ) (b : Batch) → Taken n p b → Other n p b) → (s : State)
    → Knows Taken s → Knows Other s
knows_by Taken Other follows s k = record {
  processed = λ i e at. follows i e.proxy e.batch (k.processed i e at);
  held = All-weaker (λ (h : Held). Taken (length s.processed) h.0 h.1) (λ (h : Held). Other (length s.processed) h.0 h.1)
      (λ h taken. follows (length s.processed) h.0 h.1 taken) s.held k.held;
  replies = k.replies;
  answered = k.answered;
}

module _ (Taken : ℕ → ℕ → Batch → Type 0)
    (later : (m n p : ℕ) (b : Batch) → m ≤ n → Taken m p b → Taken n p b) where
  abbrev HeldAt : ℕ → Held → Type 0
  HeldAt n h = Taken n h.0 h.1

  abbrev AnswerOf : List Processed → ℕ × Answer → Type 0
  AnswerOf ps a = IsOf ps a.0 a.1

  knows_answer : (p : ℕ) (a : Answer) (s : State) → IsOf s.processed p a → Knows Taken s → Knows Taken (answer p a s)
  knows_answer p a s is k = record {
    processed = k.processed;
    held = k.held;
    replies = All-push (AnswerOf s.processed) s.answered (p, a) k.replies is;
    answered = λ i e at.
        Contains-append_left s.answered ((p, a) ∷ []) (e.proxy, reported.Reply e.reply) (k.answered i e at);
  }

  knows_hold : (p : ℕ) (b : Batch) (s : State) → Taken (length s.processed) p b → Knows Taken s
      → Knows Taken (hold p b s)
  knows_hold p b s taken k = record {
    processed = k.processed;
    held = All-push (HeldAt (length s.processed)) s.held (p, b) k.held taken;
    replies = k.replies;
    answered = k.answered;
  }

  knows_process : (window : ℤ) (p : ℕ) (b : Batch) (s : State) → Taken (length s.processed) p b → Knows Taken s
      → Knows Taken (process window p b s)
  knows_process window p b s taken k =
      let reply = judge window (writes s.processed) b in
      let new : Processed = record { proxy = p; batch = b; reply = reply } in
      let ps : List Processed = s.processed ++ new ∷ [] in
      let grown : length s.processed ≤ length ps = omega (arith, length-append s.processed (new ∷ [])) in
      record {
        processed = λ i e at. elim (front_or_end s.processed new i e at) [
          | inl before ↦ k.processed i e before
          | inr here ↦
              subst (λ (x : Processed). Taken i x.proxy x.batch) here.1 (subst (λ n. Taken n p b) (sym here.0) taken)
        ];
        held = All-weaker (HeldAt (length s.processed)) (HeldAt (length ps))
            (λ h held. later (length s.processed) (length ps) h.0 h.1 grown held) s.held k.held;
        replies = All-push (AnswerOf ps) s.answered (p, reported.Reply reply)
            (All-weaker (AnswerOf s.processed) (AnswerOf ps) (λ a is. is_of_more s.processed (new ∷ []) a.0 a.1 is)
            s.answered k.replies)
            (length s.processed, new, at_end s.processed new [], refl, refl);
        answered = λ i e at. elim (front_or_end s.processed new i e at) [
          | inl before ↦
              Contains-append_left s.answered ((p, reported.Reply reply) ∷ []) (e.proxy, reported.Reply e.reply)
              (k.answered i e before)
          | inr here ↦
              subst (λ (x : Processed). Contains (s.answered ++ (p, reported.Reply reply) ∷ []) (x.proxy, reported.Reply x.reply))
              here.1 (Contains-push s.answered (p, reported.Reply reply))
        ];
      }

  knows_admit : (window : ℤ) (p : ℕ) (b : Batch) (s : State) → Taken (length s.processed) p b → Knows Taken s
      → Knows Taken (admit window p b s)
  knows_admit window p b s taken k =
      let v = version_of s.processed in
      elim (int_lt v b.previous) as (λ above. Knows Taken (cond above (hold p b s)
      (cond (int_lt b.previous v) (answer p (found s.processed p b.version) s) (process window p b s)))) [
        | true ↦ knows_hold p b s taken k
        | false ↦ elim (int_lt b.previous v) as (λ below.
            Knows Taken (cond below (answer p (found s.processed p b.version) s) (process window p b s))) [
              | true ↦ knows_answer p (found s.processed p b.version) s (found_is_of s.processed p b.version) k
              | false ↦ knows_process window p b s taken k
            ]
      ]

  knows_leave_then : (continue_with : State → State) (window : ℤ) → ((s : State) → Knows Taken s → Knows Taken (continue_with s))
      → (s : State) (l : Option (Held × List Held)) → next_due (version_of s.processed) s.held ≡ l → Knows Taken s
      → Knows Taken (leave_then continue_with window s l)
  knows_leave_then continue_with window continues s None due k = k
  knows_leave_then continue_with window continues s (Some l) due k =
      let leaves = next_due_leaves.some (version_of s.processed) s.held l.0 l.1 due in
      let Here : Held → Type 0 = HeldAt (length s.processed) in
      let parts = All-without Here leaves.before l.0 leaves.after (subst (All Here) leaves.held_is k.held) in
      let without : State = record s { held = l.1 } in
      let known : Knows Taken without = record {
        processed = k.processed;
        held = subst (All Here) (sym leaves.others_are) parts.1;
        replies = k.replies;
        answered = k.answered;
      } in
      continues _ (knows_admit window l.0.0 l.0.1 without parts.0 known)

  knows_leave : (turns : ℕ) (window : ℤ) (s : State) → Knows Taken s → Knows Taken (leave turns window s)
  knows_leave zero window s k = k
  knows_leave (suc turns) window s k =
      knows_leave_then (leave turns window) window (knows_leave turns window) s
      (next_due (version_of s.processed) s.held) refl k

  knows_take : (window : ℤ) (p : ℕ) (b : Batch) (s : State) → Taken (length s.processed) p b → Knows Taken s
      → Knows Taken (step window (Take p b) s)
  knows_take window p b s taken k =
      knows_leave (length (admit window p b s).held) window (admit window p b s) (knows_admit window p b s taken k)

  knows_finish : (window : ℤ) (s : State) → Knows Taken s → Knows Taken (step window Finish s)
  knows_finish window s k =
      let reported_held : Held → ℕ × Answer = λ (h : Held). (h.0, reported.Held h.1.version) in
      record {
        processed = k.processed;
        held = All-nil (HeldAt (length s.processed));
        replies = All-append (AnswerOf s.processed) s.answered (map reported_held s.held) k.replies
            (All-map (AnswerOf s.processed) reported_held s.held (λ i d inside. tt));
        answered = λ i e at.
            Contains-append_left s.answered (map reported_held s.held) (e.proxy, reported.Reply e.reply) (k.answered i e at);
      }

-- The log takes the batch from the proxy when at most that many batches were processed.
pub record IsTaken (window : ℤ) (log : List Step) (most : ℕ) (proxy : ℕ) (batch : Batch) : Type 0 where
  pub before : List Step
  pub after : List Step
  pub taken : log ≡ before ++ Take proxy batch ∷ after
  pub not_earlier : length (run window before).processed ≤ most

taken_later : (window : ℤ) (log : List Step) (m n p : ℕ) (b : Batch) → m ≤ n → IsTaken window log m p b
    → IsTaken window log n p b
taken_later window log m n p b more t =
    let few = t.not_earlier in
    record { before = t.before; after = t.after; taken = t.taken; not_earlier = omega (arith, more, few) }

taken_more : (window : ℤ) (log more : List Step) (n p : ℕ) (b : Batch) → IsTaken window log n p b
    → IsTaken window (log ++ more) n p b
taken_more window log more n p b t = record {
  before = t.before;
  after = t.after ++ more;
  taken = ap (λ steps. steps ++ more) t.taken ∙ append_assoc t.before (Take p b ∷ t.after) more;
  not_earlier = t.not_earlier;
}

knows_step : (window : ℤ) (log : List Step) (x : Step) → Knows (IsTaken window log) (run window log)
    → Knows (IsTaken window (log ++ x ∷ [])) (step window x (run window log))
knows_step window log (Take p b) k =
    let next = log ++ Take p b ∷ [] in
    let s = run window log in
    knows_take (IsTaken window next) (taken_later window next) window p b s
    (record { before = log; after = []; taken = refl; not_earlier = omega arith })
    (knows_by (IsTaken window log) (IsTaken window next) (taken_more window log (Take p b ∷ [])) s k)
knows_step window log Finish k =
    let next = log ++ Finish ∷ [] in
    let s = run window log in
    knows_finish (IsTaken window next) (taken_later window next) window s
    (knows_by (IsTaken window log) (IsTaken window next) (taken_more window log (Finish ∷ [])) s k)

knows_run_from : (window : ℤ) (done rest : List Step) → Knows (IsTaken window done) (run window done)
    → Knows (IsTaken window (done ++ rest)) (run_from window rest (run window done))
knows_run_from window done [] k =
    subst (λ log. Knows (IsTaken window log) (run window done)) (sym (append-nil done)) k
knows_run_from window done (x ∷ rest) k =
    let next = done ++ x ∷ [] in
    let now = run_from_more window done x start in
    let known = subst (Knows (IsTaken window next)) (sym now) (knows_step window done x k) in
    subst (λ log. Knows (IsTaken window log) (run_from window rest (step window x (run window done))))
    (append_assoc done (x ∷ []) rest)
    (subst (λ s. Knows (IsTaken window (next ++ rest)) (run_from window rest s)) now
    (knows_run_from window next rest known))

knows_start : (window : ℤ) → Knows (IsTaken window []) start
knows_start window = record {
  processed = λ k e at. let never : ⊥ = cc in absurd never;
  held = All-nil (λ (h : Held). IsTaken window [] 0 h.0 h.1);
  replies = All-nil (λ (a : ℕ × Answer). IsOf [] a.0 a.1);
  answered = λ k e at. let never : ⊥ = cc in absurd never;
}

-- of every run
pub knows_run : (window : ℤ) (log : List Step) → Knows (IsTaken window log) (run window log)
knows_run window log = knows_run_from window [] log (knows_start window)
