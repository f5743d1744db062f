-- What was processed and answered is never taken back.
use Rattle.std.proofs.Common.{
  ◌≡◌,
  ℕ,
  zero,
  suc,
  List,
  [],
  ◌∷◌,
  ◌++◌,
  length,
  append-nil,
  append_assoc,
  sym,
  ap,
  ◌∙◌,
  refl,
  subst,
  ◌<◌,
  arith,
}
use Rattle.std.specs.Prelude.{ℤ, int_lt, Option, Some, None}
use Rattle.std.proofs.lemmas.Bool.{cond_both}
use Rattle.keyspace.specs.declared.batch.Batch.{Batch}
use Rattle.keyspace.specs.declared.answer.Answer.{Answer}
use Rattle.keyspace.specs.Found.{found}
use Rattle.keyspace.specs.Processed.{version_of}
use Rattle.keyspace.specs.Leaving.{Held, next_due}
use Rattle.keyspace.specs.Run.{
  State,
  Step,
  Take,
  Finish,
  answer,
  hold,
  process,
  admit,
  leave,
  leave_then,
  leave_all,
  step,
  answers_to,
}
use Rattle.resolver.specs.Owed.{owed_to}
use Rattle.resolver.specs.Core.{CoreState, Given, IsPrefix, IsIn, MadeBetween, made_to}
use Rattle.resolver.proofs.Answered.{answers_to-append}
use Rattle.resolver.proofs.Admitting.{repeat, admit_now}

-- the second state has all that was processed and answered in the first, and perhaps more
pub record Grows (before after : State) : Type 0 where
  pub processed : IsPrefix before.processed after.processed
  pub answered : IsPrefix before.answered after.answered

-- a list begins itself, and what begins with it
pub begins_itself : {T : Type 0} (xs : List T) → IsPrefix xs xs
begins_itself xs = ([], sym (append-nil xs))

pub begins_then : {T : Type 0} (xs ys zs : List T) → IsPrefix xs ys → IsPrefix ys zs
    → IsPrefix xs zs
begins_then xs ys zs b d =
    (b.0 ++ d.0, d.1 ∙ ap (λ ws. ws ++ d.0) b.1 ∙ append_assoc xs b.0 d.0)

-- so do the answers to each proxy
pub begins_answers_to : (proxy : ℕ) (xs ys : List (ℕ × Answer)) → IsPrefix xs ys
    → IsPrefix (answers_to proxy xs) (answers_to proxy ys)
begins_answers_to proxy xs ys b =
    (answers_to proxy b.0, ap (answers_to proxy) b.1 ∙ answers_to-append proxy xs b.0)

-- a state grows into itself, and over two changes
pub grows_itself : (s : State) → Grows s s
grows_itself s = record { processed = begins_itself s.processed; answered = begins_itself s.answered }

pub grows_then : (s t u : State) → Grows s t → Grows t u → Grows s u
grows_then s t u g h = record {
  processed = begins_then s.processed t.processed u.processed g.processed h.processed;
  answered = begins_then s.answered t.answered u.answered g.answered h.answered;
}

grows_answer : (proxy : ℕ) (a : Answer) (s : State) → Grows s (answer proxy a s)
grows_answer proxy a s = record {
  processed = begins_itself s.processed;
  answered = ((proxy, a) ∷ [], refl);
}

grows_hold : (proxy : ℕ) (b : Batch) (s : State) → Grows s (hold proxy b s)
grows_hold proxy b s = record { processed = begins_itself s.processed; answered = begins_itself s.answered }

grows_process : (window : ℤ) (proxy : ℕ) (b : Batch) (s : State) → Grows s (process window proxy b s)
grows_process window proxy b s = record { processed = (_, refl); answered = (_, refl) }

pub grows_admit : (window : ℤ) (proxy : ℕ) (b : Batch) (s : State) → Grows s (admit window proxy b s)
grows_admit window proxy b s =
    let version = version_of s.processed in
    cond_both (int_lt version b.previous) (hold proxy b s) (admit_now window proxy b s) (Grows s)
    (λ _. grows_hold proxy b s)
    (λ _. cond_both (int_lt b.previous version) (repeat window proxy b s) (process window proxy b s) (Grows s)
    (λ _. grows_answer proxy (found s.processed proxy b.version) s)
    (λ _. grows_process window proxy b s))

-- nor by a batch that leaves
pub grows_left : (window : ℤ) (s : State) (h : Held) (others : List Held)
    → Grows s (admit window h.0 h.1 (record s { held = others }))
grows_left window s h others =
    let admitted = grows_admit window h.0 h.1 (record s { held = others }) in
    record { processed = admitted.processed; answered = admitted.answered }

grows_leave_then : (continued : State → State) (window : ℤ) → ((s : State) → Grows s (continued s)) → (s : State)
    → (l : Option (Held × List Held)) → Grows s (leave_then continued window s l)
grows_leave_then continued window more s None = grows_itself s
grows_leave_then continued window more s (Some l) =
    let next = admit window l.0.0 l.0.1 (record s { held = l.1 }) in
    grows_then s next (continued next) (grows_left window s l.0 l.1) (more next)

pub grows_leave : (turns : ℕ) (window : ℤ) (s : State) → Grows s (leave turns window s)
grows_leave zero window s = grows_itself s
grows_leave (suc turns) window s =
    grows_leave_then (leave turns window) window (grows_leave turns window) s
    (next_due (version_of s.processed) s.held)

pub grows_leave_all : (window : ℤ) (s : State) → Grows s (leave_all window s)
grows_leave_all window s = grows_leave (length s.held) window s

pub grows_step : (window : ℤ) (x : Step) (s : State) → Grows s (step window x s)
grows_step window (Take proxy b) s =
    let next = admit window proxy b s in
    grows_then s next (leave_all window next) (grows_admit window proxy b s) (grows_leave_all window next)
grows_step window Finish s = record { processed = begins_itself s.processed; answered = (_, refl) }

-- where only what is owed counts
pub made_then : (state : State) (given : Given) (core new : CoreState) → IsIn state given core
    → new.owed ≡ core.owed → (p : ℕ) → p < length new.owed
    → made_to p given new ≡ answers_to p state.answered
made_then state given core new are same p inside =
    let many = ap length same in
    ap (λ owed. given p ++ owed_to p owed) same ∙ are.answers p (omega (arith, many))

-- Of a core with the answers of a state between two others, all answers of the first were made, and none but
-- those of the last.
pub MadeBetween-grown : (before now after : State) (given : Given) (core new : CoreState) → IsIn now given core
    → new.owed ≡ core.owed → Grows before now → Grows now after → MadeBetween before after given new
MadeBetween-grown before now after given core new are same more rest =
    let made = made_then now given core new are same in
    record {
      all_before = λ p inside.
          subst (IsPrefix (answers_to p before.answered)) (sym (made p inside))
          (begins_answers_to p before.answered now.answered more.answered);
      no_others = λ p inside.
          subst (λ xs. IsPrefix xs (answers_to p after.answered)) (sym (made p inside))
          (begins_answers_to p now.answered after.answered rest.answered);
    }

-- if a step has made no answer yet
pub MadeBetween-step : (window : ℤ) (x : Step) (state : State) (given : Given) (core new : CoreState)
    → IsIn state given core → new.owed ≡ core.owed
    → MadeBetween state (step window x state) given new
MadeBetween-step window x state given core new are same =
    MadeBetween-grown state state (step window x state) given core new are same (grows_itself state)
    (grows_step window x state)

-- and from an earlier state on
pub MadeBetween-earlier : (earlier before after : State) (given : Given) (core : CoreState)
    → Grows earlier before → MadeBetween before after given core → MadeBetween earlier after given core
MadeBetween-earlier earlier before after given core more made = record {
  all_before = λ p inside.
      begins_then (answers_to p earlier.answered) (answers_to p before.answered) (made_to p given core)
      (begins_answers_to p earlier.answered before.answered more.answered) (made.all_before p inside);
  no_others = made.no_others;
}
