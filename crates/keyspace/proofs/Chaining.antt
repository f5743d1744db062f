-- What a run processes is a chain.
use Rattle.std.proofs.Common.{
  ◌≡◌,
  ℕ,
  zero,
  suc,
  true,
  false,
  cond,
  List,
  [],
  ◌∷◌,
  ◌++◌,
  length,
  refl,
  sym,
  ap,
  subst,
  ◌∙◌,
  append-nil,
  append_assoc,
  inl,
  inr,
  ◌⊎◌,
  arith,
}
use Rattle.std.specs.Prelude.{ℤ, int_lt, Option, Some, None}
use Rattle.keyspace.specs.declared.batch.Batch.{Batch}
use Rattle.keyspace.specs.declared.reply.Reply.{Reply}
use Rattle.keyspace.specs.Processed.{Processed, version_of}
use Rattle.keyspace.specs.Writes.{Write, writes, writes_of}
use Rattle.keyspace.specs.Judged.{Judged}
use Rattle.keyspace.specs.Judge.{judge}
use Rattle.keyspace.specs.Chain.{Continues, IsChainBy, IsChain}
use Rattle.keyspace.specs.Found.{found}
use Rattle.keyspace.specs.Leaving.{Held, next_due}
use Rattle.keyspace.specs.Run.{
  State,
  start,
  Step,
  Take,
  Finish,
  hold,
  answer,
  process,
  admit,
  leave,
  leave_then,
  step,
  run_from,
  run,
}
use Rattle.std.proofs.lemmas.Int.{ints}
use Rattle.keyspace.proofs.Judging.{judge_judged}

-- an element of a list with p after it is p, after the entire list, or one of the list
last_or_before : {A : Type 0} (ps : List A) (p : A) (before : List A) (q : A) (after : List A)
    → ps ++ p ∷ [] ≡ before ++ q ∷ after
    → ((before ≡ ps) × (q ≡ p)) ⊎ ((others : List A) × (ps ≡ before ++ q ∷ others))
last_or_before [] p [] q after e = inl (refl, cc)
last_or_before [] p (x ∷ []) q after e = cc
last_or_before [] p (x ∷ y ∷ before) q after e = cc
last_or_before (x ∷ ps) p [] q after e = let same : x ≡ q = cc in inr (ps, ap (λ z. z ∷ ps) same)
last_or_before (x ∷ ps) p (y ∷ before) q after e =
    let same : x ≡ y = cc in
    let rest : ps ++ p ∷ [] ≡ before ++ q ∷ after = cc in
    elim (last_or_before ps p before q after rest) [
      | inl found ↦ let e : before ≡ ps = found.0 in let f : q ≡ p = found.1 in inl (cc, f)
      | inr found ↦ let e : ps ≡ before ++ q ∷ found.0 = found.1 in inr (found.0, cc)
    ]

pub chain_more : (IsRight : List Write → Batch → Reply → Type 0) (ps : List Processed) (p : Processed)
    → IsChainBy IsRight ps → Continues IsRight ps p → IsChainBy IsRight (ps ++ p ∷ [])
chain_more IsRight ps p chain c before q after e =
    elim (last_or_before ps p before q after e) [
      | inl last ↦ subst (λ x. Continues IsRight x q) (sym last.0)
          (subst (Continues IsRight ps) (sym last.1) c)
      | inr found ↦ chain before q found.0 found.1
    ]

-- the version after one more
pub version_of-more : (ps : List Processed) (p : Processed) → version_of (ps ++ p ∷ []) ≡ p.batch.version
version_of-more [] p = refl
version_of-more (q ∷ []) p = refl
version_of-more (q ∷ r ∷ ps) p = version_of-more (r ∷ ps) p

-- and the writes
pub writes-more : (ps : List Processed) (p : Processed)
    → writes (ps ++ p ∷ []) ≡ writes ps ++ writes_of p.batch p.reply
writes-more [] p = append-nil (writes_of p.batch p.reply)
writes-more (q ∷ ps) p = ap (λ ws. writes_of q.batch q.reply ++ ws) (writes-more ps p)
    ∙ sym (append_assoc (writes_of q.batch q.reply) (writes ps) (writes_of p.batch p.reply))

same_unless_less : (a b : ℤ) → int_lt a b ≡ false → int_lt b a ≡ false → b ≡ a
same_unless_less a b h k = grind (arith, ints)

process_chain : (window : ℤ) (proxy : ℕ) (b : Batch) (s : State) → IsChain window s.processed
    → b.previous ≡ version_of s.processed → IsChain window (process window proxy b s).processed
process_chain window proxy b s chain e =
    chain_more (Judged window) s.processed (record {
      proxy = proxy;
      batch = b;
      reply =
          judge window (writes s.processed) b;
    }) chain
    (record { previous = e; judged = judge_judged window (writes s.processed) b })

admit_chain : (window : ℤ) (proxy : ℕ) (b : Batch) (s : State) → IsChain window s.processed
    → IsChain window (admit window proxy b s).processed
admit_chain window proxy b s chain =
    let v = version_of s.processed in
    elim (int_lt v b.previous) as (λ above. int_lt v b.previous ≡ above
    → IsChain window (cond above (hold proxy b s)
    (cond (int_lt b.previous v) (answer proxy (found s.processed proxy b.version) s)
    (process window proxy b s))).processed) [
      | true ↦ λ e. chain
      | false ↦ λ e. elim (int_lt b.previous v) as (λ below. int_lt b.previous v ≡ below
          → IsChain window (cond below (answer proxy (found s.processed proxy b.version) s)
          (process window proxy b s)).processed) [
            | true ↦ λ f. chain
            | false ↦ λ f. process_chain window proxy b s chain (same_unless_less v b.previous e f)
          ] refl
    ] refl

leave_then_chain : (continue_with : State → State) (window : ℤ)
    → ((s : State) → IsChain window s.processed → IsChain window (continue_with s).processed)
    → (s : State) (l : Option (Held × List Held)) → IsChain window s.processed
    → IsChain window (leave_then continue_with window s l).processed
leave_then_chain continue_with window f s None chain = chain
leave_then_chain continue_with window f s (Some l) chain =
    f _ (admit_chain window l.0.0 l.0.1 (record s { held = l.1 }) chain)

leave_chain : (turns : ℕ) (window : ℤ) (s : State) → IsChain window s.processed
    → IsChain window (leave turns window s).processed
leave_chain zero window s chain = chain
leave_chain (suc turns) window s chain =
    leave_then_chain (leave turns window) window (leave_chain turns window) s
    (next_due (version_of s.processed) s.held) chain

step_chain : (window : ℤ) (x : Step) (s : State) → IsChain window s.processed
    → IsChain window (step window x s).processed
step_chain window (Take proxy b) s chain =
    leave_chain (length (admit window proxy b s).held) window (admit window proxy b s)
    (admit_chain window proxy b s chain)
step_chain window Finish s chain = chain

run_from_chain : (window : ℤ) (log : List Step) (s : State) → IsChain window s.processed
    → IsChain window (run_from window log s).processed
run_from_chain window [] s chain = chain
run_from_chain window (x ∷ log) s chain =
    run_from_chain window log (step window x s) (step_chain window x s chain)

pub empty_chain : (IsRight : List Write → Batch → Reply → Type 0) → IsChainBy IsRight []
empty_chain IsRight [] p after e = cc
empty_chain IsRight (q ∷ before) p after e = cc

pub run_chain : (window : ℤ) (log : List Step) → IsChain window (run window log).processed
run_chain window log = run_from_chain window log start (empty_chain (Judged window))
