-- A core that stands for a log, after one step more and after an answer is given.
use Rattle.std.proofs.Common.{
  ◌≡◌,
  ℕ,
  ◌==◌,
  cond,
  List,
  [],
  ◌∷◌,
  ◌++◌,
  length,
  Option,
  Some,
  None,
  append_assoc,
  sym,
  ap,
  subst,
  ◌∙◌,
  refl,
  inl,
  inr,
  arith,
  drop,
}
use Rattle.std.specs.Prelude.{ℤ, option_to_list, Result, Err, IfSome}
use Rattle.std.proofs.lemmas.Bool.{cases_Bool, eqb-true, eqb-false}
use Rattle.std.proofs.lemmas.List.{get_or-set_other, length-set}
use Rattle.keyspace.specs.declared.answer.Answer.{Answer}
use Rattle.keyspace.specs.declared.batch.Batch.{Batch}
use Rattle.keyspace.specs.Run.{State, Step, admit, leave, step, run, answers_to, start}
use Rattle.limits.specs.declared.stop.Stop.{Stop}
use Rattle.resolver.specs.Owed.{owed_to, given_oldest}
use Rattle.resolver.specs.Core.{CoreState, Given, IsPrefix, IsIn, MadeBetween, StopsIn, StopsAtLimit, made_to}
use Rattle.resolver.specs.Stands.{StoppedIn, StandsBy, given_also}
use Rattle.resolver.specs.CoreCalls.{AddsStep}
use Rattle.keyspace.proofs.callers.Runs.{run_from_more}

-- a run of one step more
pub run-more : (window : ℤ) (log : List Step) (x : Step)
    → run window (log ++ x ∷ []) ≡ step window x (run window log)
run-more window log x = run_from_more window log x start

-- without a stop the core is in the state after the log
pub IsIn-standing : (stop : Option Stop) (log : List Step) (given : Given) (core : CoreState) → stop ≡ None
    → StandsBy stop log given core → IsIn (run core.set.window log) given core
IsIn-standing stop log given core none = subst (λ s. StandsBy s log given core) none

-- a core that was stopped before takes no step
pub AddsStep-stopped : {T : Type 0} (x : Step) (met : Stop) (core : CoreState) → core.stop ≡ Some met
    → AddsStep {T = T} x (Err met) core core
AddsStep-stopped {T} x met core stopped = record {
  stands = λ running. absurd cc;
  «open» = tt;
  stops = stopped;
  stopped =
      subst (λ s. IfSome s (λ m. (◌≡◌ {A = Result T Stop} (Err met) (Err m)) × (core ≡ core))) (sym stopped)
      (refl, refl);
  continues = record { window = refl; limit = refl; proxies = refl };
}

module _ (window : ℤ) (log : List Step) (x : Step) (given : Given) (new : CoreState)
    (same : new.set.window ≡ window) where
  -- one step more was taken
  pub StandsBy-more : (stop : Option Stop) → stop ≡ None → IsIn (step window x (run window log)) given new
      → StandsBy stop (log ++ x ∷ []) given new
  StandsBy-more stop none are =
      subst (λ s. StandsBy s (log ++ x ∷ []) given new) (sym none)
      (subst (λ w. IsIn (run w (log ++ x ∷ [])) given new) (sym same)
      (subst (λ s. IsIn s given new) (sym (run-more window log x)) are))

  -- a stop was met in one step more
  pub StoppedIn-more : MadeBetween (run window log) (step window x (run window log)) given new
      → StoppedIn (log ++ x ∷ []) given new
  StoppedIn-more made = record {
    before = log;
    last = x;
    log_is = refl;
    made =
        subst (λ w. MadeBetween (run w log) (run w (log ++ x ∷ [])) given new) (sym same)
        (subst (λ s. MadeBetween (run window log) s given new) (sym (run-more window log x)) made);
  }

-- an answer is given
module _ (proxy : ℕ) (answer : Option Answer) (given : Given) (old : CoreState)
    (oldest : owed_to proxy old.owed
    ≡ option_to_list answer ++ owed_to proxy (given_oldest proxy old.owed)) where
  abbrev owed : List (List Answer)
  owed = given_oldest proxy old.owed

  abbrev new : CoreState
  new = record old { owed = owed }

  made_same : (p : ℕ) → made_to p (given_also proxy answer given) new ≡ made_to p given old
  made_same p = elim (cases_Bool (p == proxy)) [
    | inl own ↦
        ap (λ b. cond b (given p ++ option_to_list answer) (given p) ++ owed_to p owed) own
        ∙ append_assoc (given p) (option_to_list answer) (owed_to p owed)
        ∙ ap (λ xs. given p ++ xs)
        (subst (λ q. option_to_list answer ++ owed_to q owed ≡ owed_to q old.owed)
        (sym (eqb-true p proxy own)) (sym oldest))
    | inr other ↦
        ap (λ b. cond b (given p ++ option_to_list answer) (given p) ++ owed_to p owed) other
        ∙ ap (λ xs. given p ++ xs)
        (get_or-set_other old.owed proxy p (drop 1 (owed_to proxy old.owed)) [] (eqb-false p proxy other))
  ]

  many : length owed ≡ length old.owed
  many = length-set old.owed proxy (drop 1 (owed_to proxy old.owed))

  pub IsIn-given : (state : State) → IsIn state given old → IsIn state (given_also proxy answer given) new
  IsIn-given state are = record {
    version = are.version;
    held = are.held;
    kept = are.kept;
    remembers = are.remembers;
    answers = λ p inside. made_same p ∙ are.answers p (omega (arith, many));
  }

  MadeBetween-given : (before after : State) → MadeBetween before after given old
      → MadeBetween before after (given_also proxy answer given) new
  MadeBetween-given before after made = record {
    all_before = λ p inside.
        subst (IsPrefix (answers_to p before.answered)) (sym (made_same p))
        (made.all_before p (omega (arith, many)));
    no_others = λ p inside.
        subst (λ xs. IsPrefix xs (answers_to p after.answered)) (sym (made_same p))
        (made.no_others p (omega (arith, many)));
  }

  pub StandsBy-given : (stop : Option Stop) (log : List Step) → StandsBy stop log given old
      → StandsBy stop log (given_also proxy answer given) new
  StandsBy-given None log are = IsIn-given (run old.set.window log) are
  StandsBy-given (Some stop) log s = record {
    before = s.before;
    last = s.last;
    log_is = s.log_is;
    made = MadeBetween-given (run old.set.window s.before) (run old.set.window log) s.made;
  }

-- A stop is kept.
module _ (stop : Option Stop) (given : Given) (core : CoreState) where
  abbrev stopped : CoreState
  stopped = record core { stop = stop }

  pub MadeBetween-stopped : (before after : State) → MadeBetween before after given core
      → MadeBetween before after given stopped
  MadeBetween-stopped before after made = record { all_before = made.all_before; no_others = made.no_others }

  StopsIn-stopped : (limit : ℕ) (window : ℤ) (now : State) (proxy : ℕ) (batch : Batch)
      → StopsIn limit window now proxy batch given core → StopsIn limit window now proxy batch given stopped
  StopsIn-stopped limit window now proxy batch s = record { next = s.next; made = s.made; exceeds = s.exceeds }

  pub StopsAtLimit-stopped : (limit : ℕ) (window : ℤ) (proxy : ℕ) (batch : Batch) (state : State)
      → StopsAtLimit limit window proxy batch state given core
      → StopsAtLimit limit window proxy batch state given stopped
  StopsAtLimit-stopped limit window proxy batch state s = elim s [
    | inl own ↦ inl (StopsIn-stopped limit window state proxy batch own)
    | inr leaves ↦ inr (record {
      turns = leaves.turns;
      batch = leaves.batch;
      others = leaves.others;
      leaves = leaves.leaves;
      stops =
          StopsIn-stopped limit window (leave leaves.turns window (admit window proxy batch state)) leaves.batch.0
          leaves.batch.1 leaves.stops;
    })
  ]
