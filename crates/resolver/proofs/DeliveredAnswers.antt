-- Answers move from what is owed to what is given.
use Rattle.std.proofs.Common.{◌≡◌, ℕ, ◌<◌, List, [], ◌++◌, length, map, Option, Some, None, append_assoc, sym, ap, subst, ◌∙◌, inl, inr, arith}
use Rattle.std.specs.Prelude.{ℤ, option_to_list, slice_get, slice_index_or}
use Rattle.std.proofs.lemmas.Option.{slice_get_cases}
use Rattle.keyspace.specs.declared.batch.Batch.{Batch}
use Rattle.keyspace.specs.declared.answer.Answer.{Answer}
use Rattle.keyspace.specs.Run.{State, Step, run, leave, admit, answers_to}
use Rattle.limits.specs.declared.stop.Stop.{Stop}
use Rattle.resolver.specs.Owed.{owed_to}
use Rattle.resolver.specs.Core.{CoreState, Given, IsPrefix, IsIn, MadeBetween, StopsIn, StopsAtLimit}
use Rattle.resolver.specs.Stands.{StandsBy, Stands}
use Rattle.resolver.specs.Lanes.{Lanes, sent_to}
use Rattle.resolver.specs.Parts.{ProxyLanesView, lanes_of, owed_with}
use Rattle.resolver.proofs.AtIndex.{field_at, lanes_at, owed_with-at, owed_with-length, field_same}

module _ (given given_after : Given) (old : CoreState) (owed : List (List Answer))
    (many : length owed ≡ length old.owed)
    (made : (p : ℕ) → p < length old.owed
    → given_after p ++ owed_to p owed ≡ given p ++ owed_to p old.owed) where
  abbrev moved : CoreState
  moved = record old { owed = owed }

  pub IsIn-moved : (state : State) → IsIn state given old → IsIn state given_after moved
  IsIn-moved state are = record {
    version = are.version;
    held = are.held;
    kept = are.kept;
    remembers = are.remembers;
    answers = λ p inside.
        let within : p < length old.owed = omega (arith, inside, many) in
        made p within ∙ are.answers p within;
  }

  pub MadeBetween-moved : (before after : State) → MadeBetween before after given old
      → MadeBetween before after given_after moved
  MadeBetween-moved before after m = record {
    all_before = λ p inside.
        let within : p < length old.owed = omega (arith, inside, many) in
        subst (IsPrefix (answers_to p before.answered)) (sym (made p within)) (m.all_before p within);
    no_others = λ p inside.
        let within : p < length old.owed = omega (arith, inside, many) in
        subst (λ xs. IsPrefix xs (answers_to p after.answered)) (sym (made p within))
        (m.no_others p within);
  }

  -- the same log is stood for
  pub StandsBy-moved : (stop : Option Stop) (log : List Step) → StandsBy stop log given old
      → StandsBy stop log given_after moved
  StandsBy-moved None log are = IsIn-moved (run old.set.window log) are
  StandsBy-moved (Some stop) log s = record {
    before = s.before;
    last = s.last;
    log_is = s.log_is;
    made = MadeBetween-moved (run old.set.window s.before) (run old.set.window log) s.made;
  }

  StopsIn-moved : (limit : ℕ) (window : ℤ) (now : State) (proxy : ℕ) (batch : Batch)
      → StopsIn limit window now proxy batch given old → StopsIn limit window now proxy batch given_after moved
  StopsIn-moved limit window now proxy batch s = record {
    next = s.next;
    made = λ p inside.
        let within : p < length old.owed = omega (arith, inside, many) in
        made p within ∙ s.made p within;
    exceeds = s.exceeds;
  }

  -- the core stopped at the same batch
  pub StopsAtLimit-moved : (limit : ℕ) (window : ℤ) (proxy : ℕ) (batch : Batch) (state : State)
      → StopsAtLimit limit window proxy batch state given old
      → StopsAtLimit limit window proxy batch state given_after moved
  StopsAtLimit-moved limit window proxy batch state s =
      elim s [
        | inl own ↦ inl (StopsIn-moved limit window state proxy batch own)
        | inr later ↦ inr record {
          turns = later.turns;
          batch = later.batch;
          others = later.others;
          leaves = later.leaves;
          stops =
              StopsIn-moved limit window (leave later.turns window (admit window proxy batch state)) later.batch.0
              later.batch.1 later.stops;
        }
      ]

-- what was sent over a pair of lanes, and what waits there
abbrev pub delivered : ProxyLanesView → List Answer
delivered l = l.lanes.replies.sent ++ option_to_list l.waiting

-- and to each proxy
abbrev pub delivered_to : List ProxyLanesView → Given
delivered_to all_lanes p = slice_index_or (map delivered all_lanes) p []

-- what waits counts as owed, or as given
pub made_delivered : (all_lanes : List ProxyLanesView) (owed : List (List Answer)) → length all_lanes ≡ length owed
    → (p : ℕ) → p < length owed
    → sent_to (lanes_of all_lanes) p ++ owed_to p (owed_with all_lanes owed) ≡ delivered_to all_lanes p ++ owed_to p owed
made_delivered all_lanes owed same p inside =
    elim (slice_get_cases all_lanes p).1 [
      | inl k ↦
          ap (λ xs. xs ++ owed_to p (owed_with all_lanes owed))
          (field_at (λ (l : Lanes). l.replies.sent) (lanes_of all_lanes) p k.0.lanes (lanes_at all_lanes p k.0 k.2))
          ∙ ap (λ xs. k.0.lanes.replies.sent ++ xs) (owed_with-at all_lanes owed p k.0 k.2 inside)
          ∙ sym (append_assoc k.0.lanes.replies.sent (option_to_list k.0.waiting) (owed_to p owed))
          ∙ ap (λ xs. xs ++ owed_to p owed) (sym (field_at delivered all_lanes p k.0 k.2))
      | inr past ↦ absurd (omega (arith, same, inside, past.0))
    ]

module _ (core : CoreState) (all_lanes : List ProxyLanesView) (same : length all_lanes ≡ length core.owed) where
  -- the core with what waits owed
  abbrev pub core_with : CoreState
  core_with = record core { owed = owed_with all_lanes core.owed }

  -- a resolver stands for a log where its core does
  pub stands_with : (log : List Step) → Stands core log (delivered_to all_lanes)
      → Stands core_with log (sent_to (lanes_of all_lanes))
  stands_with log =
      StandsBy-moved (delivered_to all_lanes) (sent_to (lanes_of all_lanes)) core (owed_with all_lanes core.owed)
      (owed_with-length all_lanes core.owed) (made_delivered all_lanes core.owed same) core.stop log

  pub stands_without : (log : List Step) → Stands core_with log (sent_to (lanes_of all_lanes))
      → Stands core log (delivered_to all_lanes)
  stands_without log =
      StandsBy-moved (sent_to (lanes_of all_lanes)) (delivered_to all_lanes) core_with core.owed
      (sym (owed_with-length all_lanes core.owed))
      (λ p inside. sym (made_delivered all_lanes core.owed same p
      (omega (arith, inside, owed_with-length all_lanes core.owed)))) core.stop log

-- what was handed over pairs of lanes with the same replies is the same
pub delivered_same : (old new : List ProxyLanesView) → length new ≡ length old
    → ((p : ℕ) (k n : ProxyLanesView) → slice_get old p ≡ Some k → slice_get new p ≡ Some n → delivered n ≡ delivered k)
    → (p : ℕ) → delivered_to new p ≡ delivered_to old p
delivered_same old new many each = field_same delivered old new many each
