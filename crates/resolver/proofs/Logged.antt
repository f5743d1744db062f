-- A resolver over lanes stands for a log of one step more.
use Rattle.std.proofs.Common.{◌≡◌, ℕ, ◌==◌, cond, Bool, true, false, List, [], ◌∷◌, ◌++◌, length, Some, None, sym, ap, subst, ◌∙◌, refl, inl, inr}
use Rattle.std.specs.Prelude.{ℤ, slice_get}
use Rattle.std.proofs.lemmas.Bool.{true≢false}
use Rattle.std.proofs.lemmas.Option.{same_Some, none-some, slice_get_past}
use Rattle.keyspace.specs.declared.batch.Batch.{Batch}
use Rattle.keyspace.specs.Run.{Step, Take, Finish, part}
use Rattle.resolver.specs.Stands.{Stands}
use Rattle.resolver.specs.Lanes.{Lanes, sent_to, all_ended, TakesOne, TakesNone}
use Rattle.resolver.specs.OpeningLog.{log_from}
use Rattle.resolver.specs.Resolver.{ResolverState, HasNoFinish, FinishesBy, StandsOverFrom}
use Rattle.resolver.proofs.AtIndex.{both_at}
use Rattle.resolver.proofs.FromVersion.{Stands-more, Stands-as_many}

-- the part of a proxy, once one batch more was taken
pub part-taken : (log : List Step) (proxy : ℕ) (batch : Batch) (other : ℕ)
    → part (log ++ Take proxy batch ∷ []) other
    ≡ cond (proxy == other) (part log other ++ batch ∷ []) (part log other)
part-taken [] proxy batch other = refl
part-taken (Finish ∷ log) proxy batch other = part-taken log proxy batch other
part-taken (Take p b ∷ log) proxy batch other =
    elim (p == other) as
    (λ own. cond own (b ∷ part (log ++ Take proxy batch ∷ []) other) (part (log ++ Take proxy batch ∷ []) other)
    ≡ cond (proxy == other) (cond own (b ∷ part log other) (part log other) ++ batch ∷ [])
    (cond own (b ∷ part log other) (part log other))) [
      | true ↦
          ap (λ bs. b ∷ bs) (part-taken log proxy batch other)
          ∙ (elim (proxy == other) as
          (λ its. b ∷ cond its (part log other ++ batch ∷ []) (part log other)
          ≡ cond its ((b ∷ part log other) ++ batch ∷ []) (b ∷ part log other)) [
            | true ↦ refl
            | false ↦ refl
          ])
      | false ↦ part-taken log proxy batch other
    ]

pub part-finished : (log : List Step) (other : ℕ) → part (log ++ Finish ∷ []) other ≡ part log other
part-finished [] other = refl
part-finished (Finish ∷ log) other = part-finished log other
part-finished (Take p b ∷ log) other =
    elim (p == other) as
    (λ own. cond own (b ∷ part (log ++ Finish ∷ []) other) (part (log ++ Finish ∷ []) other)
    ≡ cond own (b ∷ part log other) (part log other)) [
      | true ↦ ap (λ bs. b ∷ bs) (part-finished log other)
      | false ↦ part-finished log other
    ]

no_finish-taken : (log : List Step) (proxy : ℕ) (batch : Batch) → HasNoFinish log
    → HasNoFinish (log ++ Take proxy batch ∷ [])
no_finish-taken [] proxy batch none = none
no_finish-taken (Take p b ∷ log) proxy batch none = no_finish-taken log proxy batch none
no_finish-taken (Finish ∷ log) proxy batch none = none

finishes : (ended : Bool) (log : List Step) → ended ≡ false → FinishesBy ended log → HasNoFinish log
finishes ended log is = subst (λ e. FinishesBy e log) is

-- the resolver later, with as many lanes, and none closed that wasn't
module _ (old new : ResolverState) (version : ℤ) (log : List Step) (count : length new.lanes ≡ length old.lanes)
    (replies : (p : ℕ) (l m : Lanes) → slice_get old.lanes p ≡ Some l → slice_get new.lanes p ≡ Some m
    → m.replies.closed ≡ l.replies.closed) (running : old.core.stop ≡ None)
    (s : StandsOverFrom version old log) where
  -- a lane that is closed was closed
  pub was_closed : (p : ℕ) (m : Lanes) → slice_get new.lanes p ≡ Some m → m.replies.closed ≡ true
      → all_ended old.lanes ≡ true
  was_closed p m at closed =
      elim (both_at old.lanes new.lanes count p) [
        | inl both ↦
            let m_is : m ≡ both.1 = same_Some m both.1 (sym at ∙ both.3) in
            s.closed running p both.0 both.2
            (sym (replies p both.0 both.1 both.2 both.3) ∙ ap (λ (l : Lanes). l.replies.closed) (sym m_is) ∙ closed)
        | inr past ↦ absurd (none-some m (sym (slice_get_past new.lanes p past.1) ∙ at))
      ]

  -- a batch of the proxy was taken
  pub stands_taken : (proxy : ℕ) (batch : Batch) → TakesOne proxy batch old.lanes new.lanes
      → all_ended old.lanes ≡ false → all_ended new.lanes ≡ false
      → Stands new.core (log_from version (length old.lanes) log ++ Take proxy batch ∷ []) (sent_to new.lanes)
      → StandsOverFrom version new (log ++ Take proxy batch ∷ [])
  stands_taken proxy batch takes before after core = record {
    core =
        Stands-more new.core (sent_to new.lanes) version (length old.lanes) (length new.lanes) log
        (Take proxy batch ∷ []) count core;
    parts = λ other.
        part-taken log proxy batch other
        ∙ ap (λ bs. cond (proxy == other) (bs ++ batch ∷ []) bs) (s.parts other)
        ∙ sym (takes other);
    finish = λ still.
        subst (λ e. FinishesBy e (log ++ Take proxy batch ∷ [])) (sym after)
        (no_finish-taken log proxy batch (finishes (all_ended old.lanes) log before (s.finish running)));
    closed = λ still p m at closed. absurd (true≢false (sym (was_closed p m at closed) ∙ before));
  }

  -- the last request lane has ended
  pub stands_finished : TakesNone old.lanes new.lanes → all_ended old.lanes ≡ false
      → all_ended new.lanes ≡ true
      → Stands new.core (log_from version (length old.lanes) log ++ Finish ∷ []) (sent_to new.lanes)
      → StandsOverFrom version new (log ++ Finish ∷ [])
  stands_finished takes before after core = record {
    core =
        Stands-more new.core (sent_to new.lanes) version (length old.lanes) (length new.lanes) log (Finish ∷ []) count
        core;
    parts = λ other. part-finished log other ∙ s.parts other ∙ sym (takes other);
    finish = λ still.
        subst (λ e. FinishesBy e (log ++ Finish ∷ [])) (sym after)
        (log, refl, finishes (all_ended old.lanes) log before (s.finish running));
    closed = λ still p m at closed. after;
  }

-- nothing was taken, and answers at most have moved
module _ (old new : ResolverState) (version : ℤ) (log : List Step) (count : length new.lanes ≡ length old.lanes)
    (stop : new.core.stop ≡ old.core.stop) (ended : all_ended new.lanes ≡ all_ended old.lanes)
    (takes : TakesNone old.lanes new.lanes) (s : StandsOverFrom version old log) where
  pub stands_same : Stands new.core (log_from version (length old.lanes) log) (sent_to new.lanes)
      → (new.core.stop ≡ None → (p : ℕ) (m : Lanes) → slice_get new.lanes p ≡ Some m → m.replies.closed ≡ true
      → all_ended new.lanes ≡ true) → StandsOverFrom version new log
  stands_same core closed = record {
    core = Stands-as_many new.core (sent_to new.lanes) version (length old.lanes) (length new.lanes) log count core;
    parts = λ other. s.parts other ∙ sym (takes other);
    finish = λ still. subst (λ e. FinishesBy e log) (sym ended) (s.finish (sym stop ∙ still));
    closed = closed;
  }
