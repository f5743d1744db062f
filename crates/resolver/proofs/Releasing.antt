-- Held batches leave one after another.
use Rattle.std.proofs.Common.{◌≡◌, ℕ, zero, suc, ◌+◌, ◌<◌, List, length, Option, Some, None, sym, ap, subst, ◌∙◌, refl, arith}
use Rattle.std.specs.Prelude.{ℤ, ◌≤ℤ◌, All}
use Rattle.std.proofs.lemmas.Int.{ints}
use Rattle.keyspace.specs.Processed.{Processed, version_of}
use Rattle.keyspace.specs.Leaving.{Held, next_due}
use Rattle.keyspace.specs.Laws.{Leaves}
use Rattle.keyspace.specs.Run.{State, admit, leave, leave_then, leave_all}
use Rattle.resolver.specs.Core.{CoreState, Given, IsCore, IsIn, StopsIn, StopsAsTheyLeave}
use Rattle.resolver.specs.Observed.{HasSeenBetween}
use Rattle.keys.proofs.callers.Lists.{All-without}
use Rattle.resolver.proofs.Admitting.{admit-held}
use Rattle.resolver.proofs.Growing.{Grows, grows_leave, grows_leave_all}
use Rattle.resolver.proofs.Observing.{seen_between}

-- if none is due, none leaves
leave-none : (turns : ℕ) (window : ℤ) (s : State) → next_due (version_of s.processed) s.held ≡ None
    → leave turns window s ≡ s
leave-none zero window s none = refl
leave-none (suc turns) window s none = ap (leave_then (leave turns window) window s) none

pub leave_all-none : (window : ℤ) (s : State) → next_due (version_of s.processed) s.held ≡ None
    → leave_all window s ≡ s
leave_all-none window s none = leave-none (length s.held) window s none

-- the state after one turn
abbrev turn : ℤ → State → State
turn window s = leave_then (λ t. t) window s (next_due (version_of s.processed) s.held)

leave-more_by : (turns : ℕ) (window : ℤ)
    → ((s : State) → leave (suc turns) window s ≡ turn window (leave turns window s)) → (s : State)
    → (l : Option (Held × List Held)) → next_due (version_of s.processed) s.held ≡ l
    → leave (suc (suc turns)) window s ≡ turn window (leave (suc turns) window s)
leave-more_by turns window more s None is =
    leave-none (suc (suc turns)) window s is
    ∙ sym (ap (leave_then (λ t. t) window s) is)
    ∙ ap (turn window) (sym (leave-none (suc turns) window s is))
leave-more_by turns window more s (Some l) is =
    ap (leave_then (leave (suc turns) window) window s) is
    ∙ more (admit window l.0.0 l.0.1 (record s { held = l.1 }))
    ∙ ap (turn window) (sym (ap (leave_then (leave turns window) window s) is))

-- one turn more is one at the end
leave-more : (turns : ℕ) (window : ℤ) (s : State)
    → leave (suc turns) window s ≡ turn window (leave turns window s)
leave-more zero window s = refl
leave-more (suc turns) window s =
    leave-more_by turns window (leave-more turns window) s (next_due (version_of s.processed) s.held) refl

-- the state once the next one has left
abbrev pub left : ℤ → State → Held → List Held → State
left window s h others = admit window h.0 h.1 (record s { held = others })

-- the others go on after the next one that is due
leave_all-next : (window : ℤ) (s : State) (h : Held) (others : List Held)
    → next_due (version_of s.processed) s.held ≡ Some (h, others) → h.1.previous ≤ℤ version_of s.processed
    → length s.held ≡ length others + 1 → leave_all window s ≡ leave_all window (left window s h others)
leave_all-next window s h others next due fewer =
    let many : length s.held ≡ suc (length others) = omega arith in
    let same = admit-held window h.0 h.1 (record s { held = others }) due in
    ap (λ turns. leave turns window s) many
    ∙ ap (leave_then (leave (length others) window) window s) next
    ∙ ap (λ hs. leave (length hs) window (left window s h others)) (sym same)

-- The core is in the state after that many of the batches held in this state have left. An observer that had seen what was
-- processed before has seen what is processed then: `before` and `after` are what is true of it, by what it has seen.
pub record Reaches (window : ℤ) (state : State) (given : Given) (core : CoreState)
    (before after : List Processed → Type 0) : Type 0 where
  pub turns : ℕ
  pub are : IsIn (leave turns window state) given core
  pub same : leave_all window (leave turns window state) ≡ leave_all window state
  pub sees : before state.processed → after (leave turns window state).processed

-- one of the batches held leaves next, and the others stay
pub record LeavesNext (core : CoreState) (h : Held) (others : List Held) : Type 0 where
  pub next : next_due core.version core.held ≡ Some (h, others)
  pub due : h.1.previous ≤ℤ core.version
  pub fewer : length core.held ≡ length others + 1

All-leaves : (P : Held → Type 0) (version : ℤ) (held : List Held) (h : Held) (others : List Held)
    → Leaves version held h others → All P held → P h × All P others
All-leaves P version held h others l all =
    let both = All-without P l.before h l.after (subst (All P) l.held_is all) in
    (both.0, subst (All P) (sym l.others_are) both.1)

module _ (core : CoreState) (h : Held) (others : List Held) (version : ℤ)
    (leaves : Leaves version core.held h others) (are : IsCore core) where
  -- the one that leaves is of a proxy that the core knows
  pub leaver_known : h.0 < length core.owed
  leaver_known = (All-leaves (λ g. g.0 < length core.owed) version core.held h others leaves are.known).0

  -- and the core is in order without it
  pub IsCore-left : IsCore (record core { held = others })
  IsCore-left = record {
    takes_more = are.takes_more;
    resolved = are.resolved;
    remembers = are.remembers;
    known =
        (All-leaves (λ g. g.0 < length core.owed) version core.held h others leaves are.known).1;
    past = are.past;
  }

-- without it, the core is in the state without it
pub IsIn-left : (state : State) (given : Given) (core : CoreState) (others : List Held)
    → IsIn state given core → IsIn (record state { held = others }) given (record core { held = others })
IsIn-left state given core others are = record {
  version = are.version;
  held = refl;
  kept = are.kept;
  remembers = are.remembers;
  answers = are.answers;
}

module _ (window : ℤ) (state : State) (given : Given) (core : CoreState) (before after : List Processed → Type 0)
    (r : Reaches window state given core before after) where
  -- the state that is reached
  abbrev pub now : State
  now = leave r.turns window state

  next_now : (l : Option (Held × List Held)) → next_due core.version core.held ≡ l
      → next_due (version_of now.processed) now.held ≡ l
  next_now l next =
      subst (λ v. next_due v now.held ≡ l) r.are.version
      (subst (λ hs. next_due core.version hs ≡ l) r.are.held next)

  -- if none is due, all have left
  all_left : next_due core.version core.held ≡ None → now ≡ leave_all window state
  all_left none = sym (leave_all-none window now (next_now None none)) ∙ r.same

  -- and the core is in that state
  pub IsIn-reached : next_due core.version core.held ≡ None → IsIn (leave_all window state) given core
  IsIn-reached none =
      subst (λ s. IsIn s given core) (all_left none) r.are

  -- and the observer has seen what is processed in it
  pub seen_reached : next_due core.version core.held ≡ None → before state.processed
      → after (leave_all window state).processed
  seen_reached none seen = subst (λ (s : State). after s.processed) (all_left none) (r.sees seen)

  -- at a refusal it has seen what is processed at the state that is reached
  pub seen_refused : (Seen : List Processed → Type 0) → (after now.processed → Seen now.processed)
      → before state.processed → HasSeenBetween Seen state.processed (leave_all window state).processed
  seen_refused Seen still seen =
      seen_between Seen state now (leave_all window state) (grows_leave r.turns window state)
      (subst (Grows now) r.same (grows_leave_all window now)) (still (r.sees seen))

  module _ (h : Held) (others : List Held) (l : LeavesNext core h others) where
    leaves : next_due (version_of now.processed) now.held ≡ Some (h, others)
    leaves = next_now (Some (h, others)) l.next

    leaves_same : leave_all window (left window now h others) ≡ leave_all window now
    leaves_same =
        sym (leave_all-next window now h others leaves (omega (arith, ints, r.are.version, l.due))
        (sym (ap length r.are.held) ∙ l.fewer))

    more : leave (suc r.turns) window state ≡ left window now h others
    more = leave-more r.turns window state ∙ ap (leave_then (λ t. t) window now) leaves

    -- the state with it admitted is reached next
    pub Reaches-left : (new : CoreState) (later : List Processed → Type 0) → IsIn (left window now h others) given new
        → (after now.processed → later (left window now h others).processed)
        → Reaches window state given new before later
    Reaches-left new later are sees = record {
      turns = suc r.turns;
      are = subst (λ s. IsIn s given new) (sym more) are;
      same = ap (leave_all window) more ∙ leaves_same ∙ r.same;
      sees = λ seen. subst (λ (s : State). later s.processed) (sym more) (sees (r.sees seen));
    }

    -- a stop at the one that leaves is one while they leave
    pub StopsAsTheyLeave-left : (limit : ℕ) (new : CoreState)
        → StopsIn limit window (record now { held = others }) h.0 h.1 given new
        → StopsAsTheyLeave limit window state given new
    StopsAsTheyLeave-left limit new s = record {
      turns = r.turns;
      batch = h;
      others = others;
      leaves = leaves;
      stops = record { next = s.next; made = s.made; exceeds = s.exceeds };
    }
