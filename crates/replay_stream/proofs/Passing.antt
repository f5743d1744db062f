-- What one outlet passes on in one step.
use Rattle.std.specs.Prelude.{◌≡◌, ℕ, Bool, true, false, List, [], ◌∷◌, ◌++◌, Option, None, Some, option_to_list}
use Rattle.std.specs.List.{flat_map}
use Rattle.std.proofs.Common.{refl, sym, ap, subst, ◌∙◌, append-nil}
use Rattle.std.proofs.lemmas.Bool.{false≢true}
use Rattle.keyspace.specs.declared.answer.Answer.{Answer}
use Rattle.lane.specs.Lane.{IntakeContinues, IntakeView, PortContinues, PortView}
use Rattle.replay_output.specs.declared.options.style.Style.{Style}
use Rattle.replay_output.specs.Lines.{line}
use Rattle.replay_stream.specs.declared.outlet.Outlet.{Outlet}
use Rattle.replay_stream.specs.Outlet.{is_complete, PassesOn, TookText, PassesSome}
use Rattle.replay_stream.specs.Sinks.{SinkState}
use Rattle.resolver.proofs.callers.Later.{port_same}
use Rattle.replay_stream.proofs.Outlets.{broken, passes_then}
use Rattle.replay_stream.proofs.Writing.{takes_nothing}

-- an answer was sent to the recorder, or it waits
pub passes_sent : (a b : PortView Answer) (answer : Answer) → PortContinues a b → b.sent ≡ a.sent ++ answer ∷ []
    → PassesOn (Some a) (Some b) None None (answer ∷ [])
passes_sent a b answer goes sent = (
  goes,
  append-nil b.sent ∙ sent ∙ ap (λ (l : List Answer). l ++ answer ∷ []) (sym (append-nil a.sent)),
)

pub passes_kept : (a b : PortView Answer) (answer refused : Answer) → PortContinues a b → b.sent ≡ a.sent → refused ≡ answer
    → PassesOn (Some a) (Some b) None (Some refused) (answer ∷ [])
passes_kept a b answer refused goes same is = (
  goes,
  ap (λ (x : Answer). b.sent ++ x ∷ []) is
      ∙ ap (λ (l : List Answer). l ++ answer ∷ []) (same ∙ sym (append-nil a.sent)),
)

-- the answer that waited was passed on
pub passes_waiting : (a b : Option (PortView Answer)) (now : Option Answer) (answer : Answer) → PassesOn a b None now (answer ∷ [])
    → PassesOn a b (Some answer) now []
passes_waiting None None now answer passed = tt
passes_waiting None (Some b) now answer passed = absurd passed
passes_waiting (Some a) None now answer passed = absurd passed
passes_waiting (Some a) (Some b) now answer passed = (
  passed.0,
  passed.1 ∙ ap (λ (l : List Answer). l ++ answer ∷ []) (append-nil a.sent) ∙ sym (append-nil (a.sent ++ answer ∷ [])),
)

-- a port that was closed
pub port_closed : {T : Type 0} (a b : PortView T) → PortContinues a b → PortContinues a (record b { closed = true })
port_closed a b goes =
    record { lane = goes.lane; capacity = goes.capacity; seen_taken = goes.seen_taken; looks = goes.looks }

pub passes_closed : (a b : PortView Answer) (waits : Option Answer) → b ≡ record a { closed = true }
    → PassesOn (Some a) (Some b) waits waits []
passes_closed a b waits is =
    subst (λ (b : PortView Answer). PassesOn (Some a) (Some b) waits waits []) (sym is)
    (port_closed a a (port_same a), sym (append-nil (a.sent ++ option_to_list waits)))

-- nothing was taken, and nothing printed
pub passes_nothing : (style : Style) (failed : Bool) (given : SinkState) (old new : Outlet)
    → IntakeContinues old.replies new.replies → new.replies.taken ≡ old.replies.taken → new.proxy ≡ old.proxy → new.lost ≡ old.lost
    → PassesOn old.records new.records old.waiting new.waiting [] → PassesSome style failed failed given given old new
passes_nothing style failed given old new replies taken proxy lost passed = record {
  printed = [];
  dropped = [];
  continues = record {
    replies = replies;
    proxy = proxy;
    taken = taken ∙ sym (append-nil old.replies.taken);
    passed = passed;
    none_dropped = λ _. refl;
    none_printed = λ _. refl;
    stays = λ entire. sym (ap (λ (l : Bool). is_complete l failed) lost) ∙ entire;
  };
  text = λ well. subst (λ (failed : Bool). TookText failed given given []) (sym well) (takes_nothing given);
  nothing = λ failed. (failed, refl);
}

-- what becomes of an answer: it is printed, or dropped
record Split (style : Style) (proxy : ℕ) (answer : Answer) (was_lost had is_lost has : Bool) (before after : SinkState)
    : Type 0 where
  pub printed : List Answer
  pub dropped : List Answer
  pub both : answer ∷ [] ≡ printed ++ dropped
  pub none_dropped : is_complete is_lost has ≡ true → dropped ≡ []
  pub none_printed : is_complete was_lost had ≡ false → printed ≡ []
  pub stays : is_complete is_lost has ≡ true → is_complete was_lost had ≡ true
  pub text : had ≡ false → TookText has before after (flat_map (line style proxy) printed)

module _ (style : Style) (proxy : ℕ) (answer : Answer) (before after : SinkState) where
  dropped_one : (was_lost had is_lost has : Bool) → is_complete is_lost has ≡ false
      → (had ≡ false → (has ≡ had) × (after ≡ before)) → Split style proxy answer was_lost had is_lost has before after
  dropped_one was_lost had is_lost has not_entire same = record {
    printed = [];
    dropped = answer ∷ [];
    both = refl;
    none_dropped = λ entire. absurd (false≢true (sym not_entire ∙ entire));
    none_printed = λ _. refl;
    stays = λ entire. absurd (false≢true (sym not_entire ∙ entire));
    text = λ well.
        subst (λ (has : Bool). TookText has before after []) (sym ((same well).0 ∙ well))
        (subst (λ (given : SinkState). TookText false before given []) (sym (same well).1) (takes_nothing before));
  }

  split : (was_lost had is_lost has : Bool)
      → (is_complete was_lost had ≡ true → is_lost ≡ false → TookText has before after (line style proxy answer))
      → (was_lost ≡ true → is_lost ≡ true) → (is_lost ≡ true → (has ≡ had) × (after ≡ before))
      → (had ≡ true → (has ≡ true) × (after ≡ before)) → Split style proxy answer was_lost had is_lost has before after
  split true had false has text stays lost nothing = absurd (false≢true (stays refl))
  split true had true has text stays lost nothing = dropped_one true had true has refl (λ _. lost refl)
  split false true is_lost has text stays lost nothing =
      dropped_one false true is_lost has (ap (is_complete is_lost) (nothing refl).0 ∙ broken is_lost)
      (λ well. absurd (false≢true (sym well)))
  split false false true has text stays lost nothing = dropped_one false false true has refl (λ _. lost refl)
  split false false false has text stays lost nothing = record {
    printed = answer ∷ [];
    dropped = [];
    both = refl;
    none_dropped = λ _. refl;
    none_printed = λ broken. absurd (false≢true (sym broken));
    stays = λ _. refl;
    text = λ _. subst (TookText has before after) (sym (append-nil (line style proxy answer))) (text refl refl);
  }

-- an answer was taken, printed or dropped, and passed on
pub passes_answer : (style : Style) (had has : Bool) (before after : SinkState) (old new : Outlet) (answer : Answer)
    → IntakeContinues old.replies new.replies → new.replies.taken ≡ old.replies.taken ++ answer ∷ [] → new.proxy ≡ old.proxy
    → PassesOn old.records new.records old.waiting new.waiting (answer ∷ [])
    → (is_complete old.lost had ≡ true → new.lost ≡ false → TookText has before after (line style old.proxy answer))
    → (old.lost ≡ true → new.lost ≡ true) → (new.lost ≡ true → (has ≡ had) × (after ≡ before))
    → (had ≡ true → (has ≡ true) × (after ≡ before)) → PassesSome style had has before after old new
passes_answer style had has before after old new answer replies taken proxy passed text stays lost nothing =
    let one = split style old.proxy answer before after old.lost had new.lost has text stays lost nothing in
    record {
      printed = one.printed;
      dropped = one.dropped;
      continues = record {
        replies = replies;
        proxy = proxy;
        taken = taken ∙ ap (λ (l : List Answer). old.replies.taken ++ l) one.both;
        passed = subst (PassesOn old.records new.records old.waiting new.waiting) one.both passed;
        none_dropped = one.none_dropped;
        none_printed = one.none_printed;
        stays = one.stays;
      };
      text = one.text;
      nothing = nothing;
    }

-- none waited any more, an answer was taken, printed or dropped, and passed on
pub passes_after : (style : Style) (had has : Bool) (before after : SinkState) (old lagging printed new : Outlet)
    (replies : IntakeView Answer) (answer : Answer)
    → lagging ≡ record old { records = lagging.records; waiting = lagging.waiting } → lagging.waiting ≡ None
    → IntakeContinues lagging.replies replies → replies.taken ≡ lagging.replies.taken ++ answer ∷ []
    → printed ≡ record lagging { replies = replies; lost = printed.lost }
    → new ≡ record printed { records = new.records; waiting = new.waiting }
    → PassesOn old.records lagging.records old.waiting lagging.waiting []
    → PassesOn printed.records new.records None new.waiting (answer ∷ [])
    → (is_complete lagging.lost had ≡ true → printed.lost ≡ false → TookText has before after (line style lagging.proxy answer))
    → (lagging.lost ≡ true → printed.lost ≡ true) → (printed.lost ≡ true → (has ≡ had) × (after ≡ before))
    → (had ≡ true → (has ≡ true) × (after ≡ before)) → PassesSome style had has before after old new
passes_after style had has before after old lagging printed new replies answer first none on took second third one two text stays lost
    nothing =
    let proxy : lagging.proxy ≡ old.proxy = ap (λ (o : Outlet). o.proxy) first in
    let was_lost : lagging.lost ≡ old.lost = ap (λ (o : Outlet). o.lost) first in
    let same : lagging.replies ≡ old.replies = ap (λ (o : Outlet). o.replies) first in
    let is_lost : new.lost ≡ printed.lost = ap (λ (o : Outlet). o.lost) third in
    let now : new.replies ≡ replies = ap (λ (o : Outlet). o.replies) third ∙ ap (λ (o : Outlet). o.replies) second in
    let records : printed.records ≡ lagging.records = ap (λ (o : Outlet). o.records) second in
    let passed : PassesOn lagging.records new.records lagging.waiting new.waiting (answer ∷ []) =
    subst (λ (w : Option Answer). PassesOn lagging.records new.records w new.waiting (answer ∷ [])) (sym none)
    (subst (λ (r : Option (PortView Answer)). PassesOn r new.records None new.waiting (answer ∷ [])) records two) in
    passes_answer style had has before after old new answer
    (subst (λ (i : IntakeView Answer). IntakeContinues i new.replies) same
    (subst (λ (i : IntakeView Answer). IntakeContinues lagging.replies i) (sym now) on))
    (ap (λ (i : IntakeView Answer). i.taken) now ∙ took ∙ ap (λ (i : IntakeView Answer). i.taken ++ answer ∷ []) same)
    (ap (λ (o : Outlet). o.proxy) third ∙ ap (λ (o : Outlet). o.proxy) second ∙ proxy)
    (passes_then old.records lagging.records new.records old.waiting lagging.waiting new.waiting [] (answer ∷ []) one passed)
    (λ entire not_lost. subst (λ (p : ℕ). TookText has before after (line style p answer)) proxy
    (text (ap (λ (l : Bool). is_complete l had) was_lost ∙ entire) (sym is_lost ∙ not_lost)))
    (λ was. is_lost ∙ stays (was_lost ∙ was)) (λ is. lost (sym is_lost ∙ is)) nothing
