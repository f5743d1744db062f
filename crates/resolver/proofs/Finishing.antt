-- Each batch that is still held is answered `Held`.
use Rattle.std.proofs.Common.{
  ◌≡◌,
  ℕ,
  ◌<◌,
  List,
  [],
  ◌∷◌,
  ◌++◌,
  length,
  map,
  append-nil,
  append_assoc,
  sym,
  ap,
  subst,
  ◌∙◌,
  refl,
}
use Rattle.std.specs.Prelude.{ℤ, All}
use Rattle.std.proofs.lemmas.List.{map-append}
use Rattle.std.proofs.lemmas.List.Elements.{All-head, All-tail}
use Rattle.keyspace.specs.declared.answer.Answer.{Answer}
use Rattle.keyspace.specs.declared.answer.Answer.TheVariants as reported
use Rattle.keyspace.specs.Leaving.{Held}
use Rattle.keyspace.specs.Run.{State, Finish, step, answers_to}
use Rattle.resolver.specs.Owed.{owed_also}
use Rattle.resolver.specs.Core.{CoreState, Given, IsCore, IsIn, MadeBetween}
use Rattle.resolver.proofs.Answered.{length-owed_also, IsIn-answer}
use Rattle.resolver.proofs.Growing.{begins_itself, MadeBetween-grown}

-- what a batch that is still held is answered
abbrev pub still_held : Held → ℕ × Answer
still_held h = (h.0, reported.Held h.1.version)

-- the state with these batches answered and those held
abbrev pub part_reported : State → List Held → List Held → State
part_reported state said held = record state { held = held; answered = state.answered ++ map still_held said }

-- the core after the first of the batches held are answered
pub record Reports (old now : CoreState) : Type 0 where
  pub said : List Held
  pub held : old.held ≡ said ++ now.held
  pub are : (state : State) (given : Given) → IsIn state given old
      → IsIn (part_reported state said now.held) given now
  pub in_order : IsCore now
  pub set : now.set ≡ old.set
  pub stop : now.stop ≡ old.stop
  pub proxies : length now.owed ≡ length old.owed

module _ (old now : CoreState) (h : Held) (others : List Held) (t : Reports old now)
    (first : now.held ≡ h ∷ others) where
  -- what it is answered
  abbrev last : Answer
  last = reported.Held h.1.version

  pub first_known : h.0 < length now.owed
  first_known =
      All-head (λ g. g.0 < length now.owed) h others
      (subst (All (λ g. g.0 < length now.owed)) first t.in_order.known)

  -- the core without the first of them is in order
  pub IsCore-first : (owed : List (List Answer)) → length owed ≡ length now.owed
      → IsCore (record now { held = others; owed = owed })
  IsCore-first owed same = record {
    takes_more = t.in_order.takes_more;
    resolved = t.in_order.resolved;
    remembers = t.in_order.remembers;
    known =
        subst (λ n. All (λ g. g.0 < n) others) (sym same)
        (All-tail (λ g. g.0 < length now.owed) h others
        (subst (All (λ g. g.0 < length now.owed)) first t.in_order.known));
    past = t.in_order.past;
  }

  reported_first : (state : State) (given : Given) (owed : List (List Answer))
      → owed ≡ owed_also h.0 last now.owed
      → IsIn (part_reported state t.said now.held) given now
      → IsIn (part_reported state (t.said ++ h ∷ []) others) given (record now { held = others; owed = owed })
  reported_first state given owed is are =
      let next = IsIn-answer (part_reported state t.said now.held) given now h.0 last owed are first_known is in
      let answered = append_assoc state.answered (map still_held t.said) (still_held h ∷ [])
      ∙ ap (λ xs. state.answered ++ xs) (sym (map-append still_held t.said (h ∷ []))) in
      record {
        version = next.version;
        held = refl;
        kept = next.kept;
        remembers = next.remembers;
        answers = λ p inside. next.answers p inside ∙ ap (answers_to p) answered;
      }

  -- the first of them is answered
  pub Reports-first : (owed : List (List Answer)) → owed ≡ owed_also h.0 last now.owed
      → Reports old (record now { held = others; owed = owed })
  Reports-first owed is = record {
    said = t.said ++ h ∷ [];
    held = t.held ∙ ap (λ hs. t.said ++ hs) first ∙ sym (append_assoc t.said (h ∷ []) others);
    are = λ state given are. reported_first state given owed is (t.are state given are);
    in_order = IsCore-first owed (ap length is ∙ length-owed_also h.0 last now.owed);
    set = t.set;
    stop = t.stop;
    proxies = ap length is ∙ length-owed_also h.0 last now.owed ∙ t.proxies;
  }

module _ (window : ℤ) (old now : CoreState) (t : Reports old now) (state : State) (given : Given)
    (are : IsIn state given old) where
  held_is : state.held ≡ t.said ++ now.held
  held_is = sym are.held ∙ t.held

  -- all are
  pub IsIn-finish : now.held ≡ [] → IsIn (step window Finish state) given now
  IsIn-finish none =
      let all = held_is ∙ ap (λ hs. t.said ++ hs) none ∙ append-nil t.said in
      subst (λ hs. IsIn (part_reported state hs []) given now) (sym all)
      (subst (λ hs. IsIn (part_reported state t.said hs) given now) none (t.are state given are))

  -- if it stops there, no other answers were made
  pub MadeBetween-finish : (new : CoreState) → new.owed ≡ now.owed
      → MadeBetween state (step window Finish state) given new
  MadeBetween-finish new same =
      MadeBetween-grown state (part_reported state t.said now.held) (step window Finish state) given now new
      (t.are state given are) same
      (record { processed = begins_itself state.processed; answered = (map still_held t.said, refl) })
      (record {
        processed = begins_itself state.processed;
        answered = (
          map still_held now.held,
          ap (λ hs. state.answered ++ map still_held hs) held_is
              ∙ ap (λ xs. state.answered ++ xs) (map-append still_held t.said now.held)
              ∙ sym (append_assoc state.answered (map still_held t.said) (map still_held now.held)),
        );
      })
