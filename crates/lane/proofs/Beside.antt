-- What a token that both sends and takes finds.
use Rattle.std.proofs.Common.{◌≡◌, ℕ, zero, suc, ◌+◌, ◌<◌, ◌≤◌, Bool, true, false, List, [], ◌∷◌, length, drop}
use Rattle.std.proofs.Common.{sym, refl, ap, ◌∙◌, subst, length-append, arith}
use Rattle.std.specs.Prelude.{Some, slice_get}
use Rattle.std.proofs.lemmas.Option.{none-some, same_Some}
use Rattle.atomic_table.specs.Table.{Me}
use Rattle.std.specs.Prelude.{Option}
use Rattle.lane.specs.Lane.{LaneId, Lane}
use Rattle.lane.specs.Ring.{Agree}
use Rattle.lane.specs.Steps.{TailLooked, NextOf, intake_looked}
use Rattle.lane.specs.Taken.{next_of}
use Rattle.lane.specs.declared.intake.Taken.{Taken}
use Rattle.lane.specs.declared.intake.Taken.TheVariants.{Item, Empty, End}
use Rattle.lane.specs.declared.ring.PortKnows.{PortKnows}
use Rattle.lane.specs.declared.ring.IntakeKnows.{IntakeKnows}
use Rattle.lane.specs.declared.ring.Known.{Known}

module _ {T : Type 0} where
  from_item : (xs : List T) (k : ℕ) (x : T) → slice_get xs k ≡ Some x → drop k xs ≡ x ∷ drop (suc k) xs
  from_item [] k x e = absurd (none-some x e)
  from_item (y ∷ ys) zero x e = ap (λ z. z ∷ ys) (same_Some y x e)
  from_item (y ∷ ys) (suc k) x e = from_item ys k x e

  from_end : (xs : List T) (k : ℕ) → length xs ≤ k → drop k xs ≡ []
  from_end [] zero h = refl
  from_end [] (suc k) h = refl
  from_end (y ∷ ys) zero h = absurd (omega arith)
  from_end (y ∷ ys) (suc k) h = from_end ys k (omega arith)

  -- what the two ends know is *Lane* of what is seen of them
  pub as_lane : (one other : LaneId) (p : PortKnows T) (t : IntakeKnows T) (slots capacity there : ℕ)
      → Agree p t slots → slots ≡ capacity
      → Lane record {
        lane = one;
        capacity = capacity;
        sent = p.sent;
        closed = p.closed;
        seen_taken = p.seen_taken;
        looks = p.looks;
        log = p.log;
      } record {
        lane = other;
        capacity = there;
        taken = t.taken;
        seen_sent = t.seen_sent;
        seen_close = t.seen_close;
        looks = t.looks;
        log = t.log;
      }
  as_lane one other p t slots capacity there a same = record {
    in_order = a.in_order;
    bounded = omega (arith, a.bounded, same);
    seen_taken = a.seen_taken;
    seen_sent = a.seen_sent;
    seen_close = a.seen_close;
    taken_seen = a.taken_seen;
    all_seen = a.all_seen;
    one_log = a.one_log;
  }

  -- after its look and the item that it then takes
  abbrev Beside : ℕ → Known T → Known T → Taken T → Type 0
  Beside slots old new answer = Agree old.port new.intake slots × (new.port ≡ old.port)
      × (answer ≡ next_of (drop (length old.intake.taken) old.port.sent) old.port.closed)

  module _ (slots : ℕ) (old : Me (Option T) (Known T)) (sent : ℕ) (closed : Bool) (may : old.0.sends ≡ true)
      (seen : Me (Option T) (Known T)) (look : TailLooked slots old sent closed seen) where
    abbrev looked : Known T
    looked = record old.0 { intake = intake_looked old.0.intake sent closed seen.0.intake.log }

    seen_is : seen.0 ≡ looked
    seen_is = ap (λ (m : Me (Option T) (Known T)). m.0) look.looked

    may_still : seen.0.sends ≡ true
    may_still = ap (λ (v : Known T). v.sends) seen_is ∙ may

    agree_looked : Agree old.0.port seen.0.intake slots
    agree_looked = look.agree_after may

    same_port : seen.0.port ≡ old.0.port
    same_port = ap (λ (v : Known T). v.port) seen_is

    ends : (new : Known T) (end : Bool) → new ≡ seen.0 → length seen.0.intake.taken ≡ seen.0.intake.seen_sent
        → seen.0.intake.seen_close ≡ end → Beside slots old.0 new (next_of [] end)
    ends new end same all close =
        let taken_all : length old.0.intake.taken ≡ sent =
        sym (ap (λ (v : Known T). length v.intake.taken) seen_is) ∙ all
        ∙ ap (λ (v : Known T). v.intake.seen_sent) seen_is in
        let found : closed ≡ end = sym (ap (λ (v : Known T). v.intake.seen_close) seen_is) ∙ close in (
          subst (λ (v : Known T). Agree old.0.port v.intake slots) (sym same) agree_looked,
          ap (λ (v : Known T). v.port) same ∙ same_port,
          λ i. next_of
              (sym (from_end old.0.port.sent (length old.0.intake.taken)
              (omega (arith, taken_all, look.all_sent may))) i)
              ((sym found ∙ look.close may) i),
        )

    pub beside : (there : ℕ) → there ≡ slots → (new : Known T) (answer : Taken T) → NextOf there seen.0 new answer
        → Beside slots old.0 new answer
    beside there same new (Item x) next =
        let same_taken = ap (λ (v : Known T). v.intake.taken) seen_is in
        let at : slice_get old.0.port.sent (length old.0.intake.taken) ≡ Some x =
        (λ i. slice_get (sym same_port i).sent (length (sym same_taken i))) ∙ next.2 may_still in (
          subst (λ p. Agree p new.intake slots) same_port
              (subst (λ n. Agree seen.0.port new.intake n) same (next.3 may_still)),
          ap (λ (v : Known T). v.port) next.0 ∙ same_port,
          ap (λ xs. next_of xs old.0.port.closed)
              (sym (from_item old.0.port.sent (length old.0.intake.taken) x at)),
        )
    beside there same new Empty next = ends new false next.0 next.1 next.2
    beside there same new End next = ends new true next.0 next.1 next.2
