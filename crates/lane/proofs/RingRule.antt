-- Each step on a ring keeps the ring's rule.
use Rattle.std.proofs.Common.{◌≡◌, ◌≢◌, ℕ, ◌+◌, ◌%◌, ◌^◌, ◌<◌, ◌≤◌, true, false, true≢false}
use Rattle.std.proofs.Common.{zero, suc, List, [], ◌∷◌, ◌++◌, length, set, map, replicate, inl, inr, sym, refl, ap, ◌∙◌, subst, ⊎_elim}
use Rattle.std.proofs.Common.{append_assoc, length-append, length-set, get_or-set_same, get_or-set_other, lit≤, arith}
use mathlib.Core.Option.{some, none, some-injective, some-ne-none}
use mathlib.Core.Option as maybe
use lib.ListN.{get_elem?}
use lib.Seq.{set-get_or}
use Rattle.std.specs.Prelude.{Option, None, Some, slice_get, slice_index, slice_set}
use Rattle.std.proofs.lemmas.Bool.{cases_eq}
use Rattle.std.proofs.Math.Nat.{mod-lt, add-mod_right}
use Rattle.std.proofs.lemmas.Option.{none-some, slice_get_past, slice_get_within}
use Rattle.atomic_table.specs.Table.{State, Me, Allows, Splits, Joins, keeps, takes, gives, opening, put_back, rest}
use Rattle.atomic_table.proofs.Lists.{at_set, at_snoc, set_else, set_here}
use Rattle.lane.specs.declared.ring.PortKnows.{PortKnows}
use Rattle.lane.specs.declared.ring.IntakeKnows.{IntakeKnows}
use Rattle.lane.specs.declared.ring.Known.{Known}
use Rattle.lane.specs.declared.moves.Move.TheVariants.{Send, Take, PortLook, IntakeLook}
use Rattle.lane.specs.Moves.{ContinuesBy, is_send, is_take}
use Rattle.lane.specs.Ring.{tail_word, Agree, Stand, Fits, IsRing, at_first, idle, that_takes, that_sends, that_does_both}
use Rattle.lane.specs.Steps.{HeadLooked, Claimed, Sent, Closed, TailFound, Found, Took, port_looked, port_sent}
use Rattle.lane.specs.Steps.{intake_looked, intake_took}
use Rattle.lane.proofs.RingLists.{item_there, item_last, item_before, continues, one_slot}
use Rattle.lane.proofs.RingLog.{by_port, by_intake, continues_by, as_many_of}

-- a load leaves the words as they are
loaded : (words : List ℕ) (i : ℕ) → words ≡ slice_set words i (slice_index words i)
loaded words i = sym (set-get_or words i 0)

filled : {A : Type 0} (a : A) (n k : ℕ) → k < n → get_elem? (map some (replicate n a)) k ≡ some (some a)
filled a zero k h = absurd (omega arith)
filled a (suc n) zero h = refl
filled a (suc n) (suc k) h = filled a n k (omega arith)

as_many : {A : Type 0} (a : A) (n : ℕ) → length (map some (replicate n a)) ≡ n
as_many a zero = refl
as_many a (suc n) = ap suc (as_many a n)

module _ {T : Type 0} where
  abbrev Each : (ℕ → Known T → Type 0) → List (Known T) → Type 0
  Each F views = (token : ℕ) (v : Known T) → get_elem? views token ≡ some v → F token v

  -- after a change of what one token knows
  each_set : (F : ℕ → Known T → Type 0) (views : List (Known T)) (token : ℕ) (w : Known T) → F token w
      → ((j : ℕ) (u : Known T) → j ≢ token → get_elem? views j ≡ some u → F j u) → Each F (set views token w)
  each_set F views token w mine others j u at = ⊎_elim
      (λ (here : (j ≡ token) × (w ≡ u)).
      subst (λ (y : ℕ × Known T). F y.0 y.1) (λ i. (sym here.0 i, here.1 i)) mine)
      (λ (there : (j ≢ token) × (get_elem? views j ≡ some u)). others j u there.0 there.1)
      (at_set views token j w u at)

  only : (a b : Known T) (j : ℕ) → get_elem? (a ∷ []) j ≡ some b → (j ≡ 0) × (b ≡ a)
  only a b zero e = (refl, sym (some-injective a b e))
  only a b (suc j) e = absurd (some-ne-none b (sym e))

  pub begins : (capacity : ℕ) → 0 < capacity
      → IsRing {T = T} (opening (replicate 17 0) (replicate capacity None) at_first)
  begins capacity some_slot =
      let homes : List (maybe.Option (Option T)) = map some (replicate capacity None) in
      let width : length homes ≡ capacity = as_many None capacity in
      record {
        port = at_first.port;
        intake = at_first.intake;
        sender = 0;
        place = inl refl;
        each = λ j v at. let here = only at_first v j at in record {
          sends = λ _. (here.0, ap (λ (u : Known T). u.port) here.1);
          takes = λ _. (here.0, ap (λ (u : Known T). u.intake) here.1, ap (λ (u : Known T). u.others + 1) here.1);
        };
        stand = record {
          count = refl;
          head = refl;
          tail = refl;
          agree = record {
            in_order = ([], refl);
            bounded = omega arith;
            few = lit≤ tt;
            seen_taken = omega arith;
            seen_sent = omega arith;
            seen_close = λ yes. absurd (true≢false (sym yes));
            taken_seen = omega arith;
            all_seen = λ yes. refl;
            next = λ x e. absurd (none-some x e);
            one_log = record {
              log = [];
              of_port = ([], refl);
              of_intake = ([], refl);
              of_sends = (refl, refl);
              of_port_looks = (refl, refl);
              of_takes = (refl, refl);
              of_intake_looks = (refl, refl);
            };
          };
          slots = λ k low high not_next not_held.
              filled None capacity (k % length homes) (omega (arith, width, mod-lt k {m = length homes} (omega (arith, width, some_slot))));
        };
      }

  -- the token that sends moves, and words and slots with it
  port_moves : (s : State (Option T) (Known T)) (h : IsRing s) (token : ℕ) (v : Known T) (p : PortKnows T)
      (words : List ℕ) (homes : List (maybe.Option (Option T))) → get_elem? s.views token ≡ some v → v.sends ≡ true
      → Stand words homes p h.intake
      → IsRing record { words = words; homes = homes; views = set s.views token (record v { port = p }) }
  port_moves s h token v p words homes at sends stand =
      let mine = h.each token v at in
      let known = mine.sends sends in
      let w = record v { port = p } in
      let count : length (set s.views token w) ≡ length s.views = length-set s.views token w in
      let F = Fits p h.intake h.sender (length s.views) in
      let each : Each F (set s.views token w) = each_set F s.views token w
      (record { sends = λ _. (known.0, refl); takes = mine.takes })
      (λ j u other e. record {
        sends = λ yes. absurd (other (((h.each j u e).sends yes).0 ∙ sym known.0));
        takes = (h.each j u e).takes;
      }) in
      record {
        port = p;
        intake = h.intake;
        sender = h.sender;
        place = ⊎_elim (λ (first : h.sender ≡ 0). inl first)
            (λ (last : h.sender + 1 ≡ length s.views). inr (last ∙ sym count)) h.place;
        each = λ j u e. subst (λ n. Fits p h.intake h.sender n j u) (sym count) (each j u e);
        stand = stand;
      }

  -- the token that takes moves
  intake_moves : (s : State (Option T) (Known T)) (h : IsRing s) (token : ℕ) (v : Known T) (t : IntakeKnows T)
      (words : List ℕ) (homes : List (maybe.Option (Option T))) → get_elem? s.views token ≡ some v → v.takes ≡ true
      → Stand words homes h.port t
      → IsRing record { words = words; homes = homes; views = set s.views token (record v { intake = t }) }
  intake_moves s h token v t words homes at may stand =
      let mine = h.each token v at in
      let known = mine.takes may in
      let w = record v { intake = t } in
      let count : length (set s.views token w) ≡ length s.views = length-set s.views token w in
      let F = Fits h.port t h.sender (length s.views) in
      let each : Each F (set s.views token w) = each_set F s.views token w
      (record { sends = mine.sends; takes = λ _. (known.0, refl, known.2) })
      (λ j u other e. record {
        sends = (h.each j u e).sends;
        takes = λ yes. absurd (other (((h.each j u e).takes yes).0 ∙ sym known.0));
      }) in
      record {
        port = h.port;
        intake = t;
        sender = h.sender;
        place = ⊎_elim (λ (first : h.sender ≡ 0). inl first)
            (λ (last : h.sender + 1 ≡ length s.views). inr (last ∙ sym count)) h.place;
        each = λ j u e. subst (λ n. Fits h.port t h.sender n j u) (sym count) (each j u e);
        stand = stand;
      }

  pub looks_at_head : (slots id : ℕ) (me : Me (Option T) (Known T)) → me.0.sends ≡ true
      → Allows IsRing slots id me 0 (λ n. n) (HeadLooked slots me)
  looks_at_head slots id me sends s h count at bound =
      let known = (h.each id me.0 at).sends sends in
      let n = slice_index s.words 0 in
      let st = h.stand in
      let a = st.agree in
      let log = a.one_log.log ++ PortLook ∷ [] in
      let p = port_looked h.port n log in
      let no_send : length h.port.sent ≡ length h.port.sent + 0 = omega arith in
      let head : n ≡ length h.intake.taken = st.head in
      let agree : Agree p h.intake (length s.homes) = record {
        in_order = a.in_order;
        bounded = a.bounded;
        few = a.few;
        seen_taken = omega (arith, head);
        seen_sent = a.seen_sent;
        seen_close = a.seen_close;
        taken_seen = a.taken_seen;
        all_seen = a.all_seen;
        next = a.next;
        one_log = by_port _ _ _ _ _ _ a.one_log PortLook (length h.port.sent) (h.port.looks + 1) no_send refl refl refl;
      } in
      let stand : Stand s.words s.homes p h.intake =
      record { count = st.count; head = st.head; tail = st.tail; agree = agree; slots = st.slots } in (
        record me.0 { port = p },
        keeps,
        tt,
        subst (λ ws. IsRing record { words = ws; homes = s.homes; views = set s.views id (record me.0 { port = p }) })
            (loaded s.words 0) (port_moves s h id me.0 p s.words s.homes at sends stand),
        record {
          looked = ap (λ (q : PortKnows T). (record me.0 { port = port_looked q n log }, me.1)) (sym known.1);
          continues = subst (λ (q : PortKnows T). ContinuesBy PortLook q.log log) (sym known.1)
              (continues_by h.port.log a.one_log.log PortLook a.one_log.of_port);
          moves = head ∙ sym (as_many_of is_take a.one_log.log PortLook _ refl a.one_log.of_takes.1);
          rises = omega (arith, head, a.seen_taken, ap (λ (q : PortKnows T). q.seen_taken) known.1);
          taken_sent = omega (
            arith,
            head,
            a.taken_seen,
            a.seen_sent,
            ap (λ (q : PortKnows T). length q.sent) known.1,
          );
          bounded = omega (arith, head, count, a.bounded, ap (λ (q : PortKnows T). length q.sent) known.1);
          all = λ yes. head ∙ ap (λ (t : IntakeKnows T). length t.taken) (sym ((h.each id me.0 at).takes yes).1);
          agree = λ yes. subst (λ (q : IntakeKnows T). Agree p q slots) (sym ((h.each id me.0 at).takes yes).1)
              (subst (λ m. Agree p h.intake m) count agree);
        },
      )

  -- the intake holds no slot where all that was sent is taken
  none_held : (p : PortKnows T) (t : IntakeKnows T) (n : ℕ) → Agree p t n → length p.sent ≤ length t.taken
      → t.next ≡ None
  none_held p t n a all = go t.next refl
    where
      go : (o : Option T) → t.next ≡ o → t.next ≡ None
      go None e = e
      go (Some x) e =
          let within = slice_get_within p.sent (length t.taken) x (a.next x e) in absurd (omega arith)

  pub claims : (slots id : ℕ) (me : Me (Option T) (Known T)) → me.0.sends ≡ true → me.0.port.holds ≡ false
      → length me.0.port.sent < me.0.port.seen_taken + slots
      → Allows IsRing slots id me 16 (λ n. n) (λ _ new. Claimed slots me new)
  claims slots id me sends holds room s h count at bound =
      let known = (h.each id me.0 at).sends sends in
      let st = h.stand in
      let a = st.agree in
      let sent = length h.port.sent in
      let taken = length h.intake.taken in
      let n = length s.homes in
      let p = record h.port { holds = true } in
      let started : taken ≤ sent = omega (arith, a.taken_seen, a.seen_sent) in
      let near : sent < taken + n = omega (
        arith,
        room,
        count,
        a.seen_taken,
        ap (λ (q : PortKnows T). length q.sent) known.1,
        ap (λ (q : PortKnows T). q.seen_taken) known.1,
      ) in
      let free : h.port.holds ≡ false = ap (λ (q : PortKnows T). q.holds) (sym known.1) ∙ holds in
      let here : get_elem? s.homes (sent % n) ≡ some (some (slice_get h.port.sent sent)) =
      st.slots sent started near (λ e. none_held h.port h.intake n a (omega (arith, e))) (λ _. free) in
      let empty : get_elem? s.homes (sent % n) ≡ some (some None) =
      here ∙ ap (λ (o : Option T). some (some o)) (slice_get_past h.port.sent sent (omega arith)) in
      let homes = slice_set s.homes (sent % n) none in
      let wide : length homes ≡ n = length-set s.homes (sent % n) none in
      let agree : Agree p h.intake n = record {
        in_order = a.in_order;
        bounded = a.bounded;
        few = a.few;
        seen_taken = a.seen_taken;
        seen_sent = a.seen_sent;
        seen_close = a.seen_close;
        taken_seen = a.taken_seen;
        all_seen = a.all_seen;
        next = a.next;
        one_log = a.one_log;
      } in
      let stand : Stand s.words homes p h.intake = record {
        count = st.count;
        head = st.head;
        tail = st.tail;
        agree = subst (λ m. Agree p h.intake m) (sym wide) agree;
        slots = subst (λ m. (k : ℕ) → taken ≤ k → k < taken + m → (k ≡ taken → h.intake.next ≡ None)
            → (k ≡ sent → true ≡ false) → get_elem? homes (k % m) ≡ some (some (slice_get h.port.sent k))) (sym wide)
            (λ k low high not_next not_mine.
            set_else s.homes (sent % n) (k % n) none
            (λ same. true≢false (not_mine (one_slot taken k sent n low high started near same)))
            ∙ st.slots k low high not_next (λ e. absurd (true≢false (not_mine e))));
      } in (
        record me.0 { port = p },
        takes (sent % n) None,
        empty,
        subst (λ ws. IsRing record { words = ws; homes = homes; views = set s.views id (record me.0 { port = p }) })
            (loaded s.words 16) (port_moves s h id me.0 p s.words homes at sends stand),
        record {
          knows = ap (λ (q : PortKnows T). record me.0 { port = record q { holds = true } }) (sym known.1);
          holds = record { held = λ i. (sent % count i, None) ∷ me.1 };
          others = refl;
        },
      )

  pub sends : (slots id : ℕ) (me : Me (Option T) (Known T)) (x : T) (new : ℕ) → me.0.sends ≡ true
      → me.0.port.closed ≡ false → length me.0.port.sent < 2 ^ 62
      → length me.0.port.sent < me.0.port.seen_taken + slots
      → me.1 ≡ (length me.0.port.sent % slots, Some x) ∷ rest me.1 → new ≡ length me.0.port.sent + 1
      → Allows IsRing slots id me 16 (λ _. new) (λ _ after. Sent slots me after)
  sends slots id me x new may unclosed few room held word s h count at bound =
      let known = (h.each id me.0 at).sends may in
      let st = h.stand in
      let a = st.agree in
      let sent = length h.port.sent in
      let taken = length h.intake.taken in
      let n = length s.homes in
      let log = a.one_log.log ++ Send ∷ [] in
      let p = port_sent h.port x log in
      let t = h.intake in
      let no_look : h.port.looks ≡ h.port.looks + 0 = omega arith in
      let same_sent = ap (λ (q : PortKnows T). length q.sent) known.1 in
      let started : taken ≤ sent = omega (arith, a.taken_seen, a.seen_sent) in
      let near : sent < taken + n =
      omega (arith, room, count, a.seen_taken, same_sent, ap (λ (q : PortKnows T). q.seen_taken) known.1) in
      let more : length p.sent ≡ sent + 1 = length-append h.port.sent (x ∷ []) in
      let open_still : h.port.closed ≡ false = ap (λ (q : PortKnows T). q.closed) (sym known.1) ∙ unclosed in
      let unseen : t.seen_close ≡ true → ⊥ =
      λ (yes : t.seen_close ≡ true). true≢false (sym (a.seen_close yes) ∙ open_still) in
      let homes = slice_set s.homes (sent % n) (some (Some x)) in
      let wide : length homes ≡ n = length-set s.homes (sent % n) (some (Some x)) in
      let agree : Agree p t n = record {
        in_order = (
          a.in_order.0 ++ x ∷ [],
          ap (λ l. l ++ x ∷ []) a.in_order.1
              ∙ append_assoc h.intake.taken a.in_order.0 (x ∷ []),
        );
        bounded = omega (arith, more, near);
        few = omega (arith, more, few, same_sent);
        seen_taken = a.seen_taken;
        seen_sent = omega (arith, more, a.seen_sent);
        seen_close = a.seen_close;
        taken_seen = a.taken_seen;
        all_seen = λ yes. absurd (unseen yes);
        next = λ y e. let is = a.next y e in
            item_before h.port.sent x taken
            (λ all. let within = slice_get_within h.port.sent taken y is in omega (arith, all, within)) ∙ is;
        one_log = by_port _ _ _ _ _ _ a.one_log Send (length p.sent) h.port.looks more no_look refl refl;
      } in
      let words = slice_set s.words 16 new in
      let tail : new ≡ tail_word (length p.sent) h.port.closed =
      omega (arith, word, more, same_sent) ∙ ap (tail_word (length p.sent)) (sym open_still) in
      let slots_of : (k : ℕ) → taken ≤ k → k < taken + n → (k ≡ taken → t.next ≡ None)
      → (k ≡ length p.sent → false ≡ false) → get_elem? homes (k % n) ≡ some (some (slice_get p.sent k)) =
      λ k low high not_next not_mine. ⊎_elim
      (λ (mine : k ≡ sent). subst (λ j. get_elem? homes (j % n) ≡ some (some (slice_get p.sent j))) (sym mine)
      (set_here s.homes (sent % n) (some (Some x)) (mod-lt sent (omega arith))
      ∙ ap (λ (o : Option T). some (some o)) (sym (item_last h.port.sent x))))
      (λ (other : k ≢ sent).
      set_else s.homes (sent % n) (k % n) (some (Some x))
      (λ same. other (one_slot taken k sent n low high started near same))
      ∙ st.slots k low high not_next (λ e. absurd (other e))
      ∙ ap (λ (o : Option T). some (some o)) (sym (item_before h.port.sent x k other)))
      (cases_eq k sent) in
      let stand : Stand words homes p t = record {
        count = length-set s.words 16 new ∙ st.count;
        head = get_or-set_other s.words 16 0 new 0 (λ e. omega (arith, e)) ∙ st.head;
        tail = get_or-set_same s.words 16 new 0 (omega (arith, st.count)) ∙ tail;
        agree = subst (λ m. Agree p t m) (sym wide) agree;
        slots = subst (λ m. (k : ℕ) → taken ≤ k → k < taken + m → (k ≡ taken → t.next ≡ None)
            → (k ≡ length p.sent → false ≡ false) → get_elem? homes (k % m) ≡ some (some (slice_get p.sent k)))
            (sym wide) slots_of;
      } in
      let place : length me.0.port.sent % slots ≡ sent % n =
      λ i. length ((known.1 i).sent) % (sym count) i in
      let back : put_back s.homes me.1 ≡ homes =
      ap (put_back s.homes) held ∙ ap (λ j. slice_set s.homes j (some (Some x))) place in (
        record me.0 { port = p },
        gives,
        tt,
        subst (λ hs. IsRing record { words = words; homes = hs; views = set s.views id (record me.0 { port = p }) })
            (sym back) (port_moves s h id me.0 p words homes at may stand),
        record {
          holds = record { item = x; held = held };
          sent = ap (λ (q : PortKnows T). (record me.0 { port = port_sent q x log }, rest me.1)) (sym known.1);
          continues = subst (λ (q : PortKnows T). ContinuesBy Send q.log log) (sym known.1)
              (continues_by h.port.log a.one_log.log Send a.one_log.of_port);
        },
      )

  pub closes : (slots id : ℕ) (me : Me (Option T) (Known T)) (new : ℕ) → me.0.sends ≡ true
      → new ≡ length me.0.port.sent + 2 ^ 63
      → Allows IsRing slots id me 16 (λ _. new) (λ _ after. Closed me after)
  closes slots id me new may word s h count at bound =
      let known = (h.each id me.0 at).sends may in
      let st = h.stand in
      let a = st.agree in
      let p = record h.port { closed = true } in
      let words = slice_set s.words 16 new in
      let agree : Agree p h.intake (length s.homes) = record {
        in_order = a.in_order;
        bounded = a.bounded;
        few = a.few;
        seen_taken = a.seen_taken;
        seen_sent = a.seen_sent;
        seen_close = λ _. refl;
        taken_seen = a.taken_seen;
        all_seen = a.all_seen;
        next = a.next;
        one_log = a.one_log;
      } in
      let stand : Stand words s.homes p h.intake = record {
        count = length-set s.words 16 new ∙ st.count;
        head = get_or-set_other s.words 16 0 new 0 (λ e. omega (arith, e)) ∙ st.head;
        tail = get_or-set_same s.words 16 new 0 (omega (arith, st.count)) ∙ word
            ∙ ap (λ (q : PortKnows T). length q.sent + 2 ^ 63) known.1;
        agree = agree;
        slots = st.slots;
      } in (
        record me.0 { port = p },
        keeps,
        tt,
        port_moves s h id me.0 p words s.homes at may stand,
        record {
          closed = ap (λ (q : PortKnows T). (record me.0 { port = record q { closed = true } }, me.1)) (sym known.1);
        },
      )

  pub looks_at_tail : (slots id : ℕ) (me : Me (Option T) (Known T)) → me.0.takes ≡ true
      → Allows IsRing slots id me 16 (λ n. n) (TailFound slots me)
  looks_at_tail slots id me may s h count at bound =
      let mine = h.each id me.0 at in
      let known = mine.takes may in
      let st = h.stand in
      let a = st.agree in
      let sent = length h.port.sent in
      let log = a.one_log.log ++ IntakeLook ∷ [] in
      let t = intake_looked h.intake sent h.port.closed log in
      let no_take : length h.intake.taken ≡ length h.intake.taken + 0 = omega arith in
      let same_taken = ap (λ (q : IntakeKnows T). length q.taken) known.1 in
      let agree : Agree h.port t (length s.homes) = record {
        in_order = a.in_order;
        bounded = a.bounded;
        few = a.few;
        seen_taken = a.seen_taken;
        seen_sent = omega arith;
        seen_close = λ yes. yes;
        taken_seen = omega (arith, a.taken_seen, a.seen_sent);
        all_seen = λ _. refl;
        next = a.next;
        one_log = by_intake _ _ _ _ _ _ a.one_log IntakeLook (length h.intake.taken) (h.intake.looks + 1) no_take refl refl
            refl;
      } in
      let stand : Stand s.words s.homes h.port t =
      record { count = st.count; head = st.head; tail = st.tail; agree = agree; slots = st.slots } in (
        record me.0 { intake = t },
        keeps,
        tt,
        subst (λ ws. IsRing record { words = ws; homes = s.homes; views = set s.views id (record me.0 { intake = t }) })
            (loaded s.words 16) (intake_moves s h id me.0 t s.words s.homes at may stand),
        record {
          sent = sent;
          closed = h.port.closed;
          word = st.tail;
          looked = record {
            few = a.few;
            looked = ap (λ (q : IntakeKnows T). (record me.0 { intake = intake_looked q sent h.port.closed log }, me.1))
                (sym known.1);
            continues = subst (λ (q : IntakeKnows T). ContinuesBy IntakeLook q.log log) (sym known.1)
                (continues_by h.intake.log a.one_log.log IntakeLook a.one_log.of_intake);
            moves = sym (as_many_of is_send a.one_log.log IntakeLook _ refl a.one_log.of_sends.1);
            rises = omega (arith, a.seen_sent, ap (λ (q : IntakeKnows T). q.seen_sent) known.1);
            stays = λ yes. a.seen_close (ap (λ (q : IntakeKnows T). q.seen_close) (sym known.1) ∙ yes);
            taken_sent = omega (arith, a.taken_seen, a.seen_sent, same_taken);
            all_sent = λ yes. ap (λ (q : PortKnows T). length q.sent) (sym (mine.sends yes).1);
            close = λ yes. ap (λ (q : PortKnows T). q.closed) (sym (mine.sends yes).1);
            agree = λ yes. subst (λ (q : PortKnows T). Agree q me.0.intake slots) (sym (mine.sends yes).1)
                (subst (λ (q : IntakeKnows T). Agree h.port q slots) (sym known.1)
                (subst (λ m. Agree h.port h.intake m) count a));
            agree_after = λ yes. subst (λ (q : PortKnows T). Agree q t slots) (sym (mine.sends yes).1)
                (subst (λ m. Agree h.port t m) count agree);
          };
        },
      )

  pub finds : (slots id : ℕ) (me : Me (Option T) (Known T)) → me.0.takes ≡ true → me.0.intake.next ≡ None
      → length me.0.intake.taken < me.0.intake.seen_sent
      → Allows IsRing slots id me 0 (λ n. n) (λ _ new. Found slots me new)
  finds slots id me may idle seen s h count at bound =
      let mine = h.each id me.0 at in
      let known = mine.takes may in
      let st = h.stand in
      let a = st.agree in
      let p = h.port in
      let taken = length h.intake.taken in
      let n = length s.homes in
      let same_taken = ap (λ (q : IntakeKnows T). length q.taken) known.1 in
      let some_sent : taken < length p.sent =
      omega (arith, seen, a.seen_sent, same_taken, ap (λ (q : IntakeKnows T). q.seen_sent) known.1) in
      let it = item_there p.sent taken some_sent in
      let t = record h.intake { next = Some it.0 } in
      let was : h.intake.next ≡ None = ap (λ (q : IntakeKnows T). q.next) (sym known.1) ∙ idle in
      let wide_enough : taken < taken + n = omega (arith, some_sent, a.bounded) in
      let full : get_elem? s.homes (taken % n) ≡ some (some (Some it.0)) =
      st.slots taken (omega arith) wide_enough (λ _. was) (λ e. absurd (omega (arith, e, some_sent)))
      ∙ ap (λ (o : Option T). some (some o)) it.1 in
      let homes = slice_set s.homes (taken % n) none in
      let wide : length homes ≡ n = length-set s.homes (taken % n) none in
      let agree : Agree p t n = record {
        in_order = a.in_order;
        bounded = a.bounded;
        few = a.few;
        seen_taken = a.seen_taken;
        seen_sent = a.seen_sent;
        seen_close = a.seen_close;
        taken_seen = a.taken_seen;
        all_seen = a.all_seen;
        next = λ y e. it.1 ∙ e;
        one_log = a.one_log;
      } in
      let stand : Stand s.words homes p t = record {
        count = st.count;
        head = st.head;
        tail = st.tail;
        agree = subst (λ m. Agree p t m) (sym wide) agree;
        slots = subst (λ m. (k : ℕ) → taken ≤ k → k < taken + m → (k ≡ taken → Some it.0 ≡ None)
            → (k ≡ length p.sent → p.holds ≡ false) → get_elem? homes (k % m) ≡ some (some (slice_get p.sent k)))
            (sym wide)
            (λ k low high not_mine not_held.
            set_else s.homes (taken % n) (k % n) none
            (λ same. none-some it.0 (sym (not_mine (one_slot taken k taken n low high (omega arith) wide_enough same))))
            ∙ st.slots k low high (λ _. was) not_held);
      } in (
        record me.0 { intake = t },
        takes (taken % n) (Some it.0),
        full,
        subst (λ ws. IsRing record { words = ws; homes = homes; views = set s.views id (record me.0 { intake = t }) })
            (loaded s.words 0) (intake_moves s h id me.0 t s.words homes at may stand),
        record {
          holds = record { item = it.0; next = refl; held = λ i. (taken % count i, Some it.0) ∷ me.1 };
          knows = ap (λ (q : IntakeKnows T). record me.0 { intake = record q { next = Some it.0 } }) (sym known.1);
          others = refl;
          sent = λ yes. (λ i. slice_get ((mine.sends yes).1 i).sent (length ((known.1 i).taken))) ∙ it.1;
        },
      )

  pub takes_it : (slots id : ℕ) (me : Me (Option T) (Known T)) (x : T) (new : ℕ) → me.0.takes ≡ true
      → me.0.intake.next ≡ Some x → length me.0.intake.taken < me.0.intake.seen_sent
      → me.1 ≡ (length me.0.intake.taken % slots, None) ∷ rest me.1 → new ≡ length me.0.intake.taken + 1
      → Allows IsRing slots id me 0 (λ _. new) (λ _ after. Took slots me after)
  takes_it slots id me x new may next seen held word s h count at bound =
      let mine = h.each id me.0 at in
      let known = mine.takes may in
      let st = h.stand in
      let a = st.agree in
      let p = h.port in
      let taken = length h.intake.taken in
      let n = length s.homes in
      let log = a.one_log.log ++ Take ∷ [] in
      let t = intake_took h.intake x log in
      let no_look : h.intake.looks ≡ h.intake.looks + 0 = omega arith in
      let same_taken = ap (λ (q : IntakeKnows T). length q.taken) known.1 in
      let here : slice_get p.sent taken ≡ Some x =
      a.next x (ap (λ (q : IntakeKnows T). q.next) (sym known.1) ∙ next) in
      let within : taken < length p.sent = slice_get_within p.sent taken x here in
      let more : length t.taken ≡ taken + 1 = length-append h.intake.taken (x ∷ []) in
      let homes = slice_set s.homes (taken % n) (some None) in
      let wide : length homes ≡ n = length-set s.homes (taken % n) (some None) in
      let agree : Agree p t n = record {
        in_order = continues h.intake.taken p.sent x a.in_order here;
        bounded = omega (arith, more, a.bounded);
        few = a.few;
        seen_taken = omega (arith, more, a.seen_taken);
        seen_sent = a.seen_sent;
        seen_close = a.seen_close;
        taken_seen = omega (arith, more, seen, same_taken, ap (λ (q : IntakeKnows T). q.seen_sent) known.1);
        all_seen = a.all_seen;
        next = λ y e. absurd (none-some y e);
        one_log = by_intake _ _ _ _ _ _ a.one_log Take (length t.taken) h.intake.looks more no_look refl refl;
      } in
      let words = slice_set s.words 0 new in
      let slots_of : (k : ℕ) → length t.taken ≤ k → k < length t.taken + n → (k ≡ length t.taken → t.next ≡ None)
      → (k ≡ length p.sent → p.holds ≡ false) → get_elem? homes (k % n) ≡ some (some (slice_get p.sent k)) =
      λ k low high _ not_held. ⊎_elim
      (λ (round : k ≡ taken + n).
      subst (λ j. get_elem? homes j ≡ some (some (slice_get p.sent k)))
      (sym (ap (λ j. j % n) round ∙ add-mod_right taken n))
      (set_here s.homes (taken % n) (some None) (mod-lt taken (omega (arith, within, a.bounded)))
      ∙ ap (λ (o : Option T). some (some o))
      (sym (slice_get_past p.sent k (omega (arith, round, a.bounded))))))
      (λ (other : k ≢ taken + n).
      let near : k < taken + n = omega (arith, high, more, other) in
      let not_first : k ≢ taken = λ e. omega (arith, e, low, more) in
      set_else s.homes (taken % n) (k % n) (some None)
      (λ same. not_first
      (one_slot taken k taken n (omega (arith, low, more)) near (omega arith) (omega (arith, near, low, more)) same))
      ∙ st.slots k (omega (arith, low, more)) near (λ e. absurd (not_first e)) not_held)
      (cases_eq k (taken + n)) in
      let stand : Stand words homes p t = record {
        count = length-set s.words 0 new ∙ st.count;
        head = get_or-set_same s.words 0 new 0 (omega (arith, st.count)) ∙ omega (arith, word, more, same_taken);
        tail = get_or-set_other s.words 0 16 new 0 (λ e. omega (arith, e)) ∙ st.tail;
        agree = subst (λ m. Agree p t m) (sym wide) agree;
        slots = subst (λ m. (k : ℕ) → length t.taken ≤ k → k < length t.taken + m
            → (k ≡ length t.taken → t.next ≡ None) → (k ≡ length p.sent → p.holds ≡ false)
            → get_elem? homes (k % m) ≡ some (some (slice_get p.sent k))) (sym wide) slots_of;
      } in
      let place : length me.0.intake.taken % slots ≡ taken % n =
      λ i. length ((known.1 i).taken) % (sym count) i in
      let back : put_back s.homes me.1 ≡ homes =
      ap (put_back s.homes) held ∙ ap (λ j. slice_set s.homes j (some None)) place in (
        record me.0 { intake = t },
        gives,
        tt,
        subst (λ hs. IsRing record { words = words; homes = hs; views = set s.views id (record me.0 { intake = t }) })
            (sym back) (intake_moves s h id me.0 t words homes at may stand),
        record {
          holds = record { item = x; next = next; held = held };
          took = ap (λ (q : IntakeKnows T). (record me.0 { intake = intake_took q x log }, rest me.1)) (sym known.1);
          continues = subst (λ (q : IntakeKnows T). ContinuesBy Take q.log log) (sym known.1)
              (continues_by h.intake.log a.one_log.log Take a.one_log.of_intake);
          agree = λ yes. subst (λ (q : PortKnows T). Agree q t slots) (sym (mine.sends yes).1)
              (subst (λ m. Agree p t m) count agree);
        },
      )

  -- an index that shows b once a further view stands at the end, and not before, is the last
  at_end : (l : List (Known T)) (a b : Known T) (j : ℕ) → get_elem? l j ≢ some b
      → get_elem? (l ++ a ∷ []) j ≡ some b → j ≡ length l
  at_end [] a b zero n e = refl
  at_end [] a b (suc j) n e = absurd (some-ne-none b (sym e))
  at_end (x ∷ xs) a b zero n e = absurd (n e)
  at_end (x ∷ xs) a b (suc j) n e = ap suc (at_end xs a b j n e)

  pub parts : (id : ℕ) (v : Known T) → v.sends ≡ true → v.takes ≡ true
      → Splits IsRing id v (that_takes v) (that_sends v)
  parts id v may_send may_take s h at =
      let mine = h.each id v at in
      let sends = mine.sends may_send in
      let takes = mine.takes may_take in
      let left = that_takes v in
      let right = that_sends v in
      let vs = set s.views id left in
      let width : length vs ≡ length s.views = length-set s.views id left in
      let count : length (vs ++ right ∷ []) ≡ length s.views + 1 =
      length-append vs (right ∷ []) ∙ ap (λ n. n + 1) width in
      let Old : ℕ → Known T → Type 0 =
      λ j u. (u.sends ≢ true) × (u.takes ≡ true → (j ≡ 0) × (u.intake ≡ h.intake) × (u.others ≡ length s.views)) in
      let old : Each Old vs = each_set Old s.views id left (
        λ yes. true≢false (sym yes),
        λ _. (takes.0, takes.1, takes.2),
      )
      (λ j u other e. (
        λ yes. other (((h.each j u e).sends yes).0 ∙ sym sends.0),
        λ yes. absurd (other (((h.each j u e).takes yes).0 ∙ sym takes.0)),
      )) in
      record {
        port = h.port;
        intake = h.intake;
        sender = length vs;
        place = inr (sym (length-append vs (right ∷ [])));
        each = λ j u e. ⊎_elim
            (λ (was : get_elem? vs j ≡ some u). record {
              sends = λ yes. absurd ((old j u was).0 yes);
              takes = λ yes. let k = (old j u was).1 yes in (k.0, k.1, ap (λ n. n + 1) k.2 ∙ sym count);
            })
            (λ (is : right ≡ u). record {
              sends = λ yes. (
                at_end vs right u j (λ was. (old j u was).0 yes) e,
                ap (λ (y : Known T). y.port) (sym is) ∙ sends.1,
              );
              takes = λ yes. absurd (true≢false (sym (ap (λ (y : Known T). y.takes) is ∙ yes)));
            })
            (at_snoc vs right u j e);
        stand = h.stand;
      }

  pub joins : (id : ℕ) (v : Known T) (other : ℕ) (w : Known T) → v.takes ≡ true → w.sends ≡ true
      → Joins IsRing id v other w (that_does_both v w) idle
  joins id v other w may_take may_send s h at two at' =
      let both = that_does_both v w in
      let takes = (h.each id v at).takes may_take in
      let vs = set s.views id both in
      let was : get_elem? s.views other ≡ some w = ⊎_elim
      (λ (x : (other ≡ id) × (both ≡ w)). absurd (two x.0))
      (λ (x : (other ≢ id) × (get_elem? s.views other ≡ some w)). x.1)
      (at_set s.views id other both w at') in
      let sends = (h.each other w was).sends may_send in
      let ws = set vs other idle in
      let count : length ws ≡ length s.views = length-set vs other idle ∙ length-set s.views id both in
      let F = Fits h.port h.intake 0 (length s.views) in
      let Now : ℕ → Known T → Type 0 = λ j y. j ≢ other → F j y in
      let now : Each Now vs = each_set Now s.views id both
      (λ _. record { sends = λ _. (takes.0, sends.1); takes = λ _. takes })
      (λ j y _ e apart. record {
        sends = λ yes. absurd (apart (((h.each j y e).sends yes).0 ∙ sym sends.0));
        takes = (h.each j y e).takes;
      }) in
      let each : Each F ws = each_set F vs other idle
      (record {
        sends = λ yes. absurd (true≢false (sym yes));
        takes = λ yes. absurd (true≢false (sym yes));
      })
      (λ j y apart e. now j y e apart) in
      record {
        port = h.port;
        intake = h.intake;
        sender = 0;
        place = inl refl;
        each = λ j u e. subst (λ n. Fits h.port h.intake 0 n j u) (sym count) (each j u e);
        stand = h.stand;
      }
