-- What the outlets have printed and passed on, from one step to the next.
use Rattle.std.specs.Prelude.{◌≡◌, ℕ, ◌<◌, ◌+◌, Bool, true, false, List, [], ◌∷◌, ◌++◌, length, map, set, Option, None, Some, option_to_list, slice_get, slice_index_or as get_or}
use Rattle.std.specs.List.{All, flat_map}
use Rattle.std.proofs.Common.{refl, sym, ap, subst, ◌∙◌, append_assoc, append-nil, arith, inl, inr}
use Rattle.std.proofs.lemmas.Bool.{false≢true, cases_eq, eq-eqb, ne_eqb}
use Rattle.std.proofs.lemmas.List.{get_or-set_same, get_or-set_other, length-set}
use Rattle.std.proofs.lemmas.List.Concat.{flat_map-append}
use Rattle.std.proofs.lemmas.List.Elements.{All-append, All-nil, All-cons}
use Rattle.std.proofs.lemmas.Option.{same_Some, slice_get-get_or, slice_get_within, get_or_from_slice_get}
use Rattle.keyspace.specs.declared.answer.Answer.{Answer}
use Rattle.lane.specs.Lane.{PortView}
use Rattle.replay_output.specs.declared.options.style.Style.{Style}
use Rattle.replay_output.specs.Lines.{line}
use Rattle.replay_output.specs.Streamed.{Printed, answer_for, printed_for, printed_line, stream_text}
use Rattle.replay_stream.specs.declared.outlet.Outlet.{Outlet}
use Rattle.replay_stream.specs.Outlet.{is_complete, PassesOn, OutletContinues, TookText, PassesSome, EachOutlet, StreamContinues, AreNumbered, HasPassedAll, StreamsOn}
use Rattle.replay_stream.specs.Sinks.{FailsIn, SinkState}
use Rattle.replay_workers.proofs.callers.SameLanes.{port_continues, intake_continues}
use Rattle.resolver.proofs.callers.Later.{intake_same, port_same}
use Rattle.replay_stream.proofs.Writing.{fails_then, takes_nothing, takes_then}

-- nothing was passed on
pub passes_none : (a : Option (PortView Answer)) (waits : Option Answer) → PassesOn a a waits waits []
passes_none None waits = tt
passes_none (Some a) waits = (port_same a, sym (append-nil (a.sent ++ option_to_list waits)))

pub passes_then : (a b c : Option (PortView Answer)) (u v w : Option Answer) (xs ys : List Answer)
    → PassesOn a b u v xs → PassesOn b c v w ys → PassesOn a c u w (xs ++ ys)
passes_then None None None u v w xs ys h k = tt
passes_then None None (Some c) u v w xs ys h k = absurd k
passes_then None (Some b) c u v w xs ys h k = absurd h
passes_then (Some a) None c u v w xs ys h k = absurd h
passes_then (Some a) (Some b) None u v w xs ys h k = absurd k
passes_then (Some a) (Some b) (Some c) u v w xs ys h k = (
  port_continues a b c h.0 k.0,
  k.1 ∙ ap (λ (l : List Answer). l ++ ys) h.1 ∙ append_assoc (a.sent ++ option_to_list u) xs ys,
)

-- with a failed writer no outlet is intact
pub broken : (lost : Bool) → is_complete lost true ≡ false
broken true = refl
broken false = refl

-- a writer that hasn't failed now hadn't failed before
pub entire_before : (lost had has : Bool) → (had ≡ true → has ≡ true) → is_complete lost has ≡ true → is_complete lost had ≡ true
entire_before true had has stays entire = absurd (false≢true entire)
entire_before false false has stays entire = refl
entire_before false true has stays entire =
    absurd (false≢true (sym (ap (is_complete false) (stays refl)) ∙ entire))

module _ (p1 d1 p2 d2 : List Answer) (a b c : Outlet) where
  entire_lists : d1 ≡ [] → (p1 ++ d1) ++ (p2 ++ d2) ≡ (p1 ++ p2) ++ d2
  entire_lists none = ap (λ (l : List Answer). (p1 ++ l) ++ (p2 ++ d2)) none ∙ ap (λ (l : List Answer). l ++ (p2 ++ d2)) (append-nil p1)
      ∙ sym (append_assoc p1 p2 d2)

  broken_lists : p2 ≡ [] → (p1 ++ d1) ++ (p2 ++ d2) ≡ (p1 ++ p2) ++ (d1 ++ d2)
  broken_lists none = ap (λ (l : List Answer). (p1 ++ d1) ++ (l ++ d2)) none ∙ append_assoc p1 d1 d2
      ∙ ap (λ (l : List Answer). l ++ (d1 ++ d2)) (sym (append-nil p1)) ∙ ap (λ (l : List Answer). (p1 ++ l) ++ (d1 ++ d2)) (sym none)

  joined : (was mid is : Bool) → OutletContinues p1 d1 was mid a b → OutletContinues p2 d2 mid is b c → (d : List Answer)
      → (p1 ++ d1) ++ (p2 ++ d2) ≡ (p1 ++ p2) ++ d → (is ≡ true → d ≡ []) → (was ≡ false → p1 ++ p2 ≡ [])
      → OutletContinues (p1 ++ p2) d was is a c
  joined was mid is h k d lists none_dropped none_printed = record {
    replies = intake_continues a.replies b.replies c.replies h.replies k.replies;
    proxy = k.proxy ∙ h.proxy;
    taken =
        k.taken ∙ ap (λ (l : List Answer). l ++ (p2 ++ d2)) h.taken ∙ append_assoc a.replies.taken (p1 ++ d1) (p2 ++ d2)
        ∙ ap (λ (l : List Answer). a.replies.taken ++ l) lists;
    passed =
        subst (PassesOn a.records c.records a.waiting c.waiting) lists
        (passes_then a.records b.records c.records a.waiting b.waiting c.waiting (p1 ++ d1) (p2 ++ d2) h.passed k.passed);
    none_dropped = none_dropped;
    none_printed = none_printed;
    stays = λ entire. h.stays (k.stays entire);
  }

  -- one step after another
  pub outlet_then : (was mid is : Bool) → OutletContinues p1 d1 was mid a b → OutletContinues p2 d2 mid is b c
      → (d : List Answer) × OutletContinues (p1 ++ p2) d was is a c
  outlet_then was true is h k = (
    d2,
    joined was true is h k d2 (entire_lists (h.none_dropped refl)) k.none_dropped
        (λ none. absurd (false≢true (sym none ∙ h.stays refl))),
  )
  outlet_then was false is h k = (
    d1 ++ d2,
    joined was false is h k (d1 ++ d2) (broken_lists (k.none_printed refl))
        (λ entire. absurd (false≢true (k.stays entire)))
        (λ none. ap (λ (l : List Answer). l ++ p2) (h.none_printed none) ∙ k.none_printed refl),
  )

-- nothing was taken from an outlet, while the writer may have failed
pub outlet_same : (had has : Bool) (l : Outlet) → (had ≡ true → has ≡ true)
    → OutletContinues [] [] (is_complete l.lost had) (is_complete l.lost has) l l
outlet_same had has l stays = record {
  replies = intake_same l.replies;
  proxy = refl;
  taken = sym (append-nil l.replies.taken);
  passed = passes_none l.records l.waiting;
  none_dropped = λ _. refl;
  none_printed = λ _. refl;
  stays = entire_before l.lost had has stays;
}

-- one text after another
pub took_then : (mid has : Bool) (a b c : SinkState) (first next : List ℕ) → TookText mid a b first
    → (mid ≡ false → TookText has b c next) → (mid ≡ true → (has ≡ true) × (c ≡ b)) → (mid ≡ true → next ≡ [])
    → TookText has a c (first ++ next)
took_then false false a b c first next h k nothing none = takes_then a b c first next h (k refl)
took_then false true a b c first next h k nothing none = fails_then a b c first next h (k refl)
took_then true has a b c first next h k nothing none =
    subst (λ (has : Bool). TookText has a c (first ++ next)) (sym (nothing refl).0)
    (subst (λ (c : SinkState). FailsIn a c (first ++ next)) (sym (nothing refl).1)
    (subst (FailsIn a b) (sym (ap (λ (l : List ℕ). first ++ l) (none refl) ∙ append-nil first)) h))

-- the answers of one outlet, as the stream has them
abbrev pub of_proxy : ℕ → Answer → Printed
of_proxy proxy answer = record { proxy = proxy; answer = answer }

pub text_of_proxy : (style : Style) (proxy : ℕ) (answers : List Answer)
    → stream_text style (map (of_proxy proxy) answers) ≡ flat_map (line style proxy) answers
text_of_proxy style proxy [] = refl
text_of_proxy style proxy (answer ∷ answers) = ap (λ (l : List ℕ). line style proxy answer ++ l) (text_of_proxy style proxy answers)

pub printed_here : (proxy : ℕ) (answers : List Answer) → printed_for proxy (map (of_proxy proxy) answers) ≡ answers
printed_here proxy [] = refl
printed_here proxy (answer ∷ answers) =
    rw (eq-eqb proxy proxy refl) (ap (λ (l : List Answer). answer ∷ l) (printed_here proxy answers))

pub printed_elsewhere : (proxy other : ℕ) (answers : List Answer) → (proxy ≡ other → ⊥)
    → printed_for other (map (of_proxy proxy) answers) ≡ []
printed_elsewhere proxy other [] apart = refl
printed_elsewhere proxy other (answer ∷ answers) apart =
    rw (ne_eqb proxy other apart) (printed_elsewhere proxy other answers apart)

pub known_here : (count proxy : ℕ) (answers : List Answer) → proxy < count
    → All (λ (p : Printed). p.proxy < count) (map (of_proxy proxy) answers)
known_here count proxy [] inside = All-nil (λ (p : Printed). p.proxy < count)
known_here count proxy (answer ∷ answers) inside =
    All-cons (λ (p : Printed). p.proxy < count) (of_proxy proxy answer) (map (of_proxy proxy) answers) inside
    (known_here count proxy answers inside)

-- the outlet at an index after one step at another
each_set : (P Q : ℕ → Outlet → Outlet → Type 0) (old now : List Outlet) (i : ℕ) (x d : Outlet) → i < length now
    → ((l : Outlet) → P i l (get_or now i d) → Q i l x) → ((q : ℕ) (l m : Outlet) → (i ≡ q → ⊥) → P q l m → Q q l m)
    → EachOutlet P old now → EachOutlet Q old (set now i x)
each_set P Q old now i x d inside here others e = record {
  count = length-set now i x ∙ e.count;
  each = λ q l n was is.
      let known = slice_get_within old q l was in
      let found : get_or (set now i x) q l ≡ n = get_or_from_slice_get (set now i x) q n l is in
      elim (cases_eq i q) [
        | inl at ↦
            let is_x : n ≡ x =
            sym found ∙ ap (λ (k : ℕ). get_or (set now i x) k l) (sym at) ∙ get_or-set_same now i x l inside in
            let y = get_or now i d in
            let was_y : slice_get now q ≡ Some y =
            ap (slice_get now) (sym at) ∙ slice_get-get_or now i d inside in
            let before : P q l y = e.each q l y was was_y in
            let after : Q i l x = here l (subst (λ (k : ℕ). P k l y) (sym at) before) in
            subst (λ (k : ℕ). Q k l n) at (subst (Q i l) (sym is_x) after)
        | inr apart ↦
            let same : get_or now q l ≡ n = sym (get_or-set_other now i q x l (λ is. apart (sym is))) ∙ found in
            let between : slice_get now q ≡ Some n =
            slice_get-get_or now q l (omega (arith, e.count, known)) ∙ ap Some same in
            others q l n apart (e.each q l n was between)
      ];
}

-- nothing has happened
pub stream_same : (style : Style) (failed : Bool) (given : SinkState) (outlets : List Outlet)
    → StreamContinues style failed failed given given outlets outlets
stream_same style failed given outlets = record {
  printed = [];
  known = All-nil (λ (p : Printed). p.proxy < length outlets);
  each = record {
    count = refl;
    each = λ q l m was is. (
      [],
      subst (λ (m : Outlet). OutletContinues [] [] (is_complete l.lost failed) (is_complete m.lost failed) l m)
          (same_Some l m (sym was ∙ is)) (outlet_same failed failed l (λ same. same)),
    );
  };
  text = λ entire. subst (λ (failed : Bool). TookText failed given given []) (sym entire) (takes_nothing given);
  nothing = λ failed. (refl, (failed, refl));
}

-- the outlet at an index has passed some answers on
module _ (style : Style) (start mid now : Bool) (first before after : SinkState) (old outlets : List Outlet) (i : ℕ)
    (x d : Outlet) (inside : i < length outlets) (numbered : (get_or outlets i d).proxy ≡ i)
    (so_far : StreamContinues style start mid first before old outlets)
    (step : PassesSome style mid now before after (get_or outlets i d) x) where
  abbrev more : List Printed
  more = map (of_proxy i) step.printed

  stays : mid ≡ true → now ≡ true
  stays failed = (step.nothing failed).0

  none_more : mid ≡ true → more ≡ []
  none_more failed = ap (map (of_proxy i)) (step.continues.none_printed (ap (is_complete (get_or outlets i d).lost) failed
      ∙ broken (get_or outlets i d).lost))

  split : (q : ℕ) → printed_for q (so_far.printed ++ more) ≡ printed_for q so_far.printed ++ printed_for q more
  split q = flat_map-append (answer_for q) so_far.printed more

  abbrev Before : ℕ → Outlet → Outlet → Type 0
  Before q l m = (dropped : List Answer)
      × OutletContinues (printed_for q so_far.printed) dropped (is_complete l.lost start) (is_complete m.lost mid) l m

  abbrev After : ℕ → Outlet → Outlet → Type 0
  After q l m = (dropped : List Answer)
      × OutletContinues (printed_for q (so_far.printed ++ more)) dropped (is_complete l.lost start) (is_complete m.lost now) l m

  after_from : (q : ℕ) (l m : Outlet) → ((dropped : List Answer)
      × OutletContinues (printed_for q so_far.printed ++ printed_for q more) dropped (is_complete l.lost start) (is_complete m.lost now) l m)
      → After q l m
  after_from q l m goes = (
    goes.0,
    subst (λ (printed : List Answer). OutletContinues printed goes.0 (is_complete l.lost start) (is_complete m.lost now) l m)
        (sym (split q)) goes.1,
  )

  here : (l : Outlet) → Before i l (get_or outlets i d) → After i l x
  here l was =
      after_from i l x (outlet_then (printed_for i so_far.printed) was.0 (printed_for i more) step.dropped l (get_or outlets i d) x
      (is_complete l.lost start) (is_complete (get_or outlets i d).lost mid) (is_complete x.lost now) was.1
      (subst (λ (printed : List Answer). OutletContinues printed step.dropped (is_complete (get_or outlets i d).lost mid) (is_complete x.lost now)
      (get_or outlets i d) x) (sym (printed_here i step.printed)) step.continues))

  others : (q : ℕ) (l m : Outlet) → (i ≡ q → ⊥) → Before q l m → After q l m
  others q l m apart was =
      after_from q l m (outlet_then (printed_for q so_far.printed) was.0 (printed_for q more) [] l m m
      (is_complete l.lost start) (is_complete m.lost mid) (is_complete m.lost now) was.1
      (subst (λ (printed : List Answer). OutletContinues printed [] (is_complete m.lost mid) (is_complete m.lost now) m m)
      (sym (printed_elsewhere i q step.printed apart)) (outlet_same mid now m stays)))

  text_more : stream_text style more ≡ flat_map (line style (get_or outlets i d).proxy) step.printed
  text_more = text_of_proxy style i step.printed ∙ ap (λ (proxy : ℕ). flat_map (line style proxy) step.printed) (sym numbered)

  pub stream_at : StreamContinues style start now first after old (set outlets i x)
  stream_at = record {
    printed = so_far.printed ++ more;
    known = All-append (λ (p : Printed). p.proxy < length old) so_far.printed more so_far.known
        (known_here (length old) i step.printed (omega (arith, inside, so_far.each.count)));
    each = each_set Before After old outlets i x d inside here others so_far.each;
    text = λ entire.
        subst (TookText now first after) (sym (flat_map-append (printed_line style) so_far.printed more))
        (took_then mid now first before after (stream_text style so_far.printed) (stream_text style more) (so_far.text entire)
        (λ well. subst (TookText now before after) (sym text_more) (step.text well)) step.nothing
        (λ failed. ap (stream_text style) (none_more failed)));
    nothing = λ failed.
        let was = so_far.nothing failed in
        let is = step.nothing was.1.0 in (
          ap (λ (l : List Printed). l ++ more) was.0 ∙ none_more was.1.0,
          (is.0, is.1 ∙ was.1.1),
        );
  }

-- one round after another
pub numbered_later : (style : Style) (start now : Bool) (first after : SinkState) (old outlets : List Outlet)
    → StreamContinues style start now first after old outlets → AreNumbered old → AreNumbered outlets
numbered_later style start now first after old outlets goes numbered q m at =
    let l = get_or old q m in
    let inside = slice_get_within outlets q m at in
    let was = slice_get-get_or old q m (omega (arith, inside, goes.each.count)) in
    (goes.each.each q l m was at).1.proxy ∙ numbered q l was

pub numbered_set : (outlets : List Outlet) (i : ℕ) (x d : Outlet) → i < length outlets → AreNumbered outlets
    → x.proxy ≡ (get_or outlets i d).proxy → AreNumbered (set outlets i x)
numbered_set outlets i x d inside numbered same q m at =
    let found : get_or (set outlets i x) q m ≡ m = get_or_from_slice_get (set outlets i x) q m m at in
    elim (cases_eq i q) [
      | inl here ↦
          let is_x : m ≡ x =
          sym found ∙ ap (λ (k : ℕ). get_or (set outlets i x) k m) (sym here) ∙ get_or-set_same outlets i x m inside in
          ap (λ (l : Outlet). l.proxy) is_x ∙ same ∙ numbered i (get_or outlets i d) (slice_get-get_or outlets i d inside)
          ∙ here
      | inr apart ↦
          let known = slice_get_within (set outlets i x) q m at in
          let is : get_or outlets q m ≡ m = sym (get_or-set_other outlets i q x m (λ is. apart (sym is))) ∙ found in
          numbered q m (slice_get-get_or outlets q m (omega (arith, known, length-set outlets i x)) ∙ ap Some is)
    ]

pub passed_set : (outlets : List Outlet) (i : ℕ) (x : Outlet) → i < length outlets
    → ((q : ℕ) (m : Outlet) → q < i → slice_get outlets q ≡ Some m → HasPassedAll m) → HasPassedAll x
    → (q : ℕ) (m : Outlet) → q < i + 1 → slice_get (set outlets i x) q ≡ Some m → HasPassedAll m
passed_set outlets i x inside before now q m below at =
    let found : get_or (set outlets i x) q m ≡ m = get_or_from_slice_get (set outlets i x) q m m at in
    elim (cases_eq i q) [
      | inl here ↦
          let is_x : m ≡ x =
          sym found ∙ ap (λ (k : ℕ). get_or (set outlets i x) k m) (sym here) ∙ get_or-set_same outlets i x m inside in
          subst HasPassedAll (sym is_x) now
      | inr apart ↦
          let known = slice_get_within (set outlets i x) q m at in
          let is : get_or outlets q m ≡ m = sym (get_or-set_other outlets i q x m (λ is. apart (sym is))) ∙ found in
          before q m (omega (arith, below, apart))
          (slice_get-get_or outlets q m (omega (arith, known, length-set outlets i x)) ∙ ap Some is)
    ]

-- a stream that continues by two steps
pub streams_then : (style later : Style) (first mid now : Bool) (a b c : SinkState) (old between new : List Outlet) → later ≡ style
    → StreamsOn style first mid a b old between → StreamsOn later mid now b c between new → StreamsOn style first now a c old new
streams_then style later first mid now a b c old between new same one two = λ failed given outlets was.
    subst (λ (style : Style). StreamContinues style failed now given c outlets new) same
    (two failed given outlets (subst (λ (style : Style). StreamContinues style failed mid given b outlets between) (sym same)
    (one failed given outlets was)))

pub streams_same : (style : Style) (failed : Bool) (given : SinkState) (outlets : List Outlet)
    → StreamsOn style failed failed given given outlets outlets
streams_same style failed given outlets = λ first before old was. was
