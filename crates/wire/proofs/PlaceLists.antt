-- Places of a report: that they rise, as their reading finds it step by step, and as the type has it.
use Rattle.std.proofs.Common.{◌≡◌, ℕ, zero, suc, ◌+◌, ◌-◌, ◌*◌, ◌<◌, ◌≤◌, add-one, true, cond, ◌&&◌, ltb, leb, List, [], ◌∷◌, ◌++◌, length, get_or, Ok, Err, refl, sym, ap, subst, ◌∙◌, append_assoc, arith}
use Rattle.std.specs.List.{All}
use Rattle.std.proofs.lemmas.Bool.{leb-true, ltb-true, le-leb, lt-ltb}
use Rattle.std.proofs.lemmas.List.{append-nil}
use Rattle.std.proofs.lemmas.List.Concat.{flat_map-cons}
use Rattle.std.proofs.lemmas.List.Elements.{All-nil, All-cons, All-head, All-tail}
use Rattle.byteorder.specs.Endian.{big_bytes}
use Rattle.keyspace.specs.Places.{ArePlaces}
use Rattle.keys.proofs.callers.Booleans.{and_left, and_right, and_both}
use Rattle.wire.specs.declared.error.WireError.{WireError}
use Rattle.wire.specs.declared.error.WireError.TheVariants.{Marks}
use Rattle.wire.specs.Spelling.{places_text}
use Rattle.wire.specs.Reading.{◌>>=◌, Refuses, number_at, place_at, places_at}
use Rattle.wire.proofs.Loop.{Reading, with_front}
use Rattle.wire.proofs.Steps.{bind_ok, passed, ok_is}
use Rattle.wire.proofs.Taken.{AreBytes, Takes, Takes-then, back_2, number_takes}
use Rattle.wire.proofs.Again.{number_again}

-- each place is above the one before it, and the first isn't below the least
abbrev pub RiseFrom : ℕ → List ℕ → Type 0
RiseFrom least [] = Unit {0}
RiseFrom least (p ∷ ps) = (least ≤ p) × (p < 1024) × RiseFrom (p + 1) ps

rising : (least : ℕ) (ps : List ℕ) → RiseFrom least ps → (k : ℕ) → k + 1 < length ps
    → get_or ps k 0 < get_or ps (k + 1) 0
rising least [] h k lt = absurd (omega arith)
rising least (p ∷ []) h k lt = absurd (omega arith)
rising least (p ∷ q ∷ qs) h zero lt = let above : p + 1 ≤ q = h.2.0 in omega arith
rising least (p ∷ q ∷ qs) h (suc k) lt =
    let further : get_or (q ∷ qs) k 0 < get_or (q ∷ qs) (k + 1) 0 =
    rising (p + 1) (q ∷ qs) h.2 k (omega arith) in
    let moved : get_or (q ∷ qs) k 0 < get_or (q ∷ qs) (suc k) 0 = rw add-one at further in
    rw (add-one (suc k)) moved

low : (least : ℕ) (ps : List ℕ) → RiseFrom least ps → All (λ place. place < 1024) ps
low least [] h = All-nil (λ place. place < 1024)
low least (p ∷ ps) h = All-cons (λ place. place < 1024) p ps h.1 (low (p + 1) ps h.2)

pub are_places : (ps : List ℕ) → RiseFrom 0 ps → ArePlaces ps
are_places ps h = record { rising = rising 0 ps h; below = low 0 ps h }

rise_from : (least : ℕ) (ps : List ℕ) → ArePlaces ps → least ≤ get_or ps 0 least → RiseFrom least ps
rise_from least [] h le = tt
rise_from least (p ∷ []) h le = (le, All-head (λ place. place < 1024) p [] h.below, tt)
rise_from least (p ∷ q ∷ qs) h le =
    let above : p < q = h.rising 0 (omega arith) in
    let further : ArePlaces (q ∷ qs) = record {
      rising = λ k lt. let here : get_or (p ∷ q ∷ qs) (suc k) 0 < get_or (p ∷ q ∷ qs) (suc k + 1) 0 =
          h.rising (suc k) (omega arith) in
          let moved : get_or (q ∷ qs) k 0 < get_or (p ∷ q ∷ qs) (suc (suc k)) 0 =
          rw add-one at here in rw (add-one k) moved;
      below = All-tail (λ place. place < 1024) p (q ∷ qs) h.below;
    } in (
      le,
      All-head (λ place. place < 1024) p (q ∷ qs) h.below,
      rise_from (p + 1) (q ∷ qs) further (omega arith),
    )

pub rise : (ps : List ℕ) → ArePlaces ps → RiseFrom 0 ps
rise ps h = rise_from 0 ps h (omega arith)

-- there are no more places than numbers below 1,024
few_from : (least : ℕ) (ps : List ℕ) → least ≤ 1024 → RiseFrom least ps → length ps + least ≤ 1024
few_from least [] le h = omega arith
few_from least (p ∷ ps) le h = let further = few_from (p + 1) ps (omega (arith, h.1)) h.2 in omega (
  arith,
  h.0,
  further,
)

pub few_places : (ps : List ℕ) → ArePlaces ps → length ps ≤ 1024
few_places ps h = let few = few_from 0 ps (omega arith) (rise ps h) in omega arith

-- two bytes a place
pub places_length : (ps : List ℕ) → length (places_text ps) ≡ 2 * length ps
places_length [] = refl
places_length (p ∷ ps) = let further = places_length ps in omega (arith, further)

place_takes : (least : ℕ) (bytes : List ℕ) (x : ℕ × List ℕ) → AreBytes bytes → place_at least bytes ≡ Ok x
    → Takes bytes (big_bytes 2 x.0) x.1 × (least ≤ x.0) × (x.0 < 1024)
unfolding place_at
place_takes least bytes x fits e =
    let b = bind_ok (number_at 2 bytes) (λ n. cond (leb least n.0 && ltb n.0 1024) (Ok n) (Err Marks)) x e in
    let g = passed (leb least b.0.0 && ltb b.0.0 1024) Marks (Ok b.0) x b.2 in
    let t = number_takes 2 back_2 bytes b.0.0 b.0.1 fits b.1 in
    subst (λ (p : ℕ × List ℕ). Takes bytes (big_bytes 2 p.0) p.1 × (least ≤ p.0) × (p.0 < 1024))
    (ok_is b.0 x g.1)
    (t.0, leb-true _ _ (and_left _ _ g.0), ltb-true _ _ (and_right _ _ g.0))

pub places_take : (n least : ℕ) (bytes : List ℕ) (x : List ℕ × List ℕ) → AreBytes bytes
    → places_at least n bytes ≡ Ok x → Takes bytes (places_text x.0) x.1 × (length x.0 ≡ n)
    × RiseFrom least x.0
unfolding places_at
places_take zero least bytes x fits e =
    subst (λ (p : List ℕ × List ℕ). Takes bytes (places_text p.0) p.1 × (length p.0 ≡ 0) × RiseFrom least p.0)
    (ok_is ([], bytes) x e) (record { parts = refl; rest_fits = fits }, refl, tt)
places_take (suc n) least bytes x fits e =
    let a = bind_ok (place_at least bytes) (λ first. places_at (first.0 + 1) n first.1
    >>= λ others. Ok (first.0 ∷ others.0, others.1)) x e in
    let b = bind_ok (places_at (a.0.0 + 1) n a.0.1) (λ others. Ok (a.0.0 ∷ others.0, others.1)) x a.2 in
    let first = place_takes least bytes a.0 fits a.1 in
    let second = places_take n (a.0.0 + 1) a.0.1 b.0 first.0.rest_fits b.1 in
    let made : List ℕ × List ℕ = (a.0.0 ∷ b.0.0, b.0.1) in
    subst (λ (p : List ℕ × List ℕ). Takes bytes (places_text p.0) p.1 × (length p.0 ≡ suc n)
    × RiseFrom least p.0) (ok_is made x b.2)
    (rw flat_map-cons (Takes-then first.0 second.0), ap suc second.1, (first.1, first.2, second.2))

place_again : (least place : ℕ) (rest : List ℕ) → least ≤ place → place < 1024
    → place_at least (big_bytes 2 place ++ rest) ≡ Ok (place, rest)
unfolding place_at
place_again least place rest le lt =
    let test : (leb least place && ltb place 1024) ≡ true = and_both _ _ (le-leb _ _ le) (lt-ltb _ _ lt) in
    rw (number_again 2 place rest (omega arith), test) refl

pub places_again : (least : ℕ) (ps rest : List ℕ) → RiseFrom least ps
    → places_at least (length ps) (places_text ps ++ rest) ≡ Ok (ps, rest)
unfolding places_at
places_again least [] rest h = refl
places_again least (p ∷ ps) rest h =
    let regrouped : places_text (p ∷ ps) ++ rest ≡ big_bytes 2 p ++ (places_text ps ++ rest) =
    ap (λ (x : List ℕ). x ++ rest) (flat_map-cons (λ place. big_bytes 2 place) p ps)
    ∙ append_assoc (big_bytes 2 p) (places_text ps) rest in
    ap (places_at least (suc (length ps))) regrouped
    ∙ rw (place_again least p (places_text ps ++ rest) h.0 h.1, places_again (p + 1) ps rest h.2) refl

-- ---- as a loop reads them

regroup : (front : List ℕ) (p : ℕ) (read : Reading (List ℕ))
    → with_front front (read >>= λ x. Ok (p ∷ x.0, x.1)) ≡ with_front (front ++ p ∷ []) read
regroup front p (Ok x) = ap (λ (all : List ℕ). Ok (all, x.1)) (simp append_assoc)
regroup front p (Err e) = refl

pub continues : (least : ℕ) (front : List ℕ) (count i : ℕ) (bytes : List ℕ) (p : ℕ) (after : List ℕ)
    (total : Reading (List ℕ)) → i < count → place_at least bytes ≡ Ok (p, after)
    → with_front front (places_at least (count - i) bytes) ≡ total
    → with_front (front ++ p ∷ []) (places_at (p + 1) (count - (i + 1)) after) ≡ total
unfolding places_at
continues least front count i bytes p after total lt h so_far =
    let k : count - i ≡ suc (count - (i + 1)) = omega arith in
    let step : with_front front (places_at least (count - i) bytes) ≡ with_front (front ++ p ∷ [])
    (places_at (p + 1) (count - (i + 1)) after) =
    rw (k, h) (regroup front p (places_at (p + 1) (count - (i + 1)) after)) in
    sym step ∙ so_far

pub ends : (e : WireError) (least : ℕ) (front : List ℕ) (count i : ℕ) (bytes : List ℕ)
    (total : Reading (List ℕ)) → i < count → Refuses e (place_at least bytes)
    → with_front front (places_at least (count - i) bytes) ≡ total → Refuses e total
unfolding places_at
ends e least front count i bytes total lt refused so_far =
    let k : count - i ≡ suc (count - (i + 1)) = omega arith in (
      refused.0,
      refused.1,
      λ not_memory. let h = refused.2 not_memory in
          let step : with_front front (places_at least (count - i) bytes) ≡ Err e = rw (k, h) refl in
          sym so_far ∙ step,
    )

pub is_done : (least : ℕ) (front : List ℕ) (count i : ℕ) (bytes : List ℕ) (total : Reading (List ℕ))
    → count ≤ i → with_front front (places_at least (count - i) bytes) ≡ total → total ≡ Ok (front, bytes)
unfolding places_at
is_done least front count i bytes total le so_far =
    let k : count - i ≡ 0 = omega arith in
    let step : with_front front (places_at least (count - i) bytes) ≡ Ok (front, bytes) =
    rw k (ap (λ (all : List ℕ). Ok (all, bytes)) (append-nil front)) in
    sym so_far ∙ step

pub read_are_places : (count : ℕ) (bytes : List ℕ) (x : List ℕ × List ℕ) → AreBytes bytes
    → places_at 0 count bytes ≡ Ok x → ArePlaces x.0
read_are_places count bytes x fits e = are_places x.0 (places_take count 0 bytes x fits e).2
