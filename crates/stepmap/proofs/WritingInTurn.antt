-- Ranges that were made ready are written one after the other.
use Rattle.std.proofs.Common.{◌≡◌, ℕ, zero, suc, ◌+◌, List, [], ◌∷◌, ◌++◌, length, map, take, drop, refl, sym, ◌∙◌, ap, subst, arith, append-nil, append_assoc, add-one}
use Rattle.std.specs.Prelude.{ℤ, ◌≤ℤ◌, Some, slice_get}
use Rattle.std.proofs.lemmas.List.{take_all}
use Rattle.std.proofs.lemmas.Option.{slice_get_within}
use Rattle.keys.specs.Range.{IsEmpty}
use Rattle.keys.specs.Key.{IsBefore}
use Rattle.keys.proofs.callers.KeyOrder.{not_before_itself}
use Rattle.keys.proofs.callers.Booleans.{not_both_ways}
use Rattle.keyspace.specs.Writes.{Write, at_version}
use Rattle.keys.specs.declared.range.Range.{Range}
use Rattle.stepmap.specs.Boundary.{AreUpTo}
use Rattle.stepmap.specs.StepMap.{Steps, AreSteps, lengths}
use Rattle.stepmap.specs.Writing.{AreApart, after_write}
use Rattle.stepmap.specs.Covers.{MapCovers}
use Rattle.stepmap.specs.Rooted.{Ends, Rooted}
use Rattle.stepmap.specs.Uniting.{Unites}
use Rattle.stepmap.specs.Laws.{IsWriting, MayBeNext, IsWritten, ApartWriteInTurn}
use Rattle.stepmap.proofs.Changes.{write_keeps}
use Rattle.stepmap.proofs.UnitedWrites.{uniting_determines}

-- what is left from an element on, and what comes before the next
at_next : (rs : List Range) (k : ℕ) (r : Range) → slice_get rs k ≡ Some r → drop k rs ≡ r ∷ drop (suc k) rs
at_next [] k r e = cc
at_next (x ∷ xs) zero r e = let is : x ≡ r = cc in ap (λ y. y ∷ xs) is
at_next (x ∷ xs) (suc k) r e = at_next xs k r e

up_to_next : (rs : List Range) (k : ℕ) (r : Range) → slice_get rs k ≡ Some r
    → take (suc k) rs ≡ take k rs ++ r ∷ []
up_to_next [] k r e = cc
up_to_next (x ∷ xs) zero r e = let is : x ≡ r = cc in ap (λ y. y ∷ []) is
up_to_next (x ∷ xs) (suc k) r e = ap (λ ys. x ∷ ys) (up_to_next xs k r e)

map_join : (version : ℤ) (rs qs : List Range)
    → at_version version (rs ++ qs) ≡ at_version version rs ++ at_version version qs
map_join version [] qs = refl
map_join version (r ∷ rs) qs =
    ap (λ ws. record { range = r; version = version } ∷ ws) (map_join version rs qs)

apart_rest : (r : Range) (rs : List Range) → AreApart (r ∷ rs) → AreApart rs
apart_rest r [] a = tt
apart_rest r (s ∷ rs) a = a.2

apart_first : (r : Range) (rs : List Range) → AreApart (r ∷ rs) → IsBefore r.begin r.end
apart_first r [] a = a
apart_first r (s ∷ rs) a = a.0

apart_begins : (rs : List Range) (k : ℕ) (r : Range) → AreApart rs → slice_get rs k ≡ Some r
    → IsBefore r.begin r.end
apart_begins [] k r a e = cc
apart_begins (x ∷ xs) zero r a e = let is : x ≡ r = cc in
    subst (λ (y : Range). IsBefore y.begin y.end) is (apart_first x xs a)
apart_begins (x ∷ xs) (suc k) r a e = apart_begins xs k r (apart_rest x xs a) e

filled_if : (r : Range) → IsBefore r.begin r.end → ¬ IsEmpty r
filled_if r l e = not_both_ways _ (subst (λ k. IsBefore r.begin k) (sym e) l) (not_before_itself r.begin)

module _ (united : List Range) (version : ℤ) (apart : AreApart united) where
  -- the writes so far, with this one
  writes_next : (done : ℕ) (range : Range) → slice_get united done ≡ Some range → (ws : List Write)
      → (ws ++ at_version version (take done united)) ++ record {
        range = range;
        version =
            version;
      } ∷ [] ≡ ws ++ at_version version (take (done + 1) united)
  writes_next done range is ws =
      let so_far = at_version version (take done united) in
      let w : Write = record { range = range; version = version } in
      append_assoc ws so_far (w ∷ [])
      ∙ ap (λ vs. ws ++ vs) (sym (map_join version (take done united) (range ∷ [])))
      ∙ ap (λ rs. ws ++ at_version version rs) (sym (up_to_next united done range is))
      ∙ ap (λ n. ws ++ at_version version (take n united)) (sym (add-one done))

  none_yet : (ws : List Write) → ws ≡ ws ++ at_version version (take 0 united)
  none_yet ws = sym (append-nil ws)

  starts : (m : Steps) → AreSteps m → m.ready ≡ map lengths united → AreUpTo version m.boundaries
      → m.edge ≤ℤ version → IsWriting united version 0 m m
  starts m h ready newest late = record {
    steps = h;
    ready = ready;
    newest = newest;
    late = late;
    edge = refl;
    limit = refl;
    round = refl;
    covers = λ ws covers. subst (MapCovers m) (none_yet ws) covers;
    rooted = λ ws r. subst (Rooted m) (none_yet ws) r;
    ends = λ ws edge le ends. subst (λ vs. Ends m.boundaries vs edge) (none_yet ws) ends;
    left = omega arith;
    count = omega arith;
  }

  ready_next : (done : ℕ) (range : Range) (before now : Steps) → IsWriting united version done before now
      → slice_get united done ≡ Some range → now.ready ≡ lengths range ∷ map lengths (drop (suc done) united)
  ready_next done range before now w is = w.ready ∙ ap (map lengths) (at_next united done range is)

  next_one : (done : ℕ) (range : Range) (before now : Steps) → IsWriting united version done before now
      → slice_get united done ≡ Some range → MayBeNext range version now
  next_one done range before now w is = record {
    filled = filled_if range (apart_begins united done range apart is);
    ready = ap (λ rs. slice_get rs 0) (ready_next done range before now w is);
    newest = w.newest;
    late = w.late;
  }

  one_more : (done : ℕ) (range : Range) (before now after : Steps) → IsWriting united version done before now
      → slice_get united done ≡ Some range → after ≡ after_write range version now
      → IsWriting united version (done + 1) before after
  one_more done range before now after w is e =
      let next = next_one done range before now w is in
      let some = slice_get_within now.ready 0 (lengths range) next.ready in
      let k = write_keeps range next.filled version now w.steps w.newest w.late some after e in
      let edge : after.edge ≡ now.edge = ap (λ (m : Steps). m.edge) e in
      record {
        steps = k.steps;
        ready = ap (λ (m : Steps). m.ready) e ∙ ap (drop 1) (ready_next done range before now w is)
            ∙ ap (λ n. map lengths (drop n united)) (sym (add-one done));
        newest = k.newest;
        late = subst (λ (x : ℤ). x ≤ℤ version) (sym edge) w.late;
        edge = edge ∙ w.edge;
        limit = ap (λ (m : Steps). m.limit) e ∙ w.limit;
        round = ap (λ (m : Steps). m.round) e ∙ w.round;
        covers = λ ws covers. subst (MapCovers after) (writes_next done range is ws)
            (k.covers (ws ++ at_version version (take done united)) (w.covers ws covers));
        rooted = λ ws r. subst (Rooted after) (writes_next done range is ws)
            (k.rooted (ws ++ at_version version (take done united)) (w.rooted ws r));
        ends = λ ws edge le ends. subst (λ vs. Ends after.boundaries vs edge) (writes_next done range is ws)
            (k.ends (ws ++ at_version version (take done united)) edge le (w.ends ws edge le ends));
        left = omega (arith, k.rest_grows, w.left);
        count = omega (arith, k.count, w.count);
      }

  all_writes : (ws : List Write)
      → ws ++ at_version version (take (length united) united) ≡ ws ++ at_version version united
  all_writes ws = ap (λ rs. ws ++ at_version version rs) (take_all (length united) united (omega arith))

  all_written : (ranges : List Range) (before now : Steps)
      → IsWriting united version (length united) before now → Unites united ranges
      → IsWritten ranges version before now
  all_written ranges before now w u =
      let determine = uniting_determines united ranges u in
      record {
        covers = λ ws covers. determine.covers now ws version
            (subst (MapCovers now) (all_writes ws) (w.covers ws covers));
        rooted = λ ws r. determine.rooted now ws version (subst (Rooted now) (all_writes ws) (w.rooted ws r));
        ends = λ ws edge le ends. determine.ends now.boundaries ws version edge
            (subst (λ vs. Ends now.boundaries vs edge) (all_writes ws) (w.ends ws edge le ends));
      }

pub apart_write_in_turn : ApartWriteInTurn
apart_write_in_turn united version apart = record {
  start = starts united version apart;
  next = next_one united version apart;
  step = one_more united version apart;
  entire = all_written united version apart;
}
