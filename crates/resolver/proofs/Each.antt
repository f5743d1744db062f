-- What holds of each pair of lanes before and after a loop over the pairs of lanes by index.
use Rattle.std.proofs.Common.{◌≡◌, ◌≢◌, ℕ, ◌<◌, inl, inr, List, set, length, get_or, Some, sym, ap, ◌∙◌, subst, arith}
use Rattle.std.specs.Prelude.{slice_get}
use Rattle.std.proofs.lemmas.Bool.{cases_eq}
use Rattle.std.proofs.lemmas.List.{get_or-set_same, get_or-set_other, length-set}
use Rattle.std.proofs.lemmas.Option.{
  slice_get-get_or,
  slice_get_within,
  get_or_from_slice_get,
}
use Rattle.resolver.specs.Parts.{ProxyLanesView, EachProxy}

-- a fact of a pair of lanes by its index, before and after
abbrev pub PerProxy : Type 1
PerProxy = ℕ → ProxyLanesView → ProxyLanesView → Type 0

-- one fact gives another
pub EachProxy-also : (P Q : PerProxy) {old now : List ProxyLanesView}
    → ((q : ℕ) (l m : ProxyLanesView) → q < length old → P q l m → Q q l m) → EachProxy P old now → EachProxy Q old now
EachProxy-also P Q {old} {now} then e = record {
  count = e.count;
  each = λ q l m was is. then q l m (slice_get_within old q l was) (e.each q l m was is);
}

-- one change after another
pub EachProxy-then : (P Q R : PerProxy) {old mid now : List ProxyLanesView}
    → ((q : ℕ) (l m n : ProxyLanesView) → q < length old → P q l m → Q q m n → R q l n) → EachProxy P old mid
    → EachProxy Q mid now → EachProxy R old now
EachProxy-then P Q R {old} {mid} {now} then e f = record {
  count = f.count ∙ e.count;
  each = λ q l n was is.
      let inside = slice_get_within old q l was in
      let m = get_or mid q l in
      let between = slice_get-get_or mid q l (omega (arith, e.count)) in
      then q l m n inside (e.each q l m was between) (f.each q m n between is);
}

-- a pair of lanes is written at its index
pub EachProxy-set : (P Q : PerProxy) {old now : List ProxyLanesView} (i : ℕ) (x d : ProxyLanesView) → i < length now
    → ((l : ProxyLanesView) → P i l (get_or now i d) → Q i l x)
    → ((q : ℕ) (l m : ProxyLanesView) → q ≢ i → P q l m → Q q l m) → EachProxy P old now → EachProxy Q old (set now i x)
EachProxy-set P Q {old} {now} i x d inside here others e = record {
  count = length-set now i x ∙ e.count;
  each = λ q l n was is.
      let known = slice_get_within old q l was in
      let found : get_or (set now i x) q l ≡ n = get_or_from_slice_get (set now i x) q n l is in
      elim (cases_eq q i) [
        | inl at ↦
            let is_x : n ≡ x =
            sym found ∙ ap (λ k. get_or (set now i x) k l) at ∙ get_or-set_same now i x l inside in
            let y = get_or now i d in
            let was_y : slice_get now q ≡ Some y =
            ap (slice_get now) at ∙ slice_get-get_or now i d inside in
            let before : P q l y = e.each q l y was was_y in
            let after : Q i l x = here l (subst (λ k. P k l y) at before) in
            subst (λ k. Q k l n) (sym at) (subst (Q i l) (sym is_x) after)
        | inr apart ↦
            let same : get_or now q l ≡ n = sym (get_or-set_other now i q x l apart) ∙ found in
            let between : slice_get now q ≡ Some n =
            slice_get-get_or now q l (omega (arith, e.count)) ∙ ap Some same in
            others q l n apart (e.each q l n was between)
      ];
}
