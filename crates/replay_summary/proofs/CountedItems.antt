-- The summary of the counted answers of items.
use Rattle.std.specs.Prelude.{◌≡◌, ℕ, ◌+◌, ◌<◌, Bool, List, [], ◌∷◌, ◌++◌, All, length, map, take, slice_index_or as get_or}
use Rattle.std.proofs.Common.{sym, ap, subst, ◌∙◌, arith}
use Rattle.std.proofs.lemmas.List.{take_more, map-append, take-map, get_or-map, length-map}
use Rattle.keyspace.specs.storage.InOrder.{Rise}
use Rattle.replay_summary.specs.declared.counted.Counted.{Counted}
use Rattle.replay_summary.specs.declared.summary.Summary.{Summary}
use Rattle.replay_summary.specs.Adding.{is_last, part, plus}
use Rattle.replay_summary.specs.Counted.{version_of}
use Rattle.replay_summary.specs.Summary.{Fits, summary_of}
use Rattle.replay_summary.proofs.Fitting.{fewer_fit}
use Rattle.replay_summary.proofs.Last.{NoneAbove}
use Rattle.replay_summary.proofs.Rising.{NoneAbove-map, none_above}
use Rattle.replay_summary.proofs.Summing.{summary_next}

module _ {X : Type 0} (reported : X → Counted) (xs : List X) (i : ℕ) where
  abbrev pub so_far : Summary
  so_far = summary_of (map reported (take i xs))

  -- the next item
  pub summary_reported : (x : X) → Rise (λ y. version_of (reported y)) xs → i < length xs → x ≡ get_or xs i x
      → summary_of (map reported (take (i + 1) xs))
      ≡ plus so_far (part (is_last (reported x).version so_far.versions) (reported x).version (reported x).outcome)
  summary_reported x rise inside is =
      let none = NoneAbove-map reported version_of (version_of (reported (get_or xs i x))) (take i xs)
      (none_above (λ y. version_of (reported y)) xs i x rise inside) in
      let c = reported x in
      let same : reported (get_or xs i x) ≡ c = ap reported (sym is) in
      ap (λ l. summary_of (map reported l)) (take_more xs i x inside)
      ∙ ap summary_of (map-append reported (take i xs) (get_or xs i x ∷ []))
      ∙ ap (λ (d : Counted). summary_of (map reported (take i xs) ++ d ∷ [])) same
      ∙ summary_next (map reported (take i xs)) c (subst (λ (d : Counted). NoneAbove version_of d.version (map reported (take i xs))) same none)

  -- if the summary of all items fits, so does that of the first ones
  pub fits_reported : Fits (summary_of (map reported xs)) → Fits so_far
  fits_reported fits =
      subst (λ (l : List Counted). Fits (summary_of l)) (take-map reported i xs) (fewer_fit (map reported xs) i fits)

-- the same for a summary, an answer and its part that were computed
pub next_reported : {X : Type 0} (reported : X → Counted) (xs : List X) (i : ℕ) (x : X) (c : Counted) (last : Bool) (added before : Summary)
    → Rise (λ y. version_of (reported y)) xs → i < length xs → x ≡ get_or xs i x → c ≡ reported x → before ≡ so_far reported xs i
    → last ≡ is_last c.version before.versions → added ≡ part last c.version c.outcome
    → plus before added ≡ summary_of (map reported (take (i + 1) xs))
next_reported reported xs i x c last added before rise inside is is_reported is_so_far is_last_of is_part =
    let seen : last ≡ is_last (reported x).version (so_far reported xs i).versions =
    is_last_of ∙ ap (λ (d : Counted). is_last d.version before.versions) is_reported
    ∙ ap (λ (s : Summary). is_last (reported x).version s.versions) is_so_far in
    let adds : added ≡ part (is_last (reported x).version (so_far reported xs i).versions) (reported x).version (reported x).outcome =
    is_part ∙ ap (λ (d : Counted). part last d.version d.outcome) is_reported
    ∙ ap (λ (b : Bool). part b (reported x).version (reported x).outcome) seen in
    ap (λ (s : Summary). plus s added) is_so_far ∙ ap (plus (so_far reported xs i)) adds ∙ sym (summary_reported reported xs i x rise inside is)

-- what holds of all, as they are seen, holds of one
pub holds_at : {W Y : Type 0} (view : W → Y) (P : Y → Type 0) (ws : List W) (i : ℕ) (w : W) → All P (map view ws) → i < length ws
    → w ≡ get_or ws i w → P (view w)
holds_at view P ws i w all inside is =
    subst P (get_or-map view ws i w (view w) inside ∙ ap view (sym is)) (all i (view w) (omega (arith, length-map ws view)))
