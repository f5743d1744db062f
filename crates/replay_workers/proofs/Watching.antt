-- A place of a look is written anew. Is the look still the one that it was?
use Rattle.std.specs.Prelude.{◌≡◌, ◌↔◌, ◌⊎◌, ℕ, ◌<◌, Bool, true, false, List, length, IsTrue, Some, slice_get}
use Rattle.std.proofs.Common.{set, sym, ◌∙◌, ap, inl, inr, arith, length-set, get_or-set_same}
use Rattle.std.proofs.lemmas.Bool.{false≢true}
use Rattle.std.proofs.lemmas.List.{set-get_or}
use Rattle.std.proofs.lemmas.Option.{get_or_from_slice_get, slice_get-get_or}
use Rattle.replay_workers.specs.declared.shares.reported_state.ReportedState.{ReportedState}

module _ {X : Type 0} where
  written : (now : List X) (place : ℕ) (x : X) → place < length now → slice_get (set now place x) place ≡ Some x
  written now place x inside =
      slice_get-get_or (set now place x) place x (omega (arith, length-set now place x))
      ∙ ap (λ (y : X). Some y) (get_or-set_same now place x x inside)

  -- what stands there is written once more
  written_again : (now : List X) (place : ℕ) (x : X) → slice_get now place ≡ Some x → set now place x ≡ now
  written_again now place x at =
      ap (λ (y : X). set now place y) (sym (get_or_from_slice_get now place x x at)) ∙ set-get_or now place x

  -- the list is what it was, so this stood there before
  stood : (was now : List X) (place : ℕ) (x : X) → place < length now → slice_get now place ≡ slice_get was place
      → set now place x ≡ was → slice_get now place ≡ Some x
  stood was now place x inside untouched same =
      untouched ∙ ap (λ (l : List X). slice_get l place) (sym same) ∙ written now place x inside

-- Whether the look is as it was (`after`), if one place was as before until now, by whether the rest is (`before`) and
-- what is written stood there already (`kept`).
pub same_after : (was_reported old_reported new_reported : List ReportedState) (was_sent old_sent new_sent : List ℕ) (place : ℕ) (t : ReportedState)
    (s : ℕ) (before kept after : Bool) → place < length old_reported → place < length old_sent
    → slice_get old_reported place ≡ slice_get was_reported place → slice_get old_sent place ≡ slice_get was_sent place
    → new_reported ≡ set old_reported place t → new_sent ≡ set old_sent place s
    → IsTrue before ↔ ((old_reported ≡ was_reported) × (old_sent ≡ was_sent))
    → IsTrue kept ↔ ((slice_get old_reported place ≡ Some t) × (slice_get old_sent place ≡ Some s))
    → ((kept ≡ false) × (after ≡ false)) ⊎ ((kept ≡ true) × (after ≡ before))
    → IsTrue after ↔ ((new_reported ≡ was_reported) × (new_sent ≡ was_sent))
same_after was_reported old_reported new_reported was_sent old_sent new_sent place t s before kept after in_reported in_sent reported_was sent_was
    reported_is sent_is same keeps (inl other) = (
      λ is. absurd (false≢true (sym other.1 ∙ is)),
      λ both. absurd (false≢true (sym other.0 ∙ keeps.1 (
        stood was_reported old_reported place t in_reported reported_was (sym reported_is ∙ both.0),
        stood was_sent old_sent place s in_sent sent_was (sym sent_is ∙ both.1),
      ))),
    )
same_after was_reported old_reported new_reported was_sent old_sent new_sent place t s before kept after in_reported in_sent reported_was sent_was
    reported_is sent_is same keeps (inr still) =
    let at = keeps.0 still.0 in
    let reported_stays : new_reported ≡ old_reported = reported_is ∙ written_again old_reported place t at.0 in
    let sent_stays : new_sent ≡ old_sent = sent_is ∙ written_again old_sent place s at.1 in (
      λ is. let rest = same.0 (sym still.1 ∙ is) in (reported_stays ∙ rest.0, sent_stays ∙ rest.1),
      λ both. still.1 ∙ same.1 (sym reported_stays ∙ both.0, sym sent_stays ∙ both.1),
    )
